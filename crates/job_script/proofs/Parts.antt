-- The end of the first operand of a field.
use Rattle.std.proofs.Common.{◌≡◌, ℕ, suc, ◌+◌, ◌<◌, List, [], ◌∷◌, length, take, drop, get_or, arith, refl, sym, ap, ◌∙◌, add-one, true, false, cond}
use Rattle.std.specs.Prelude.{◌==◌, ◌||◌}
use Rattle.std.proofs.Math.Seq.{drop-cons}
use Rattle.std.specs.List.{onto_first}
use Rattle.mvs_model.specs.Reading.{parts_within}
use Rattle.std.proofs.lemmas.Bool.Decides.{nat_tests}
use Rattle.mvs_model.proofs.ReadingTaken.{and_true, nat_same}
use Rattle.job_script.specs.Parted.{field_in, splits_at, ends_at, opened_after, end_from}

pub end_more : (text : List ℕ) (i d : ℕ) → i < length text → ends_at d (get_or text i 0) ≡ false → (i + 1) + end_from (opened_after d (get_or text i 0)) (drop (i + 1) text) ≡ i + end_from d (drop i text)
end_more text i d h e = rw (drop-cons text i 0 h, e, add-one i) (omega arith)

pub end_here : (text : List ℕ) (i d : ℕ) → i < length text → ends_at d (get_or text i 0) ≡ true → i + end_from d (drop i text) ≡ i
end_here text i d h e = rw (drop-cons text i 0 h, e) (omega arith)

-- no byte is a blank and a comma
blank_no_comma : (b : ℕ) → (b == 32) ≡ true → (b == 44) ≡ true → ⊥
blank_no_comma b e f =
    let blank : b ≡ 32 = nat_same b 32 e in
    let comma : b ≡ 44 = nat_same b 44 f in
    omega arith

pub is_comma : (b : ℕ) → b ≡ 44 → (b == 44) ≡ true
is_comma b e = grind (arith, nat_tests)

pub no_comma : (b : ℕ) → (b ≡ 44 → ⊥) → (b == 44) ≡ false
no_comma b e = grind (arith, nat_tests)

comma_splits : (b d : ℕ) → splits_at d b ≡ true → (b == 44) ≡ true
comma_splits b d e = (and_true (b == 44) (d == 0) e).0

-- the first operand of a field that ends at a comma, and one that does not
pub parts_end : (text : List ℕ) (d : ℕ) → end_from d text < length text → (get_or text (end_from d text) 0 == 44) ≡ true
    → parts_within d (field_in text) ≡ take (end_from d text) text ∷ parts_within 0 (field_in (drop (suc (end_from d text)) text))
parts_end [] d h comma = absurd (omega arith)
parts_end (b ∷ bs) d h comma =
    let E = end_from (opened_after d b) bs in
    (elim (b == 32) as (λ t. (b == 32) ≡ t → cond (t || splits_at d b) 0 (suc E) < suc (length bs) → (get_or (b ∷ bs) (cond (t || splits_at d b) 0 (suc E)) 0 == 44) ≡ true
    → parts_within d (cond t [] (b ∷ field_in bs)) ≡ take (cond (t || splits_at d b) 0 (suc E)) (b ∷ bs) ∷ parts_within 0 (field_in (drop (suc (cond (t || splits_at d b) 0 (suc E))) (b ∷ bs)))) [
      | true ↦ λ blank h comma. absurd (blank_no_comma b blank comma)
      | false ↦ λ _ h comma.
          (elim (splits_at d b) as (λ u. cond u 0 (suc E) < suc (length bs) → (get_or (b ∷ bs) (cond u 0 (suc E)) 0 == 44) ≡ true
          → cond u ([] ∷ parts_within 0 (field_in bs)) (onto_first b (parts_within (opened_after d b) (field_in bs))) ≡ take (cond u 0 (suc E)) (b ∷ bs) ∷ parts_within 0 (field_in (drop (suc (cond u 0 (suc E))) (b ∷ bs)))) [
            | true ↦ λ h comma. refl
            | false ↦ λ h comma. ap (onto_first b) (parts_end bs (opened_after d b) (omega arith) comma)
          ]) h comma
    ]) refl h comma

pub parts_all : (text : List ℕ) (d : ℕ) → (end_from d text < length text → (get_or text (end_from d text) 0 == 44) ≡ false) → parts_within d (field_in text) ≡ take (end_from d text) text ∷ []
parts_all [] d other = refl
parts_all (b ∷ bs) d other =
    let E = end_from (opened_after d b) bs in
    (elim (b == 32) as (λ t. (cond (t || splits_at d b) 0 (suc E) < suc (length bs) → (get_or (b ∷ bs) (cond (t || splits_at d b) 0 (suc E)) 0 == 44) ≡ false)
    → parts_within d (cond t [] (b ∷ field_in bs)) ≡ take (cond (t || splits_at d b) 0 (suc E)) (b ∷ bs) ∷ []) [
      | true ↦ λ other. refl
      | false ↦ λ other.
          (elim (splits_at d b) as (λ u. splits_at d b ≡ u → (cond u 0 (suc E) < suc (length bs) → (get_or (b ∷ bs) (cond u 0 (suc E)) 0 == 44) ≡ false)
          → cond u ([] ∷ parts_within 0 (field_in bs)) (onto_first b (parts_within (opened_after d b) (field_in bs))) ≡ take (cond u 0 (suc E)) (b ∷ bs) ∷ []) [
            | true ↦ λ is other. absurd (let f : true ≡ false = sym (comma_splits b d is) ∙ other (omega arith) in cc)
            | false ↦ λ _ other. ap (onto_first b) (parts_all bs (opened_after d b) (λ h. other (omega arith)))
          ]) refl other
    ]) other
