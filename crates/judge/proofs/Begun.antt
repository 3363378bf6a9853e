-- A text that goes on with one of some beginnings.
use Rattle.std.proofs.Common.{◌≡◌, ℕ, ◌⊎◌, inl, inr, Bool, true, List, [], ◌∷◌, ◌++◌, append_assoc, append-nil, arith, length, ◌-◌, ◌+◌, take, codes, refl, sym, ap, ◌∙◌}
use Rattle.std.specs.Prelude.{◌||◌, IfOk, Result, Ok, Err}
use Rattle.std.proofs.Common.{length-append}
use Rattle.std.proofs.Math.Seq.{take-append_seam}
use Rattle.mvs_model.specs.declared.name.Name.{Name}
use Rattle.mvs_model.specs.declared.code.Code.{Code}
use Rattle.mvs_model.specs.Answers.{Abended}
use Rattle.mvs_model.specs.Texts.{answer_text, code_text, reply_line}
use Rattle.judge.specs.Deciding.{BeginsBy}
use Rattle.judge.specs.Excluding.{IsBegun}
use Rattle.judge.specs.Outline.{BeginsOneOf, abend_opening, head}
use Rattle.judge.proofs.Answering.{or_cases, or_front, or_true}
use Rattle.judge.proofs.Opening.{line_head}

module _ (number : ℕ) (t : Name) (text : List ℕ) where
  -- whether the text goes on with one of them
  abbrev pub Front : List ℕ → Bool → Type 0
  Front f b = BeginsBy text (head number t ++ f) b

  pub one_begun : (f : List ℕ) (b : Bool) → Front f b → IsBegun number t (f ∷ []) text b
  one_begun f b x = ((λ e. let y = x.0 e in (f ++ y.0, y.1 ∙ append_assoc (head number t) f y.0, inl (y.0, refl))), no_more) where
    no_more : (rest : List ℕ) → text ≡ head number t ++ rest → ((more : List ℕ) × (rest ≡ f ++ more)) ⊎ ⊥ → b ≡ true
    no_more rest is (inl y) = x.1 y.0 (is ∙ ap (λ r. head number t ++ r) y.1 ∙ sym (append_assoc (head number t) f y.0))
    no_more rest is (inr y) = absurd y

  pub more_begun : (f : List ℕ) (fs : List (List ℕ)) (a b : Bool) → Front f a → IsBegun number t fs text b → IsBegun number t (f ∷ fs) text (a || b)
  more_begun f fs a b x y = (yes, some) where
    yes : (a || b) ≡ true → (rest : List ℕ) × (text ≡ head number t ++ rest) × (((more : List ℕ) × (rest ≡ f ++ more)) ⊎ BeginsOneOf fs rest)
    yes e = elim (or_cases a b e) [
      | inl z ↦ let y = x.0 z in (f ++ y.0, y.1 ∙ append_assoc (head number t) f y.0, inl (y.0, refl))
      | inr z ↦ let r = y.0 z in (r.0, r.1, inr r.2)
    ]

    some : (rest : List ℕ) → text ≡ head number t ++ rest → ((more : List ℕ) × (rest ≡ f ++ more)) ⊎ BeginsOneOf fs rest → (a || b) ≡ true
    some rest is (inl z) = or_front a b (x.1 z.0 (is ∙ ap (λ r. head number t ++ r) z.1 ∙ sym (append_assoc (head number t) f z.0)))
    some rest is (inr z) = or_true a b (y.1 rest is z)

  -- an abend, whatever tasks end with it
  pub abend_front : (code : Code) (b : Bool) → BeginsBy text (answer_text number t (Abended code [])) b → Front (abend_opening code) b
  abend_front code b x = at (append-nil (reply_line number t (codes "ABEND " ++ code_text code)) ∙ line_head number t (codes "ABEND " ++ code_text code)) where
    at : answer_text number t (Abended code []) ≡ head number t ++ abend_opening code → Front (abend_opening code) b
    at e = ((λ z. let y = x.0 z in (y.0, y.1 ∙ ap (λ f. f ++ y.0) e)), (λ more f. x.1 more (f ∙ ap (λ g. g ++ more) (sym e))))

-- the head of a line that says "OK"
pub head_cut : (number : ℕ) (t : Name) (text : List ℕ) → text ≡ reply_line number t (codes "OK") → take (length text - 3) text ≡ head number t
head_cut number t text is =
    let e : text ≡ head number t ++ codes "OK\n" = is ∙ line_head number t (codes "OK") in
    let l : length text ≡ length (head number t) + 3 = ap length e ∙ length-append (head number t) (codes "OK\n") in
    let n : length text - 3 ≡ length (head number t) = omega (arith, l) in
    (λ i. take (n i) (e i)) ∙ take-append_seam (head number t) (codes "OK\n")

-- a test of beginnings, said in one
abbrev pub Goes : ℕ → Name → List ℕ → List (List ℕ) → Type 0
Goes number t text fronts = (rest : List ℕ) × (text ≡ head number t ++ rest) × BeginsOneOf fronts rest

pub open_ok : {E : Type 0} (number : ℕ) (t : Name) (text : List ℕ) (fronts : List (List ℕ)) (r : Result Bool E) → IfOk r (IsBegun number t fronts text) → IfOk r (λ b. (b ≡ true → Goes number t text fronts) × (Goes number t text fronts → b ≡ true))
open_ok number t text fronts (Ok b) x = (x.0, λ y. x.1 y.0 y.1 y.2)
open_ok number t text fronts (Err e) x = tt
