-- A list of names with their places, seen as a finite map.
use Rattle.std.proofs.Common.{◌≡◌, ℕ, Bool, true, false, List, [], ◌∷◌, Option, Some, None, Result, Ok, Err, cond, refl, sym, ap, subst, ◌∙◌}
use Rattle.std.specs.Prelude.{IfSome, IsErrAnd, MatchResult}
use Rattle.std.specs.List.{AllZip}
use Rattle.std.specs.FinMap as map
use Rattle.std.specs.FinMap.Entries.{find}
use Rattle.std.specs.Map.{lookup}
use Rattle.std.specs.Prelude.{nat_eq}
use Rattle.std.specs.Cmp.Lexicographic.{pointwise, texts_ties}
use Rattle.mvs_model.specs.Name.{name_cmp, same_name}
use Rattle.mvs_model.specs.Place.{PlaceValue}
use Rattle.job_script.specs.Areas.{IsArea, AreAreas}
use Rattle.mvs_model.proofs.Orders.{name_cmp_total, name_cmp-IsAntisymmetric, same_name_sym}

module _ {X : Type 0} where
  -- a look-up in the entries is one in the map
  lookup_find : (q : List ℕ) (es : List (List ℕ × X)) → lookup (pointwise nat_eq q) es ≡ find name_cmp q es
  lookup_find q [] = refl
  lookup_find q (e ∷ es) = λ i. cond (texts_ties q e.0 i) (Some e.1) (lookup_find q es i)

  pub get_entries : (q : List ℕ) (es : List (List ℕ × X)) → map.get (map.from_entries {R = name_cmp} es) q ≡ lookup (pointwise nat_eq q) es
  get_entries q es = map.get-from_entries name_cmp_total es q ∙ sym (lookup_find q es)

  -- entries that answer otherwise at one key
  pub set_entries : (old new : List (List ℕ × X)) (k : List ℕ) (x : X) → ((q : List ℕ) → lookup (pointwise nat_eq q) new ≡ cond (pointwise nat_eq k q) (Some x) (lookup (pointwise nat_eq q) old)) → map.from_entries {R = name_cmp} new ≡ map.insert (map.from_entries old) k x
  set_entries old new k x h = map.same_map name_cmp_total name_cmp-IsAntisymmetric _ _ (λ q.
      get_entries q new ∙ h q ∙ ap (λ b. cond b (Some x) (lookup (pointwise nat_eq q) old)) (texts_ties k q ∙ same_name_sym k q) ∙ ap (cond (same_name q k) (Some x)) (sym (get_entries q old)) ∙ sym (map.get-insert name_cmp_total (map.from_entries old) k x q))

-- no name is set
pub no_areas : (m : map.FinMap name_cmp PlaceValue) → m ≡ map.empty → AreAreas m
no_areas m is name p e = absurd (let f : None ≡ Some p = sym (map.get-empty name_cmp name) ∙ ap (λ m. map.get m name) (sym is) ∙ e in cc)

-- one more name is set to an area
pub areas_set : (names : map.FinMap name_cmp PlaceValue) (k : List ℕ) (p : PlaceValue) → AreAreas names → IsArea p → AreAreas (map.insert names k p)
areas_set names k p are is q r e = at (same_name q k) (sym (map.get-insert name_cmp_total names k p q) ∙ e) where
  at : (b : Bool) → cond b (Some p) (map.get names q) ≡ Some r → IsArea r
  at true f = let same : p ≡ r = cc in subst IsArea same is
  at false f = are q r f

-- what a name is set to is an area
pub area_of : (o : Option PlaceValue) → ((p : PlaceValue) → o ≡ Some p → IsArea p) → IfSome o IsArea
area_of None h = tt
area_of (Some p) h = h p refl

-- a call returned this value, if `map_err` returned it
pub mapped_ok : {T E D : Type 0} (r : Result T E) (s : Result T D) (Q : E → D → Type 0) (x : T) → MatchResult r (λ y. s ≡ Ok y) (λ e. IsErrAnd s (Q e)) → s ≡ Ok x → r ≡ Ok x
mapped_ok (Ok y) s Q x same is = ap (λ z. Ok z) (let e : Ok y ≡ Ok x = sym same ∙ is in cc)
mapped_ok (Err e) s Q x never is = absurd (subst (λ z. IsErrAnd z (Q e)) is never)

-- entries that are the same one by one are the same
pub zip_same : {K X : Type 0} (es ns : List (K × X)) → AllZip (λ p q. (q.0 ≡ p.0) × (q.1 ≡ p.1)) es ns → ns ≡ es
zip_same [] [] same = refl
zip_same [] (n ∷ ns) same = absurd same
zip_same (e ∷ es) [] same = absurd same
zip_same (e ∷ es) (n ∷ ns) same = λ i. (same.0.0 i, same.0.1 i) ∷ zip_same es ns same.1 i
