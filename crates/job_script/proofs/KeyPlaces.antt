-- The places of keys, each of which has its own.
use Rattle.std.proofs.Common.{◌≡◌, ℕ, suc, List, [], ◌∷◌, get_or, refl, sym, ap, ◌∙◌, true, false, Bool, Option, Some, None}
use Rattle.std.specs.Prelude.{bytes_eq, if◌then◌else◌}
use Rattle.std.specs.Option.{option_map}
use Rattle.mvs_model.proofs.ReadingTaken.{bytes_same}
use Rattle.job_script.specs.declared.keys.Key.TheVariants as key
use Rattle.job_script.specs.Rows.{key_text}
use Rattle.job_script.specs.Places.{place_by, place_in, keys}

pub mapped_some : (o : Option ℕ) (i : ℕ) → option_map (λ i. suc i) o ≡ Some i → (j : ℕ) × (o ≡ Some j) × (i ≡ suc j)
mapped_some None i e = absurd (let f : None ≡ Some i = e in cc)
mapped_some (Some j) i e = (j, refl, (let f : Some (suc j) ≡ Some i = e in cc))

-- what stands at a place that is found passes
pub place_passes : {X : Type 0} (p : X → Bool) (xs : List X) (i : ℕ) → place_by p xs ≡ Some i → (d : X) → p (get_or xs i d) ≡ true
place_passes p [] i e d = absurd (let f : None ≡ Some i = e in cc)
place_passes p (x ∷ xs) i e d =
    (elim (p x) as (λ b. p x ≡ b → (if b then Some 0 else option_map (λ i. suc i) (place_by p xs)) ≡ Some i → p (get_or (x ∷ xs) i d) ≡ true) [
      | true ↦ λ t e. ap (λ i. p (get_or (x ∷ xs) i d)) (sym (let f : Some 0 ≡ Some i = e in let g : 0 ≡ i = cc in g)) ∙ t
      | false ↦ λ t e.
          let m = mapped_some (place_by p xs) i e in
          ap (λ i. p (get_or (x ∷ xs) i d)) m.2 ∙ place_passes p xs m.0 m.1 d
    ]) refl e

-- two texts do not stand at one place
same_text : {X : Type 0} (f : X → List ℕ) (xs : List X) (a b : List ℕ) (i : ℕ) → place_by (λ x. bytes_eq (f x) a) xs ≡ Some i → place_by (λ x. bytes_eq (f x) b) xs ≡ Some i → (d : X) → a ≡ b
same_text f xs a b i ea eb d =
    sym (bytes_same (f (get_or xs i d)) a (place_passes (λ x. bytes_eq (f x) a) xs i ea d)) ∙ bytes_same (f (get_or xs i d)) b (place_passes (λ x. bytes_eq (f x) b) xs i eb d)

pub same_place : (a b : List ℕ) (i : ℕ) → place_in a ≡ Some i → place_in b ≡ Some i → a ≡ b
unfolding place_in
same_place a b i ea eb = same_text key_text keys a b i ea eb key.Below
