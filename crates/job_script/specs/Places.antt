-- The places of keys.
use Rattle.std.specs.Prelude.{◌≡◌, ℕ, suc, List, [], ◌∷◌, Bool, if◌then◌else◌, Option, Some, None, bytes_eq, find}
use Rattle.std.specs.Option.{option_map}
use Rattle.mvs_model.specs.Grammar as grammar
use Rattle.job_script.specs.declared.keys.Key.{Key}
use Rattle.job_script.specs.declared.keys.Key.TheVariants as key
use Rattle.job_script.specs.Rows.{key_text}

-- the first place whose element passes
abbrev pub place_by : {X : Type 0} → (X → Bool) → List X → Option ℕ
place_by p [] = None
place_by p (x ∷ xs) = if p x then Some 0 else option_map (λ i. suc i) (place_by p xs)

-- the keys, each in the place that the code gives it
unfoldable pub keys : List Key
keys =
    key.Below ∷ key.Above ∷ key.Fill ∷ key.Res ∷ key.Lv ∷ key.A ∷ key.Sp ∷ key.Bndry ∷ key.Loc ∷ key.Startbdy ∷ key.Contbdy ∷ key.La ∷ key.Length ∷ key.Addr ∷ key.Cond ∷ key.Cpid ∷ key.Csize ∷ key.Pcellct ∷ key.Scellct ∷ key.Cell ∷ key.Task ∷ key.Gspv ∷ key.Gspl ∷ key.Shspv ∷ key.Shspl ∷ key.Szero ∷ []

-- where a key has its place, by its text
unfoldable pub place_in : List ℕ → Option ℕ
place_in text = place_by (λ k. bytes_eq (key_text k) text) keys

-- Among keywords is one with this key, whose text must be of this kind.
pub record HasKeyword (keywords : List grammar.Keyword) (key : List ℕ) (k : Key) (kind : grammar.Kind) : Type 0 where
  pub is : key_text k ≡ key
  pub kind_is : option_map (λ k. k.kind) (find (λ k. bytes_eq k.key key) keywords) ≡ Some kind
