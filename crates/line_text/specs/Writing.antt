-- What calls of a writer leave, where its bytes are known.
use Rattle.std.specs.Prelude.{◌≡◌, ℕ, List, ◌++◌, MatchResult, Result, Option, true, OnOk, OnErr, codes}
use Rattle.std.specs.List.{flat_map}
use Rattle.std.specs.Io.KnownBytes.{Appends}
use Rattle.mvs_model.specs.Texts.{hex}
use Rattle.mvs_model.specs.Watched.{WatchedValue}

-- a line of bytes: the offset of the first one, and two digits for each
abbrev pub data_text : ℕ → List ℕ → List ℕ
data_text offset bytes = codes "DATA +" ++ hex 4 offset ++ codes " " ++ flat_map (hex 2) bytes

-- known bytes grow by a front of some bytes
abbrev pub AppendsFront : Option (List ℕ) → Option (List ℕ) → List ℕ → Type 0
AppendsFront old new bytes = (front : List ℕ) × (rest : List ℕ) × (bytes ≡ front ++ rest) × Appends old new front

-- all the bytes were appended, or at a failure a front of them
abbrev pub WritesAll : {X E : Type 0} → Option (List ℕ) → Option (List ℕ) → Result X E → List ℕ → Type 0
WritesAll old new r bytes = MatchResult r (λ _. Appends old new bytes) (λ _. AppendsFront old new bytes)

-- The text was printed: all of it, and no call has failed since; or a front of it, and a call has failed.
pub record Prints {W X E : Type 0} (contents : W → Option (List ℕ)) (old new : WatchedValue W) (result : Result X E) (text : List ℕ) : Type 0 where
  pub bytes : WritesAll (contents old.inner) (contents new.inner) result text
  pub ok : OnOk result (new.failed ≡ old.failed)
  pub err : OnErr result (new.failed ≡ true)
