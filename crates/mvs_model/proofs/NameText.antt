-- Texts of names and their padding.
use Rattle.std.proofs.Common.{◌≡◌, ℕ, ◌-◌, ◌<◌, ◌≤◌, List, length, get_or, arith, ◌∙◌}
use Rattle.std.proofs.Math.ListN.{get_or-append}
use Rattle.std.proofs.Math.Seq.{get_or-append_right}
use Rattle.std.proofs.lemmas.List.{get_or-replicate}
use Rattle.std.proofs.lemmas.Bool.Decides.{nat_tests}
use Rattle.mvs_model.specs.Name.{IsNameText, IsName, padded}

-- a byte of the text, and a byte after it
byte_in : (text : List ℕ) (k : ℕ) → k < length text → get_or (padded text) k 0 ≡ get_or text k 0
byte_in text k l = get_or-append text _ 0 k l

byte_after : (text : List ℕ) (k : ℕ) → length text ≤ k → k < 8 → get_or (padded text) k 0 ≡ 32
byte_after text k l h = get_or-append_right text _ k 0 l ∙ get_or-replicate (8 - length text) (k - length text) 32 0 (omega arith)

pub padded_is_name : (text : List ℕ) → IsNameText text → IsName (padded text)
padded_is_name text t = grind (arith, nat_tests, byte_in, byte_after)
