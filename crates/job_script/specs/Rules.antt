-- What holds between operands.
use Rattle.std.specs.Prelude.{◌≡◌, ℕ, List, ◌==◌, Bool, true, if◌then◌else◌, Option, Some, None}
use Rattle.std.specs.List.{list_any, list_all}
use Rattle.mvs_model.specs.Grammar as grammar
use Rattle.mvs_model.specs.Reading.{ByKey, is_list, items, is_number}

-- a text, where there is one, is a number or a list of numbers
abbrev pub AreNumbers : Option (List ℕ) → Type 0
AreNumbers None = Unit {0}
AreNumbers (Some text) = (if is_list text then list_all is_number (items text) else is_number text) ≡ true

-- what a rule needs of the texts that it compares
abbrev pub IsFit : ByKey → grammar.Rule → Type 0
IsFit os (grammar.Apart a b c d) = AreNumbers (os.under a) × AreNumbers (os.under b) × AreNumbers (os.under c) × AreNumbers (os.under d)
IsFit os _ = Unit {0}

-- whether some number is in both lists
abbrev pub is_shared_number : List ℕ → List ℕ → Bool
is_shared_number ms ns = list_any (λ n. list_any (◌==◌ n) ns) ms
