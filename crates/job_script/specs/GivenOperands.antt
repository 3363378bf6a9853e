-- The operands of a statement as they were read.
use Rattle.std.specs.Prelude.{◌≡◌, ℕ, List, [], ◌∷◌, ◌++◌, true, false, Option, Some, None, Result, length, map, slice_get, flat_map, MatchResult}
use Rattle.std.specs.Option.{option_map}
use Rattle.std.specs.List.{list_any}
use denote.Bor.{Bor}
use Rattle.mvs_model.specs.declared.line.Fault.{Fault}
use Rattle.mvs_model.specs.Reading.{ByKey, by_key, has_key, first_of, operand_checks, with_left, if_kind, is_of, is_within}
use Rattle.mvs_model.specs.Grammar as grammar
use Rattle.job_script.specs.declared.given.GivenOperands.{GivenOperands}
use Rattle.job_script.specs.Rows.{row_at, as_keyword}
use Rattle.job_script.specs.Places.{place_in}
use Rattle.job_script.specs.Parted.{field_in}

-- a text that a reference points to
abbrev pub option_now : Option (Bor (List ℕ)) → Option (List ℕ)
option_now None = None
option_now (Some text) = Some text.now

-- the field that such a text starts with
abbrev pub field_now : Option (Bor (List ℕ)) → Option (List ℕ)
field_now None = None
field_now (Some text) = Some (field_in text.now)

-- the text in a place, where there is one
abbrev pub kept : Option (Option (Bor (List ℕ))) → Option (List ℕ)
kept None = None
kept (Some text) = option_now text

abbrev pub text_at : List (Option (Bor (List ℕ))) → Option ℕ → Option (List ℕ)
text_at texts None = None
text_at texts (Some i) = kept (slice_get texts i)

-- what was read, by keys and by places
abbrev pub by_place : GivenOperands → ByKey
by_place g = record { under = λ key. text_at g.texts (place_in key); at = λ k. text_at g.places (Some k); count = g.count }

-- a text in a place is of the kind there, and in its range
pub record IsPlaced (row : grammar.Row) (place : ℕ) (text : List ℕ) : Type 0 where
  pub of_kind : if_kind (λ kind. is_of kind text) (option_map (λ p. p.kind) (slice_get row.positional place)) ≡ true
  pub within : if_kind (λ kind. is_within kind text) (option_map (λ p. p.kind) (slice_get row.positional place)) ≡ true

-- These operands were read, and no check is against them.
pub record IsGiven (g : GivenOperands) (left : List (List ℕ)) : Type 0 where
  pub table : map as_keyword g.keywords.now ≡ (row_at g.row).keywords
  pub three : length g.places ≡ 3
  pub keys : length g.texts ≡ 26
  pub same : by_place g ≡ by_key left
  pub keyed : g.keyed ≡ list_any has_key left
  pub plain : g.keyed ≡ false → g.count ≡ length left
  pub taken : first_of (flat_map (operand_checks (row_at g.row)) (with_left left)) ≡ None
  pub placed : (k : ℕ) (text : List ℕ) → text_at g.places (Some k) ≡ Some text → IsPlaced (row_at g.row) k text

-- Some operands were read, and no check is against them.
abbrev pub IsRead : GivenOperands → Type 0
IsRead g = (left : List (List ℕ)) × IsGiven g left

-- An operand is accepted after those on its left, or the answer is its fault.
abbrev pub Takes : {X : Type 0} → GivenOperands → GivenOperands → List ℕ → Result X Fault → Type 0
Takes old new operand result =
    (left : List (List ℕ)) → IsGiven old left
    → MatchResult result (λ _. IsGiven new (left ++ operand ∷ []) × (new.row ≡ old.row)) (λ fault. first_of (operand_checks (row_at old.row) (left, operand)) ≡ Some fault)
