-- Where the operands are that checks refer to.
use Rattle.std.specs.Prelude.{◌≡◌, ℕ, ◌+◌, List}
use Rattle.mvs_model.specs.Grammar.{Row}
use Rattle.mvs_model.specs.Reading.{operands_after_form, operands_of, parts_within}
use Rattle.job_script.specs.Parted.{field_in}
use Rattle.diagnosis.specs.Blame.{IsField, before, form_before}

-- The operands after the form of a row begin at this place, if a text begins with them.
pub record AreAfterForm (row : Row) (start : ℕ) (operands : List (List ℕ)) (at : ℕ) (text : List ℕ) : Type 0 where
  pub parts : operands_after_form row operands ≡ parts_within 0 (field_in text)
  pub place : at ≡ start + before (form_before row operands)

-- The operands of a line begin at this place.
pub record AreOperands (row : Row) (bytes : List ℕ) (at : ℕ) (text : List ℕ) : Type 0 where
  pub start : ℕ
  pub field : List ℕ
  pub is_field : IsField bytes start field
  pub form : AreAfterForm row start (operands_of bytes) at text
