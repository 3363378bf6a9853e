-- What a REGION statement says of its step.
use Rattle.std.specs.Prelude.{ℕ, ◌≤◌, List}
use Rattle.mvs_model.specs.declared.want.Residence.{Residence}
use Rattle.mvs_model.specs.Numbers.{most_pages_below, most_pages_above}

-- The job step task's name and residence, the pages of the two regions, and the byte that a grant leaves.
pub record CardValue : Type 0 where
  pub name : List ℕ
  pub below : ℕ
  pub above : ℕ
  pub fill : ℕ
  pub residence : Residence

-- The page counts are in their ranges. (this project's choice)
pub record IsCard (card : CardValue) : Type 0 where
  pub below_some : 1 ≤ card.below
  pub below_most : card.below ≤ most_pages_below
  pub above_most : card.above ≤ most_pages_above
