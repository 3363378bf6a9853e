-- The part that was put to a cell pool last.
use Rattle.std.specs.Prelude.{◌≡◌, ◌-◌, Some, length}
use Rattle.std.specs.List.{slice_get}
use Rattle.mvs_model.specs.declared.report.LastPart.{LastPart}
use Rattle.mvs_model.specs.Pools.{Pool}

-- This is the part that was added to the pool last, and the number of parts.
pub record IsNewest (pool : Pool) (newest : LastPart) : Type 0 where
  pub parts : newest.parts ≡ length pool.parts
  pub last : slice_get pool.parts (newest.parts - 1) ≡ Some (record { place = newest.place; count = newest.cells })
  pub cell_size : newest.cell_size ≡ pool.cell_size
