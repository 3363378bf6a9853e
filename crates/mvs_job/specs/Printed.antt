-- The printing of a trace.
use Rattle.std.specs.Prelude.{◌≡◌}
use Rattle.mvs_model.specs.Texts.{printing}
use Rattle.mvs_job.specs.Consuming.{Piece}

-- what is printed for an entry: its events, and no memory is needed
abbrev pub printed : Piece
printed = record { may = λ history e text. text ≡ printing e.events; needs = λ e. ⊥ }
