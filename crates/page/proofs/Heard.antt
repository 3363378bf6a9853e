-- What a writer of items hears of a line.
use Rattle.std.proofs.Common.{ℕ, List, Option}
use Rattle.mvs_model.specs.Job.{JobValue}
use Rattle.mvs_job.specs.declared.walk.LineEvent.{LineEvent}
use Rattle.mvs_job.specs.Looking.{KeepsExplained}
use Rattle.mvs_job.specs.LineEvents.{WalkValue}
use Rattle.mvs_job.specs.Observing.{Hearing, ObservesLine}
use Rattle.mvs_job.proofs.Hearing.{line_part}
use Rattle.mvs_job.proofs.AfterLines.{keeps}
use Rattle.area_history.specs.Chronicles.{HearsHistory}
use Rattle.area_history.proofs.Recording.{hears}
use Rattle.page.specs.declared.pages.PageItems.{PageItems}

abbrev heard : Hearing PageItems
heard old job t request refusal left new = KeepsExplained old.explained job t request refusal new.explained × HearsHistory old.chronicle job t request refusal new.chronicle

-- what its explanations hear
pub explained_sees : (mid self : PageItems) (step : Option JobValue) (bytes : List ℕ) (t : LineEvent) (w : WalkValue) → ObservesLine heard mid step bytes t w self → ObservesLine keeps mid.explained step bytes t w self.explained
explained_sees mid self step bytes t w h = line_part mid self (λ s. s.explained) heard keeps (λ job t request refusal left k. k.0) step bytes t w h

-- what its history hears
pub chronicle_sees : (mid self : PageItems) (step : Option JobValue) (bytes : List ℕ) (t : LineEvent) (w : WalkValue) → ObservesLine heard mid step bytes t w self → ObservesLine hears mid.chronicle step bytes t w self.chronicle
chronicle_sees mid self step bytes t w h = line_part mid self (λ s. s.chronicle) heard hears (λ job t request refusal left k. k.1) step bytes t w h
