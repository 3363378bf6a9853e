use Rattle.std.proofs.Common.{subst, sym}
use Rattle.mvs_model.specs.Reading.{LineOf}
use Rattle.mvs_model.specs.Walk.{is_first}
use Rattle.judge.specs.Deciding.{IsParsed}
use Rattle.judge.proofs.Asked.{kind_is}
use Rattle.judge.proofs.kinds.parsed_kind.Goals as goal

pub returns-in-Ok : goal.returns-in-Ok
returns-in-Ok c = λ line reading. kind_is c.args.walk.now.step line c.read.result.now c.kind_of.result (subst (LineOf (is_first c.args.walk.now.step) line) (sym c.read.ensures) (subst (λ parsed. IsParsed c.args.walk.now parsed line) c.in-Ok.is reading)) c.kind_of.ensures
