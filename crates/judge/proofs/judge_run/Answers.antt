use Rattle.std.proofs.Common.{Decides as Tests, ◌≡◌, subst, sym}
use Rattle.std.specs.Prelude.{◌↔◌}
use Rattle.std.proofs.lemmas.List.{take_rest}
use Rattle.std.proofs.lemmas.Slice.Eq.{slice_eq-Decides}
use Rattle.judge.specs.declared.Finding.TheVariants.{Accepted}
use Rattle.judge.specs.Deciding.{HasReached}
use Rattle.judge.proofs.Asked.{asked_decides}
use Rattle.judge.proofs.Decided.{same_test}
use Rattle.judge.proofs.Found.{IsSaid, followed_ended, followed_on, found_ended, found_parted}
use Rattle.judge.proofs.judge_run.Goals as goal

pub returns-in-Some-clause-agrees : goal.returns-in-Some-clause-agrees
returns-in-Some-clause-agrees c =
    let f = c.in_ok-followed.followed in
    let ended = followed_ended c.args.script.now c.args.output.now c.follow.new.walk f.at f.text.items f.passes f.ended f.open_line c.in-Some.outcome c.in-Some.is c.in_ok-followed.ensures in
    let said = found_ended c.args.script.now c.args.output.now f.text.items c.in-Some.outcome f.passes ended in
    subst (λ x. (x ≡ Accepted) ↔ (f.text.items ≡ c.args.output.now)) (sym c.finding_of.ensures) said.2

reason_part : (c : goal.After-drop-hints-2) → IsSaid c.args.script.now c.args.output.now c.in_ok-ran.ran.text.items c.in_ok-ran.ran.outcome c.finding_of-2.result
reason_part c =
    let f = c.in_ok-followed.followed in
    let on = followed_on c.args.script.now c.args.output.now c.follow.new.walk f.at f.text.items f.passes f.ended f.open_line c.in_default.is c.in_ok-followed.ensures in
    let printed = c.in_ok-ran.ensures.run c.args.script.now (subst (HasReached c.args.script.now f.text.items c.follow.new.walk) (sym (take_rest c.args.script.now f.at)) on.1) in
    let grown = c.in_ok-ran.ensures.grown in
    let test = subst (λ x. Tests c.eq-agrees.result (x ≡ c.args.output.now)) c.as_slice.ensures.value (slice_eq-Decides same_test _ _ c.eq-agrees.result c.eq-agrees.ensures) in
    subst (IsSaid c.args.script.now c.args.output.now c.in_ok-ran.ran.text.items c.in_ok-ran.ran.outcome) (sym c.finding_of-2.ensures)
    (found_parted c.args.script.now c.args.output.now f.text.items c.in_ok-ran.ran.text.items grown.0 c.in_ok-ran.ran.outcome f.open_line f.passes c.eq-agrees.result grown.1 on.0 printed test)

pub returns-clause-found : goal.returns-clause-found
returns-clause-found c = (reason_part c).0

pub returns-clause-decided : goal.returns-clause-decided
returns-clause-decided c = λ asked n e. asked_decides c.args.script.now c.args.output.now c.in_ok-ran.ran.text.items c.in_ok-ran.ran.outcome c.finding_of-2.result n asked (reason_part c).0 e

pub returns-clause-agrees : goal.returns-clause-agrees
returns-clause-agrees c = (reason_part c).2
