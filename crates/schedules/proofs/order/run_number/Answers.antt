use Rattle.std.proofs.Common.{◌≡◌, ◌+◌, ◌++◌, ◌<◌, ◌==◌, ◌∙◌, suc, ap, arith, drop, length, subst, take}
use Rattle.std.specs.Prelude.{Some, slice_get, slice_index, true}
use Rattle.std.proofs.lemmas.Bool.{and_parts}
use Rattle.std.proofs.lemmas.Bool.Decides.{Decides-eqb}
use Rattle.std.proofs.lemmas.List.{get_or_read}
use Rattle.schedules.specs.Next.{can_run, number_of}
use Rattle.schedules.specs.Orders.{RunsNumber}
use Rattle.schedules.specs.Refusals.{runs_as}
use Rattle.schedules.proofs.order.run_number.Goals as goal

pub returns : goal.returns
returns c =
    let lines = c.args.lines.now in
    let left = c.args.left.now.items in
    let walk = c.args.walk.now in
    let n = c.args.number in
    let at = c.in-Some.at in
    let within : at < length left = subst (λ x. at < length x) c.deref.ensures.value c.in-Some.ensures.0 in
    let runs : runs_as lines walk.step (take at left) (slice_index left at) n ≡ true = subst (λ x. runs_as lines walk.step (take at x) (slice_index x at) n ≡ true) c.deref.ensures.value c.in-Some.ensures.1 in
    let parts = and_parts (number_of (slice_get lines (slice_index left at)) == n) (can_run lines walk.step (take at left) (slice_index left at)) runs in
    let position : c.index.result.now ≡ slice_index left at = get_or_read left _ _ within c.index.ensures 0 in
    let line : slice_get lines (slice_index left at) ≡ Some c.in-Some-next_line.line.now = subst (λ k. slice_get lines k ≡ Some c.in-Some-next_line.line.now) position c.in-Some-next_line.ensures.1 in
    let next : suc at ≡ at + 1 = omega arith in
    let ran : RunsNumber lines walk left n c.run_line.new.walk c.remove.new.self.items = record {
      at = at;
      answer = c.in_ok-run_line.field-0;
      within = within;
      can = parts.1;
      runs = (c.in-Some-next_line.line.now, line, c.in_ok-run_line.ensures.runs);
      rest_is = c.remove.ensures.items ∙ ap (λ n. take at left ++ drop n left) next;
      number_is = (Decides-eqb (number_of (slice_get lines (slice_index left at))) n).0 parts.0;
    } in
    record { runs = (ran, c.run_line.ensures.number) }
