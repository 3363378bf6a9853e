use Rattle.std.proofs.Common.{◌≡◌, ◌≤◌, ◌+◌, ◌-◌, length, take, drop, arith, sym, ap, ◌∙◌}
use Rattle.std.specs.Prelude.{◌&&◌, nat_le}
use Rattle.std.specs.List.{list_all}
use Rattle.std.proofs.lemmas.List.{take_rest}
use Rattle.job_script.proofs.PrintedBytes.{part_passes, part_fails, longer_end}
use Rattle.job_script.proofs.is_plain_by.Goals as goal

pub loop-done-preserved : goal.loop-done-preserved
loop-done-preserved g c =
    let line = c.args.line.now in
    let done = c.loop-done.done in
    let size : (done + g.row.SIZE) - done ≡ g.row.SIZE = omega arith in
    record {
      within = omega arith;
      all = part_passes (λ b. nat_le 32 b && nat_le b 126) done g.row.SIZE line (ap (λ n. list_all (λ b. nat_le 32 b && nat_le b 126) (take n (drop done line))) (sym size) ∙ sym c.are_plain.ensures ∙ c.if-not-are_plain.false) ∙ c.loop-done.invariant.all;
    }

pub returns-then-not-are_plain : goal.returns-then-not-are_plain
returns-then-not-are_plain g c =
    let line = c.args.line.now in
    let done = c.loop-done.done in
    let size : (done + g.row.SIZE) - done ≡ g.row.SIZE = omega arith in
    part_fails (λ b. nat_le 32 b && nat_le b 126) done g.row.SIZE line (ap (λ n. list_all (λ b. nat_le 32 b && nat_le b 126) (take n (drop done line))) (sym size) ∙ sym c.are_plain.ensures ∙ c.if-not-are_plain.true) ∙ c.loop-done.invariant.all

pub returns : goal.returns
returns g c =
    let line = c.args.line.now in
    let le : length line - g.row.SIZE ≤ c.loop-done.done = omega arith in
    c.are_plain-2.ensures
    ∙ ap (list_all (λ b. nat_le 32 b && nat_le b 126)) (take_rest line (length line - g.row.SIZE))
    ∙ longer_end (λ b. nat_le 32 b && nat_le b 126) (length line - g.row.SIZE) c.loop-done.done line le c.loop-done.invariant.all
