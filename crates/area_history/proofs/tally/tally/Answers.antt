use Rattle.std.proofs.Common.{◌≡◌, ◌≤◌, ◌<◌, ◌+◌, ◌-◌, ◌*◌, ◌/◌, ◌||◌, ◌∷◌, ◌++◌, ℕ, Bool, drop, take, length, sym, ap, ◌∙◌, arith}
use Rattle.std.specs.Prelude.{if◌then◌else◌}
use Rattle.area_history.specs.Leaking.{has_doubleword, is_covered, is_marked, leaks, leak_of, bytes_left, ranked, selects, total}
use Rattle.area_history.specs.Totals.{by_subpool, by_task}
use Rattle.area_history.proofs.Tallying.{counted_both, from_here, leak_most, left_same, selected_bytes, summed_both}
use Rattle.area_history.proofs.tally.tally.Goals as goal

pub grants-preserved : goal.grants-preserved
grants-preserved g c =
    let plain = g.P.Holdings.plain c.args.step.now in
    let which = selects c.args.which.now in
    let grants = c.args.grants.now in
    let x = c.index-grants-rest.result in
    let old = c.grants.invariant in
    let later = drop c.grants.rest grants in
    let some : 0 < c.grants.rest = c.grants-test.true in
    let within : c.grants.rest ≤ length grants = old.within in
    let cut : drop (c.grants.rest - 1) grants ≡ x ∷ later = from_here grants (c.grants.rest - 1) c.grants.rest x (omega (arith, some, within)) (omega (arith, some)) c.index-grants-rest.is in
    let counted : 8 * c.take-doublewords.result ≡ bytes_left plain later x = ap (λ n. 8 * n) (c.take-doublewords.ensures.count ∙ left_same plain c.grants.marks later x.place old.marks) in
    let bytes : 8 * c.selected.result ≡ (if which x then bytes_left plain later x else 0) = selected_bytes (which x) c.selected.result c.take-doublewords.result (bytes_left plain later x) c.selected.ensures counted in
    let most = leak_most x (8 * c.selected.result) in
    record {
      within = omega (arith, within);
      few = omega (arith, c.add.ensures.count, most, old.few, some);
      largest = c.add.ensures.largest (leaks which plain later) old.largest ∙ ap (λ n. take 10 (ranked (leak_of x n ++ leaks which plain later))) bytes ∙ ap (λ l. take 10 (ranked (leaks which plain l))) (sym cut);
      count = c.add.ensures.count ∙ ap (λ n. c.grants.found.count + length (leak_of x n)) bytes ∙ counted_both c.grants.found.count (leak_of x (if which x then bytes_left plain later x else 0)) (leaks which plain later) old.count ∙ ap (λ l. length (leaks which plain l)) (sym cut);
      bytes = c.add.ensures.bytes ∙ ap (λ n. c.grants.found.bytes + total (leak_of x n)) bytes ∙ summed_both c.grants.found.bytes (leak_of x (if which x then bytes_left plain later x else 0)) (leaks which plain later) old.bytes ∙ ap (λ l. total (leaks which plain l)) (sym cut);
      most = omega (arith, c.add.ensures.bytes, c.add.ensures.count, c.add.ensures.most, old.most);
      subpools = c.add.ensures.subpools (leaks which plain later) old.subpools ∙ ap (λ n. take 10 (by_subpool (leak_of x n ++ leaks which plain later))) bytes ∙ ap (λ l. take 10 (by_subpool (leaks which plain l))) (sym cut);
      tasks = c.add.ensures.tasks (leaks which plain later) old.tasks ∙ ap (λ n. take 10 (by_task (leak_of x n ++ leaks which plain later))) bytes ∙ ap (λ l. take 10 (by_task (leaks which plain l))) (sym cut);
      within_subpools = c.add.ensures.within_subpools;
      within_tasks = c.add.ensures.within_tasks;
      marks = λ d. c.take-doublewords.ensures.marks d ∙ ap (λ b. has_doubleword x.place d || b) (old.marks d) ∙ ap (λ l. is_covered l d) (sym cut);
      room = λ d. c.take-doublewords.ensures.room d ∙ old.room d;
    }
