use Rattle.std.proofs.Common.{◌≡◌, ◌/◌, ◌&&◌, ◌≤◌, ◌<◌, ◌+◌, ◌-◌, ◌*◌, ◌∷◌, ◌++◌, [], ℕ, drop, take, length, get_or, Some, suc, refl, sym, ap, subst, ◌∙◌, arith}
use Rattle.std.specs.Prelude.{slice_get, if◌then◌else◌}
use Rattle.std.proofs.lemmas.Option.{slice_get-get_or}
use Rattle.std.proofs.Math.Seq.{take-suc}
use Rattle.mvs_model.specs.Finite.{count_below}
use Rattle.area_history.specs.LastAreas.{AreVisible, is_last}
use Rattle.area_history.specs.Leaking.{leaks, leak_of, bytes_left, ranked, selects, total}
use Rattle.area_history.specs.Totals.{AreWithin, by_subpool, by_task}
use Rattle.area_history.proofs.Releasing.{item_here}
use Rattle.area_history.proofs.Tallying.{counted_both, from_here, leak_most, selected_bytes, summed_both}
use Rattle.area_history.proofs.Visibly.{all_tallied, hidden_leaks, last_visible, later_tallied, left_by_index, none_tallied, number_within}
use Rattle.area_history.proofs.last_areas.LastAreas.tally_from.Goals as goal

pub bounds-grants-number : goal.bounds-grants-number
bounds-grants-number g c =
    let some = c.areas-test.true in
    let within = c.areas.invariant.within in
    let last = number_within c.args.self.now c.args.grants.now c.as_slice-numbers.result.now (c.areas.rest - 1) c.requires.index c.as_slice-numbers.ensures.value (omega (arith, some, within)) in
    let all = c.requires.all in
    omega (arith, last, all)

pub count_selected-requires-clause-few : goal.count_selected-requires-clause-few
count_selected-requires-clause-few g c =
    let some = c.areas-test.true in
    let within = c.areas.invariant.within in
    let last = number_within c.args.self.now c.args.grants.now c.as_slice-numbers.result.now (c.areas.rest - 1) c.requires.index c.as_slice-numbers.ensures.value (omega (arith, some, within)) in
    omega (arith, last)

pub count_selected-requires-clause-whole : goal.count_selected-requires-clause-whole
count_selected-requires-clause-whole g c =
    let some = c.areas-test.true in
    let within = c.areas.invariant.within in
    let last = number_within c.args.self.now c.args.grants.now c.as_slice-numbers.result.now (c.areas.rest - 1) c.requires.index c.as_slice-numbers.ensures.value (omega (arith, some, within)) in
    let all = c.requires.all in
    let n = get_or c.as_slice-numbers.result.now (c.areas.rest - 1) 0 in
    let x = c.index-grants-number.result in
    c.requires.index.whole n x (item_here c.args.grants.now n x (omega (arith, last, all)) c.index-grants-number.is)

pub areas-init : goal.areas-init
areas-init g c =
    let none = none_tallied c.args.self.now c.args.grants.now c.requires.index c.requires.all (selects c.args.which.now) (g.P.Holdings.plain c.args.step.now) c.as_slice-numbers.result.now _ c.none-found.result c.as_slice-numbers.ensures.value refl c.none-found.ensures.largest c.none-found.ensures.count c.none-found.ensures.bytes c.none-found.ensures.subpools c.none-found.ensures.tasks in
    record {
      within = omega (arith, c.as_slice-numbers.ensures.len);
      few = omega (arith, c.none-found.ensures.count, c.as_slice-numbers.ensures.len);
      tallied = none.0;
      after = omega (arith, none.1, c.requires.first);
      most = omega (arith, c.none-found.ensures.bytes);
      within_subpools = subst (λ ts. AreWithin c.none-found.result.count ts) (sym c.none-found.ensures.subpools) tt;
      within_tasks = subst (λ ts. AreWithin c.none-found.result.count ts) (sym c.none-found.ensures.tasks) tt;
    }

pub areas-preserved : goal.areas-preserved
areas-preserved g c =
    let plain = g.P.Holdings.plain c.args.step.now in
    let which = selects c.args.which.now in
    let last = c.args.self.now in
    let grants = c.args.grants.now in
    let numbers = c.as_slice-numbers.result.now in
    let rest = c.areas.rest in
    let x = c.index-grants-number.result in
    let old = c.areas.invariant in
    let t = old.tallied in
    let some : 0 < rest = c.areas-test.true in
    let within : rest ≤ length numbers = old.within in
    let less : rest - 1 < length numbers = omega (arith, some, within) in
    let n = get_or numbers (rest - 1) 0 in
    let cut : take rest numbers ≡ take (rest - 1) numbers ++ n ∷ [] = ap (λ k. take k numbers) (let e : rest ≡ suc (rest - 1) = omega (arith, some) in e) ∙ take-suc numbers (rest - 1) 0 less in
    let seen = last_visible last grants 0 (take (rest - 1) numbers) n t.from (subst (λ l. AreVisible last grants 0 l t.from) cut t.visible) in
    let before = seen.1 in
    let inner = t.within in
    let here : n < length grants = omega (arith, before, inner) in
    let get = item_here grants n x here c.index-grants-number.is in
    let later = drop (suc n) grants in
    let next : suc n ≡ n + 1 = omega arith in
    let skip : leaks which plain (drop t.from grants) ≡ leaks which plain later = sym (hidden_leaks last grants c.requires.index c.requires.all which plain (n + 1) t.from (omega (arith, before)) inner seen.3) ∙ ap (λ k. leaks which plain (drop k grants)) (sym next) in
    let cons : drop n grants ≡ x ∷ later = from_here grants n (suc n) x here next c.index-grants-number.is in
    let held = count_below (x.place.len / 8) (λ k. plain (x.place.addr / 8 + k) && is_last last n (x.place.addr / 8 + k)) in
    let counted : 8 * held ≡ bytes_left plain later x = ap (λ n. 8 * n) (left_by_index last grants c.requires.index c.requires.all which plain n x get) in
    let bytes : 8 * c.count_selected.result ≡ (if which x then bytes_left plain later x else 0) = selected_bytes (which x) c.count_selected.result held (bytes_left plain later x) c.count_selected.ensures.count counted in
    let most = leak_most x (8 * c.count_selected.result) in
    record {
      within = omega (arith, within);
      few = omega (arith, c.add.ensures.count, most, old.few, some);
      tallied = record {
        from = n;
        within = omega (arith, here);
        visible = seen.2;
        largest = c.add.ensures.largest (leaks which plain later) (t.largest ∙ ap (λ l. take 10 (ranked l)) skip) ∙ ap (λ n. take 10 (ranked (leak_of x n ++ leaks which plain later))) bytes ∙ ap (λ l. take 10 (ranked (leaks which plain l))) (sym cons);
        count = c.add.ensures.count ∙ ap (λ n. c.areas.found.count + length (leak_of x n)) bytes ∙ counted_both c.areas.found.count (leak_of x (if which x then bytes_left plain later x else 0)) (leaks which plain later) (t.count ∙ ap length skip) ∙ ap (λ l. length (leaks which plain l)) (sym cons);
        bytes = c.add.ensures.bytes ∙ ap (λ n. c.areas.found.bytes + total (leak_of x n)) bytes ∙ summed_both c.areas.found.bytes (leak_of x (if which x then bytes_left plain later x else 0)) (leaks which plain later) (t.bytes ∙ ap total skip) ∙ ap (λ l. total (leaks which plain l)) (sym cons);
        subpools = c.add.ensures.subpools (leaks which plain later) (t.subpools ∙ ap (λ l. take 10 (by_subpool l)) skip) ∙ ap (λ n. take 10 (by_subpool (leak_of x n ++ leaks which plain later))) bytes ∙ ap (λ l. take 10 (by_subpool (leaks which plain l))) (sym cons);
        tasks = c.add.ensures.tasks (leaks which plain later) (t.tasks ∙ ap (λ l. take 10 (by_task l)) skip) ∙ ap (λ n. take 10 (by_task (leak_of x n ++ leaks which plain later))) bytes ∙ ap (λ l. take 10 (by_task (leaks which plain l))) (sym cons);
      };
      after = c.if-number-first.false;
      most = omega (arith, c.add.ensures.bytes, c.add.ensures.count, c.add.ensures.most, old.most);
      within_subpools = c.add.ensures.within_subpools;
      within_tasks = c.add.ensures.within_tasks;
    }

pub returns-then-number-first-clause-largest : goal.returns-then-number-first-clause-largest
returns-then-number-first-clause-largest g c =
    let t = c.areas.invariant.tallied in
    t.largest ∙ ap (λ l. take 10 (ranked l)) (later_tallied c.args.self.now c.args.grants.now c.requires.index c.requires.all (selects c.args.which.now) (g.P.Holdings.plain c.args.step.now) c.as_slice-numbers.result.now c.areas.rest c.args.first c.areas.found t c.areas-test.true c.areas.invariant.within c.if-number-first.true c.areas.invariant.after)

pub returns-then-number-first-clause-count : goal.returns-then-number-first-clause-count
returns-then-number-first-clause-count g c =
    let t = c.areas.invariant.tallied in
    t.count ∙ ap length (later_tallied c.args.self.now c.args.grants.now c.requires.index c.requires.all (selects c.args.which.now) (g.P.Holdings.plain c.args.step.now) c.as_slice-numbers.result.now c.areas.rest c.args.first c.areas.found t c.areas-test.true c.areas.invariant.within c.if-number-first.true c.areas.invariant.after)

pub returns-then-number-first-clause-bytes : goal.returns-then-number-first-clause-bytes
returns-then-number-first-clause-bytes g c =
    let t = c.areas.invariant.tallied in
    t.bytes ∙ ap total (later_tallied c.args.self.now c.args.grants.now c.requires.index c.requires.all (selects c.args.which.now) (g.P.Holdings.plain c.args.step.now) c.as_slice-numbers.result.now c.areas.rest c.args.first c.areas.found t c.areas-test.true c.areas.invariant.within c.if-number-first.true c.areas.invariant.after)

pub returns-then-number-first-clause-subpools : goal.returns-then-number-first-clause-subpools
returns-then-number-first-clause-subpools g c =
    let t = c.areas.invariant.tallied in
    t.subpools ∙ ap (λ l. take 10 (by_subpool l)) (later_tallied c.args.self.now c.args.grants.now c.requires.index c.requires.all (selects c.args.which.now) (g.P.Holdings.plain c.args.step.now) c.as_slice-numbers.result.now c.areas.rest c.args.first c.areas.found t c.areas-test.true c.areas.invariant.within c.if-number-first.true c.areas.invariant.after)

pub returns-then-number-first-clause-tasks : goal.returns-then-number-first-clause-tasks
returns-then-number-first-clause-tasks g c =
    let t = c.areas.invariant.tallied in
    t.tasks ∙ ap (λ l. take 10 (by_task l)) (later_tallied c.args.self.now c.args.grants.now c.requires.index c.requires.all (selects c.args.which.now) (g.P.Holdings.plain c.args.step.now) c.as_slice-numbers.result.now c.areas.rest c.args.first c.areas.found t c.areas-test.true c.areas.invariant.within c.if-number-first.true c.areas.invariant.after)

pub returns-clause-largest : goal.returns-clause-largest
returns-clause-largest g c =
    let t = c.areas.invariant.tallied in
    t.largest ∙ ap (λ l. take 10 (ranked l)) (all_tallied c.args.self.now c.args.grants.now c.requires.index c.requires.all (selects c.args.which.now) (g.P.Holdings.plain c.args.step.now) c.as_slice-numbers.result.now c.areas.rest c.args.first c.areas.found (omega (arith, c.areas-test.false)) t c.areas.invariant.after)

pub returns-clause-count : goal.returns-clause-count
returns-clause-count g c =
    let t = c.areas.invariant.tallied in
    t.count ∙ ap length (all_tallied c.args.self.now c.args.grants.now c.requires.index c.requires.all (selects c.args.which.now) (g.P.Holdings.plain c.args.step.now) c.as_slice-numbers.result.now c.areas.rest c.args.first c.areas.found (omega (arith, c.areas-test.false)) t c.areas.invariant.after)

pub returns-clause-bytes : goal.returns-clause-bytes
returns-clause-bytes g c =
    let t = c.areas.invariant.tallied in
    t.bytes ∙ ap total (all_tallied c.args.self.now c.args.grants.now c.requires.index c.requires.all (selects c.args.which.now) (g.P.Holdings.plain c.args.step.now) c.as_slice-numbers.result.now c.areas.rest c.args.first c.areas.found (omega (arith, c.areas-test.false)) t c.areas.invariant.after)

pub returns-clause-subpools : goal.returns-clause-subpools
returns-clause-subpools g c =
    let t = c.areas.invariant.tallied in
    t.subpools ∙ ap (λ l. take 10 (by_subpool l)) (all_tallied c.args.self.now c.args.grants.now c.requires.index c.requires.all (selects c.args.which.now) (g.P.Holdings.plain c.args.step.now) c.as_slice-numbers.result.now c.areas.rest c.args.first c.areas.found (omega (arith, c.areas-test.false)) t c.areas.invariant.after)

pub returns-clause-tasks : goal.returns-clause-tasks
returns-clause-tasks g c =
    let t = c.areas.invariant.tallied in
    t.tasks ∙ ap (λ l. take 10 (by_task l)) (all_tallied c.args.self.now c.args.grants.now c.requires.index c.requires.all (selects c.args.which.now) (g.P.Holdings.plain c.args.step.now) c.as_slice-numbers.result.now c.areas.rest c.args.first c.areas.found (omega (arith, c.areas-test.false)) t c.areas.invariant.after)
