use Rattle.std.proofs.Common.{rules, ◌∙◌, ◌+◌, ◌*◌, ◌/◌, ◌<◌, ap, refl, inl, inr, arith}
use Rattle.std.proofs.lemmas.Bool.{cases_lt}
use Rattle.subpool_store.specs.PageWalk.{IsWalk}
use Rattle.subpool_store.proofs.Passed.{short_fits, short_inside, short_page, short_passed, walk_at, walk_few}
use Rattle.subpool_store.proofs.walk.PageWalk.pass_short.Goals as goal

pub free_run-requires-clause-few : goal.free_run-requires-clause-few
free_run-requires-clause-few c =
    let few = walk_few c.args.memory.now c.args.pages.now c.args.subpool (walk_at (512 * (c.args.self.now.end / 512) + c.runs.passed / 8) c.runs.self.entry c.runs.self.queue c.runs.self.counted) c.requires.exact c.runs.invariant.walk in
    let steps = ap (λ k. k.steps) c.runs.invariant.counted in
    omega (arith, few, steps)

pub take_run-requires-clause-few : goal.take_run-requires-clause-few
take_run-requires-clause-few c =
    let few = walk_few c.args.memory.now c.args.pages.now c.args.subpool (walk_at (512 * (c.args.self.now.end / 512) + c.runs.passed / 8) c.runs.self.entry c.runs.self.queue c.runs.self.counted) c.requires.exact c.runs.invariant.walk in
    let steps = ap (λ k. k.steps) c.runs.invariant.counted in
    let more = c.in-Some.ensures.counted in
    omega (arith, few, steps, more)

pub leave_page-requires-clause-few : goal.leave_page-requires-clause-few
leave_page-requires-clause-few c =
    let few = walk_few c.args.memory.now c.args.pages.now c.args.subpool (walk_at (512 * (c.args.self.now.end / 512) + c.runs.passed / 8) c.runs.self.entry c.runs.self.queue c.runs.self.counted) c.requires.exact c.runs.invariant.walk in
    let steps = ap (λ k. k.steps) c.runs.invariant.counted in
    let same = c.in_default.ensures.counted in
    omega (arith, few, steps, same)

pub runs-preserved : goal.runs-preserved
runs-preserved c =
    let m = c.args.memory.now in let pages = c.args.pages.now in let s = c.args.subpool in let n = c.args.least in let exact = c.requires.exact in
    let now = c.runs.invariant in let page = c.args.self.now.end / 512 in let found = c.in-Some.ensures.run in let run = found.run in let start = 512 * page + c.in-Some.at / 8 in let end = 512 * page + c.in-Some.end / 8 in
    let old = walk_at (512 * page + c.runs.passed / 8) c.runs.self.entry c.runs.self.queue c.runs.self.counted in
    let steps = ap (λ k. k.steps) now.counted in
    let inside : end < 512 * page + 512 = elim (cases_lt c.in-Some.end 4096) [ inl low ↦ omega (arith, low) | inr past ↦ absurd (c.if-end-eq-PAGE_BYTES.false (omega (arith, past, found.inside))) ] in record {
      walk =
          let on : IsWalk m pages s (walk_at end c.runs.self.entry c.in-Some.rest c.free_run.new.self) =
          short_passed m pages s n exact old now.walk now.own page start end c.in-Some.rest now.page run inside found.cursor c.free_run.new.self (c.in-Some.ensures.counted ∙ ap (λ k. k + 1) steps) in
          search (rules, on);
      own = short_inside m pages s n exact old now.walk now.own page start end c.in-Some.rest now.page run inside;
      page = short_page m pages s n exact old now.walk now.own page start end c.in-Some.rest now.page run inside;
      counted = refl;
      after = omega (arith, now.after, run.some, run.after);
      none = short_fits m pages s n exact old now.walk now.own page start end c.in-Some.rest now.page run inside (let short = c.if-least-end.false in omega (arith, short, run.some, found.whole)) c.args.self.now.start now.none;
    }
