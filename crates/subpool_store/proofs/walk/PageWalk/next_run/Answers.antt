use Rattle.std.proofs.Common.{◌≡◌, ◌<◌, ◌≤◌, ◌+◌, ℕ, false, length, inl, inr, arith}
use Rattle.std.proofs.lemmas.Bool.{both_ways, cases_lt}
use Rattle.subpool_store.specs.Search.{may_take}
use Rattle.subpool_store.proofs.Short.{begins_after, fits_join, fits_none, fits_short, fits_skip, past_fails}
use Rattle.subpool_store.proofs.walk.PageWalk.next_run.Goals as goal

pub returns-then-least-run-clause-run : goal.returns-then-least-run-clause-run
returns-then-least-run-clause-run c =
    let test = may_take c.args.memory.now.held c.args.pages.now c.args.subpool in let self = c.examine-part.new.self in let part = c.examine-part.result in
    let some : self.start < self.end = omega (arith, c.if-least-run.true, c.requires.least) in
    let skipped = c.examine-part.ensures.part.skipped in record {
      some = some;
      after = omega (arith, c.parts.invariant.after, c.examine-part.ensures.after);
      before = c.examine-part.ensures.part.after;
      skipped = fits_join test c.args.least c.args.self.now.start c.parts.self.start self.start c.parts.invariant.none c.examine-part.ensures.none;
      passes = c.examine-part.ensures.walk.passes;
      stops = skipped self.end (omega arith) (begins_after part.start self.end (λ is. both_ways _ c.if-not-continues.true (c.continues.ensures.1 (omega (arith, is)))) c.examine-part.ensures.part.after);
      rest = fits_skip test c.args.least self.end self.end part.start c.requires.least (fits_none test c.args.least self.end) skipped;
    }

pub parts-preserved-else-least-run : goal.parts-preserved-else-least-run
parts-preserved-else-least-run c =
    let test = may_take c.args.memory.now.held c.args.pages.now c.args.subpool in let self = c.examine-part.new.self in let part = c.examine-part.result in
    let skipped = c.examine-part.ensures.part.skipped in
    let past : self.end < part.start = begins_after part.start self.end (λ is. both_ways _ c.if-not-continues.true (c.continues.ensures.1 (omega (arith, is)))) c.examine-part.ensures.part.after in
    let before = fits_join test c.args.least c.args.self.now.start c.parts.self.start self.start c.parts.invariant.none c.examine-part.ensures.none in
    let short : self.end < self.start + c.args.least = omega (arith, c.if-least-run.false, c.examine-part.ensures.walk.ordered) in record {
      walk = record {
        ordered = c.examine-part.ensures.part.ordered;
        within = c.examine-part.ensures.part.within;
        passes = c.examine-part.ensures.part.passes;
        stands = c.examine-part.ensures.part.stands;
        counted = let now = c.examine-part.ensures.walk.counted in let next = c.examine-part.ensures.part.counted in omega (arith, now, next);
      };
      after = omega (arith, c.parts.invariant.after, c.examine-part.ensures.after, c.examine-part.ensures.walk.ordered, past);
      none = fits_skip test c.args.least c.args.self.now.start self.end part.start c.requires.least (fits_short test c.args.least c.args.self.now.start self.start self.end short (skipped self.end (omega arith) past) before) skipped;
    }

pub parts-preserved : goal.parts-preserved
parts-preserved c =
    let test = may_take c.args.memory.now.held c.args.pages.now c.args.subpool in let self = c.examine-part.new.self in let part = c.examine-part.result in let next = c.examine-part.ensures.part in
    let same = c.continues.ensures.0 c.if-not-continues.false in
    let on : part.start ≡ self.end = omega (arith, same) in record {
      walk = record {
        ordered = let low = c.examine-part.ensures.walk.ordered in omega (arith, low, next.farther);
        within = next.within;
        passes = λ i low high. elim (cases_lt i self.end) [
          | inl before ↦ c.examine-part.ensures.walk.passes i low before
          | inr trailing ↦ next.passes i (omega (arith, on, trailing)) high
        ];
        stands = next.stands;
        counted = let now = c.examine-part.ensures.walk.counted in let more = next.counted in omega (arith, now, more);
      };
      after = omega (arith, c.parts.invariant.after, c.examine-part.ensures.after);
      none = fits_join test c.args.least c.args.self.now.start c.parts.self.start self.start c.parts.invariant.none c.examine-part.ensures.none;
    }

pub returns-else-least-run-2-clause-run : goal.returns-else-least-run-2-clause-run
returns-else-least-run-2-clause-run c =
    let test = may_take c.args.memory.now.held c.args.pages.now c.args.subpool in let self = c.parts.self in let now = c.parts.invariant in
    let past : length c.args.memory.now.held ≤ self.end = omega (arith, c.parts-test.false, c.pages-total.ensures.pages, c.requires.exact.sizes) in
    let none : (i : ℕ) → self.end ≤ i → test i ≡ false = λ i low. past_fails c.args.memory.now.held c.args.pages.now c.args.subpool i (omega (arith, past, low)) in
    let short : self.end < self.start + c.args.least = omega (arith, c.if-least-run-2.false, now.walk.ordered) in
    λ to. fits_skip test c.args.least c.args.self.now.start self.end to c.requires.least (fits_short test c.args.least c.args.self.now.start self.start self.end short (none self.end (omega arith)) now.none) (λ i low _. none i low)
