use Rattle.std.proofs.Common.{◌≡◌, ℕ, true, ◌+◌, ◌*◌, ◌/◌, ◌<◌, ◌≤◌, false, get_or, refl, inl, inr, arith}
use Rattle.std.proofs.lemmas.Bool.{cases_lt}
use Rattle.subpool_store.proofs.Begun.{held_begins, passed_counted}
use Rattle.subpool_store.proofs.Passed.{held_fails}
use Rattle.subpool_store.proofs.walk.leave_page.Goals as goal

pub returns : goal.returns
returns c =
    let e = c.pass_full-page.ensures in let to = c.pass_full-page.result.0 in let from = c.args.from in let sizes = c.requires.exact.sizes in
    let held : (i : ℕ) → from ≤ i → i < 512 * to → get_or c.args.memory.now.held i false ≡ true = λ i low high. elim (cases_lt i (512 * (from / 512) + 512)) [
      | inl here ↦ c.requires.rest i low here
      | inr trailing ↦ (e.passed (i / 512) (omega (arith, trailing)) (omega (arith, high))).1 i refl
    ] in record {
      after = omega (arith, e.after);
      ordered = omega arith;
      farther = omega (arith, e.after);
      within = omega (arith, e.within, sizes);
      skipped = λ i low high. held_fails c.args.memory.now c.args.pages.now c.args.subpool i (held i low high);
      passes = λ i low high. absurd (omega (arith, low, high));
      stands = c.queue_of.ensures;
      counted = passed_counted c.args.memory.now c.args.pages.now c.args.subpool from to c.args.counted.steps c.pass_full-page.new.self.steps (omega (arith, c.requires.within, sizes)) (omega (arith, e.after))
          (λ i low high. held_begins c.args.memory.now c.args.pages.now c.args.subpool i (held i low high)) e.counted;
    }
