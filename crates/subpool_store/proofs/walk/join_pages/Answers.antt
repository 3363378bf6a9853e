use Rattle.std.proofs.Common.{◌≡◌, ◌∙◌, ℕ, ◌/◌, ◌<◌, ◌≤◌, None, ap, inl, inr, arith}
use Rattle.std.proofs.lemmas.Bool.{cases_eq}
use Rattle.page_map.specs.Owners.{is_of, is_usable, owner_of}
use Rattle.subpool_store.proofs.Begun.{foreign_begins, free_passes, passed_counted}
use Rattle.subpool_store.proofs.walk.join_pages.Goals as goal

pub returns : goal.returns
returns c =
    let e = c.pass_free-page.ensures in let to = c.pass_free-page.result.0 in let from = c.args.from in let sizes = c.requires.exact.sizes in
    let none : (p : ℕ) → from / 512 ≤ p → p < to → owner_of c.args.pages.now p ≡ None = λ p low high. elim (cases_eq p (from / 512)) [
      | inl is ↦ ap (owner_of c.args.pages.now) is ∙ c.requires.free
      | inr other ↦ e.passed p (omega (arith, low, other)) high
    ] in record {
      after = omega arith;
      ordered = omega (arith, c.requires.page, e.after);
      farther = omega (arith, c.requires.page, e.after);
      within = omega (arith, e.within, sizes);
      skipped = λ i low high. absurd (omega (arith, low, high));
      passes = λ i low high.
          let free = none (i / 512) (omega (arith, low, c.requires.page)) (omega (arith, high)) in
          free_passes c.args.memory.now.held c.args.pages.now c.args.subpool i (omega (arith, high, e.within, sizes)) (c.requires.exact.free i free) (ap (is_usable c.args.subpool) free);
      stands = c.queue_of.ensures;
      counted = passed_counted c.args.memory.now c.args.pages.now c.args.subpool from to c.args.counted.steps c.pass_free-page.new.self.steps (omega (arith, c.requires.within, sizes)) (omega (arith, e.after))
          (λ i low high. foreign_begins c.args.memory.now c.args.pages.now c.args.subpool i (ap (is_of c.args.subpool) (none (i / 512) (omega (arith, low, c.requires.page)) (omega (arith, high))))) e.counted;
    }
