use Rattle.std.proofs.Common.{◌≡◌, ◌∙◌, ℕ, ◌/◌, ◌<◌, ◌≤◌, false, ap, inl, inr, arith}
use Rattle.std.proofs.lemmas.Bool.{cases_eq}
use Rattle.page_map.specs.Owners.{is_usable, owner_of}
use Rattle.subpool_store.proofs.Begun.{foreign_begins, foreign_fails, not_own, passed_counted}
use Rattle.subpool_store.proofs.walk.pass_pages.Goals as goal

pub returns : goal.returns
returns c =
    let e = c.pass_others-page.ensures in let to = c.pass_others-page.result.0 in let from = c.args.from in let sizes = c.requires.exact.sizes in
    let other : (p : ℕ) → from / 512 ≤ p → p < to → is_usable c.args.subpool (owner_of c.args.pages.now p) ≡ false = λ p low high. elim (cases_eq p (from / 512)) [
      | inl is ↦ ap (λ q. is_usable c.args.subpool (owner_of c.args.pages.now q)) is ∙ c.requires.other
      | inr trailing ↦ e.passed p (omega (arith, low, trailing)) high
    ] in record {
      after = omega (arith, c.requires.page, e.after);
      ordered = omega arith;
      farther = omega (arith, c.requires.page, e.after);
      within = omega (arith, e.within, sizes);
      skipped = λ i low high. foreign_fails c.args.memory.now.held c.args.pages.now c.args.subpool i (other (i / 512) (omega (arith, low, c.requires.page)) (omega (arith, high)));
      passes = λ i low high. absurd (omega (arith, low, high));
      stands = c.queue_of.ensures;
      counted = passed_counted c.args.memory.now c.args.pages.now c.args.subpool from to c.args.counted.steps c.pass_others-page.new.self.steps (omega (arith, c.requires.within, sizes)) (omega (arith, e.after))
          (λ i low high. foreign_begins c.args.memory.now c.args.pages.now c.args.subpool i (not_own c.args.subpool _ (other (i / 512) (omega (arith, low, c.requires.page)) (omega (arith, high))))) e.counted;
    }
