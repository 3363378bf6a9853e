use Rattle.std.proofs.Common.{◌∙◌, length, refl, sym, subst, inl, inr, arith}
use Rattle.std.proofs.lemmas.Bool.{cases_eq}
use Rattle.subpool_store.specs.PageWalk.{IsFull}
use Rattle.subpool_store.proofs.Entries.{entry_own, one_there}
use Rattle.subpool_store.proofs.counted.Counted.pass_full.Goals as goal

pub entry-entry-requires-in-pages : goal.entry-entry-requires-in-pages
entry-entry-requires-in-pages c =
    let now = c.pages.invariant in let full = c.pages-test.ensures.full refl in
    let own = entry_own c.args.pages.now c.args.subpool c.pages.page (sym now.entry ∙ full.0) in
    let one = one_there c.pages.page (length c.args.pages.now) own.0 in record { few = omega (arith, now.counted, own.0, one, c.requires.few, c.requires.most) }

pub pages-preserved : goal.pages-preserved
pages-preserved c =
    let now = c.pages.invariant in let full = c.pages-test.ensures.full refl in
    let own = entry_own c.args.pages.now c.args.subpool c.pages.page (sym now.entry ∙ full.0) in
    let one = one_there c.pages.page (length c.args.pages.now) own.0 in record {
      after = omega (arith, now.after);
      within = omega (arith, own.0);
      passed = λ p low high. elim (cases_eq p c.pages.page) [
        | inl is ↦ subst (IsFull c.args.memory.now.held c.args.pages.now c.args.subpool) (sym is) (own.1, full.1)
        | inr other ↦ now.passed p low (omega (arith, high, other))
      ];
      entry = c.entry-entry-in-pages.ensures.entry;
      counted = let more = c.entry-entry-in-pages.ensures.counted in omega (arith, now.counted, one, more);
    }
