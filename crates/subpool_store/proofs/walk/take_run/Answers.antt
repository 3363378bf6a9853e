use Rattle.std.proofs.Common.{◌≡◌, ◌∙◌, ◌+◌, ◌*◌, ◌/◌, ◌<◌, length, refl, sym, ap, subst, inl, inr, arith}
use Rattle.std.proofs.lemmas.Bool.{eq-eqb}
use Rattle.page_map.specs.Owners.{is_usable, owner_of}
use Rattle.subpool_store.specs.Memory.{IsCursor}
use Rattle.subpool_store.specs.PageWalk.{IsPassing, entry_of}
use Rattle.subpool_store.proofs.Begun.{ending_counted, free_passes, inside_counted}
use Rattle.subpool_store.proofs.Entries.{own_entry}
use Rattle.subpool_store.proofs.Passed.{held_fails}
use Rattle.subpool_store.proofs.walk.take_run.Goals as goal

pub returns-then-run-next : goal.returns-then-run-next
returns-then-run-next c =
    let m = c.args.memory.now in let pages = c.args.pages.now in let s = c.args.subpool in let from = c.args.from in let start = c.args.found.0.start in let end = c.args.found.0.end in
    let run = c.requires.run in let sizes = c.requires.exact.sizes in
    let low : from / 512 < length pages = omega (arith, c.requires.within, sizes) in
    let inside : end < 512 * (from / 512) + 512 = omega (arith, c.if-run-next.true) in
    let page : end / 512 ≡ from / 512 = omega (arith, inside, run.some, run.after) in record {
      after = run.after;
      ordered = omega (arith, run.some);
      farther = omega (arith, run.some, run.after);
      within = omega (arith, inside, low, sizes);
      skipped = λ i after before. held_fails m pages s i (run.held i after before);
      passes = λ i after before.
          let here : i / 512 ≡ from / 512 = omega (arith, after, before, run.after, run.within) in
          free_passes m.held pages s i (omega (arith, before, inside, low, sizes)) (run.free i after before) (ap (λ p. is_usable s (owner_of pages p)) here ∙ ap (is_usable s) c.requires.own ∙ eq-eqb s s refl);
      stands = record {
        is = sym (ap (entry_of pages s) page ∙ own_entry pages s (from / 512) low c.requires.own);
        page = inl refl;
        cursor = λ _. subst (λ p. IsCursor m p end c.args.found.1) (sym page) c.requires.cursor;
        fresh = λ _. inr (run.stops inside);
      };
      counted = inside_counted m pages s from start end low c.requires.own c.requires.fresh run c.args.counted.steps c.requires.some inside;
    }

pub returns : goal.returns
returns c =
    let m = c.args.memory.now in let pages = c.args.pages.now in let s = c.args.subpool in let from = c.args.from in let start = c.args.found.0.start in let end = c.args.found.0.end in
    let run = c.requires.run in let sizes = c.requires.exact.sizes in
    let low : from / 512 < length pages = omega (arith, c.requires.within, sizes) in
    let ends : 512 * (from / 512 + 1) ≡ end = omega (arith, c.if-run-next.false, run.within) in record {
      after = run.after;
      ordered = omega (arith, run.some);
      farther = omega (arith, run.some, run.after);
      within = omega (arith, ends, low, sizes);
      skipped = λ i after before. held_fails m pages s i (run.held i after before);
      passes = λ i after before.
          let here : i / 512 ≡ from / 512 = omega (arith, after, before, run.after, run.within) in
          free_passes m.held pages s i (omega (arith, before, ends, low, sizes)) (run.free i after before) (ap (λ p. is_usable s (owner_of pages p)) here ∙ ap (is_usable s) c.requires.own ∙ eq-eqb s s refl);
      stands = subst (λ at. IsPassing m pages s at c.entry-entry.result c.queue_of.result) ends c.queue_of.ensures;
      counted = ending_counted m pages s from start end low c.requires.own c.requires.fresh run c.args.counted.steps c.entry-entry.new.self.steps c.requires.some (omega (arith, ends)) c.entry-entry.ensures.counted;
    }
