use Rattle.std.proofs.Common.{◌/◌, false, ◌∙◌, arith}
use Rattle.subpool_store.proofs.Marked.{after_mark, keeps_more, keeps_none, marked_more, marked_none, was_set}
use Rattle.subpool_store.proofs.memory.Memory.give.Goals as goal

pub pages-init : goal.pages-init
pages-init c = record { from = omega arith; to = c.requires.some; marked = marked_none c.args.self.now.held c.args.run.start false; keeps = keeps_none c.args.self.now.held c.args.self.now.bytes }

pub give_in-requires-clause-there : goal.give_in-requires-clause-there
give_in-requires-clause-there c = let now = c.pages.invariant in now.keeps.pages (c.pages.at / 512) ∙ c.requires.there c.pages.at now.from c.pages-test.true

pub give_in-requires-clause-held : goal.give_in-requires-clause-held
give_in-requires-clause-held c =
    let now = c.pages.invariant in
    λ i low high. after_mark c.args.self.now.held c.pages.self.held c.args.run.start c.pages.at false now.marked i low ∙ c.requires.held i (omega (arith, low, now.from)) (omega (arith, high))

pub pages-preserved : goal.pages-preserved
pages-preserved c =
    let now = c.pages.invariant in let old = c.args.self.now in record {
      from = omega (arith, now.from, c.pages-test.true);
      to = omega arith;
      marked = marked_more old.held c.pages.self.held c.give_in.new.self.held c.args.run.start c.pages.at _ false now.from (omega (arith, c.pages-test.true)) now.marked c.give_in.ensures.marked;
      keeps = keeps_more c.give_in.new.self.held c.pages.self.held c.give_in.new.self.held old.bytes c.pages.self.bytes c.give_in.new.self.bytes (was_set c.pages.self.held c.give_in.new.self.held c.pages.at _ c.give_in.ensures.marked) (λ i set. set) now.keeps c.give_in.ensures.keeps;
    }
