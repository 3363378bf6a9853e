use Rattle.std.proofs.Common.{sym, ◌≤◌, ◌∙◌, arith}
use Rattle.page_map.specs.Owners.{is_usable}
use Rattle.page_map.proofs.Decoding.{refused_more}
use Rattle.page_map.proofs.codes.next_usable.Goals as goal

pub pages-preserved : goal.pages-preserved
pages-preserved c = record {
  after = let low : c.args.from ≤ c.pages.page = c.pages.invariant.after in omega arith;
  within = omega arith;
  passed = refused_more (is_usable c.args.own) c.args.codes.now c.args.from c.pages.page c.pages.invariant.passed (omega arith) (sym c.is_usable.ensures ∙ c.if-is_usable.false);
}
