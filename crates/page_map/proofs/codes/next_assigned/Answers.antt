use Rattle.std.proofs.Common.{is_some, ap, ◌≤◌, arith}
use Rattle.page_map.proofs.Decoding.{decoded_none, refused_more}
use Rattle.page_map.proofs.codes.next_assigned.Goals as goal

pub pages-preserved : goal.pages-preserved
pages-preserved c = record {
  after = let low : c.args.from ≤ c.pages.page = c.pages.invariant.after in omega arith;
  within = omega arith;
  passed = refused_more is_some c.args.codes.now c.args.from c.pages.page c.pages.invariant.passed (omega arith) (ap is_some (decoded_none _ c.if-codes-page.false));
}
