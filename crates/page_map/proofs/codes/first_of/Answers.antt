use Rattle.std.proofs.Common.{◌<◌, ◌≤◌, ◌+◌, sym, ◌∙◌, arith}
use Rattle.mvs_model.specs.Finite.{has}
use Rattle.mvs_model.specs.Storage.{is_one_of}
use Rattle.page_map.proofs.Decoding.{refused_more, refused_free}
use Rattle.page_map.proofs.codes.first_of.Goals as goal

pub pages-preserved : goal.pages-preserved
pages-preserved c =
    let low : c.args.from ≤ c.pages.page = c.pages.invariant.after in
    let next : c.pages.page < c.after-page.result = c.after-page.ensures.after in record {
      after = omega arith;
      within = c.after-page.ensures.most;
      passed = refused_free (is_one_of c.args.subpools.now) c.args.codes.now c.args.from (c.pages.page + 1) c.after-page.result
          (refused_more (has (is_one_of c.args.subpools.now)) c.args.codes.now c.args.from c.pages.page c.pages.invariant.passed (omega arith) (sym c.is_in.ensures ∙ c.if-is_in.false))
          c.after-page.ensures.passed;
    }
