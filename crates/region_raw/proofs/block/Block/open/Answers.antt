use Rattle.std.proofs.Common.{◌+◌, ◌<◌, length, get_or, slice_set, replicate, Some, None, sym, ap, ◌∙◌, subst, arith}
use Rattle.std.proofs.lemmas.List.{length-replicate}
use Rattle.region_raw.proofs.Runs.{length-written, set-next, get-next, get-blank}
use Rattle.region_raw.specs.Rows.{IsBlankRun}
use Rattle.region_raw.proofs.block.Block.open.Goals as goal

pub write-requires-clause-inside : goal.write-requires-clause-inside
write-requires-clause-inside c =
    let inv = c.loop-i.invariant in let cs = c.self.inside.bytes.bytes in let at = c.args.at in let i = c.loop-i.i in let b = c.args.fill in
    let blank = subst (λ l. IsBlankRun l at c.args.n) (sym c.self.view_is) c.requires.blank in
    let more : i < c.args.n = c.loop-i-test.true in
    let long = ap length inv.bytes ∙ length-written cs at i (replicate i b) (omega (arith, blank.0)) (length-replicate i b) in
    omega (arith, long, blank.0)

pub write-requires-clause-blank : goal.write-requires-clause-blank
write-requires-clause-blank c =
    let inv = c.loop-i.invariant in let cs = c.self.inside.bytes.bytes in let at = c.args.at in let i = c.loop-i.i in let b = c.args.fill in
    let blank = subst (λ l. IsBlankRun l at c.args.n) (sym c.self.view_is) c.requires.blank in
    let more : i < c.args.n = c.loop-i-test.true in
    let lt : at + i < length cs = omega (arith, blank.0) in
    ap (λ l. get_or l (at + i) None) inv.bytes ∙ get-next cs at i b lt ∙ get-blank cs at c.args.n i blank.1 more

pub loop-i-preserved : goal.loop-i-preserved
loop-i-preserved c =
    let inv = c.loop-i.invariant in let cs = c.self.inside.bytes.bytes in let at = c.args.at in let i = c.loop-i.i in let b = c.args.fill in
    let blank = subst (λ l. IsBlankRun l at c.args.n) (sym c.self.view_is) c.requires.blank in
    let more : i < c.args.n = c.loop-i-test.true in
    record {
      place = c.write.ensures.place ∙ inv.place;
      start = inv.start;
      right = inv.right;
      len = inv.len;
      bytes = c.write.ensures.bytes ∙ ap (λ l. slice_set l (at + i) (Some b)) inv.bytes ∙ set-next cs at i b (omega (arith, blank.0));
    }
