use Rattle.std.proofs.Common.{arith}
use Rattle.std.proofs.lemmas.List.{take_rest}
use Rattle.mvsjob.proofs.Faulting.{passed_next}
use Rattle.mvsjob.proofs.faulty.first_faulty.Goals as goal

pub lines-preserved : goal.lines-preserved
lines-preserved c = record {
  passed = passed_next c.args.text.now _ c.args.number c.args.first c.lines.at c.lines.passed c.line_end-end.result c.lines.is_first c.lines.invariant.passed (take_rest c.args.text.now c.lines.at) c.line_end-end.ensures.lines c.read_line.new.read _ c.in_default.ensures.reading (c.is_blank_or_comment-is_first.ensures c.lines.is_first _ c.in_default.ensures.reading);
  within = let e = c.line_end-end.ensures.within in omega (arith, e, c.lines-test.true);
}
