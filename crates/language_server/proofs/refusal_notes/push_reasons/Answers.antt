use Rattle.std.proofs.Common.{sym, ◌∙◌}
use Rattle.mvs_model.specs.Lines.{lines_of}
use Rattle.language_server.proofs.Noting.{reason_last, reason_more}
use Rattle.language_server.proofs.refusal_notes.push_reasons.Goals as goal

pub lines-preserved : goal.lines-preserved
lines-preserved c =
    let cut = rw c.in-Some-more.is at c.split_line.ensures.lines in
    reason_more _ _ _ c.split_line.result.0.now c.lines.is_first c.lines.left (lines_of c.lines.rest.now) (lines_of c.in-Some-more.next.now) c.lines-test.true cut (sym c.in-Some.ensures) c.in_ok-push_reason.ensures ∙ c.lines.invariant

pub returns-in-None : goal.returns-in-None
returns-in-None c =
    let cut = rw c.in-None.is at c.split_line.ensures.lines in
    reason_last _ _ _ c.split_line.result.0.now c.lines.is_first c.lines.left (lines_of c.lines.rest.now) c.lines-test.true cut (sym c.in-Some.ensures) c.in_ok-push_reason.ensures ∙ c.lines.invariant
