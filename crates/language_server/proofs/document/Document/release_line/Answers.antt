use Rattle.std.proofs.Common.{◌<◌, ◌+◌, ◌-◌, arith, ap, length, sym, ◌∙◌}
use Rattle.language_server.specs.Fixes.{begins_step, ends_itself, later_line, release_line}
use Rattle.language_server.specs.Names.{begins_statement}
use Rattle.language_server.specs.Spans.{line_starts}
use Rattle.language_server.proofs.Fixing.{later_most, release_begins, release_ends, release_goes_on}
use Rattle.language_server.proofs.document.Document.release_line.Goals as goal

pub returns-then-begins_step : goal.returns-then-begins_step
returns-then-begins_step c =
    let text = c.args.self.now.text in
    let less : c.lines.at < length (line_starts text) = (let t = c.lines-test.true in let e = c.line_count-count.ensures in omega (arith, t, e)) in
    let yes = sym (c.begins_step.ensures ∙ ap begins_step c.line-bytes.ensures.line) ∙ c.if-begins_step.true in
    sym (release_begins text c.args.task.now c.lines.last c.lines.at (length (line_starts text)) less yes) ∙ c.lines.invariant.line

pub returns-then-ends_itself : goal.returns-then-ends_itself
returns-then-ends_itself c =
    let text = c.args.self.now.text in
    let less : c.lines.at < length (line_starts text) = (let t = c.lines-test.true in let e = c.line_count-count.ensures in omega (arith, t, e)) in
    let none = sym (c.begins_step.ensures ∙ ap begins_step c.line-bytes.ensures.line) ∙ c.if-begins_step.false in
    let yes = sym (c.ends_itself.ensures ∙ ap (ends_itself c.args.task.now) c.line-bytes.ensures.line) ∙ c.if-ends_itself.true in
    sym (release_ends text c.args.task.now c.lines.last c.lines.at (length (line_starts text)) less none yes) ∙ c.lines.invariant.line

pub lines-preserved : goal.lines-preserved
lines-preserved c =
    let text = c.args.self.now.text in
    let task = c.args.task.now in
    let last = c.lines.last in
    let at = c.lines.at in
    let less : c.lines.at < length (line_starts text) = (let t = c.lines-test.true in let e = c.line_count-count.ensures in omega (arith, t, e)) in
    let none = sym (c.begins_step.ensures ∙ ap begins_step c.line-bytes.ensures.line) ∙ c.if-begins_step.false in
    let not_it = sym (c.ends_itself.ensures ∙ ap (ends_itself task) c.line-bytes.ensures.line) ∙ c.if-ends_itself.false in
    let statement = c.begins_statement.ensures ∙ ap begins_statement c.line-bytes.ensures.line in
    record {
      line = ap (λ l. release_line text task l (at + 1) (length (line_starts text) - (at + 1))) (c.later_line-last.ensures ∙ ap (later_line last at) statement)
          ∙ sym (release_goes_on text task last at (length (line_starts text)) less none not_it)
          ∙ c.lines.invariant.line;
      before = rw c.later_line-last.ensures (later_most last at c.begins_statement.result c.lines.invariant.before);
    }
