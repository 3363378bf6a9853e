use Rattle.std.proofs.Common.{◌∙◌, refl}
use Rattle.std.proofs.lemmas.Result.{err_from_is_err_and}
use Rattle.std.specs.List.{after_first}
use Rattle.std.specs.Prelude.{◌==◌}
use Rattle.expected_answers.proofs.Blanking.{as_answered, in_end, in_statement, line_more}
use Rattle.expected_answers.proofs.Cutting.{first_line, some_left}
use Rattle.expected_answers.proofs.write_blank.Goals as goal

pub returns-in_err-write_all : goal.returns-in_err-write_all
returns-in_err-write_all g c =
    let text = c.lines.rest.now in
    let cut = first_line text (some_left text c.is_empty.result c.is_empty.ensures c.lines-test.true) in
    let p = err_from_is_err_and c.from_residual.result c.from_residual.ensures.1 in
    rw (p.1) (record {
      bytes = in_statement _ _ (g.W.Write.contents c.write_all.new.writer.inner) (g.W.Write.contents c.write_all.new.writer.inner) c.args.script.now text c.next_line.result.0.now (after_first (λ b. b == 10) text) c.parted_line.result.0.now _ _ (rw (← c.next_line.ensures.line) at cut) c.lines.invariant.so_far c.parted_line.ensures refl c.in_err-write_all.ensures.bytes;
      ok = tt;
      err = c.in_err-write_all.ensures.err;
    })

pub returns-in_err-write_all-2 : goal.returns-in_err-write_all-2
returns-in_err-write_all-2 g c =
    let text = c.lines.rest.now in
    let cut = first_line text (some_left text c.is_empty.result c.is_empty.ensures c.lines-test.true) in
    let p = err_from_is_err_and c.from_residual-in_err-write_all-2.result c.from_residual-in_err-write_all-2.ensures.1 in
    rw (p.1) (record {
      bytes = in_end _ _ (g.W.Write.contents c.write_all.new.writer.inner) (g.W.Write.contents c.write_all-in-lines.new.writer.inner) c.args.script.now text c.next_line.result.0.now (after_first (λ b. b == 10) text) c.parted_line.result.0.now _ _ (rw (← c.next_line.ensures.line) at cut) c.lines.invariant.so_far c.parted_line.ensures (as_answered c.blank_end.result.now c.parted_line.result.1 c.is_some.result c.blank_end.ensures c.is_some.ensures) c.in_ok-write_all.ensures.bytes c.in_err-write_all-2.ensures.bytes;
      ok = tt;
      err = c.in_err-write_all-2.ensures.err;
    })

pub lines-preserved : goal.lines-preserved
lines-preserved g c =
    let text = c.lines.rest.now in
    let cut = first_line text (some_left text c.is_empty.result c.is_empty.ensures c.lines-test.true) in
    record {
      so_far = line_more _ _ (g.W.Write.contents c.write_all.new.writer.inner) (g.W.Write.contents c.write_all-in-lines.new.writer.inner) c.args.script.now text c.next_line.result.0.now c.next_line.result.1.now c.parted_line.result.0.now _ _ (rw (c.next_line.ensures.rest, c.next_line.ensures.line) cut) c.lines.invariant.so_far c.parted_line.ensures (as_answered c.blank_end.result.now c.parted_line.result.1 c.is_some.result c.blank_end.ensures c.is_some.ensures) c.in_ok-write_all.ensures.bytes c.in_ok-write_all-2.ensures.bytes;
      same = c.in_ok-write_all-2.ensures.ok ∙ c.in_ok-write_all.ensures.ok ∙ c.lines.invariant.same;
    }
