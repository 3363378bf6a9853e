use Rattle.std.proofs.Common.{◌∙◌, refl}
use Rattle.std.specs.List.{after_first}
use Rattle.std.specs.Prelude.{◌==◌}
use Rattle.std.proofs.lemmas.Result.{err_from_is_err_and}
use Rattle.expected_answers.proofs.Cutting.{first_line, next_of, some_left}
use Rattle.mvsjob.proofs.Asked.{at_fault, in_end, in_line, in_questions, line_asked, nothing_asked}
use Rattle.mvsjob.proofs.queries.write_with_queries.Goals as goal

pub lines-init : goal.lines-init
lines-init g c = record { so_far = nothing_asked (g.W.Write.contents c.args.writer.now.inner) c.args.script.now; same = refl }

pub returns-in_err-write_all : goal.returns-in_err-write_all
returns-in_err-write_all g c =
    let text = c.lines.rest.now in
    let now = g.W.Write.contents c.write_all.new.writer.inner in
    let cut = first_line text (some_left text c.is_empty.result c.is_empty.ensures c.lines-test.true) in
    let p = err_from_is_err_and c.from_residual.result c.from_residual.ensures.1 in
    rw (p.1) (record {
      bytes = in_line _ _ now now now c.args.script.now text c.split_once.result.0.now (after_first (λ b. b == 10) text) c.lines.is_first (rw (← c.split_once.ensures.before) at cut) c.lines.invariant.so_far c.in_err-write_all.ensures.bytes;
      ok = tt;
      err = c.in_err-write_all.ensures.err;
    })

pub returns-in_err-write_all-2 : goal.returns-in_err-write_all-2
returns-in_err-write_all-2 g c =
    let text = c.lines.rest.now in
    let one = g.W.Write.contents c.write_all.new.writer.inner in
    let now = g.W.Write.contents c.write_all-in-lines.new.writer.inner in
    let cut = first_line text (some_left text c.is_empty.result c.is_empty.ensures c.lines-test.true) in
    let p = err_from_is_err_and c.from_residual-in_err-write_all-2.result c.from_residual-in_err-write_all-2.ensures.1 in
    rw (p.1) (record {
      bytes = in_end _ _ one now now c.args.script.now text c.split_once.result.0.now (after_first (λ b. b == 10) text) c.lines.is_first (rw (← c.split_once.ensures.before) at cut) c.lines.invariant.so_far c.in_ok-write_all.ensures.bytes c.in_err-write_all-2.ensures.bytes;
      ok = tt;
      err = c.in_err-write_all-2.ensures.err;
    })

pub returns-in_default : goal.returns-in_default
returns-in_default g c =
    let text = c.lines.rest.now in
    let one = g.W.Write.contents c.write_all.new.writer.inner in
    let two = g.W.Write.contents c.write_all-in-lines.new.writer.inner in
    let cut = first_line text (some_left text c.is_empty.result c.is_empty.ensures c.lines-test.true) in
    record {
      bytes = at_fault _ _ one two two c.args.script.now text c.split_once.result.0.now (after_first (λ b. b == 10) text) c.lines.is_first (rw (← c.split_once.ensures.before) at cut) c.lines.invariant.so_far c.in_default.field-0 c.in_default.ensures.reading c.in_ok-write_all.ensures.bytes c.in_ok-write_all-2.ensures.bytes;
      ok = c.in_ok-write_all-2.ensures.ok ∙ c.in_ok-write_all.ensures.ok ∙ c.lines.invariant.same;
      err = tt;
    }

pub returns-in_err-write_after : goal.returns-in_err-write_after
returns-in_err-write_after g c =
    let text = c.lines.rest.now in
    let one = g.W.Write.contents c.write_all.new.writer.inner in
    let two = g.W.Write.contents c.write_all-in-lines.new.writer.inner in
    let now = g.W.Write.contents c.write_after.new.writer.inner in
    let cut = first_line text (some_left text c.is_empty.result c.is_empty.ensures c.lines-test.true) in
    let p = err_from_is_err_and c.from_residual-in_err-write_after.result c.from_residual-in_err-write_after.ensures.1 in
    rw (p.1) (record {
      bytes = in_questions _ _ one two now c.args.script.now text c.split_once.result.0.now (after_first (λ b. b == 10) text) c.lines.is_first (rw (← c.split_once.ensures.before) at cut) c.lines.invariant.so_far c.read_line.new.read c.in-Ok.ensures.reading c.in_ok-write_all.ensures.bytes c.in_ok-write_all-2.ensures.bytes c.in_err-write_after.ensures.bytes;
      ok = tt;
      err = c.in_err-write_after.ensures.err;
    })

pub lines-preserved : goal.lines-preserved
lines-preserved g c =
    let text = c.lines.rest.now in
    let one = g.W.Write.contents c.write_all.new.writer.inner in
    let two = g.W.Write.contents c.write_all-in-lines.new.writer.inner in
    let now = g.W.Write.contents c.write_after.new.writer.inner in
    let cut = first_line text (some_left text c.is_empty.result c.is_empty.ensures c.lines-test.true) in
    let next = next_of text c.split_once.result.1 _ c.unwrap_or-rest.result refl c.split_once.ensures.after c.unwrap_or-rest.ensures in
    let said = c.in-Ok.ensures.reading in
    record {
      so_far = line_asked _ _ one two now c.args.script.now text c.split_once.result.0.now c.unwrap_or-rest.result.now c.lines.is_first (rw (next, c.split_once.ensures.before) cut) c.lines.invariant.so_far c.read_line.new.read said c.is_blank_or_comment-is_first.result (c.is_blank_or_comment-is_first.ensures c.lines.is_first c.split_once.result.0.now said)
          c.in_ok-write_all.ensures.bytes c.in_ok-write_all-2.ensures.bytes c.in_ok-write_after.ensures.bytes;
      same = c.in_ok-write_after.ensures.ok ∙ c.in_ok-write_all-2.ensures.ok ∙ c.in_ok-write_all.ensures.ok ∙ c.lines.invariant.same;
    }
