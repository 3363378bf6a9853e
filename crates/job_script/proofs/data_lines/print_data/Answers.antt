use Rattle.std.proofs.Common.{◌≡◌, ◌<◌, length, arith, ◌∙◌, ◌++◌, append-nil, sym, ap, rules}
use Rattle.std.proofs.lemmas.Result.{err_from_is_err_and}
use Rattle.line_text.specs.Writing.{data_text}
use Rattle.job_script.proofs.Showing.{after_head, cut_front, cut_back, data_front, data_more, lines_done}
use Rattle.job_script.proofs.data_lines.print_data.Goals as goal

pub returns-in_err-print_data_line : goal.returns-in_err-print_data_line
returns-in_err-print_data_line g c =
    let p = err_from_is_err_and c.from_residual.result c.from_residual.ensures.1 in
    let s = c.lines.invariant.so_far in
    let some : 0 < length c.lines.rest.now = search rules in
    rw (p.1) (record { bytes = data_front _ _ _ s.0 _ c.args.line_number c.args.task.now c.lines.offset c.lines.rest.now c.split_at.result.0.now some (cut_front _ _ _ c.min.ensures c.split_at.ensures.front) s.1 s.2 (rw (after_head c.args.line_number c.args.task.now c.lines.text (data_text c.lines.offset c.split_at.result.0.now) c.lines.invariant.head) at c.in_err-print_data_line.ensures.printed.bytes); ok = tt; err = c.in_err-print_data_line.ensures.printed.err })

pub lines-preserved : goal.lines-preserved
lines-preserved g c =
    let s = c.lines.invariant.so_far in
    let some : 0 < length c.lines.rest.now = search rules in record {
      so_far = data_more _ _ _ s.0 _ c.args.line_number c.args.task.now c.lines.offset c.lines.rest.now c.split_at.result.0.now some (cut_front _ _ _ c.min.ensures c.split_at.ensures.front) s.1 s.2 c.split_at.result.1.now (cut_back _ _ _ c.min.ensures c.split_at.ensures.back) (rw (after_head c.args.line_number c.args.task.now c.lines.text (data_text c.lines.offset c.split_at.result.0.now) c.lines.invariant.head) at c.in_ok-print_data_line.ensures.printed.bytes);
      short = λ more. let short = c.lines.invariant.short some in omega (arith, c.split_at.ensures.back_len, c.min.ensures, short, more);
      head = c.in_ok-print_data_line.ensures.kept ∙ c.lines.invariant.head;
      room = rw (c.in_ok-print_data_line.ensures.kept) c.lines.invariant.room;
      same = c.in_ok-print_data_line.ensures.printed.ok ∙ c.lines.invariant.same;
    }

pub returns : goal.returns
returns g c =
    let s = c.lines.invariant.so_far in
    let none : length c.lines.rest.now ≡ 0 = search rules in
    let all = sym (append-nil s.0) ∙ ap (λ z. s.0 ++ z) (sym (lines_done c.args.line_number c.args.task.now c.lines.offset c.lines.rest.now none)) ∙ s.2 in
    record { bytes = rw (← all) s.1; ok = c.lines.invariant.same; err = tt }

pub overflow_add-offset : goal.overflow_add-offset
overflow_add-offset g c = let some : 0 < length c.lines.rest.now = search rules in let short = c.lines.invariant.short some in omega arith
