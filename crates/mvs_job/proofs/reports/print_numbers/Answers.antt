use Rattle.std.proofs.Common.{arith, refl, subst, sym, ◌∙◌}
use Rattle.std.specs.List.{flat_map}
use Rattle.std.specs.Io.KnownBytes.{Appends}
use Rattle.std.specs.Prelude.{MatchOption}
use Rattle.std.proofs.lemmas.Result.{err_from_is_err_and}
use Rattle.std.proofs.KnownBytes.{Appends-nil}
use Rattle.request_forms.specs.Reports.{HasNone, IsSubpoolLine}
use Rattle.mvs_job.proofs.Numbers.{each_none, text_none, number_line, line_text, numbers_front, numbers_more}
use Rattle.mvs_job.proofs.reports.print_numbers.Goals as goal

pub lines-init : goal.lines-init
lines-init g c = record { so_far = subst (λ lines. Appends (g.W.Write.contents c.args.writer.now.inner) (g.W.Write.contents c.args.writer.now.inner) (flat_map (line_text c.args.line_number c.args.job.now.state c.args.task.now) lines)) (sym (each_none (number_line c.args.line_number c.args.job.now.state c.args.task.now))) (Appends-nil (g.W.Write.contents c.args.writer.now.inner)); low = omega arith; found = c.requires; same = refl }

pub returns-in_err-print_subpool_line : goal.returns-in_err-print_subpool_line
returns-in_err-print_subpool_line g c =
    let p = err_from_is_err_and c.from_residual.result c.from_residual.ensures.1 in
    let st = c.args.job.now.state in
    let found = subst (λ next. MatchOption next (HasNone st.owners c.args.task.now c.lines.from 133) (IsSubpoolLine st c.args.task.now c.lines.from)) c.in-Some.is c.lines.invariant.found in
    rw (p.1) (record { bytes = numbers_front c.args.line_number st c.args.task.now _ _ _ c.lines.from c.in-Some.line found c.lines.invariant.so_far c.in_err-print_subpool_line.ensures.bytes; ok = tt; err = c.in_err-print_subpool_line.ensures.err })

pub lines-preserved : goal.lines-preserved
lines-preserved g c =
    let st = c.args.job.now.state in
    let found = subst (λ next. MatchOption next (HasNone st.owners c.args.task.now c.lines.from 133) (IsSubpoolLine st c.args.task.now c.lines.from)) c.in-Some.is c.lines.invariant.found in
    record {
      so_far = rw (c.get-from.ensures.value) (numbers_more c.args.line_number st c.args.task.now _ _ _ c.lines.from c.in-Some.line found c.lines.invariant.so_far c.in_ok-print_subpool_line.ensures.bytes);
      low = omega (arith, c.get-from.ensures.value, found.low);
      found = rw (c.step.ensures.state) at c.subpool_line-next.ensures;
      same = c.in_ok-print_subpool_line.ensures.ok ∙ c.lines.invariant.same;
    }

pub returns : goal.returns
returns g c =
    let st = c.args.job.now.state in
    let none = subst (λ next. MatchOption next (HasNone st.owners c.args.task.now c.lines.from 133) (IsSubpoolLine st c.args.task.now c.lines.from)) c.in_default.is c.lines.invariant.found in
    record { bytes = rw (text_none c.args.line_number st c.args.task.now c.lines.from 133 c.lines.invariant.low none) c.lines.invariant.so_far; ok = c.lines.invariant.same; err = tt }
