use Rattle.std.proofs.Common.{Some, None, ap, sym, ◌∙◌}
use Rattle.language_server.proofs.Parted.{parted_answers}
use Rattle.language_server.proofs.actions.answers_in.Goals as goal

pub returns : goal.returns
returns c = ap (λ text. Some text) c.trimmed.ensures ∙ sym (parted_answers c.args.line.now c.parted_at.result.0.now (Some c.in_ok-rest.field-0.now) (rw c.in_ok-rest.was at c.parted_at.ensures))

pub returns-in_err-rest : goal.returns-in_err-rest
returns-in_err-rest c = rw c.from_residual.ensures (sym (parted_answers c.args.line.now c.parted_at.result.0.now None (rw c.in_err-rest.was at c.parted_at.ensures)))
