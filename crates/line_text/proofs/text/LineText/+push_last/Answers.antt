use Rattle.std.proofs.Common.{append_assoc, append-nil, arith, sym}
use Rattle.mvs_model.proofs.Printed.{last_digits_none, last_digits_more}
use Rattle.line_text.proofs.text.LineText.+push_last.Goals as goal

pub returns-then-digits-gt0-clause-text : goal.returns-then-digits-gt0-clause-text
returns-then-digits-gt0-clause-text t c =
    rw (c.push.ensures.text, c.push_last.ensures.text, c.digit_glyph.ensures, last_digits_more c.args.base c.args.digits c.args.number c.if-digits-gt0.true) (append_assoc c.args.self.now _ _)

pub returns-else-digits-gt0-clause-text : goal.returns-else-digits-gt0-clause-text
returns-else-digits-gt0-clause-text t c = rw (last_digits_none c.args.base c.args.digits c.args.number (omega arith)) (sym (append-nil c.args.self.now))
