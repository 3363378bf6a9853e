use Rattle.std.proofs.Common.{◌++◌, take, sym, ap, ◌∙◌, append-nil}
use Rattle.std.proofs.lemmas.List.{take-append-drop, take_rest}
use Rattle.job_script.proofs.split_once.skip_blanks.Goals as goal

pub returns-then-byte-ne32-clause-end : goal.returns-then-byte-ne32-clause-end
returns-then-byte-ne32-clause-end c =
    let text = c.args.text.now in
    (take c.loop-i.i text, sym (take-append-drop c.loop-i.i text) ∙ ap (λ end. take c.loop-i.i text ++ end) (sym (take_rest text c.loop-i.i)))

pub returns-clause-end : goal.returns-clause-end
returns-clause-end c = (c.args.text.now, sym (append-nil c.args.text.now))
