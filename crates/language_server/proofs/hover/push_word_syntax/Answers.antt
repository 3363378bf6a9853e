use Rattle.std.proofs.Common.{◌++◌, ap, sym, ◌∙◌}
use Rattle.std.proofs.lemmas.List.{append-nil}
use Rattle.job_script.specs.Operations.{operation_text}
use Rattle.language_server.proofs.Hovering.{no_syntax, on_ok, syntax_added}
use Rattle.language_server.proofs.hover.push_word_syntax.Goals as goal

pub returns-in-Some : goal.returns-in-Some
returns-in-Some c =
    on_ok c.push_syntax.result (syntax_added c.args.found.now.items c.push_syntax.new.found.items c.args.word.now (operation_text c.in-Some.operation) c.in-Some.ensures) c.push_syntax.ensures

pub returns-in-None : goal.returns-in-None
returns-in-None c = sym (append-nil c.args.found.now.items) ∙ ap (λ ps. c.args.found.now.items ++ ps) (sym (no_syntax c.args.word.now c.in-None.ensures))
