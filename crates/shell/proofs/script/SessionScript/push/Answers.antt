use Rattle.std.proofs.Common.{◌∷◌, [], ◌++◌, ◌∙◌, ap, subst, sym}
use Rattle.shell.specs.Scripts.{HasRoom}
use Rattle.shell.proofs.Lines.{longer_script, mapped_ok}
use Rattle.shell.proofs.script.SessionScript.push.Goals as goal

pub invariant_of-self-2 : goal.invariant_of-self-2
invariant_of-self-2 c =
    let pushed = rw (mapped_ok c.push.result c.map_err.result _ _ c.map_err.ensures.cases c.in_ok-map_err.was) at c.push.ensures.items in
    longer_script c.self.inside.lines.items c.self.inside.bytes c.self.invariant c.args.line.now c.push.new.self.items (subst (λ x. HasRoom x c.args.line.now) (sym c.self.view_is) c.requires.room) c.requires.unended
    (pushed ∙ ap (λ x. c.self.inside.lines.items ++ x ∷ []) c.copied.ensures)
