use Rattle.std.proofs.Common.{◌≤◌, ◌∙◌, ap, length, subst, sym}
use Rattle.mvs_model.specs.Lines.{ended_text}
use Rattle.mvs_model.specs.Numbers.{most_script_bytes}
use Rattle.shell.proofs.Lines.{few_left, left_script}
use Rattle.shell.proofs.script.SessionScript.undo.Goals as goal

pub count_bytes-self-inside-requires : goal.count_bytes-self-inside-requires
count_bytes-self-inside-requires c =
    subst (λ x. length (ended_text x) ≤ most_script_bytes) (sym (c.deref.ensures.value ∙ c.truncate.ensures.items)) (few_left c.self.inside.lines.items c.self.inside.bytes c.self.invariant c.saturating_sub-left.result)

pub invariant_of-self : goal.invariant_of-self
invariant_of-self c =
    left_script c.self.inside.lines.items c.self.inside.bytes c.self.invariant c.saturating_sub-left.result c.truncate.new.self.items c.count_bytes-self-inside.result c.truncate.ensures.items
    (c.count_bytes-self-inside.ensures ∙ ap (λ x. length (ended_text x)) c.deref.ensures.value)
