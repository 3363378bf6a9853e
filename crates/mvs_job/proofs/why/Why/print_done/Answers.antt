use Rattle.std.proofs.Common.{List, ap, subst, ◌∙◌}
use Rattle.std.specs.List.{flat_map}
use Rattle.mvs_model.specs.declared.fact.Fact.{Fact}
use Rattle.explanation.specs.FactTexts.{fact_line}
use Rattle.line_text.specs.Writing.{Prints}
use Rattle.mvs_job.specs.declared.why.Why.{Why}
use Rattle.mvs_job.proofs.why.Why.print_done.Goals as goal

pub returns : goal.returns
returns g c = λ number.
    subst (λ (facts : List Fact). Prints g.W.Write.contents c.args.writer.now c.print_facts.new.writer c.print_facts.result (flat_map fact_line facts)) (c.effects.ensures ∙ ap (λ (w : Why). w.facts) (c.find_effects.ensures number c.requires)) c.print_facts.ensures
