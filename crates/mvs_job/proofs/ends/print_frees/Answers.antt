use Rattle.std.proofs.Common.{ℕ, List, Option, Some, ap, refl, subst, sym, ◌∙◌}
use Rattle.std.proofs.KnownBytes.{Appends-nil}
use Rattle.std.specs.Option.{option_map}
use Rattle.mvs_model.specs.declared.name.Name.{Name}
use Rattle.line_text.specs.Writing.{Prints}
use Rattle.mvs_job.specs.Facts.{ended_pair, freed_lines}
use Rattle.mvs_job.proofs.ends.print_frees.Goals as goal

pub returns-in-Some : goal.returns-in-Some
returns-in-Some g c = λ number.
    subst (λ e. Prints g.W.Write.contents c.args.writer.now c.print_fates.new.writer c.print_fates.result (freed_lines c.args.subpools.now e)) (ap (option_map ended_pair) (sym c.in-Some.is) ∙ c.ended_tasks.ensures number c.requires) c.print_fates.ensures

pub returns-in-None : goal.returns-in-None
returns-in-None g c = λ number.
    let none = ap (option_map ended_pair) (sym c.in-None.is) ∙ c.ended_tasks.ensures number c.requires in
    rw (← none) (record { bytes = Appends-nil (g.W.Write.contents c.args.writer.now.inner); ok = refl; err = tt })
