use Rattle.std.proofs.Common.{[], ◌∷◌, codes}
use Rattle.mvs_model.specs.declared.code.Family.TheVariants.{Located}
use Rattle.mvs_model.specs.Codes as table
use Rattle.judge.specs.Outline.{abend_opening}
use Rattle.judge.proofs.Begun.{more_begun, one_begun}
use Rattle.judge.proofs.openings.begins_build.Goals as goal

pub returns : goal.returns
returns c =
    let f = abend_opening (table.short Located) in
    let g = abend_opening table.too_many_pools in
    more_begun c.args.continued.now.line_number c.args.continued.now.task c.args.continued.now.text.now (codes "RC 0\n") (f ∷ g ∷ []) _ _ c.in_ok-is_granted.ensures (more_begun c.args.continued.now.line_number c.args.continued.now.task c.args.continued.now.text.now f (g ∷ []) _ _ c.in_ok-is_short.ensures (one_begun c.args.continued.now.line_number c.args.continued.now.task c.args.continued.now.text.now g _ c.in_ok-is_many.ensures))
