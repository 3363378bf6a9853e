use Rattle.std.proofs.Common.{[], ◌∷◌, subst}
use Rattle.mvs_model.specs.Codes as table
use Rattle.judge.specs.Outline.{failed}
use Rattle.judge.proofs.Begun.{Front, more_begun, one_begun}
use Rattle.judge.proofs.openings.begins_obtain.Goals as goal

pub returns : goal.returns
returns c =
    let f = failed c.args.form (table.short (table.family c.args.form)) in
    let is_failed = subst (λ code. Front c.args.continued.now.line_number c.args.continued.now.task c.args.continued.now.text.now (failed c.args.form code) c.in_ok-is_failed.is_failed) c.short.ensures c.in_ok-is_failed.ensures in
    more_begun c.args.continued.now.line_number c.args.continued.now.task c.args.continued.now.text.now c.args.granted.now (f ∷ []) _ _ c.in_ok-is_granted.ensures (one_begun c.args.continued.now.line_number c.args.continued.now.task c.args.continued.now.text.now f c.in_ok-is_failed.is_failed is_failed)
