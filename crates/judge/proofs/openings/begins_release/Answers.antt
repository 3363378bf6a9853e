use Rattle.std.proofs.Common.{[], ◌∷◌, codes, subst}
use Rattle.mvs_model.specs.Codes as table
use Rattle.judge.specs.Outline.{abend_opening, failed}
use Rattle.judge.proofs.Begun.{Front, more_begun, one_begun}
use Rattle.judge.proofs.openings.begins_release.Goals as goal

pub returns : goal.returns
returns c =
    let f = failed c.args.form (table.not_held (table.family c.args.form)) in
    let g = abend_opening (table.bad_address (table.family c.args.form)) in
    let is_failed = subst (λ code. Front c.args.continued.now.line_number c.args.continued.now.task c.args.continued.now.text.now (failed c.args.form code) c.in_ok-is_failed.is_failed) c.not_held.ensures c.in_ok-is_failed.ensures in
    let is_off = subst (λ code. Front c.args.continued.now.line_number c.args.continued.now.task c.args.continued.now.text.now (abend_opening code) c.in_ok-is_off.is_off) c.bad_address.ensures c.in_ok-is_off.ensures in
    more_begun c.args.continued.now.line_number c.args.continued.now.task c.args.continued.now.text.now (codes "RC 0\n") (f ∷ g ∷ []) _ _ c.in_ok-is_granted.ensures (more_begun c.args.continued.now.line_number c.args.continued.now.task c.args.continued.now.text.now f (g ∷ []) c.in_ok-is_failed.is_failed c.in_ok-is_off.is_off is_failed (one_begun c.args.continued.now.line_number c.args.continued.now.task c.args.continued.now.text.now g c.in_ok-is_off.is_off is_off))
