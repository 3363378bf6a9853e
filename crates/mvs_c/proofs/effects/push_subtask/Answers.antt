use Rattle.std.proofs.Common.{◌≡◌, ℕ, ◌++◌, List, length, ap, sym, ◌∙◌, arith}
use Rattle.std.proofs.lemmas.List.{append_assoc}
use Rattle.mvs_c.specs.declared.effect.EffectFields.{EffectFields}
use Rattle.mvs_model.specs.Reports.{each_below}
use Rattle.request_forms.specs.Facts.{listed}
use Rattle.mvs_c.specs.Effects.{attach_effects, created_effect, subtask_effect}
use Rattle.mvs_job.proofs.Numbers.{each_next, each_none}
use Rattle.mvs_c.proofs.effects.push_subtask.Goals as goal

pub loop-n-init : goal.loop-n-init
loop-n-init c = record {
  few = (let e = ap length c.requires in omega (arith, e));
  each = c.requires ∙ sym (each_none (attach_effects c.args.before.now c.args.job.now c.args.attaching.now c.args.subtask.now));
}

pub loop-n-preserved : goal.loop-n-preserved
loop-n-preserved c =
    let created = created_effect c.args.before.now c.args.job.now c.args.attaching.now in
    let has = subtask_effect c.args.job.now c.args.attaching.now c.args.subtask.now in
    let row = attach_effects c.args.before.now c.args.job.now c.args.attaching.now c.args.subtask.now in
    let n = c.loop-n.n in
    let first : c.push_some.new.effects ≡ each_below n row ++ listed (created n) =
    c.push_some.ensures.effects ∙ ap (λ (z : List EffectFields). z ++ listed c.created_effect.result) c.loop-n.invariant.each ∙ ap (λ v. each_below n row ++ listed v) (c.created_effect.ensures ∙ ap created c.of-number.ensures) in
    record {
      few = omega (arith, c.push_some.ensures.len, c.push_some-in-loop-n.ensures.len, c.loop-n.invariant.few);
      each = c.push_some-in-loop-n.ensures.effects ∙ ap (λ (z : List EffectFields). z ++ listed c.subtask_effect.result) first ∙ ap (λ v. (each_below n row ++ listed (created n)) ++ listed v) (c.subtask_effect.ensures ∙ ap has c.of-number.ensures) ∙ append_assoc (each_below n row) (listed (created n)) (listed (has n)) ∙ sym (each_next row n);
    }
