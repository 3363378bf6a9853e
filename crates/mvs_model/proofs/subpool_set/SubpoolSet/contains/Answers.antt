use Rattle.std.proofs.Common.{◌/◌, ◌%◌, ◌^◌, eqb, get_or, ap, sym, ◌∙◌}
use Rattle.mvs_model.specs.Storage.{is_one_of}
use Rattle.mvs_model.proofs.SubpoolSets.{in_set, low_bit}
use Rattle.mvs_model.proofs.subpool_set.SubpoolSet.contains.Goals as goal

pub returns : goal.returns
returns c =
    ap (λ x. eqb x 1) (low_bit (get_or c.self.inside.words (c.get-at.result / 64) 0 / 2 ^ (c.get-at.result % 64)))
    ∙ sym (in_set c.self.inside.words c.args.self.now c.self.view_is c.get-at.result)
    ∙ ap (is_one_of c.args.self.now) c.get-at.ensures.value
