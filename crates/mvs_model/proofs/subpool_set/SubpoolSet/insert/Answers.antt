use Rattle.std.proofs.Common.{ap, sym, ◌∙◌, arith, ◌||◌, ◌==◌}
use Rattle.mvs_model.specs.Storage.{is_one_of}
use Rattle.mvs_model.proofs.SubpoolSets.{members_is, members_rise, member_more, subpools_more, in_set}
use Rattle.mvs_model.proofs.subpool_set.SubpoolSet.insert.Goals as goal

pub invariant_of-self : goal.invariant_of-self
invariant_of-self c = subpools_more c.self.inside.words c.get-at.result c.one_bit.result (omega (arith, c.get-at.ensures.low)) c.one_bit.ensures.same c.one_bit.ensures.others c.get-at.ensures.low c.self.invariant

pub returns-clause-members : goal.returns-clause-members
returns-clause-members c = λ s.
    members_is _ s
    ∙ member_more c.self.inside.words c.get-at.result c.one_bit.result s (omega (arith, c.get-at.ensures.low)) c.one_bit.ensures.same c.one_bit.ensures.others
    ∙ ap (λ b. (s == c.get-at.result) || b) (sym (in_set c.self.inside.words c.args.self.now c.self.view_is s))
    ∙ ap (λ a. (s == a) || is_one_of c.args.self.now s) c.get-at.ensures.value

pub returns-clause-rising : goal.returns-clause-rising
returns-clause-rising c = members_rise _
