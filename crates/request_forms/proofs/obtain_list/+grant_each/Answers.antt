use Rattle.std.proofs.Common.{List, [], ◌∷◌, ◌≡◌, ◌++◌, subst}
use Rattle.mvs_model.specs.Place.{PlaceValue}
use Rattle.mvs_model.specs.Storage.{Grant, Release}
use Rattle.mvs_model.specs.Want.{fixed_want}
use Rattle.mvs_model.specs.declared.want.Side.TheVariants.{Below}
use Rattle.request_forms.specs.Lists.{GrantsEach, LacksIn, list_wants, so_far}
use Rattle.request_forms.proofs.Listing.{first_granted, first_short, first_taken_back, takes_first}
use Rattle.request_forms.proofs.Split.{first_and_others, others}
use Rattle.request_forms.proofs.obtain_list.+grant_each.Goals as goal

pub returns-in-Ok-clause-places : goal.returns-in-Ok-clause-places
returns-in-Ok-clause-places t c =
    first_granted c.args.store.now.storage c.obtain.new.self.storage c.grant_each.new.store.storage c.args.subpool c.args.start c.length-item.result (others c.args.lengths.now) c.args.lengths.now c.args.hints.now c.in-Some-obtain.place _ c.in-Ok.places
    (first_and_others c.args.lengths.now c.length-item.result c.in-len1-up.len_at_least c.length-item.is) c.obtain.ensures.storage
    (subst (λ w. Grant c.args.store.now.storage c.args.subpool w c.in-Some-obtain.place c.obtain.new.self.storage) c.fixed-want.ensures c.in-Some-obtain.ensures.grant)
    (takes_first c.args.store.now.storage c.args.subpool c.fixed-want.result _ c.first_hint.result c.args.hints.now c.in-Some-obtain.place c.fixed-want.ensures c.first_hint.ensures c.in-Some-obtain.ensures.hint)
    (subst (λ hints. (more : List PlaceValue) × (c.in-Ok.places ≡ (so_far c.args.granted ++ c.in-Some-obtain.place ∷ []) ++ more) × GrantsEach c.obtain.new.self.storage c.args.subpool (list_wants (others c.args.lengths.now) c.args.start) hints more c.grant_each.new.store.storage) c.later_hints.ensures
    (subst (λ before. (more : List PlaceValue) × (c.in-Ok.places ≡ before ++ more) × GrantsEach c.obtain.new.self.storage c.args.subpool (list_wants (others c.args.lengths.now) c.args.start) c.later_hints.result.now more c.grant_each.new.store.storage) c.with_place.ensures c.in-Ok.ensures.places))

pub returns-in-Err-clause-places : goal.returns-in-Err-clause-places
returns-in-Err-clause-places t c =
    first_taken_back c.args.store.now.storage c.obtain.new.self.storage c.take_back.new.store.storage c.args.subpool c.args.start c.length-item.result (others c.args.lengths.now) c.args.lengths.now c.in-Some-obtain.place c.in-Err.lack.member c.in-Err.lack.short
    (first_and_others c.args.lengths.now c.length-item.result c.in-len1-up.len_at_least c.length-item.is) c.requires.storage c.obtain.ensures.storage
    (subst (λ w. Grant c.args.store.now.storage c.args.subpool w c.in-Some-obtain.place c.obtain.new.self.storage) c.fixed-want.ensures c.in-Some-obtain.ensures.grant)
    c.in-Err.ensures.places.0 (subst (λ old. Release old c.args.subpool c.in-Some-obtain.place c.take_back.new.store.storage) c.in-Err.ensures.places.1 c.take_back.ensures.released)

pub returns-in_default-obtain-clause-places : goal.returns-in_default-obtain-clause-places
returns-in_default-obtain-clause-places t c = (
  first_short c.args.store.now.storage c.args.subpool c.args.start c.length-item.result (others c.args.lengths.now) c.args.lengths.now c.shortfall.result
      (first_and_others c.args.lengths.now c.length-item.result c.in-len1-up.len_at_least c.length-item.is)
      (subst (λ st. LacksIn st c.args.subpool (fixed_want c.length-item.result c.args.start Below) c.shortfall.result) c.in_default-obtain.ensures.grant.1 (subst (λ w. LacksIn c.obtain.new.self.storage c.args.subpool w c.shortfall.result) c.fixed-want.ensures c.shortfall.ensures)),
  c.in_default-obtain.ensures.grant.1,
)
