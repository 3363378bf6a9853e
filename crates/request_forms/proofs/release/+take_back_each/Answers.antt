use Rattle.std.proofs.Common.{subst, rules}
use Rattle.mvs_model.specs.Storage.{Release}
use Rattle.mvs_model.specs.Requests.{whole, on_doubleword}
use Rattle.request_forms.proofs.Split.{first_and_others, others}
use Rattle.request_forms.proofs.Places.{others_pass, others_held, first_released}
use Rattle.request_forms.proofs.release.+take_back_each.Goals as goal

pub take_back_each-requires : goal.take_back_each-requires
take_back_each-requires t c =
    let split = first_and_others c.args.places.now c.place-item.result c.in-len1-up.len_at_least c.place-item.is in (
      search rules,
      (
        others_pass on_doubleword c.args.places.now (others c.args.places.now) c.place-item.result split c.requires.placed,
        (
          others_held c.args.store.now.storage c.take_back.new.store.storage c.args.subpool whole c.args.places.now (others c.args.places.now) c.place-item.result split c.requires.held
              (subst (λ p. Release c.args.store.now.storage c.args.subpool p c.take_back.new.store.storage) c.whole.ensures c.take_back.ensures.released),
          c.take_back.ensures.storage,
        ),
      ),
    )

pub returns-clause-released : goal.returns-clause-released
returns-clause-released t c =
    first_released c.args.store.now.storage c.take_back.new.store.storage c.take_back_each.new.store.storage c.args.subpool whole c.args.places.now (others c.args.places.now) c.place-item.result
    (first_and_others c.args.places.now c.place-item.result c.in-len1-up.len_at_least c.place-item.is) c.take_back.ensures.storage
    (subst (λ p. Release c.args.store.now.storage c.args.subpool p c.take_back.new.store.storage) c.whole.ensures c.take_back.ensures.released) c.take_back_each.ensures.released
