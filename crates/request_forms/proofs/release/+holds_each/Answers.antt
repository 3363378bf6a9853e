use Rattle.std.proofs.Common.{subst}
use Rattle.std.specs.Prelude.{IsTrue, ◌↔◌}
use Rattle.mvs_model.specs.Changes.{HeldPlain}
use Rattle.mvs_model.specs.Requests.{whole}
use Rattle.request_forms.specs.Machine.{machine_state}
use Rattle.request_forms.proofs.Split.{first_and_others, others}
use Rattle.request_forms.proofs.Places.{refuted, decided, fails_first, passes_first}
use Rattle.request_forms.proofs.release.+holds_each.Goals as goal

pub returns-then-not-holds_plain : goal.returns-then-not-holds_plain
returns-then-not-holds_plain t c = λ o.
    fails_first (HeldPlain (machine_state c.args.pools.now c.args.store.now.storage o) c.args.subpool) whole c.args.places.now (others c.args.places.now) c.place-item.result (first_and_others c.args.places.now c.place-item.result c.in-len1-up.len_at_least c.place-item.is)
    (refuted {P = HeldPlain (machine_state c.args.pools.now c.args.store.now.storage o) c.args.subpool (whole c.place-item.result)} c.holds_plain.result c.if-not-holds_plain.true
    (subst (λ p. IsTrue c.holds_plain.result ↔ HeldPlain (machine_state c.args.pools.now c.args.store.now.storage o) c.args.subpool p) c.whole.ensures (c.holds_plain.ensures o)))

pub returns : goal.returns
returns t c = λ o.
    passes_first (HeldPlain (machine_state c.args.pools.now c.args.store.now.storage o) c.args.subpool) whole c.args.places.now (others c.args.places.now) c.place-item.result c.holds_each.result (first_and_others c.args.places.now c.place-item.result c.in-len1-up.len_at_least c.place-item.is)
    (decided {P = HeldPlain (machine_state c.args.pools.now c.args.store.now.storage o) c.args.subpool (whole c.place-item.result)} c.holds_plain.result c.if-not-holds_plain.false
    (subst (λ p. IsTrue c.holds_plain.result ↔ HeldPlain (machine_state c.args.pools.now c.args.store.now.storage o) c.args.subpool p) c.whole.ensures (c.holds_plain.ensures o)))
    (c.holds_each.ensures o)
