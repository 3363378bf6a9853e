use Rattle.std.proofs.Common.{◌≡◌, ℕ, ◌+◌, Some, subst, cond, ap, refl, ◌∙◌, arith}
use Rattle.std.specs.Prelude.{is_some}
use Rattle.std.specs.FinMap.{get}
use Rattle.mvs_model.specs.Name.{same_name}
use Rattle.mvs_model.specs.Requests.{Plan, new_pool}
use Rattle.mvs_model.specs.Changes.{Extends, with_part}
use Rattle.mvs_model.specs.Owners.{Owners}
use Rattle.mvs_model.specs.Place.{PlaceValue}
use Rattle.mvs_model.specs.Pools.{part_want}
use Rattle.mvs_model.specs.Storage.{Chosen, holder}
use Rattle.mvs_model.specs.View.{state_of}
use Rattle.mvs_model.proofs.PoolPut.{put_here}
use Rattle.cell_pool.specs.Layout.{head_length}
use Rattle.cell_pool.specs.Roots.{pools_of}
use Rattle.cell_pool.proofs.Only.{nobody}
use Rattle.cell_pool.proofs.Outcomes.{is_first_after}
use Rattle.mvs_model.specs.declared.want.Side.{Side}
use Rattle.cell_pool.proofs.Pooled.{is_fresh, has_room, in_use, too_many, no_room}
use Rattle.cell_pool.proofs.Built.{built, built_agrees, built_counted, fill_is, lays_is, no_root}
use Rattle.cell_pool.proofs.pools.Pools.build.Goals as goal

abbrev plan_of : ℕ → ℕ → ℕ → Side → Plan
plan_of size primary secondary side = record { cell_size = size; primary = primary; secondary = secondary; side = side }

pub returns-then-is_some-clause-refused : goal.returns-then-is_some-clause-refused
returns-then-is_some-clause-refused c = in_use c.args.self.now c.args.store.now.storage c.args.name.now c.args.subpool c.args.plan.now c.is_some.result (c.is_some.ensures ∙ ap is_some c.find.ensures) c.if-is_some.true

pub returns-then-len-ge-MOST_POOLS-clause-refused : goal.returns-then-len-ge-MOST_POOLS-clause-refused
returns-then-len-ge-MOST_POOLS-clause-refused c =
    let now = is_fresh c.args.self.now c.args.store.now.storage c.args.name.now c.args.subpool c.args.plan.now c.is_some.result (c.is_some.ensures ∙ ap is_some c.find.ensures) c.if-is_some.false in
    too_many c.args.self.now c.args.store.now.storage c.args.name.now c.args.subpool c.args.plan.now now (let l = c.if-len-ge-MOST_POOLS.true in let e = c.len.ensures in omega arith)

pub returns-in_default-clause-refused : goal.returns-in_default-clause-refused
returns-in_default-clause-refused c = rw (← c.plan.view_is) (
    let plan = plan_of c.plan.inside.cell_size c.plan.inside.primary c.plan.inside.secondary c.plan.inside.side in
    let now = is_fresh c.args.self.now c.args.store.now.storage c.args.name.now c.args.subpool plan c.is_some.result (c.is_some.ensures ∙ ap is_some c.find.ensures) c.if-is_some.false in
    no_room c.args.self.now c.args.store.now.storage c.args.name.now c.args.subpool plan now (let l = c.if-len-ge-MOST_POOLS.false in let e = c.len.ensures in omega arith) c.in_default.ensures.obtained.0)

-- the pool with its first part
built_there : (c : goal.After-insert) → (o after : Owners) → Extends (state_of c.args.store.now.storage o (pools_of c.args.self.now c.args.store.now.storage)) c.args.name.now (new_pool c.args.subpool (plan_of c.plan.inside.cell_size c.plan.inside.primary c.plan.inside.secondary c.plan.inside.side)) c.plan.inside.primary c.in-Some.place after
    (state_of c.lay_out.new.store.storage after (pools_of c.insert.new.self c.lay_out.new.store.storage))
built_there c =
    let g = c.in-Some.ensures.obtained in
    let plan = plan_of c.plan.inside.cell_size c.plan.inside.primary c.plan.inside.secondary c.plan.inside.side in
    let fresh = no_root (get c.args.self.now c.args.name.now) c.find.result c.is_some.result c.find.ensures c.is_some.ensures c.if-is_some.false in
    built c.args.self.now c.args.store.now.storage c.obtain_part.new.store.storage c.lay_out.new.store.storage c.requires.parts g.1 c.args.name.now fresh c.args.subpool plan _ c.in-Some.place g.0 refl
    (lays_is c.obtain_part.new.store.storage c.lay_out.new.store.storage _ _ _ _ _ _ (c.get-2.ensures.value ∙ c.addr-first.ensures) c.get-3.ensures.value c.get-4.ensures.value c.lay_out.ensures)
    c.byte-fill.result (fill_is c.args.store.now.storage c.obtain_part.new.store.storage _ _ c.in-Some.place g.0 c.get.result c.byte-fill.result (c.get.ensures.value ∙ c.addr-first.ensures) c.byte-fill.ensures (let l = g.0.chosen.length.least in omega arith)) c.insert.new.self
    (λ n. c.insert.ensures n ∙ (λ k. cond (same_name n c.args.name.now) (Some (record { subpool = c.args.subpool; cell_size = plan.cell_size; primary = plan.primary; secondary = plan.secondary; side = plan.side; fill = c.byte-fill.result; count = 1; first = c.addr-first.ensures k; last = c.addr-first.ensures k; free = (c.from.ensures ∙ c.get-5.ensures.value) k; open_part = c.addr-first.ensures k })) (get c.args.self.now n)))
    (let v = c.get-4.ensures.value in let l = c.get-4.ensures.low in omega arith) (let v = c.get-4.ensures.value in let l = c.get-4.ensures.high in omega arith)
    (let v = c.get-3.ensures.value in let l = c.get-3.ensures.low in omega arith) (let v = c.get-3.ensures.value in let l = c.get-3.ensures.high in omega arith)

pub returns-clause-built : goal.returns-clause-built
returns-clause-built c = rw (← c.plan.view_is) (
    let g = c.in-Some.ensures.obtained in
    let plan = plan_of c.plan.inside.cell_size c.plan.inside.primary c.plan.inside.secondary c.plan.inside.side in
    let fresh = no_root (get c.args.self.now c.args.name.now) c.find.result c.is_some.result c.find.ensures c.is_some.ensures c.if-is_some.false in
    let now = is_fresh c.args.self.now c.args.store.now.storage c.args.name.now c.args.subpool plan c.is_some.result (c.is_some.ensures ∙ ap is_some c.find.ensures) c.if-is_some.false in
    record {
      fresh = now;
      room = has_room c.args.self.now c.args.store.now.storage c.args.name.now c.args.subpool plan now (let l = c.if-len-ge-MOST_POOLS.false in let e = c.len.ensures in omega arith);
      place = c.in-Some.place;
      extends = built_there c;
    })

pub returns-clause-agree : goal.returns-clause-agree
returns-clause-agree c =
    let g = c.in-Some.ensures.obtained in
    let plan = plan_of c.plan.inside.cell_size c.plan.inside.primary c.plan.inside.secondary c.plan.inside.side in
    let fresh = no_root (get c.args.self.now c.args.name.now) c.find.result c.is_some.result c.find.ensures c.is_some.ensures c.if-is_some.false in
    record {
      parts = built_agrees c.args.self.now c.args.store.now.storage c.obtain_part.new.store.storage c.lay_out.new.store.storage c.requires.parts g.1 c.args.name.now fresh c.args.subpool plan _ c.in-Some.place g.0 refl
          (lays_is c.obtain_part.new.store.storage c.lay_out.new.store.storage _ _ _ _ _ _ (c.get-2.ensures.value ∙ c.addr-first.ensures) c.get-3.ensures.value c.get-4.ensures.value c.lay_out.ensures)
          c.byte-fill.result (fill_is c.args.store.now.storage c.obtain_part.new.store.storage _ _ c.in-Some.place g.0 c.get.result c.byte-fill.result (c.get.ensures.value ∙ c.addr-first.ensures) c.byte-fill.ensures (let l = g.0.chosen.length.least in omega arith)) c.insert.new.self
          (λ n. c.insert.ensures n ∙ (λ k. cond (same_name n c.args.name.now) (Some (record { subpool = c.args.subpool; cell_size = plan.cell_size; primary = plan.primary; secondary = plan.secondary; side = plan.side; fill = c.byte-fill.result; count = 1; first = c.addr-first.ensures k; last = c.addr-first.ensures k; free = (c.from.ensures ∙ c.get-5.ensures.value) k; open_part = c.addr-first.ensures k })) (get c.args.self.now n)))
          (let v = c.get-4.ensures.value in let l = c.get-4.ensures.low in omega arith) (let v = c.get-4.ensures.value in let l = c.get-4.ensures.high in omega arith)
          (let v = c.get-3.ensures.value in let l = c.get-3.ensures.low in omega arith) (let v = c.get-3.ensures.value in let l = c.get-3.ensures.high in omega arith);
      counted = built_counted c.args.self.now c.args.store.now.storage c.obtain_part.new.store.storage c.lay_out.new.store.storage c.requires.parts g.1 c.args.name.now fresh c.args.subpool plan _ c.in-Some.place g.0 refl
          (lays_is c.obtain_part.new.store.storage c.lay_out.new.store.storage _ _ _ _ _ _ (c.get-2.ensures.value ∙ c.addr-first.ensures) c.get-3.ensures.value c.get-4.ensures.value c.lay_out.ensures)
          c.byte-fill.result (fill_is c.args.store.now.storage c.obtain_part.new.store.storage _ _ c.in-Some.place g.0 c.get.result c.byte-fill.result (c.get.ensures.value ∙ c.addr-first.ensures) c.byte-fill.ensures (let l = g.0.chosen.length.least in omega arith)) c.insert.new.self
          (λ n. c.insert.ensures n ∙ (λ k. cond (same_name n c.args.name.now) (Some (record { subpool = c.args.subpool; cell_size = plan.cell_size; primary = plan.primary; secondary = plan.secondary; side = plan.side; fill = c.byte-fill.result; count = 1; first = c.addr-first.ensures k; last = c.addr-first.ensures k; free = (c.from.ensures ∙ c.get-5.ensures.value) k; open_part = c.addr-first.ensures k })) (get c.args.self.now n)))
          (let v = c.get-4.ensures.value in let l = c.get-4.ensures.low in omega arith) (let v = c.get-4.ensures.value in let l = c.get-4.ensures.high in omega arith)
          (let v = c.get-3.ensures.value in let l = c.get-3.ensures.low in omega arith) (let v = c.get-3.ensures.value in let l = c.get-3.ensures.high in omega arith) c.requires.counted;
    }

pub returns-clause-hint : goal.returns-clause-hint
returns-clause-hint c a e q chosen first =
    let st = c.args.store.now.storage in
    let now = c.args.plan.now in
    let hint = subst (λ (plan : Plan). (q : PlaceValue) → c.args.hint ≡ Some (q.addr + head_length plan.primary) → Chosen st.regions (holder st) c.args.subpool (part_want plan.cell_size plan.primary plan.side) q → Some c.in-Some.place ≡ Some q) c.plan.view_is c.in-Some.ensures.hint in
    let here : Some c.in-Some.place ≡ Some q = hint q (e ∙ ap Some (first ∙ is_first_after (new_pool c.args.subpool now) now.primary _ _ q chosen)) chosen in
    let same : c.in-Some.place ≡ q = cc in
    let put = subst (λ (plan : Plan). get (pools_of c.insert.new.self c.lay_out.new.store.storage) c.args.name.now ≡ Some (with_part (new_pool c.args.subpool plan) plan.primary c.in-Some.place)) c.plan.view_is
    (put_here (state_of st nobody (pools_of c.args.self.now st)) (state_of c.lay_out.new.store.storage nobody (pools_of c.insert.new.self c.lay_out.new.store.storage)) c.args.name.now _ (built_there c nobody nobody).pools) in
    put ∙ ap (λ (p : PlaceValue). Some (with_part (new_pool c.args.subpool now) now.primary p)) same
