use Rattle.std.proofs.Common.{◌≡◌, ℕ, ◌≤◌, ◌+◌, ◌-◌, Some, None, cond, sym, ap, subst, ◌∙◌, arith}
use Rattle.std.specs.Prelude.{is_some}
use Rattle.std.specs.FinMap.{get}
use Rattle.mvs_model.specs.declared.name.Name.{Name}
use Rattle.mvs_model.specs.Name.{same_name}
use Rattle.mvs_model.specs.Place.{PlaceValue, place_at}
use Rattle.mvs_model.specs.Storage.{AllHeld, Grant}
use Rattle.mvs_model.specs.Pools.{part_want}
use Rattle.cell_pool.specs.Layout.{byte_of, head_length}
use Rattle.cell_pool.specs.Extended.{MayAdd}
use Rattle.cell_pool.specs.Roots.{Root, extended}
use Rattle.cell_pool.specs.Laying.{PutsWord}
use Rattle.cell_pool.proofs.Bound.{count_bound}
use Rattle.cell_pool.proofs.Walking.{chain_of}
use Rattle.cell_pool.proofs.Built.{lays_is}
use Rattle.cell_pool.proofs.Counted.{full_of_none}
use Rattle.cell_pool.proofs.Extending.{link_held, has_extended, extended_agrees, extended_counted}
use Rattle.cell_pool.proofs.pools.Pools.extend.Goals as goal

pub put_word-requires-clause-held : goal.put_word-requires-clause-held
put_word-requires-clause-held c =
    let counted = c.requires.agree.counted c.args.name.now c.args.root.now c.requires.root in
    let chain = chain_of c.args.self.now c.args.store.now.storage c.args.name.now c.args.root.now c.requires.agree.parts c.requires.root in
    let some = chain.some in
    let k : ℕ = c.args.root.now.count - 1 in
    let more : c.args.root.now.count ≡ k + 1 = omega arith in
    let g = c.in_ok-place.ensures.obtained in
    let grant = subst (λ (r : Root). Grant c.args.store.now.storage r.subpool (part_want r.cell_size r.secondary r.side) c.in_ok-place.place c.obtain_part.new.store.storage) c.root.view_is g.0 in
    let lays = lays_is c.obtain_part.new.store.storage c.lay_out.new.store.storage _ _ _ _ _ _ (c.get.ensures.value ∙ c.addr-part.ensures) (c.get-2.ensures.value ∙ ap (λ (r : Root). r.secondary) c.root.view_is) c.cell_size.ensures.size c.lay_out.ensures in
    subst (λ b. AllHeld c.lay_out.new.store.storage (place_at b 4)) (sym (c.last.ensures.last ∙ counted.last k more)) (link_held c.args.self.now c.args.store.now.storage c.obtain_part.new.store.storage c.lay_out.new.store.storage c.requires.agree.parts g.1 c.args.name.now c.args.root.now c.requires.root c.in_ok-place.place grant lays k more)

pub with_part-extended-requires : goal.with_part-extended-requires
with_part-extended-requires c = let b = count_bound c.args.self.now c.args.store.now.storage c.requires.agree.parts c.args.name.now c.args.root.now c.requires.root in omega arith

pub replace-requires : goal.replace-requires
replace-requires c = ap is_some c.requires.root

pub returns-clause-extended : goal.returns-clause-extended
returns-clause-extended c =
    let counted = c.requires.agree.counted c.args.name.now c.args.root.now c.requires.root in
    let chain = chain_of c.args.self.now c.args.store.now.storage c.args.name.now c.args.root.now c.requires.agree.parts c.requires.root in
    let some = chain.some in
    let k : ℕ = c.args.root.now.count - 1 in
    let more : c.args.root.now.count ≡ k + 1 = omega arith in
    let g = c.in_ok-place.ensures.obtained in
    let part = c.get.ensures.value ∙ c.addr-part.ensures in
    let grant = subst (λ (r : Root). Grant c.args.store.now.storage r.subpool (part_want r.cell_size r.secondary r.side) c.in_ok-place.place c.obtain_part.new.store.storage) c.root.view_is g.0 in
    let second = c.get-2.ensures.value ∙ ap (λ (r : Root). r.secondary) c.root.view_is in
    let lays = lays_is c.obtain_part.new.store.storage c.lay_out.new.store.storage _ _ _ _ _ _ part second c.cell_size.ensures.size c.lay_out.ensures in
    let w = subst (λ b. PutsWord c.lay_out.new.store.storage b c.in_ok-place.place.addr c.put_word.new.store.storage) (c.last.ensures.last ∙ counted.last k more) (subst (λ b. PutsWord c.lay_out.new.store.storage c.last.result b c.put_word.new.store.storage) (c.get-3.ensures.value ∙ c.addr-part.ensures) c.put_word.ensures) in
    let now = λ (n : Name). c.replace.ensures n ∙ ap (λ (r : Root). cond (same_name n c.args.name.now) (Some r) (get c.args.self.now n)) (c.with_part-extended.ensures ∙ ap (extended c.args.root.now) c.addr-part.ensures) in
    (c.in_ok-place.place.addr, c.with_part-extended.ensures ∙ ap (extended c.args.root.now) c.addr-part.ensures, has_extended c.args.self.now c.args.store.now.storage c.obtain_part.new.store.storage c.lay_out.new.store.storage c.put_word.new.store.storage c.requires.agree.parts g.1 c.args.name.now c.args.root.now c.requires.root c.in_ok-place.place grant lays k more w c.replace.new.self now (subst (λ n. 1 ≤ n) second c.get-2.ensures.low) (subst (λ n. n ≤ 65536) second c.get-2.ensures.high) (full_of_none (byte_of c.args.store.now.storage) c.args.root.now.first c.args.root.now.count (sym counted.free ∙ c.requires.full)))

pub returns-clause-agree : goal.returns-clause-agree
returns-clause-agree c =
    let counted = c.requires.agree.counted c.args.name.now c.args.root.now c.requires.root in
    let chain = chain_of c.args.self.now c.args.store.now.storage c.args.name.now c.args.root.now c.requires.agree.parts c.requires.root in
    let some = chain.some in
    let k : ℕ = c.args.root.now.count - 1 in
    let more : c.args.root.now.count ≡ k + 1 = omega arith in
    let g = c.in_ok-place.ensures.obtained in
    let part = c.get.ensures.value ∙ c.addr-part.ensures in
    let grant = subst (λ (r : Root). Grant c.args.store.now.storage r.subpool (part_want r.cell_size r.secondary r.side) c.in_ok-place.place c.obtain_part.new.store.storage) c.root.view_is g.0 in
    let second = c.get-2.ensures.value ∙ ap (λ (r : Root). r.secondary) c.root.view_is in
    let lays = lays_is c.obtain_part.new.store.storage c.lay_out.new.store.storage _ _ _ _ _ _ part second c.cell_size.ensures.size c.lay_out.ensures in
    let w = subst (λ b. PutsWord c.lay_out.new.store.storage b c.in_ok-place.place.addr c.put_word.new.store.storage) (c.last.ensures.last ∙ counted.last k more) (subst (λ b. PutsWord c.lay_out.new.store.storage c.last.result b c.put_word.new.store.storage) (c.get-3.ensures.value ∙ c.addr-part.ensures) c.put_word.ensures) in
    let now = λ (n : Name). c.replace.ensures n ∙ ap (λ (r : Root). cond (same_name n c.args.name.now) (Some r) (get c.args.self.now n)) (c.with_part-extended.ensures ∙ ap (extended c.args.root.now) c.addr-part.ensures) in
    record {
      parts = extended_agrees c.args.self.now c.args.store.now.storage c.obtain_part.new.store.storage c.lay_out.new.store.storage c.put_word.new.store.storage c.requires.agree.parts g.1 c.args.name.now c.args.root.now c.requires.root c.in_ok-place.place grant lays k more w c.replace.new.self now (subst (λ n. 1 ≤ n) second c.get-2.ensures.low) (subst (λ n. n ≤ 65536) second c.get-2.ensures.high) (full_of_none (byte_of c.args.store.now.storage) c.args.root.now.first c.args.root.now.count (sym counted.free ∙ c.requires.full));
      counted = extended_counted c.args.self.now c.args.store.now.storage c.obtain_part.new.store.storage c.lay_out.new.store.storage c.put_word.new.store.storage c.requires.agree.parts g.1 c.args.name.now c.args.root.now c.requires.root c.in_ok-place.place grant lays k more w c.replace.new.self now (subst (λ n. 1 ≤ n) second c.get-2.ensures.low) (subst (λ n. n ≤ 65536) second c.get-2.ensures.high) (full_of_none (byte_of c.args.store.now.storage) c.args.root.now.first c.args.root.now.count (sym counted.free ∙ c.requires.full)) c.requires.agree.counted;
    }

pub returns-in_err-place-clause-hint : goal.returns-in_err-place-clause-hint
returns-in_err-place-clause-hint c q e chosen =
    let hint = subst (λ (r : Root). (q : PlaceValue) → c.args.hint ≡ Some (q.addr + head_length r.secondary) → MayAdd c.args.store.now.storage r q → None ≡ Some q) c.root.view_is c.in_err-place.ensures.hint in
    absurd (let never : None ≡ Some q = hint q e chosen in cc)

pub returns-clause-hint : goal.returns-clause-hint
returns-clause-hint c q e chosen =
    let hint = subst (λ (r : Root). (q : PlaceValue) → c.args.hint ≡ Some (q.addr + head_length r.secondary) → MayAdd c.args.store.now.storage r q → Some c.in_ok-place.place ≡ Some q) c.root.view_is c.in_ok-place.ensures.hint in
    let here : Some c.in_ok-place.place ≡ Some q = hint q e chosen in
    let same : c.in_ok-place.place ≡ q = cc in
    ap Some (c.with_part-extended.ensures ∙ ap (extended c.args.root.now) (c.addr-part.ensures ∙ ap (λ (p : PlaceValue). p.addr) same))
