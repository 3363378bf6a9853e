use Rattle.std.proofs.Common.{Ok, ◌≡◌, ◌+◌, ◌*◌, ◌∙◌, Some, sym, ap, subst, true, arith}
use Rattle.mvs_model.specs.declared.request.Reply.TheVariants.{Cell}
use Rattle.mvs_model.specs.Storage.{Storage}
use Rattle.mvs_model.specs.Place.{PlaceValue, place_at}
use Rattle.mvs_model.specs.View.{state_of}
use Rattle.mvs_model.specs.Steps.{Tries}
use Rattle.mvs_model.specs.declared.request.Request.TheVariants as request
use Rattle.cell_pool.specs.Layout.{byte_of, count_at, head_length}
use Rattle.cell_pool.specs.Marks.{Marks}
use Rattle.mvs_model.specs.Pools.{IsFreeCell}
use Rattle.cell_pool.specs.Roots.{Root, extended, pool_of, pools_of}
use Rattle.cell_pool.specs.Walk.{IsFreeAt, Fills}
use Rattle.cell_pool.proofs.Walking.{chain_of}
use Rattle.cell_pool.proofs.Opening.{all_taken}
use Rattle.cell_pool.proofs.Getting.{fresh, last_count, no_pool, got, got_free, no_cell, none_free, short, got_more}
use Rattle.cell_pool.proofs.Outcomes.{takes_free, takes_further}
use Rattle.cell_pool.proofs.pools.Pools.get.Goals as goal

pub returns-in_default-clause-answer : goal.returns-in_default-clause-answer
returns-in_default-clause-answer c = no_pool c.args.self.now c.args.store.now.storage c.requires.parts c.args.name.now c.args.conditional (sym c.in_default.ensures)

pub find_spot-spot-requires-clause-chain : goal.find_spot-spot-requires-clause-chain
find_spot-spot-requires-clause-chain c = chain_of c.args.self.now c.args.store.now.storage c.args.name.now c.in-Some.root c.requires.parts (sym c.in-Some.ensures)

pub find_spot-spot-requires-clause-counted : goal.find_spot-spot-requires-clause-counted
find_spot-spot-requires-clause-counted c = c.requires.counted c.args.name.now c.in-Some.root (sym c.in-Some.ensures)

pub returns-then-has_free-clause-answer : goal.returns-then-has_free-clause-answer
returns-then-has_free-clause-answer c o t =
    let s = c.find_spot-spot.result in
    subst (λ p. Tries Cell (state_of c.args.store.now.storage o (pools_of c.args.self.now c.args.store.now.storage)) t (request.Get c.args.name.now c.args.conditional) (Ok c.take_cell.result) (state_of c.take_cell.new.store.storage o p))
    (sym c.take_cell.ensures.pools)
    (got c.args.self.now c.args.store.now.storage c.requires.parts c.args.name.now c.in-Some.root (sym c.in-Some.ensures) s.part s.cell s.taken s.open_part c.take_cell.new.store.storage c.take_cell.result c.find_spot-spot.ensures.free c.take_cell.ensures.taken c.take_cell.ensures.place c.args.conditional o t)

pub returns-then-conditional-clause-answer : goal.returns-then-conditional-clause-answer
returns-then-conditional-clause-answer c =
    let is = sym c.in-Some.ensures in
    let chain = chain_of c.args.self.now c.args.store.now.storage c.args.name.now c.in-Some.root c.requires.parts is in
    no_cell c.args.self.now c.args.store.now.storage c.requires.parts c.args.name.now c.args.conditional c.in-Some.root is (all_taken c.args.store.now.storage c.in-Some.root chain (c.requires.counted c.args.name.now c.in-Some.root is) c.if-has_free.ensures) c.if-conditional.true

pub returns-in_default-extend-clause-answer : goal.returns-in_default-extend-clause-answer
returns-in_default-extend-clause-answer c o t =
    let is = sym c.in-Some.ensures in
    let chain = chain_of c.args.self.now c.args.store.now.storage c.args.name.now c.in-Some.root c.requires.parts is in
    let e = c.in_default-extend.ensures.extended in
    let s = short c.args.self.now c.args.store.now.storage c.requires.parts c.args.name.now c.args.conditional c.in-Some.root is (all_taken c.args.store.now.storage c.in-Some.root chain (c.requires.counted c.args.name.now c.in-Some.root is) c.if-has_free.ensures) c.if-conditional.false e.0 o t in
    (s.0, λ k. state_of (e.1 k) o (pools_of (e.2 k) (e.1 k)))

pub find_spot-spot-requires-2-clause-chain : goal.find_spot-spot-requires-2-clause-chain
find_spot-spot-requires-2-clause-chain c = let x = c.in-Some-extend.ensures in let e = x.extended in chain_of c.extend.new.self c.extend.new.store.storage c.args.name.now c.in-Some-extend.extended x.agree.parts (e.2.root ∙ ap Some (sym e.1))

pub find_spot-spot-requires-2-clause-counted : goal.find_spot-spot-requires-2-clause-counted
find_spot-spot-requires-2-clause-counted c = let x = c.in-Some-extend.ensures in let e = x.extended in x.agree.counted c.args.name.now c.in-Some-extend.extended (e.2.root ∙ ap Some (sym e.1))

pub find_spot-spot-requires-2-clause-free : goal.find_spot-spot-requires-2-clause-free
find_spot-spot-requires-2-clause-free c =
    let is = sym c.in-Some.ensures in
    let chain = chain_of c.args.self.now c.args.store.now.storage c.args.name.now c.in-Some.root c.requires.parts is in
    let x = c.in-Some-extend.ensures in
    let e = x.extended in
    let free : c.in-Some-extend.extended.free ≡ c.in-Some.root.secondary = ap (λ (r : Root). r.free) e.1 in
    let count = last_count c.args.self.now c.args.store.now.storage c.requires.parts c.args.name.now c.args.conditional c.in-Some.root is (all_taken c.args.store.now.storage c.in-Some.root chain (c.requires.counted c.args.name.now c.in-Some.root is) c.if-has_free.ensures) e.0 c.extend.new.self c.extend.new.store.storage e.2 x.agree.parts in
    let some = e.2.free.is_cell in
    omega arith

pub take_cell-requires-2-clause-root : goal.take_cell-requires-2-clause-root
take_cell-requires-2-clause-root c = let e = c.in-Some-extend.ensures.extended in e.2.root ∙ ap Some (sym e.1)

pub returns-clause-answer : goal.returns-clause-answer
returns-clause-answer c o t =
    let is = sym c.in-Some.ensures in
    let chain = chain_of c.args.self.now c.args.store.now.storage c.args.name.now c.in-Some.root c.requires.parts is in
    let x = c.in-Some-extend.ensures in
    let e = x.extended in
    let mid = c.extend.new.store.storage in
    let s = c.find_spot-spot-2.result in
    let taken = c.take_cell-2.ensures in
    subst (λ p. Tries Cell (state_of c.args.store.now.storage o (pools_of c.args.self.now c.args.store.now.storage)) t (request.Get c.args.name.now c.args.conditional) (Ok c.take_cell-2.result) (state_of c.take_cell-2.new.store.storage o p))
    (sym taken.pools)
    (got_more c.args.self.now c.args.store.now.storage c.requires.parts c.args.name.now c.args.conditional c.in-Some.root is (all_taken c.args.store.now.storage c.in-Some.root chain (c.requires.counted c.args.name.now c.in-Some.root is) c.if-has_free.ensures)
    e.0 c.extend.new.self mid e.2 x.agree.parts s.part s.cell s.taken s.open_part (subst (λ (r : Root). IsFreeAt mid r s.part s.cell s.taken s.open_part) e.1 c.find_spot-spot-2.ensures.free) c.take_cell-2.new.store.storage c.take_cell-2.result
    (subst (λ (r : Root). (last : Storage) × Marks mid s.part s.cell true (s.taken + 1) last × Fills last c.take_cell-2.result r.fill c.take_cell-2.new.store.storage) e.1 taken.taken)
    (subst (λ (r : Root). c.take_cell-2.result ≡ place_at (s.part + head_length (count_at (byte_of mid) s.part) + s.cell * r.cell_size) r.cell_size) e.1 taken.place)
    c.if-conditional.false o t)

pub returns-then-has_free-clause-hint : goal.returns-then-has_free-clause-hint
returns-then-has_free-clause-hint c o a e =
    let is = sym c.in-Some.ensures in
    let s = c.find_spot-spot.result in
    let spot = c.find_spot-spot.ensures in
    let taken = c.take_cell.ensures in
    takes_free c.args.self.now c.args.store.now.storage c.requires.parts c.args.name.now c.in-Some.root is o a c.args.first c.take_cell.result _
    (got_free c.args.self.now c.args.store.now.storage c.requires.parts c.args.name.now c.in-Some.root is s.part s.cell s.taken s.open_part c.take_cell.new.store.storage c.take_cell.result spot.free taken.taken taken.place)
    (λ f. ap (λ (p : PlaceValue). p.addr) taken.place ∙ ap (λ n. s.part + head_length n + s.cell * c.in-Some.root.cell_size) (sym spot.count) ∙ sym (spot.hint a e f))

pub returns-clause-hint : goal.returns-clause-hint
returns-clause-hint c o a hint =
    let is = sym c.in-Some.ensures in
    let chain = chain_of c.args.self.now c.args.store.now.storage c.args.name.now c.in-Some.root c.requires.parts is in
    let all = all_taken c.args.store.now.storage c.in-Some.root chain (c.requires.counted c.args.name.now c.in-Some.root is) c.if-has_free.ensures in
    let x = c.in-Some-extend.ensures in
    let e = x.extended in
    let s = c.find_spot-spot-2.result in
    let spot = c.find_spot-spot-2.ensures in
    takes_further c.args.self.now c.args.store.now.storage c.requires.parts c.args.name.now c.in-Some.root is o a c.args.first c.take_cell-2.result (none_free c.args.self.now c.args.store.now.storage c.requires.parts c.args.name.now c.args.conditional c.in-Some.root is all)
    (λ q i may first low at.
    let put : Some c.in-Some-extend.extended ≡ Some (extended c.in-Some.root q.addr) = x.hint q first may in
    let same : c.in-Some-extend.extended ≡ extended c.in-Some.root q.addr = cc in
    let here : e.0 ≡ q.addr = ap (λ (r : Root). r.last) (sym e.1 ∙ same) in
    let free = fresh c.args.self.now c.args.store.now.storage c.requires.parts c.args.name.now c.args.conditional c.in-Some.root is all e.0 c.extend.new.self c.extend.new.store.storage e.2 x.agree.parts i a low (at ∙ ap (λ b. b + head_length c.in-Some.root.secondary + i * c.in-Some.root.cell_size) (sym here)) in
    ap (λ (p : PlaceValue). p.addr) c.take_cell-2.ensures.place ∙ ap (λ n. s.part + head_length n + s.cell * c.in-Some-extend.extended.cell_size) (sym spot.count)
    ∙ sym (spot.hint a hint (subst (λ (r : Root). IsFreeCell (pool_of (byte_of c.extend.new.store.storage) r) a) (sym e.1) free)))
