use Rattle.std.proofs.Common.{◌≡◌, ◌+◌, ℕ, true, false, refl, sym, ap, ◌∙◌}
use Rattle.area_history.specs.LastAreas.{is_last, is_whole, later_numbers, no_numbers, numbers_at}
use Rattle.area_history.specs.Leaking.{has_doubleword, value_at}
use Rattle.area_history.specs.declared.grant.AreaGrant.{AreaGrant}
use Rattle.area_history.specs.declared.last_areas.LastAreas.{LastAreas}
use Rattle.area_history.proofs.Indexing.{numbers_next}
use Rattle.area_history.proofs.Releasing.{item_here}
use Rattle.area_history.proofs.Visibly.{index_next, index_same}
use Rattle.area_history.proofs.last_areas.LastAreas.add.Goals as goal

pub returns-in_default-clause-index : goal.returns-in_default-clause-index
returns-in_default-clause-index c =
    let old = c.args.self.now in
    let grown : (d : ℕ) → value_at c.grow.new.self no_numbers d ≡ numbers_at old d = λ d. ap (λ f. value_at c.grow.new.self f d) (sym c.no_numbers.ensures) ∙ c.grow.ensures.values d ∙ ap (λ f. value_at old.numbers f d) c.no_numbers.ensures in
    index_same old _ c.args.grants.now c.requires.index refl refl refl grown

pub returns-then-not-add_number-clause-index : goal.returns-then-not-add_number-clause-index
returns-then-not-add_number-clause-index c =
    let old = c.args.self.now in
    let made = c.add_number.ensures in
    let grown : (d : ℕ) → value_at c.grow.new.self no_numbers d ≡ numbers_at old d = λ d. ap (λ f. value_at c.grow.new.self f d) (sym c.no_numbers.ensures) ∙ c.grow.ensures.values d ∙ ap (λ f. value_at old.numbers f d) c.no_numbers.ensures in
    index_same old c.add_number.new.self c.args.grants.now c.requires.index made.count (made.same_whole c.if-not-add_number.true) (made.same_visible c.if-not-add_number.true) (λ d. ap (λ v. value_at v no_numbers d) made.numbers ∙ grown d)

pub returns-clause-index : goal.returns-clause-index
returns-clause-index c =
    let old = c.args.self.now in
    let grants = c.args.grants.now in
    let g = c.index-grants-self.result in
    let mid = c.add_number.new.self in
    let put = c.put.new.self in
    let made = c.add_number.ensures in
    let done = c.if-not-add_number.false in
    let new : LastAreas = record { numbers = put.numbers; count = old.count + 1; whole = put.whole; visible = put.visible; alloc = put.alloc } in
    let grown : (d : ℕ) → value_at c.grow.new.self no_numbers d ≡ numbers_at old d = λ d. ap (λ f. value_at c.grow.new.self f d) (sym c.no_numbers.ensures) ∙ c.grow.ensures.values d ∙ ap (λ f. value_at old.numbers f d) c.no_numbers.ensures in
    let same : (d : ℕ) → numbers_at mid d ≡ numbers_at old d = λ d. ap (λ v. value_at v no_numbers d) made.numbers ∙ grown d in
    let is = c.index-grants-self.is in
    let put_numbers : (d : ℕ) → numbers_at put d ≡ later_numbers d (old.count + 1) (numbers_at mid d) g.place = λ d. c.put.ensures.numbers d ∙ ap (λ (v : AreaGrant). later_numbers d (old.count + 1) (numbers_at mid d) v.place) (sym is) in
    let put_whole : (n : ℕ) → is_whole put n ≡ true → (is_whole mid n ≡ true) × ((d : ℕ) → has_doubleword g.place d ≡ true → is_last mid n d ≡ false) = λ n h. let both = c.put.ensures.whole n h in (both.0, λ d has. both.1 d (ap (λ (v : AreaGrant). has_doubleword v.place d) (sym is) ∙ has)) in
    index_next old mid new grants g c.requires.index (item_here grants old.count g c.requires.next c.index-grants-self.is) same (made.whole done) (made.visible done) refl c.put.ensures.len (ap (λ v. v.items) c.put.ensures.visible) put_numbers put_whole
    (numbers_next old mid new grants g c.requires.index c.requires.next is refl same put_numbers)
