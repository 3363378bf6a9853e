use Rattle.std.proofs.Common.{◌≡◌, ◌-◌, ◌*◌, ◌/◌, ◌+◌, ◌<◌, ◌≤◌, Bool, List, false, length, is_some, ap, subst, sym, refl, ◌∙◌, arith}
use Rattle.mvs_model.specs.Storage.{IsBetween}
use Rattle.subpool_store.specs.Edits.{IsGivenUp, IsMarked}
use Rattle.subpool_store.specs.Region.{value_at}
use Rattle.subpool_store.proofs.Exact.{cell_some}
use Rattle.subpool_store.proofs.Methods.{bits_of_run, cells_held, cells_of_run, region_sound, held_inside, give_region, give_changes}
use Rattle.subpool_store.proofs.Opened.{stays_held}
use Rattle.subpool_store.proofs.Marked.{stays_given}
use Rattle.subpool_store.proofs.region_store.RegionStore.give.Goals as goal

pub run_of-run-requires : goal.run_of-run-requires
run_of-run-requires c =
    let s = c.self.inside in
    let inside : IsBetween (8 * s.first) (8 * s.first + 8 * length s.memory.held) c.args.place = held_inside s.first s.memory.held s.pages (value_at s.memory.bytes) c.args.self.now c.self.invariant.0 c.self.view_is c.args.subpool c.args.place _ _ c.requires.whole c.requires.some refl refl c.requires.held in
    omega arith

pub give-requires-clause-few : goal.give-requires-clause-few
give-requires-clause-few c =
    let s = c.self.inside in
    let few : length s.pages ≤ 8192 = c.self.invariant.0.exact.most in
    let sizes : length s.memory.held ≡ 512 * length s.pages = c.self.invariant.0.exact.sizes in
    let inside : IsBetween (8 * s.first) (8 * s.first + 8 * length s.memory.held) c.args.place = held_inside s.first s.memory.held s.pages (value_at s.memory.bytes) c.args.self.now c.self.invariant.0 c.self.view_is c.args.subpool c.args.place _ _ c.requires.whole c.requires.some refl refl c.requires.held in
    omega (arith, c.run_of-run.ensures.start, c.run_of-run.ensures.end, c.requires.whole.0, c.requires.whole.1)

pub give-requires-clause-there : goal.give-requires-clause-there
give-requires-clause-there c =
    let s = c.self.inside in
    let inside : IsBetween (8 * s.first) (8 * s.first + 8 * length s.memory.held) c.args.place = held_inside s.first s.memory.held s.pages (value_at s.memory.bytes) c.args.self.now c.self.invariant.0 c.self.view_is c.args.subpool c.args.place _ _ c.requires.whole c.requires.some refl refl c.requires.held in
    λ i from to. c.self.invariant.1.each (i / 512) ∙ ap is_some (cell_some s.memory.held s.pages i c.args.subpool (cells_held s.first s.memory.held s.pages (value_at s.memory.bytes) c.args.self.now c.self.invariant.0 c.self.view_is c.args.subpool c.args.place _ _ c.requires.whole c.requires.some c.run_of-run.ensures.start c.run_of-run.ensures.end inside.0 c.requires.held i from to)).1

pub give-requires-clause-held : goal.give-requires-clause-held
give-requires-clause-held c =
    let s = c.self.inside in let run = c.run_of-run.result in
    let inside : IsBetween (8 * s.first) (8 * s.first + 8 * length s.memory.held) c.args.place = held_inside s.first s.memory.held s.pages (value_at s.memory.bytes) c.args.self.now c.self.invariant.0 c.self.view_is c.args.subpool c.args.place _ _ c.requires.whole c.requires.some refl refl c.requires.held in
    bits_of_run s.memory.held s.pages c.args.subpool run.start run.end (cells_held s.first s.memory.held s.pages (value_at s.memory.bytes) c.args.self.now c.self.invariant.0 c.self.view_is c.args.subpool c.args.place _ _ c.requires.whole c.requires.some c.run_of-run.ensures.start c.run_of-run.ensures.end inside.0 c.requires.held)

pub give_up_pages-requires-clause-within : goal.give_up_pages-requires-clause-within
give_up_pages-requires-clause-within c =
    let s = c.self.inside in
    let sizes : length s.memory.held ≡ 512 * length s.pages = c.self.invariant.0.exact.sizes in
    let inside : IsBetween (8 * s.first) (8 * s.first + 8 * length s.memory.held) c.args.place = held_inside s.first s.memory.held s.pages (value_at s.memory.bytes) c.args.self.now c.self.invariant.0 c.self.view_is c.args.subpool c.args.place _ _ c.requires.whole c.requires.some refl refl c.requires.held in
    omega arith

pub give_up_pages-requires-clause-assigned : goal.give_up_pages-requires-clause-assigned
give_up_pages-requires-clause-assigned c =
    let s = c.self.inside in
    let inside : IsBetween (8 * s.first) (8 * s.first + 8 * length s.memory.held) c.args.place = held_inside s.first s.memory.held s.pages (value_at s.memory.bytes) c.args.self.now c.self.invariant.0 c.self.view_is c.args.subpool c.args.place _ _ c.requires.whole c.requires.some refl refl c.requires.held in
    let run = c.run_of-run.result in let some : run.start < run.end = omega (arith, c.run_of-run.ensures.end, c.requires.some) in
    let cells = cells_held s.first s.memory.held s.pages (value_at s.memory.bytes) c.args.self.now c.self.invariant.0 c.self.view_is c.args.subpool c.args.place _ _ c.requires.whole c.requires.some c.run_of-run.ensures.start c.run_of-run.ensures.end inside.0 c.requires.held in
    λ p from to. ap is_some (cells_of_run s.memory.held s.pages c.args.subpool run.start run.end some cells p from to)

pub invariant_of-self : goal.invariant_of-self
invariant_of-self c =
    let s = c.self.inside in let run = c.run_of-run.result in
    let same = sym c.give_up_pages.ensures.held in
    let marked = subst (IsMarked s.memory.held run.start run.end false) same c.give.ensures.marked in
    let given = subst (λ (l : List Bool). IsGivenUp l s.pages (run.start / 512) ((run.end - 1) / 512 + 1) c.give_up_pages.new.pages) same c.give_up_pages.ensures.given in
    (give_region s.first s.memory.held s.pages (value_at s.memory.bytes) c.args.self.now c.self.invariant.0 c.self.view_is c.args.subpool c.args.place _ _ c.requires.whole c.requires.some c.run_of-run.ensures.start c.run_of-run.ensures.end _ _ marked given, c.give_up_pages.ensures.opened)

pub returns-clause-given : goal.returns-clause-given
returns-clause-given c =
    let s = c.self.inside in let run = c.run_of-run.result in let new = c.give_up_pages.new in
    let inside : IsBetween (8 * s.first) (8 * s.first + 8 * length s.memory.held) c.args.place = held_inside s.first s.memory.held s.pages (value_at s.memory.bytes) c.args.self.now c.self.invariant.0 c.self.view_is c.args.subpool c.args.place _ _ c.requires.whole c.requires.some refl refl c.requires.held in
    let same = sym c.give_up_pages.ensures.held in
    let marked = subst (IsMarked s.memory.held run.start run.end false) same c.give.ensures.marked in
    let given = subst (λ (l : List Bool). IsGivenUp l s.pages (run.start / 512) ((run.end - 1) / 512 + 1) new.pages) same c.give_up_pages.ensures.given in
    give_changes s.first s.memory.held s.pages (value_at s.memory.bytes) c.args.self.now c.self.invariant.0 c.self.view_is c.args.subpool c.args.place _ _ c.requires.whole c.requires.some c.run_of-run.ensures.start c.run_of-run.ensures.end _ _ marked given (value_at new.memory.bytes)
    (stays_held new.memory.held new.pages s.memory.bytes new.memory.bytes (stays_given c.give.new.self.held new.memory.held s.memory.bytes c.give.new.self.bytes new.memory.bytes c.give_up_pages.ensures.held c.give.ensures.keeps c.give_up_pages.ensures.stays)) inside.0

pub returns-clause-sound : goal.returns-clause-sound
returns-clause-sound c =
    let s = c.self.inside in let run = c.run_of-run.result in
    let same = sym c.give_up_pages.ensures.held in
    let marked = subst (IsMarked s.memory.held run.start run.end false) same c.give.ensures.marked in
    let given = subst (λ (l : List Bool). IsGivenUp l s.pages (run.start / 512) ((run.end - 1) / 512 + 1) c.give_up_pages.new.pages) same c.give_up_pages.ensures.given in
    region_sound s.first c.give_up_pages.new.memory.held c.give_up_pages.new.pages (value_at c.give_up_pages.new.memory.bytes) (give_region s.first s.memory.held s.pages (value_at s.memory.bytes) c.args.self.now c.self.invariant.0 c.self.view_is c.args.subpool c.args.place _ _ c.requires.whole c.requires.some c.run_of-run.ensures.start c.run_of-run.ensures.end _ _ marked given)
