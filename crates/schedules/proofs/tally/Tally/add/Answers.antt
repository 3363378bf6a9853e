use Rattle.std.proofs.Common.{◌≡◌, ◌∙◌, ◌||◌, ap, arith, drop, length, map, nat_eq, not, refl, sym, subst, take, ◌++◌}
use Rattle.std.specs.Cmp.Lexicographic.{pointwise}
use Rattle.std.specs.List.{AllByRecursion}
use Rattle.schedules.specs.Filling.{has_outcome, outcome_from}
use Rattle.schedules.specs.Tallies.{counted}
use Rattle.schedules.proofs.Distinct.{filled_added, outcomes_have_room}
use Rattle.schedules.proofs.Tallied.{map_long, tally_has_room, written}
use Rattle.schedules.proofs.tally.Tally.add.Goals as goal

pub count_rows-requires : goal.count_rows-requires
count_rows-requires c =
    subst (AllByRecursion _) (sym c.deref_mut.ensures.value)
    (tally_has_room c.requires.filled.0 _ c.args.self.now c.requires.filled.1.tally c.requires.room)

pub with_outcome-self-requires : goal.with_outcome-self-requires
with_outcome-self-requires c = outcomes_have_room c.requires.filled.0 _ c.args.self.now c.requires.filled.1.tally c.requires.room

pub returns-clause-added : goal.returns-clause-added
returns-clause-added c = λ ss f.
    let rows = c.args.self.now.rows in
    let counts : c.count_rows.new.rows ≡ map (counted c.args.schedule.now) rows.items = c.count_rows.ensures ∙ ap (map (counted c.args.schedule.now)) c.deref_mut.ensures.value in
    let long : length c.count_rows.new.rows ≡ length rows.items = ap length counts ∙ map_long (counted c.args.schedule.now) rows.items in
    let mid : take rows.len (c.count_rows.new.rows ++ drop (length c.count_rows.new.rows) rows.items) ≡ c.count_rows.new.rows = written rows.len c.count_rows.new.rows rows.items long (omega (arith, rows.ok.0)) in
    let own : c.in_ok-outcome_of.field-0.items ≡ outcome_from 0 c.add_rows.new.rows.items c.args.schedule.now = c.in_ok-outcome_of.ensures ∙ ap (λ x. outcome_from 0 x c.args.schedule.now) c.deref.ensures.value in
    filled_added c.args.schedule.now c.args.self.now _ _ c.args.outcomes.now c.insert.new.self c.in_ok-is_new.is_new (mid ∙ counts) c.in_ok-add_rows.ensures
    (c.in_ok-is_new.ensures.new ∙ ap (λ k. not (has_outcome c.args.outcomes.now k)) own)
    (λ k. c.in_ok-is_new.ensures.added k ∙ ap (λ o. pointwise nat_eq k o || has_outcome c.args.outcomes.now k) own) ss f refl c.with_outcome-self.ensures
