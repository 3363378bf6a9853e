use Rattle.std.proofs.Common.{◌<◌, refl, arith}
use Rattle.subpool_store.specs.Joined.{store_of}
use Rattle.subpool_store.proofs.Both.{new_below, new_above}
use Rattle.subpool_store.proofs.Choice.{above_from, some_held, held_below, held_above, below_given, above_given}
use Rattle.subpool_store.proofs.store.give_in.Goals as goal

pub give-requires-clause-held : goal.give-requires-clause-held
give-requires-clause-held c =
    let b = c.args.below.now in
    let a = c.args.above.now in
    let low : c.args.place.addr < 0x1000000 = omega (arith, c.if-is_below.ensures.below) in
    held_below b a 0 (store_of b a 0) c.requires.both refl c.args.subpool c.args.place c.is_below.ensures.some low (c.requires.held 0)

pub give-requires-else-is_below-clause-held : goal.give-requires-else-is_below-clause-held
give-requires-else-is_below-clause-held c =
    let b = c.args.below.now in
    let a = c.args.above.now in
    let st = store_of b a 0 in
    let high = above_from b a 0 st c.requires.both refl c.args.place c.is_below.ensures.some (some_held b a 0 st c.requires.both refl c.args.subpool c.args.place c.is_below.ensures.some (c.requires.held 0)) c.if-is_below.ensures.below in
    held_above b a 0 st c.requires.both refl c.args.subpool c.args.place c.is_below.ensures.some high (c.requires.held 0)

pub returns-then-is_below-clause-both : goal.returns-then-is_below-clause-both
returns-then-is_below-clause-both c = let given = c.give.ensures.given in new_below c.args.below.now c.args.above.now c.give.new.self c.requires.both given.first given.pages c.give.ensures.sound

pub returns-then-is_below-clause-given : goal.returns-then-is_below-clause-given
returns-then-is_below-clause-given c = λ fill.
    let b = c.args.below.now in
    let a = c.args.above.now in
    let low : c.args.place.addr < 0x1000000 = omega (arith, c.if-is_below.ensures.below) in
    below_given b a fill (store_of b a fill) c.requires.both refl c.args.subpool c.args.place c.is_below.ensures.some _ low (c.requires.held fill) c.give.ensures.given

pub returns-else-is_below-clause-both : goal.returns-else-is_below-clause-both
returns-else-is_below-clause-both c = let given = c.give-else-is_below.ensures.given in new_above c.args.below.now c.args.above.now c.give-else-is_below.new.self c.requires.both given.first given.pages c.give-else-is_below.ensures.sound

pub returns-else-is_below-clause-given : goal.returns-else-is_below-clause-given
returns-else-is_below-clause-given c = λ fill.
    let b = c.args.below.now in
    let a = c.args.above.now in
    let st = store_of b a fill in
    let high = above_from b a fill st c.requires.both refl c.args.place c.is_below.ensures.some (some_held b a fill st c.requires.both refl c.args.subpool c.args.place c.is_below.ensures.some (c.requires.held fill)) c.if-is_below.ensures.below in
    above_given b a fill st c.requires.both refl c.args.subpool c.args.place c.is_below.ensures.some _ high (c.requires.held fill) c.give-else-is_below.ensures.given
