use Rattle.std.proofs.Common.{◌<◌, refl, arith}
use Rattle.subpool_store.specs.Joined.{store_of}
use Rattle.subpool_store.proofs.Both.{new_below, new_above}
use Rattle.subpool_store.proofs.Choice.{open_in_below, open_in_above, open_high, below_taken, above_taken}
use Rattle.subpool_store.proofs.store.take_in.Goals as goal

pub take-requires-clause-open : goal.take-requires-clause-open
take-requires-clause-open c =
    let b = c.args.below.now in
    let a = c.args.above.now in
    let low : c.args.place.addr < 0x1000000 = omega (arith, c.if-is_below.ensures.below) in
    open_in_below b a c.args.fill (store_of b a c.args.fill) c.requires.both refl c.args.subpool c.args.place c.requires.some low c.requires.open

pub take-requires-else-is_below-clause-open : goal.take-requires-else-is_below-clause-open
take-requires-else-is_below-clause-open c =
    let b = c.args.below.now in
    let a = c.args.above.now in
    let high = open_high b a c.args.fill (store_of b a c.args.fill) c.requires.both refl c.args.subpool c.args.place c.requires.some c.if-is_below.ensures.below c.requires.open in
    open_in_above b a c.args.fill (store_of b a c.args.fill) c.requires.both refl c.args.subpool c.args.place c.requires.some high c.requires.open

pub returns-then-is_below-clause-both : goal.returns-then-is_below-clause-both
returns-then-is_below-clause-both c = let taken = c.take.ensures.taken in new_below c.args.below.now c.args.above.now c.take.new.self c.requires.both taken.first taken.pages c.take.ensures.sound

pub returns-then-is_below-clause-taken : goal.returns-then-is_below-clause-taken
returns-then-is_below-clause-taken c =
    let b = c.args.below.now in
    let a = c.args.above.now in
    let st = store_of b a c.args.fill in
    let low : c.args.place.addr < 0x1000000 = omega (arith, c.if-is_below.ensures.below) in
    let inside = (open_in_below b a c.args.fill st c.requires.both refl c.args.subpool c.args.place c.requires.some low c.requires.open).inside in
    below_taken b a c.args.fill st c.requires.both refl c.args.subpool c.args.place c.requires.some _ _ _ inside c.take.ensures.taken

pub returns-else-is_below-clause-both : goal.returns-else-is_below-clause-both
returns-else-is_below-clause-both c = let taken = c.take-else-is_below.ensures.taken in new_above c.args.below.now c.args.above.now c.take-else-is_below.new.self c.requires.both taken.first taken.pages c.take-else-is_below.ensures.sound

pub returns-else-is_below-clause-taken : goal.returns-else-is_below-clause-taken
returns-else-is_below-clause-taken c =
    let b = c.args.below.now in
    let a = c.args.above.now in
    let st = store_of b a c.args.fill in
    let high = open_high b a c.args.fill st c.requires.both refl c.args.subpool c.args.place c.requires.some c.if-is_below.ensures.below c.requires.open in
    let inside = (open_in_above b a c.args.fill st c.requires.both refl c.args.subpool c.args.place c.requires.some high c.requires.open).inside in
    above_taken b a c.args.fill st c.requires.both refl c.args.subpool c.args.place c.requires.some _ _ _ inside c.take-else-is_below.ensures.taken
