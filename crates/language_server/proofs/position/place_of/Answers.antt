use Rattle.std.proofs.Common.{ap, ◌∙◌}
use Rattle.std.proofs.lemmas.Option.{slice_get-get_or}
use Rattle.std.specs.Prelude.{slice_get}
use Rattle.language_server.proofs.position.place_of.Goals as goal

pub step-requires-clause-some : goal.step-requires-clause-some
step-requires-clause-some c = ap (slice_get c.args.text.now) c.loop-byte.invariant.at ∙ slice_get-get_or c.args.text.now c.loop-byte.byte-index 0 c.loop-byte-test.true
