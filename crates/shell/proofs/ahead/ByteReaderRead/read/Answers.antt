use Rattle.std.proofs.Common.{◌≡◌, ◌∷◌, [], ◌<◌, length, take, slice_set, arith, sym, subst}
use Rattle.std.proofs.KnownBytes.{prepend_known-read}
use Rattle.std.specs.Io.KnownBytes.{Consumes, prepend_known}
use Rattle.shell.proofs.Giving.{first_byte, some_room}
use Rattle.shell.proofs.ahead.ByteReaderRead.read.Goals as goal

pub returns-in-Some-clause-bytes : goal.returns-in-Some-clause-bytes
returns-in-Some-clause-bytes g c =
    let byte = c.in-Some.byte in
    let given = prepend_known-read _ (g.R.Read.remaining c.fill.new.self.inner) c.fill.new.self.ahead c.next.new.self.ahead (byte ∷ []) ⊥ c.fill.ensures.bytes c.in-Some.ensures.byte (λ never. absurd never) in
    rw (c.in-Some.ensures.inner, first_byte c.args.buf.now byte (some_room c.args.buf.now c.is_empty.result c.is_empty.ensures c.if-is_empty.false)) (given.0, λ none some. absurd (omega (arith, none)))
