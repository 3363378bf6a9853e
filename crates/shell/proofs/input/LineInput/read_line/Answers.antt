use Rattle.std.proofs.Common.{◌≡◌, ◌≢◌, ◌<◌, ◌≤◌, ◌∙◌, false, length, arith, subst, sym}
use Rattle.std.proofs.lemmas.Bool.Decides.{nat_tests}
use Rattle.shell.specs.declared.input.Next.TheVariants.{Byte, End, Line}
use Rattle.shell.proofs.Reading.{byte_dropped, byte_kept, found_so, last_read, line_read, pushed_byte, some_read}
use Rattle.shell.proofs.input.LineInput.read_line.Goals as goal

pub bytes-preserved-then-bytes-lt-ROOM : goal.bytes-preserved-then-bytes-lt-ROOM
bytes-preserved-then-bytes-lt-ROOM g c =
    let f = found_so (g.R.Read.remaining c.bytes.self.inner.inner) (g.R.Read.remaining c.next.new.self.inner.inner) c.bytes.self.ended c.next.new.self.ended c.bytes.self.count c.next.new.self.count _ (Byte c.in-Byte.byte) c.in-Byte.is c.in_ok-byte.ensures.found in
    let open_before : c.args.self.now.ended ≡ false = sym c.bytes.invariant.ended ∙ f.2 in
    record {
      begun = byte_kept (g.R.Read.remaining c.args.self.now.inner.inner) (g.R.Read.remaining c.bytes.self.inner.inner) (g.R.Read.remaining c.next.new.self.inner.inner) c.args.self.now.ended c.bytes.line c.bytes.invariant.begun open_before c.in-Byte.byte c.push.new.self f.0 f.1
          (subst (λ x. length x < 256) c.bytes-in-Byte.ensures c.if-bytes-lt-ROOM.true) (pushed_byte c.bytes.line c.in-Byte.byte c.push.result c.push.new.self c.push.ensures f.1);
      ended = f.3 ∙ sym open_before;
      count = omega (arith, f.4, c.bytes.invariant.count);
      some = λ h. omega (arith, f.4, c.bytes.invariant.count);
      at_end = λ h e. c.in_ok-byte.ensures.at_end (c.bytes.invariant.at_end h) e;
      failed = c.in_ok-byte.ensures.ok ∙ c.bytes.invariant.failed;
    }

pub bytes-preserved : goal.bytes-preserved
bytes-preserved g c =
    let f = found_so (g.R.Read.remaining c.bytes.self.inner.inner) (g.R.Read.remaining c.next.new.self.inner.inner) c.bytes.self.ended c.next.new.self.ended c.bytes.self.count c.next.new.self.count _ (Byte c.in-Byte.byte) c.in-Byte.is c.in_ok-byte.ensures.found in
    let open_before : c.args.self.now.ended ≡ false = sym c.bytes.invariant.ended ∙ f.2 in
    record {
      begun = byte_dropped (g.R.Read.remaining c.args.self.now.inner.inner) (g.R.Read.remaining c.bytes.self.inner.inner) (g.R.Read.remaining c.next.new.self.inner.inner) c.args.self.now.ended c.bytes.line c.bytes.invariant.begun open_before c.in-Byte.byte f.0 f.1
          (subst (λ x. 256 ≤ length x) c.bytes-in-Byte.ensures c.if-bytes-lt-ROOM.false);
      ended = f.3 ∙ sym open_before;
      count = omega (arith, f.4, c.bytes.invariant.count);
      some = λ h. omega (arith, f.4, c.bytes.invariant.count);
      at_end = λ h e. c.in_ok-byte.ensures.at_end (c.bytes.invariant.at_end h) e;
      failed = c.in_ok-byte.ensures.ok ∙ c.bytes.invariant.failed;
    }

pub returns-in-Line-clause-some : goal.returns-in-Line-clause-some
returns-in-Line-clause-some g c some =
    let f = found_so (g.R.Read.remaining c.bytes.self.inner.inner) (g.R.Read.remaining c.next.new.self.inner.inner) c.bytes.self.ended c.next.new.self.ended c.bytes.self.count c.next.new.self.count _ Line c.in-Line.is c.in_ok-byte.ensures.found in
    let open_before : c.args.self.now.ended ≡ false = sym c.bytes.invariant.ended ∙ f.1 in
    let few : c.bytes.self.count ≤ 16777215 = grind (arith, nat_tests) in
    (open_before, omega (arith, f.3, c.bytes.invariant.count), omega (arith, f.3, few), line_read (g.R.Read.remaining c.args.self.now.inner.inner) (g.R.Read.remaining c.bytes.self.inner.inner) (g.R.Read.remaining c.next.new.self.inner.inner) c.args.self.now.ended c.bytes.line c.bytes.invariant.begun open_before c.next.new.self.ended f.2 f.0)

pub returns-in-End-clause-some : goal.returns-in-End-clause-some
returns-in-End-clause-some g c some =
    let f = found_so (g.R.Read.remaining c.bytes.self.inner.inner) (g.R.Read.remaining c.next.new.self.inner.inner) c.bytes.self.ended c.next.new.self.ended c.bytes.self.count c.next.new.self.count _ End c.in-End.is c.in_ok-byte.ensures.found in
    let some : 0 < length c.bytes.line = grind (arith, nat_tests) in
    let few : c.bytes.self.count ≤ 16777215 = grind (arith, nat_tests) in
    let more : c.args.self.now.count < c.bytes.self.count = c.bytes.invariant.some some in (
      some_read (g.R.Read.remaining c.args.self.now.inner.inner) (g.R.Read.remaining c.bytes.self.inner.inner) (g.R.Read.remaining c.next.new.self.inner.inner) c.args.self.now.ended c.bytes.line c.bytes.invariant.begun some,
      omega (arith, f.2, more),
      omega (arith, f.2, few),
      last_read (g.R.Read.remaining c.args.self.now.inner.inner) (g.R.Read.remaining c.bytes.self.inner.inner) (g.R.Read.remaining c.next.new.self.inner.inner) c.args.self.now.ended c.bytes.line c.bytes.invariant.begun c.next.new.self.ended f.1 f.0,
    )
