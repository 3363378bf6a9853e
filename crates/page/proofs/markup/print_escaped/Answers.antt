use Rattle.std.proofs.Common.{get_or, []}
use Rattle.std.proofs.lemmas.Result.{err_from_is_err_and}
use Rattle.std.proofs.lemmas.List.{get_or_default}
use Rattle.line_text.proofs.Appending.{lines_front}
use Rattle.page.specs.Markup.{escaped_byte}
use Rattle.page.proofs.markup.print_escaped.Goals as goal

pub returns-in_err-write_all : goal.returns-in_err-write_all
returns-in_err-write_all g c =
    let p = err_from_is_err_and c.from_residual.result c.from_residual.ensures.1 in
    rw (p.1) (record {
      bytes = lines_front escaped_byte [] c.args.text.now _ _ _ c.loop-byte.byte-index (get_or c.args.text.now c.loop-byte.byte-index 0) c.loop-byte-test.true (get_or_default c.args.text.now c.loop-byte.byte-index 0 _ c.loop-byte-test.true) c.loop-byte.invariant.so_far (rw (c.escaped_byte.ensures) at c.in_err-write_all.ensures.bytes);
      ok = tt;
      err = c.in_err-write_all.ensures.err;
    })
