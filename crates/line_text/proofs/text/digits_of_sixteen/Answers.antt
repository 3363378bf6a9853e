use Rattle.std.proofs.Common.{◌≡◌, ◌<◌, ◌*◌, length, sym, ap, arith, ◌∙◌, length-set}
use Rattle.std.proofs.Math.Facts.{Fits-lt-pow}
use Rattle.std.proofs.lemmas.Grind.{get_or_default_zero}
use Rattle.line_text.proofs.PrintedDigits.{byte_written}
use Rattle.line_text.proofs.text.digits_of_sixteen.Goals as goal

pub loop-i-preserved : goal.loop-i-preserved
loop-i-preserved c =
    let digits = c.loop-i.digits in
    let bytes = c.args.bytes.now in
    let i = c.loop-i.i in
    let inside : i < length bytes = omega (arith, c.requires) in
    let long : length digits ≡ 2 * length bytes = c.loop-i.invariant.len ∙ ap (λ n. 2 * n) (sym c.requires) in
    record {
      text = byte_written digits bytes i _ _ _ inside long c.loop-i.invariant.text c.computed_glyph.ensures c.computed_glyph-in-loop-i.ensures (Fits-lt-pow (c.type_inv.bytes i)) (sym (get_or_default_zero bytes i _ inside));
      len = length-set _ _ _ ∙ length-set _ _ _ ∙ c.loop-i.invariant.len;
    }
