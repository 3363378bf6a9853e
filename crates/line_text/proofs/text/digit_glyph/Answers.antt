use Rattle.std.proofs.Common.{ap, codes, slice_index, ◌∙◌}
use Rattle.line_text.proofs.PrintedDigits.{glyph_at}
use Rattle.line_text.proofs.text.digit_glyph.Goals as goal

pub returns : goal.returns
returns c = ap (slice_index (codes "0123456789ABCDEF")) c.from.ensures ∙ glyph_at c.args.digit c.requires
