use Rattle.std.proofs.Common.{◌+◌, ◌<◌, length, rules}
use Rattle.line_text.proofs.PrintedDigits.{digits_pushed}
use Rattle.line_text.proofs.text.LineText.push_byte.Goals as goal

pub returns-clause-text : goal.returns-clause-text
returns-clause-text c =
    let room : c.self.inside.len + 1 < length c.self.inside.bytes = search rules in
    digits_pushed c.self.inside.bytes c.args.self.now c.self.inside.len c.digit_glyph.result c.digit_glyph-2.result c.args.byte room c.self.view_is c.digit_glyph.ensures c.digit_glyph-2.ensures c.ranges.byte.fits
