use Rattle.std.proofs.Common.{◌+◌, length, Some, None, refl, sym}
use Rattle.std.proofs.lemmas.List.{take_rest}
use Rattle.memchr.proofs.lemmas.ValueLemmas.{FindsNeedle-value}
use Rattle.expected_answers.specs.Blank.{arrow}
use Rattle.expected_answers.proofs.lines.parted_line.Goals as goal

pub returns-in-None : goal.returns-in-None
returns-in-None c = (sym (FindsNeedle-value c.args.line.now arrow None c.in-None.ensures), refl)

pub returns-in-Some : goal.returns-in-Some
returns-in-Some c =
    (c.in-Some.at, sym (FindsNeedle-value c.args.line.now arrow (Some c.in-Some.at) c.in-Some.ensures), refl, take_rest c.args.line.now (c.in-Some.at + length arrow))
