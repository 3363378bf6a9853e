use Rattle.std.proofs.Common.{◌≡◌, ◌++◌, drop}
use Rattle.std.specs.Prelude.{string_bytes}
use Rattle.language_server.specs.Hovers.{after_gaps}
use Rattle.language_server.proofs.paragraphs.push_after_gaps.Given as goal

abbrev pub invariant-loop-paragraph : goal.invariant-loop-paragraph
invariant-loop-paragraph l = string_bytes l.text ++ after_gaps (drop l.paragraph-index l.paragraphs) ≡ string_bytes l.fn.text ++ after_gaps l.paragraphs
