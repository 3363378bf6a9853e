use Rattle.std.proofs.Common.{◌≡◌, ◌++◌, drop}
use Rattle.std.specs.Prelude.{map, string_bytes}
use Rattle.language_server.specs.Syntax.{after_bars}
use Rattle.language_server.proofs.syntax.push_after_bars.Given as goal

abbrev pub invariant-loop-word : goal.invariant-loop-word
invariant-loop-word l = string_bytes l.text ++ after_bars (map (λ word. word.now) (drop l.word-index l.words)) ≡ string_bytes l.fn.text ++ after_bars (map (λ word. word.now) l.words)
