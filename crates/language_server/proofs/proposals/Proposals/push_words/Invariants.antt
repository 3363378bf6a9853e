use Rattle.std.proofs.Common.{◌≡◌, ◌++◌, drop}
use Rattle.std.specs.Prelude.{map}
use Rattle.language_server.specs.Proposals.{word_proposal}
use Rattle.language_server.proofs.proposals.Proposals.push_words.Given as goal

abbrev pub invariant-loop-word : goal.invariant-loop-word
invariant-loop-word l =
    l.self ++ map word_proposal (map (λ word. word.now) (drop l.word-index l.words)) ≡ l.fn.self ++ map word_proposal (map (λ word. word.now) l.words)
