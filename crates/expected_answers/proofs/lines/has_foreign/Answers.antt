use Rattle.std.proofs.Common.{ℕ, ◌||◌, ap, nat_lt, ◌∙◌, arith}
use Rattle.std.specs.List.{list_any}
use Rattle.std.proofs.lemmas.List.{take_all}
use Rattle.expected_answers.proofs.Foreign.{has_place}
use Rattle.expected_answers.proofs.lines.has_foreign.Goals as goal

pub returns : goal.returns
returns c =
    let p = λ (b : ℕ). nat_lt b 32 || nat_lt 126 b in
    c.loop-byte.invariant ∙ ap (list_any p) (take_all c.loop-byte.byte-index c.args.line.now (let h = c.loop-byte-test.false in omega (arith, h))) ∙ has_place p c.args.line.now
