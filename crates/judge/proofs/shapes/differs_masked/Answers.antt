use Rattle.std.proofs.Common.{◌<◌, ◌≤◌, arith, length}
use Rattle.judge.proofs.Masking.{not_shorter}
use Rattle.judge.proofs.shapes.differs_masked.Goals as goal

pub returns-then-at-text : goal.returns-then-at-text
returns-then-at-text c = λ _ rest e.
    let here : c.bytes.at < length c.args.front.now = omega (arith, c.bytes-test.true) in
    let all : length c.args.text.now ≤ c.bytes.at = omega (arith, c.if-at-text.true) in
    not_shorter c.args.text.now c.args.front.now rest c.bytes.at here (c.bytes.invariant.same rest e) all
