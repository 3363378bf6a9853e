use Rattle.std.proofs.Common.{length, ◌<◌, ◌≤◌, arith, rules}
use Rattle.language_server.proofs.Walked.{same_end}
use Rattle.language_server.proofs.position.Cursor.advance.Goals as goal

pub returns-in-None-clause-exact : goal.returns-in-None-clause-exact
returns-in-None-clause-exact c =
    λ first.
    let past : length c.args.text.now ≤ c.bytes.self.at = search rules in
    let less : c.bytes.self.at < c.args.place = c.bytes-test.true in
    let more : c.bytes.self.at ≤ c.args.place = omega arith in
    same_end c.args.text.now c.bytes.self.at c.args.place c.bytes.self.position past more c.bytes.invariant.on
