use Rattle.std.proofs.Common.{rules, ◌≡◌, ◌≤◌, length, arith}
use Rattle.language_server.specs.Spans.{line_at}
use Rattle.language_server.proofs.Hovering.{line_most}
use Rattle.language_server.proofs.document.Document.line_of.Goals as goal

pub returns-clause-bound : goal.returns-clause-bound
returns-clause-bound c =
    let e : c.saturating_sub.result ≡ line_at c.args.self.now.text c.args.place = search rules in
    let s : length c.args.self.now.text ≤ 1048576 = search rules in
    let m = line_most c.args.self.now.text c.args.place s in
    omega (arith, e, m)
