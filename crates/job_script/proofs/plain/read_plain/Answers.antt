use Rattle.std.proofs.Common.{◌≡◌, false, length}
use Rattle.std.specs.Prelude.{nat_lt}
use Rattle.std.proofs.lemmas.Bool.{le-ltb}
use Rattle.job_script.proofs.PlainLines.{whole_line}
use Rattle.job_script.proofs.plain.read_plain.Goals as goal

pub returns : goal.returns
returns c =
    let short : nat_lt 255 (length c.args.line.now) ≡ false = le-ltb 255 (length c.args.line.now) c.if-line-gt-MOST_LINE_BYTES.false in
    let task = c.in_ok-task in
    whole_line c.read_after_task.result c.args.line.now task.task.now task.rest.now c.name.result c.read_after_task.new.read short task.ensures c.name.ensures c.read_after_task.ensures
