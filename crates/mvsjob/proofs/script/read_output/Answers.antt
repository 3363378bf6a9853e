use Rattle.std.proofs.Common.{◌<◌, length, arith}
use Rattle.job_script.proofs.Named.{mapped_ok}
use Rattle.mvsjob.proofs.Taking.{all_of}
use Rattle.mvsjob.proofs.script.read_output.Goals as goal

pub returns : goal.returns
returns g c =
    let short : length c.in_ok-output.output.items < 268435456 = let e = c.len.ensures in omega (arith, e, c.if-len-gt-MOST_OUTPUT_BYTES.false) in
    let read = rw (mapped_ok c.bytes_of.result c.map_err.result _ _ c.map_err.ensures.cases c.in_ok-output.was) at c.bytes_of.ensures in
    all_of (g.R.Read.remaining c.args.reader) 268435456 c.in_ok-output.output.items read short
