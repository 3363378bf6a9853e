use Rattle.std.proofs.Common.{◌<◌, length, arith}
use Rattle.mvsjob.proofs.Taking.{all_of}
use Rattle.mvsjob.proofs.script.read_script.Goals as goal

pub returns-clause-whole : goal.returns-clause-whole
returns-clause-whole g c =
    let short : length c.in_ok-script.script.items < 16777216 = let e = c.len.ensures in omega (arith, e, c.if-len-gt-MOST_SCRIPT_BYTES.false) in
    all_of (g.R.Read.remaining c.args.reader) 16777216 c.in_ok-script.script.items c.in_ok-script.ensures short
