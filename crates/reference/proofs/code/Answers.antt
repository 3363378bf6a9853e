use Rattle.std.proofs.Common.{◌≡◌, ◌++◌, Contains, MatchOption}
use Rattle.reference.specs.Texts.{IsAbout, faults, names, replies, system_codes, user_codes}
use Rattle.reference.proofs.Joined.{joined}
use Rattle.reference.proofs.code.Goals as goal

pub returns : goal.returns
returns c =
    let name = c.args.name.now in
    let abends = joined system_codes user_codes name (λ t. IsAbout name t.now) _ _ c.system_code.ensures c.user_code.ensures in
    let faulty = joined (system_codes ++ user_codes) faults name (λ t. IsAbout name t.now) _ _ abends c.fault.ensures in
    rw (c.or-3.ensures, c.or-2.ensures, c.or.ensures) (joined ((system_codes ++ user_codes) ++ faults) replies name (λ t. IsAbout name t.now) _ _ faulty c.reply.ensures)
