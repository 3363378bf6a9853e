use Rattle.std.proofs.Common.{sym, ◌∙◌}
use Rattle.job_script.proofs.FirstUnset.{unset_first, unset_later}
use Rattle.job_script.proofs.resolving.+unset_among.Goals as goal

pub returns-then-is_some : goal.returns-then-is_some
returns-then-is_some t c = unset_first c.args.names.now c.args.locations.now _ _ c.in_ok-location.ensures.cases.0 c.unset_in-unset.result c.unset_in-unset.ensures (sym c.is_some.ensures ∙ c.if-is_some.true)

pub returns : goal.returns
returns t c = unset_later c.args.names.now c.args.locations.now _ _ c.in_ok-location.ensures.cases.0 c.unset_in-unset.result c.unset_among.result c.unset_in-unset.ensures (sym c.is_some.ensures ∙ c.if-is_some.false) c.unset_among.ensures
