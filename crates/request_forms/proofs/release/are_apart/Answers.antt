use Rattle.std.proofs.Common.{arith}
use Rattle.mvs_model.specs.Requests.{whole}
use Rattle.request_forms.proofs.Places.{apart_is}
use Rattle.request_forms.proofs.release.are_apart.Goals as goal

pub returns-else-one-other : goal.returns-else-one-other
returns-else-one-other c =
    apart_is (whole c.args.one) (whole c.args.other) _ _ _ _ c.doublewords-one.ensures.first c.doublewords-one.ensures.end c.doublewords-other.ensures.first c.doublewords-other.ensures.end
    (omega (arith, c.doublewords-one.ensures.some)) (omega (arith, c.doublewords-other.ensures.some)) c.if-one-other.false
