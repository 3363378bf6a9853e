use Rattle.std.proofs.Common.{refl, arith}
use Rattle.mvs_model.proofs.SubpoolSets.{none_from, first_from}
use Rattle.mvs_model.proofs.subpool_set.first_bit.Goals as goal

pub returns-then-rest-eq0 : goal.returns-then-rest-eq0
returns-then-rest-eq0 c = λ i low high. none_from c.args.word c.args.from c.if-rest-eq0.true i low

pub returns-else-rest-eq0 : goal.returns-else-rest-eq0
returns-else-rest-eq0 c = first_from c.args.word c.args.from _ (omega arith) c.if-rest-eq0.false refl
