use Rattle.std.proofs.Common.{refl, arith}
use Rattle.mvs_model.proofs.GiftNumbers.{no_number, number_found}
use Rattle.mvs_model.proofs.gifts.first_number.Goals as goal

pub returns-then-rest-eq0 : goal.returns-then-rest-eq0
returns-then-rest-eq0 c = λ n low. no_number c.args.set c.args.from c.if-rest-eq0.true n low

pub returns-else-rest-eq0 : goal.returns-else-rest-eq0
returns-else-rest-eq0 c = number_found c.args.set c.args.from _ (omega arith) c.if-rest-eq0.false refl
