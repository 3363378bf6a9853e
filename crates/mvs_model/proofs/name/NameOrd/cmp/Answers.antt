use Rattle.mvs_model.proofs.NameKeys.{names_lie}
use Rattle.mvs_model.proofs.name.NameOrd.cmp.Goals as goal

pub returns : goal.returns
returns c =
    rw (c.cmp.ensures, c.key.ensures.key, c.key-2.ensures.key) (names_lie c.args.self.now c.args.other.now c.key.ensures.eight c.key-2.ensures.eight c.key.ensures.bytes c.key-2.ensures.bytes)
