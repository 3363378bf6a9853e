use Rattle.mvs_model.proofs.NameKeys.{names_same}
use Rattle.mvs_model.proofs.name.NamePartialEq.eq.Goals as goal

pub returns : goal.returns
returns c =
    rw (c.key.ensures.key, c.key-2.ensures.key) (names_same c.args.self.now c.args.other.now c.key.ensures.eight c.key-2.ensures.eight c.key.ensures.bytes c.key-2.ensures.bytes)
