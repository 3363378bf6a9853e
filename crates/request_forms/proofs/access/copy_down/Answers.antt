use Rattle.std.proofs.Common.{◌∙◌, arith}
use Rattle.request_forms.proofs.Copying.{address_held, copied_next}
use Rattle.request_forms.proofs.access.copy_down.Goals as goal

pub at_distance-requires : goal.at_distance-requires
at_distance-requires c = address_held c.args.store.now.storage c.args.to c.args.len c.pieces.done c.requires.storage c.requires.target c.pieces-test.true

pub at_distance-requires-in-pieces : goal.at_distance-requires-in-pieces
at_distance-requires-in-pieces c = address_held c.args.store.now.storage c.args.from c.args.len c.pieces.done c.requires.storage c.requires.source c.pieces-test.true

pub pieces-preserved : goal.pieces-preserved
pieces-preserved c = record {
  most = omega arith;
  held = c.copy_apart.ensures.held ∙ c.pieces.invariant.held;
  copied = λ lower. copied_next c.args.store.now.storage c.pieces.store.storage c.copy_apart.new.store.storage c.args.to c.args.from c.pieces.done c.min-piece.result (omega arith) (c.pieces.invariant.copied lower)
      (rw (c.at_distance.ensures, c.at_distance-in-pieces.ensures) at c.copy_apart.ensures);
}
