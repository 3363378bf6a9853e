use Rattle.std.proofs.Common.{◌+◌, ◌-◌, ◌≤◌, arith}
use Rattle.request_forms.proofs.Copying.{address_held, copied_before, copied_as}
use Rattle.request_forms.proofs.access.copy_up.Goals as goal

pub at_distance-requires : goal.at_distance-requires
at_distance-requires c = address_held c.args.store.now.storage c.args.to c.args.len (c.pieces.left - c.min-piece.result) c.requires.storage c.requires.target (omega arith)

pub at_distance-requires-in-pieces : goal.at_distance-requires-in-pieces
at_distance-requires-in-pieces c = address_held c.args.store.now.storage c.args.from c.args.len (c.pieces.left - c.min-piece.result) c.requires.storage c.requires.source (omega arith)

pub pieces-preserved : goal.pieces-preserved
pieces-preserved c =
    let m = c.min-piece.result in let k = c.pieces.left - m in let to = c.args.to in let from = c.args.from in
    let fits : m ≤ c.pieces.left = omega arith in let most : c.pieces.left ≤ c.args.len = c.pieces.invariant.most in record {
      most = omega arith;
      copied =
          copied_as c.args.store.now.storage c.copy_apart.new.store.storage (to + k) (from + k) (c.args.len - c.pieces.left + m) (to + k) (from + k) (c.args.len - k) (omega arith) (omega arith) (omega arith)
          (copied_before c.args.store.now.storage c.pieces.store.storage c.copy_apart.new.store.storage (to + k) (from + k) (c.args.len - c.pieces.left) m (omega arith)
          (copied_as c.args.store.now.storage c.pieces.store.storage (to + c.pieces.left) (from + c.pieces.left) (c.args.len - c.pieces.left) (to + k + m) (from + k + m) (c.args.len - c.pieces.left) (omega arith) (omega arith) (omega arith) c.pieces.invariant.copied)
          (rw (c.at_distance.ensures, c.at_distance-in-pieces.ensures) at c.copy_apart.ensures));
    }
