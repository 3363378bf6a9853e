use Rattle.std.proofs.Common.{◌≡◌, arith, refl}
use Rattle.reference.proofs.reply.Goals as goal
use Rattle.reference.proofs.reply.Goals.{in-text, in-text-2, in-text-3, in-text-4}

pub returns : goal.returns
returns c = elim c.match-name.branch [ in-text w ↦ rw (w.result-is, w.in-text.is) ((0, omega (arith), refl), refl) | in-text-2 w ↦ rw (w.result-is, w.in-text-2.is) ((1, omega (arith), refl), refl) | in-text-3 w ↦ rw (w.result-is, w.in-text-3.is) ((2, omega (arith), refl), refl) | in-text-4 w ↦ rw (w.result-is, w.in-text-4.is) ((3, omega (arith), refl), refl) ]
