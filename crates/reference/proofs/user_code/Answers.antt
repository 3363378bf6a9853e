use Rattle.std.proofs.Common.{◌≡◌, arith, refl}
use Rattle.reference.proofs.user_code.Goals as goal
use Rattle.reference.proofs.user_code.Goals.{in-U4001, in-U4002, in-U4003, in-U4005, in-U4006, in-U4007, in-U4008, in-U4009}

pub returns : goal.returns
returns c = elim c.match-name.branch [ in-U4001 w ↦ rw (w.result-is, w.in-U4001.is) ((0, omega (arith), refl), refl) | in-U4002 w ↦ rw (w.result-is, w.in-U4002.is) ((1, omega (arith), refl), refl) | in-U4003 w ↦ rw (w.result-is, w.in-U4003.is) ((2, omega (arith), refl), refl) | in-U4005 w ↦ rw (w.result-is, w.in-U4005.is) ((3, omega (arith), refl), refl) | in-U4006 w ↦ rw (w.result-is, w.in-U4006.is) ((4, omega (arith), refl), refl) | in-U4007 w ↦ rw (w.result-is, w.in-U4007.is) ((5, omega (arith), refl), refl) | in-U4008 w ↦ rw (w.result-is, w.in-U4008.is) ((6, omega (arith), refl), refl) | in-U4009 w ↦ rw (w.result-is, w.in-U4009.is) ((7, omega (arith), refl), refl) ]
