use Rattle.std.proofs.Common.{◌≡◌, arith, refl}
use Rattle.reference.proofs.fault.Goals as goal
use Rattle.reference.proofs.fault.Goals.{in-JS01, in-JS02, in-JS03, in-JS04, in-JS05, in-JS06, in-JS07, in-JS08, in-JS09}

pub returns : goal.returns
returns c = elim c.match-name.branch [ in-JS01 w ↦ rw (w.result-is, w.in-JS01.is) ((0, omega (arith), refl), refl) | in-JS02 w ↦ rw (w.result-is, w.in-JS02.is) ((1, omega (arith), refl), refl) | in-JS03 w ↦ rw (w.result-is, w.in-JS03.is) ((2, omega (arith), refl), refl) | in-JS04 w ↦ rw (w.result-is, w.in-JS04.is) ((3, omega (arith), refl), refl) | in-JS05 w ↦ rw (w.result-is, w.in-JS05.is) ((4, omega (arith), refl), refl) | in-JS06 w ↦ rw (w.result-is, w.in-JS06.is) ((5, omega (arith), refl), refl) | in-JS07 w ↦ rw (w.result-is, w.in-JS07.is) ((6, omega (arith), refl), refl) | in-JS08 w ↦ rw (w.result-is, w.in-JS08.is) ((7, omega (arith), refl), refl) | in-JS09 w ↦ rw (w.result-is, w.in-JS09.is) ((8, omega (arith), refl), refl) ]
