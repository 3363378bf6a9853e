use Rattle.std.proofs.Common.{◌≡◌, arith, refl}
use Rattle.reference.proofs.system_code.Goals as goal
use Rattle.reference.proofs.system_code.Goals.{in-S804, in-S80A, in-S878, in-SB04, in-SB05, in-SB0A, in-SB78, in-S905, in-S90A, in-S978, in-SA05, in-SA0A, in-SA78, in-S0C4, in-SA03}

pub returns : goal.returns
returns c = elim c.match-name.branch [ in-S804 w ↦ rw (w.result-is, w.in-S804.is) ((0, omega (arith), refl), refl) | in-S80A w ↦ rw (w.result-is, w.in-S80A.is) ((1, omega (arith), refl), refl) | in-S878 w ↦ rw (w.result-is, w.in-S878.is) ((2, omega (arith), refl), refl) | in-SB04 w ↦ rw (w.result-is, w.in-SB04.is) ((3, omega (arith), refl), refl) | in-SB05 w ↦ rw (w.result-is, w.in-SB05.is) ((4, omega (arith), refl), refl) | in-SB0A w ↦ rw (w.result-is, w.in-SB0A.is) ((5, omega (arith), refl), refl) | in-SB78 w ↦ rw (w.result-is, w.in-SB78.is) ((6, omega (arith), refl), refl) | in-S905 w ↦ rw (w.result-is, w.in-S905.is) ((7, omega (arith), refl), refl) | in-S90A w ↦ rw (w.result-is, w.in-S90A.is) ((8, omega (arith), refl), refl) | in-S978 w ↦ rw (w.result-is, w.in-S978.is) ((9, omega (arith), refl), refl) | in-SA05 w ↦ rw (w.result-is, w.in-SA05.is) ((10, omega (arith), refl), refl) | in-SA0A w ↦ rw (w.result-is, w.in-SA0A.is) ((11, omega (arith), refl), refl) | in-SA78 w ↦ rw (w.result-is, w.in-SA78.is) ((12, omega (arith), refl), refl) | in-S0C4 w ↦ rw (w.result-is, w.in-S0C4.is) ((13, omega (arith), refl), refl) | in-SA03 w ↦ rw (w.result-is, w.in-SA03.is) ((14, omega (arith), refl), refl) ]
