use Rattle.std.proofs.Common.{◌≡◌, refl}
use Rattle.reference.proofs.storage_rule.Goals as goal
use Rattle.reference.proofs.storage_rule.Goals.{in-1, in-2, in-3, in-4, in-5, in-6, in-7, in-8, in-9, in-10, in-11, in-12, in-13, in-14, in-15, in-16, in-17, in-18, in-19, in-20, in-21, in-22, in-23, in-24, in-25, in-26, in-27, in-28, in-29, in-30, in-31, in-32, in-33, in-34, in-35, in-36, in-37}

pub returns : goal.returns
returns c = elim c.match-number.branch [ in-1 w ↦ rw (w.result-is, w.in-1.is) refl | in-2 w ↦ rw (w.result-is, w.in-2.is) refl | in-3 w ↦ rw (w.result-is, w.in-3.is) refl | in-4 w ↦ rw (w.result-is, w.in-4.is) refl | in-5 w ↦ rw (w.result-is, w.in-5.is) refl | in-6 w ↦ rw (w.result-is, w.in-6.is) refl | in-7 w ↦ rw (w.result-is, w.in-7.is) refl | in-8 w ↦ rw (w.result-is, w.in-8.is) refl | in-9 w ↦ rw (w.result-is, w.in-9.is) refl | in-10 w ↦ rw (w.result-is, w.in-10.is) refl | in-11 w ↦ rw (w.result-is, w.in-11.is) refl | in-12 w ↦ rw (w.result-is, w.in-12.is) refl | in-13 w ↦ rw (w.result-is, w.in-13.is) refl | in-14 w ↦ rw (w.result-is, w.in-14.is) refl | in-15 w ↦ rw (w.result-is, w.in-15.is) refl | in-16 w ↦ rw (w.result-is, w.in-16.is) refl | in-17 w ↦ rw (w.result-is, w.in-17.is) refl | in-18 w ↦ rw (w.result-is, w.in-18.is) refl | in-19 w ↦ rw (w.result-is, w.in-19.is) refl | in-20 w ↦ rw (w.result-is, w.in-20.is) refl | in-21 w ↦ rw (w.result-is, w.in-21.is) refl | in-22 w ↦ rw (w.result-is, w.in-22.is) refl | in-23 w ↦ rw (w.result-is, w.in-23.is) refl | in-24 w ↦ rw (w.result-is, w.in-24.is) refl | in-25 w ↦ rw (w.result-is, w.in-25.is) refl | in-26 w ↦ rw (w.result-is, w.in-26.is) refl | in-27 w ↦ rw (w.result-is, w.in-27.is) refl | in-28 w ↦ rw (w.result-is, w.in-28.is) refl | in-29 w ↦ rw (w.result-is, w.in-29.is) refl | in-30 w ↦ rw (w.result-is, w.in-30.is) refl | in-31 w ↦ rw (w.result-is, w.in-31.is) refl | in-32 w ↦ rw (w.result-is, w.in-32.is) refl | in-33 w ↦ rw (w.result-is, w.in-33.is) refl | in-34 w ↦ rw (w.result-is, w.in-34.is) refl | in-35 w ↦ rw (w.result-is, w.in-35.is) refl | in-36 w ↦ rw (w.result-is, w.in-36.is) refl | in-37 w ↦ rw (w.result-is, w.in-37.is) refl ]
