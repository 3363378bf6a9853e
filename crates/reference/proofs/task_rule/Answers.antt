use Rattle.std.proofs.Common.{◌≡◌, refl}
use Rattle.reference.proofs.task_rule.Goals as goal
use Rattle.reference.proofs.task_rule.Goals.{in-38, in-39, in-40, in-41, in-42, in-43, in-44, in-45, in-46, in-47, in-48, in-49, in-50, in-51, in-52, in-53, in-54, in-55, in-56, in-57, in-58, in-59, in-60, in-61, in-62, in-63, in-64, in-65, in-66, in-67, in-68, in-69, in-70, in-71, in-72, in-73, in-74}

pub returns : goal.returns
returns c = elim c.match-number.branch [ in-38 w ↦ rw (w.result-is, w.in-38.is) refl | in-39 w ↦ rw (w.result-is, w.in-39.is) refl | in-40 w ↦ rw (w.result-is, w.in-40.is) refl | in-41 w ↦ rw (w.result-is, w.in-41.is) refl | in-42 w ↦ rw (w.result-is, w.in-42.is) refl | in-43 w ↦ rw (w.result-is, w.in-43.is) refl | in-44 w ↦ rw (w.result-is, w.in-44.is) refl | in-45 w ↦ rw (w.result-is, w.in-45.is) refl | in-46 w ↦ rw (w.result-is, w.in-46.is) refl | in-47 w ↦ rw (w.result-is, w.in-47.is) refl | in-48 w ↦ rw (w.result-is, w.in-48.is) refl | in-49 w ↦ rw (w.result-is, w.in-49.is) refl | in-50 w ↦ rw (w.result-is, w.in-50.is) refl | in-51 w ↦ rw (w.result-is, w.in-51.is) refl | in-52 w ↦ rw (w.result-is, w.in-52.is) refl | in-53 w ↦ rw (w.result-is, w.in-53.is) refl | in-54 w ↦ rw (w.result-is, w.in-54.is) refl | in-55 w ↦ rw (w.result-is, w.in-55.is) refl | in-56 w ↦ rw (w.result-is, w.in-56.is) refl | in-57 w ↦ rw (w.result-is, w.in-57.is) refl | in-58 w ↦ rw (w.result-is, w.in-58.is) refl | in-59 w ↦ rw (w.result-is, w.in-59.is) refl | in-60 w ↦ rw (w.result-is, w.in-60.is) refl | in-61 w ↦ rw (w.result-is, w.in-61.is) refl | in-62 w ↦ rw (w.result-is, w.in-62.is) refl | in-63 w ↦ rw (w.result-is, w.in-63.is) refl | in-64 w ↦ rw (w.result-is, w.in-64.is) refl | in-65 w ↦ rw (w.result-is, w.in-65.is) refl | in-66 w ↦ rw (w.result-is, w.in-66.is) refl | in-67 w ↦ rw (w.result-is, w.in-67.is) refl | in-68 w ↦ rw (w.result-is, w.in-68.is) refl | in-69 w ↦ rw (w.result-is, w.in-69.is) refl | in-70 w ↦ rw (w.result-is, w.in-70.is) refl | in-71 w ↦ rw (w.result-is, w.in-71.is) refl | in-72 w ↦ rw (w.result-is, w.in-72.is) refl | in-73 w ↦ rw (w.result-is, w.in-73.is) refl | in-74 w ↦ rw (w.result-is, w.in-74.is) refl ]
