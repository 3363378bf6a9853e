use Rattle.std.proofs.Common.{◌≡◌, ℕ, ◌*◌, ◌<◌}
use Rattle.std.specs.Prelude.{slice_index}
use Rattle.cell_pool.proofs.open.full_words.Given as goal

abbrev pub invariant-words : goal.invariant-words
invariant-words l = (l.at ≡ 8 * l._word) × ((k : ℕ) → k < l.at → slice_index l.bytes k ≡ 255)
