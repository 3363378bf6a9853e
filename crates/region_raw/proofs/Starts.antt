-- How a start lies in a local. Assumes `Logic`.
use Rattle.std.proofs.Common.{T, [], ◌∷◌, arith}
use Rattle.std.proofs.lemmas.Grind.{common_steps}
use mir.Val.{Val, has_ty, WT}
use denote.Laws.{Is, Tells}
use denote.Param.{layout}
use denote.RattleType.{RattleType}
use denote.RawPtr.{Ptr}
use Rattle.region_raw.specs.declared.raw.Start.{Start}
use Rattle.region_raw.specs.contracts.raw.Start as B
use Rattle.region_raw.proofs.raw.Start.TheLaws as start_laws

abbrev pub StartRow : RattleType
StartRow = B.the_row

-- how a start lies in a local
abbrev pub word : Start → Val
word x = (start_laws.the_told).val x

abbrev pub word_tells : Tells StartRow (Is StartRow) (λ x. word x ∷ [])
word_tells = (start_laws.the_told).tells

pub good : (p : Ptr) → T (has_ty (layout StartRow) (word (record { ptr = p }))) × WT (word (record { ptr = p }))
good p = grind (arith, common_steps)
