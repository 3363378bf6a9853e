-- From a borrow of the owner a run is lent to write, and the owner follows it. Assumes `Logic`.
use Rattle.std.proofs.Common.{◌≡◌, refl, sym, ap, subst, ◌∙◌, List, [], ◌∷◌, map, length, take, drop, Option, Some, take_all}
use Prim.Native.Nat.{ℕ, ◌+◌, ◌<◌, ◌≤◌, ◌^◌}
use native.Mathlib.Omega.{arith}
use lib.ListN.{length-map}
use seplogic.Ra.Ura.{Ura}
use mir.Syntax.{named}
use mir.Val.{Val}
use base.Logic.{SProp, ent, sep, ex, id⊢}
use base.Fraction.{full_share}
use base.Stored.{Gv}
use base.Fml.{Lft, GName, Share, Fml, fsep, fobs, fauth, fobor}
use types.Logic.{Logic, sem}
use types.SemTy.{cells, Body}
use types.Kit.{‵, raw, ◌⊛◌, ◌$◌, ◌∵◌, !, qed, by, move, use1, use2, split, split3, group, rewrite, fjoin, fpack, flt_i, done}
use denote.Builtin.{u8}
use denote.Memory.{mem, cell_at, part_of}
use denote.RawPtr.{Ptr, block_ptr}
use denote.Slice.{Room}
use denote.FollowSlice.{Elements, lends_Elements}
use Rattle.region_raw.specs.Rows.{overlaid, written}
use Rattle.region_raw.specs.BorrowsRaw.{with_run}
use Rattle.region_raw.specs.Ownership.{owned, row}
use Rattle.region_raw.specs.declared.raw.RawBytes.{RawBytes}
use Rattle.region_raw.proofs.Cuts.{out, back, to_cells, of_cells}
use Rattle.region_raw.proofs.LendTwo.{BytesRow, NoFields}
use Rattle.region_raw.proofs.Overlays.{length-overlaid, overlaid_is}

module _ {M : Type 1} {𝓤 : Ura M} (𝓛 : Logic 𝓤) (κ : Lft) (q : Share) (rb ro : ℕ) (γ : GName) (d : RawBytes) (vs : List Val) (b o i n : ℕ) (xs : List ℕ)
    (e : d.at ≡ block_ptr b o) (fits : i + n ≤ length d.bytes) (small : length d.bytes < 2 ^ 63) (is_x : take n (drop i d.bytes) ≡ map Some xs) (long_x : length xs ≡ n) where
  open 𝓛 use {H, A}

  abbrev pub F : List ℕ → RawBytes
  F = with_run d i n

  abbrev pub FieldsHere : Fml
  FieldsHere = NoFields.own_val tt vs

  abbrev pub CellHere : Fml
  CellHere = cell_at full_share BytesRow.mir vs rb ro

  abbrev pub Beside : Fml
  Beside = fsep (row b o (take i d.bytes)) (row b ((o + i) + n) (drop (i + n) d.bytes))

  abbrev pub Rest : SProp 𝓤
  Rest = sep 𝓤 (sem 𝓛 Beside) (sep 𝓤 (sem 𝓛 FieldsHere) (sem 𝓛 CellHere))

  pub whole : (w : List ℕ) → length w ≡ length xs → ent 𝓤 (sep 𝓤 (sem 𝓛 (cells (mem u8) w b (o + i))) Rest) (sem 𝓛 ((mem BytesRow).own_at (F w) rb ro))
  unfolding part_of
  whole w same = let long : length w ≡ n = same ∙ long_x in let put : length (map Some w) ≡ n = length-map w Some ∙ long in
      let same_row : (F w).bytes ≡ written d.bytes i n w = ap (overlaid d.bytes i) (take_all n w (omega (arith, long))) ∙ overlaid_is d.bytes i n xs w fits is_x long in
      let kept : length (F w).bytes ≡ length d.bytes = length-overlaid d.bytes i (take n w) in
      qed 𝓛 (‵ (cells (mem u8) w b (o + i)) ∷ raw Rest ∷ []) ∵ use1 𝓛 (‵ (row b (o + i) (map Some w))) (of_cells 𝓛 b w (o + i)) $ move ! (1 ∷ []) $
      use1 𝓛 (‵ Beside ⊛ (‵ FieldsHere ⊛ ‵ CellHere)) (id⊢ 𝓤 _) $ split3 ! $
      -- [round the run; the mark; its cell; the run]
      move ! (3 ∷ 0 ∷ []) $ use2 𝓛 (‵ (row b o (written d.bytes i n w))) (back 𝓛 b d.bytes o i n fits (map Some w) put) $
      rewrite ! 0 (λ (l : List (Option ℕ)). ‵ (row b o l)) (sym same_row) refl $
      flt_i ! (length (F w).bytes) (2 ^ 63) (subst (λ k. k < 2 ^ 63) (sym kept) small) $ fjoin ! $
      rewrite ! 0 (λ (p : Ptr). ‵ (owned p (F w).bytes)) (sym e) refl $ move ! (1 ∷ 0 ∷ []) $ fjoin ! $ move ! (1 ∷ 0 ∷ []) $ fjoin ! $
      fpack ! (List Val) (λ us. fsep (cell_at full_share BytesRow.mir us rb ro) (BytesRow.own_val (F w) us)) vs $ done !

  pub room_x : Room u8 (length xs)
  room_x = (omega arith, omega arith)

  abbrev pub Lent : GName → SProp 𝓤
  Lent = Elements 𝓛 BytesRow u8 F (named 0) κ q rb ro b (o + i) γ xs room_x Rest whole

  pub borrows : (u v : Gv) → ent 𝓤 (sep 𝓤 (A.obor κ q (Body (mem BytesRow) rb ro γ)) (sep 𝓤 (A.obs γ u) (sep 𝓤 (A.auth γ v) (sep 𝓤 (sem 𝓛 (row b o d.bytes)) (sep 𝓤 (sem 𝓛 FieldsHere) (sem 𝓛 CellHere)))))) (H.⇛ (ex 𝓤 Lent))
  borrows u v = qed 𝓛 (‵ (fobor κ q (Body (mem BytesRow) rb ro γ)) ∷ ‵ (fobs γ u) ∷ ‵ (fauth γ v) ∷ ‵ (row b o d.bytes) ∷ ‵ FieldsHere ∷ ‵ CellHere ∷ []) ∵ move ! (3 ∷ []) $
      use1 𝓛 (‵ (row b (o + i) (take n (drop i d.bytes))) ⊛ ‵ Beside) (out 𝓛 b d.bytes o i n fits) $ split ! $
      rewrite ! 0 (λ (l : List (Option ℕ)). ‵ (row b (o + i) l)) is_x refl $ use1 𝓛 (‵ (cells (mem u8) xs b (o + i))) (to_cells 𝓛 b xs (o + i)) $
      -- [the run; round it; the open borrow; obs; auth; the mark; its cell]
      move ! (1 ∷ 5 ∷ 6 ∷ []) $ group ! 3 $ move ! (2 ∷ 3 ∷ 4 ∷ 1 ∷ 0 ∷ []) $
      by ! (lends_Elements 𝓛 BytesRow u8 F (named 0) κ q rb ro b (o + i) γ xs room_x Rest whole u v)
