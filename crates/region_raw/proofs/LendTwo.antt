-- From a borrow of the owner a run is lent to read and another to write, and the owner follows the second. Assumes `Logic`.
use Rattle.std.proofs.Common.{◌≡◌, refl, sym, ap, subst, ◌∙◌, List, [], ◌∷◌, map, length, take, drop, Option, Some, take_all}
use Prim.Native.Nat.{ℕ, ◌+◌, ◌*◌, ◌<◌, ◌≤◌, ◌^◌}
use native.Mathlib.Omega.{arith}
use seplogic.Ra.Ura.{Ura}
use mir.Syntax.{named}
use mir.Val.{Val}
use base.Logic.{SProp, ent, sep, emp, ex, all_e, apply∗, id⊢}
use base.Fraction.{full_share}
use base.Stored.{Gv, coded_list}
use base.Fml.{Lft, GName, Share, Fml, fsep, fseps, flft, fobs, fauth, fbor, fobor, Incl-refl}
use types.Logic.{Logic, sem}
use types.SemTy.{cells, Arr, Body}
use types.Share.{parts as parts_of}
use types.Follow.{takes_beside}
use types.Kit.{‵, raw, ◌⊛◌, some, later, await, ◌$◌, ◌∵◌, !, qed, move, keep, use1, use2, split, split3, join, group, rewrite, fsplit, fjoin, fpack, feq_i, feq_l, flt_i, show, updating, now, pick, done}
use contract.BorrowLft.{⊑_static}
use denote.Builtin.{u8}
use denote.Array.{Array}
use denote.Memory.{mem, shares, shared_of, cell_at, part_of}
use denote.RattleType.{RattleType}
use denote.RawPtr.{Ptr, block_ptr}
use denote.Ref.{MutBor, Bor}
use denote.Slice.{MutSlice, ShrSlice, Room, elements_shared, slice_val}
use denote.Follow.{follows}
use denote.FollowSlice.{slice_of}
use denote.Opens.{hide}
use denote.Shares.{shares_each}
use denote.Steps.{nothing}
use denote.Param.Shared.{copy_shared}
use denote.Struct.Field.{u8-field}
use denote.Struct.Laws.{u8-copy}
use denote.Struct.Struct.{Struct}
use denote.Struct.Owning.{shape}
use Rattle.region_raw.specs.Rows.{IsApart, overlaid, written}
use Rattle.region_raw.specs.BorrowsRaw.{with_run}
use Rattle.region_raw.specs.Ownership.{owned, row}
use Rattle.region_raw.specs.declared.raw.RawBytes.{RawBytes}
use Rattle.region_raw.specs.contracts.raw.RawBytes as C
use Rattle.region_raw.proofs.Overlays.{length-overlaid, overlaid_is}
use Rattle.region_raw.proofs.Cuts.{Keeps, Whole, both_out, to_cells, of_cells, to_parts, of_parts}

abbrev pub BytesRow : RattleType
BytesRow = C.the_row

-- what the data fields are, of which there is none
abbrev pub NoFields : RattleType
NoFields = Struct (shape C.the_type)

module _ {M : Type 1} {𝓤 : Ura M} (𝓛 : Logic 𝓤) where
  open 𝓛 use {H, A}

  bytes_share : (xs : List ℕ) (κ : Lft) (q : Share) (b o : ℕ)
      → ent 𝓤 (sep 𝓤 (A.bor κ (parts_of (mem u8) (shares u8) full_share xs b o)) (A.lft κ q)) (H.⇛ (sep 𝓤 (sem 𝓛 (elements_shared u8 xs b o κ)) (A.lft κ q)))
  bytes_share xs κ q b o = shares_each 𝓛 u8 (shared_of u8) [] ((copy_shared u8-field u8-copy).shares M 𝓤 𝓛) xs κ ((κ, q) ∷ []) b o (⊑_static κ) (Incl-refl κ)

  module _ (κ : Lft) (q : Share) (rb ro : ℕ) (γ : GName) (d : RawBytes) (vs : List Val) (b o i j n : ℕ) (xs ys : List ℕ)
      (e : d.at ≡ block_ptr b o) (apart : IsApart i j n) (fits_i : i + n ≤ length d.bytes) (fits_j : j + n ≤ length d.bytes) (small : length d.bytes < 2 ^ 63)
      (is_x : take n (drop i d.bytes) ≡ map Some xs) (is_y : take n (drop j d.bytes) ≡ map Some ys) (long_x : length xs ≡ n) (long_y : length ys ≡ n) where
    abbrev pub F : List ℕ → RawBytes
    F = with_run d j n

    abbrev Source : Fml
    Source = parts_of (mem u8) (shares u8) full_share xs b (o + i)

    abbrev Keep : SProp 𝓤
    Keep = Keeps 𝓛 b d.bytes o i j n

    abbrev FieldsHere : Fml
    FieldsHere = NoFields.own_val tt vs

    abbrev CellHere : Fml
    CellHere = cell_at full_share BytesRow.mir vs rb ro

    abbrev Rest : SProp 𝓤
    Rest = sep 𝓤 Keep (sep 𝓤 (sem 𝓛 FieldsHere) (sem 𝓛 CellHere))

    abbrev Target : List ℕ → Fml
    Target w = (Arr (mem u8) (length ys)).own_at w b (o + j)

    whole : (w : List ℕ) → ent 𝓤 (sep 𝓤 (sem 𝓛 (Target w)) (sep 𝓤 (sem 𝓛 (fseps (Source ∷ []))) Rest)) (sem 𝓛 ((mem BytesRow).own_at (F w) rb ro))
    unfolding fseps part_of
    whole w = qed 𝓛 (‵ (Target w) ∷ ‵ (fseps (Source ∷ [])) ∷ raw Rest ∷ []) ∵ fsplit ! $ feq_l ! (λ same.
        let long : length w ≡ n = same ∙ long_y in
        let same_row : (F w).bytes ≡ written d.bytes j n w = ap (overlaid d.bytes j) (take_all n w (omega (arith, long))) ∙ overlaid_is d.bytes j n ys w fits_j is_y long in
        let kept : length (F w).bytes ≡ length d.bytes = length-overlaid d.bytes j (take n w) in
        use1 𝓛 (‵ (row b (o + j) (map Some w))) (of_cells 𝓛 b w (o + j)) $ move ! (1 ∷ []) $ fsplit ! $
        use1 𝓛 (‵ (row b (o + i) (map Some xs))) (of_parts 𝓛 b xs (o + i)) $ rewrite ! 0 (λ (l : List (Option ℕ)). ‵ (row b (o + i) l)) (sym is_x) refl $
        -- [the first run; nothing; the second; the rest]
        move ! (3 ∷ []) $ use1 𝓛 (raw Keep ⊛ (‵ FieldsHere ⊛ ‵ CellHere)) (id⊢ 𝓤 _) $ split ! $ move ! (1 ∷ []) $ split ! $ move ! (2 ∷ []) $
        use1 𝓛 (raw (Whole 𝓛 b d.bytes o i j n w)) (all_e 𝓤 (λ (z : (ws : List ℕ) × (length ws ≡ n)). Whole 𝓛 b d.bytes o i j n z.0) (w, long)) $
        move ! (3 ∷ 5 ∷ []) $ join ! $
        use2 𝓛 (‵ (row b o (written d.bytes j n w))) (apply∗ 𝓤 (sep 𝓤 (sem 𝓛 (row b (o + i) (take n (drop i d.bytes)))) (sem 𝓛 (row b (o + j) (map Some w)))) (sem 𝓛 (row b o (written d.bytes j n w)))) $
        rewrite ! 0 (λ (l : List (Option ℕ)). ‵ (row b o l)) (sym same_row) refl $
        flt_i ! (length (F w).bytes) (2 ^ 63) (subst (λ k. k < 2 ^ 63) (sym kept) small) $ fjoin ! $
        rewrite ! 0 (λ (p : Ptr). ‵ (owned p (F w).bytes)) (sym e) refl $ move ! (1 ∷ 0 ∷ []) $ fjoin ! $ move ! (1 ∷ 0 ∷ []) $ fjoin ! $
        fpack ! (List Val) (λ us. fsep (cell_at full_share BytesRow.mir us rb ro) (BytesRow.own_val (F w) us)) vs $ keep ! (0 ∷ []) $ done !)

    abbrev pub read : Bor (List ℕ)
    read = record { ref_ptr = (b, o + i); now = xs }

    abbrev pub wrote : GName → MutBor (List ℕ)
    wrote δ = record { ref_ptr = (b, o + j); ghost_name = δ; now = ys }

    abbrev pub Lent : GName → SProp 𝓤
    Lent δ = sep 𝓤 (sem 𝓛 ((ShrSlice (named 0) κ u8).own_val read (slice_val (b, o + i) (length xs) ∷ []))) (sep 𝓤 (sem 𝓛 ((MutSlice (named 0) κ u8).own_val (wrote δ) (slice_val (b, o + j) (length ys) ∷ [])))
        (sep 𝓤 (A.lft κ q) (sem 𝓛 (follows BytesRow (Array u8 0) γ δ F))))

    pub borrows : (u v : Gv) → ent 𝓤 (sep 𝓤 (A.obor κ q (Body (mem BytesRow) rb ro γ)) (sep 𝓤 (A.obs γ u) (sep 𝓤 (A.auth γ v) (sep 𝓤 (sem 𝓛 (row b o d.bytes)) (sep 𝓤 (sem 𝓛 FieldsHere) (sem 𝓛 CellHere)))))) (H.⇛ (ex 𝓤 Lent))
    unfolding fseps
    borrows u v = let room_y : Room u8 (length ys) = (omega arith, omega arith) in
        qed 𝓛 (‵ (fobor κ q (Body (mem BytesRow) rb ro γ)) ∷ ‵ (fobs γ u) ∷ ‵ (fauth γ v) ∷ ‵ (row b o d.bytes) ∷ ‵ FieldsHere ∷ ‵ CellHere ∷ []) ∵ updating ! $ move ! (3 ∷ []) $
        use1 𝓛 (‵ (row b (o + i) (take n (drop i d.bytes))) ⊛ (‵ (row b (o + j) (take n (drop j d.bytes))) ⊛ raw Keep)) (both_out 𝓛 b d.bytes o i j n apart fits_i fits_j) $ split ! $ move ! (1 ∷ []) $ split ! $
        rewrite ! 0 (λ (l : List (Option ℕ)). ‵ (row b (o + j) l)) is_y refl $ use1 𝓛 (‵ (cells (mem u8) ys b (o + j))) (to_cells 𝓛 b ys (o + j)) $ feq_i ! ℕ (length ys) (length ys) refl $ fjoin ! $
        -- [the second run; what keeps the rest; the first; the open borrow; obs; auth; the mark; its cell]
        move ! (2 ∷ []) $ rewrite ! 0 (λ (l : List (Option ℕ)). ‵ (row b (o + i) l)) is_x refl $ use1 𝓛 (‵ Source) (to_parts 𝓛 b xs (o + i)) $ nothing ! $ move ! (1 ∷ 0 ∷ []) $ fjoin ! $
        move ! (2 ∷ 6 ∷ 7 ∷ []) $ group ! 3 $ move ! (3 ∷ 4 ∷ 5 ∷ 2 ∷ 1 ∷ 0 ∷ []) $ group ! 6 $
        use1 𝓛 (later (some (λ (δ : GName). ‵ (fobs δ ((coded_list u8.coded).code ys)) ⊛ (‵ (fbor κ (Body (Arr (mem u8) (length ys)) b (o + j) δ)) ⊛ (‵ (flft κ q) ⊛ (‵ (follows BytesRow (Array u8 0) γ δ F) ⊛ (‵ (fbor κ Source) ⊛ raw (emp 𝓤))))))))
        (takes_beside 𝓛 (mem BytesRow) (Arr (mem u8) (length ys)) F κ q rb ro b (o + j) γ (Source ∷ []) Rest whole u v ys) $ await ! tt $ pick ! (λ δ. split3 ! $ move ! (2 ∷ []) $ split3 ! $ move ! (2 ∷ []) $ split ! $
        -- [the borrow of the first; nothing; the token; follows; obs; the borrow of the second]
        move ! (0 ∷ 2 ∷ []) $ use2 𝓛 (later (‵ (elements_shared u8 xs b (o + i) κ) ⊛ ‵ (flft κ q))) (bytes_share xs κ q b (o + i)) $ await ! tt $ split ! $ hide ! $
        flt_i ! (length xs * (mem u8).size) (2 ^ 63) (omega arith) $ flt_i ! (length xs) (2 ^ 64) (omega arith) $ fjoin ! $
        feq_i ! (List Val) (slice_val (b, o + i) (length xs) ∷ []) (slice_val (b, o + i) (length xs) ∷ []) refl $ fjoin ! $ fjoin ! $
        move ! (4 ∷ 5 ∷ []) $ use2 𝓛 (‵ ((MutSlice (named 0) κ u8).own_val (wrote δ) (slice_val (b, o + j) (length ys) ∷ []))) (slice_of 𝓛 u8 (named 0) κ b (o + j) δ ys room_y) $
        now ! $ show ! Lent δ $ keep ! (1 ∷ 0 ∷ 2 ∷ 4 ∷ []) $ done !)
