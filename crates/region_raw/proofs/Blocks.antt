-- What the walks that take and free a block share. Assumes `Logic`.
use Rattle.std.proofs.Common.{◌≡◌, refl, ap, ◌∙◌, true, false, List, [], ◌∷◌, ◌++◌, replicate, None, Ok, Err}
use Rattle.std.proofs.lemmas.Grind.{common_steps}
use native.Mathlib.Omega.{arith}
use Prim.Native.Nat.{◌<◌, ℕ, zero, suc, ◌+◌}
use seplogic.Ra.Ura.{Ura}
use mir.Syntax.{Ty, ty_int, w8}
use mir.Val.{Val, vstruct, vcons, vnil, of_list}
use base.Logic.{ent, sep, never, fst∗}
use base.Fml.{fsep, froom}
use types.Logic.{Logic, sem}
use types.Match.{live}
use types.Kit.{Goal, Seq, Item, ‵, ◌⊛◌, ◌$◌, ◌∵◌, !, qed, by, move, keep, drop as skip, use1, split, frame, fsplit, fjoin, fpick, fpack, feq_i, feq_l, done}
use denote.RattleType.{RattleType, Valss}
use denote.Laws.{Is}
use denote.RawPtr.{Ptr, RawPtr, block_ptr, null_ptr, ptr_val, room_for, in_a_block}
use denote.Steps.{nothing, owned as owns_it, only}
use denote.Struct.Declared as Declared
use denote.Struct.Owning as Owning
use denote.Struct.Struct.{Struct, Struct-Makes, within}
use denote.Struct.Tuple.{Tuple, tuple_type}
use Rattle.core.specs.Allocator.{block_if_ok}
use Rattle.core.proofs.alloc.Calls.{Answer, answer_val}
use Rattle.region_raw.specs.Ownership.{owned, to_be_freed, heap_right, row, bytes_ty}
use Rattle.region_raw.specs.declared.raw.Start.{Start}
use Rattle.region_raw.specs.declared.raw.RawBytes.{RawBytes}
use Rattle.region_raw.specs.declared.raw.Right.{Right}
use Rattle.region_raw.specs.contracts.raw.Start as B
use Rattle.region_raw.specs.contracts.raw.RawBytes as C
use Rattle.region_raw.specs.contracts.raw.Right as R
use Rattle.region_raw.proofs.Starts.{StartRow, word}
use Rattle.region_raw.proofs.LendTwo.{BytesRow, NoFields}

abbrev pub RightRow : RattleType
RightRow = R.the_row

-- the data fields of the right, of which there is none
abbrev pub Seal : RattleType
Seal = Struct (Owning.shape R.the_type)

-- a struct of no bytes
abbrev pub bare : Val
bare = vstruct vnil

abbrev pub Made : List RattleType
Made = StartRow ∷ BytesRow ∷ RightRow ∷ []

abbrev pub made_val : Start → Val
made_val x = vstruct (vcons (word x) (vcons bare (vcons bare vnil)))

module _ {M : Type 1} {𝓤 : Ura M} (𝓛 : Logic 𝓤) where
  open 𝓛 use {H}

  -- the pointer, the bytes and the right, as one value
  pub made : (x : Start) (d : RawBytes) (r : Right) → ent 𝓤 (sep 𝓤 (sem 𝓛 (owned d.at d.bytes)) (sem 𝓛 (to_be_freed r.at r.len))) (sem 𝓛 ((Tuple Made).own_val (x, d, r) (made_val x ∷ [])))
  made x d r = qed 𝓛 (‵ (owned d.at d.bytes) ∷ ‵ (to_be_freed r.at r.len) ∷ []) ∵
      owns_it ! NoFields (Is NoFields) (Struct-Makes 𝓛 (Owning.shape C.the_type) tt) tt (bare ∷ []) (tt, (refl, tt)) $ fjoin ! $ move ! (1 ∷ []) $
      owns_it ! Seal (Is Seal) (Struct-Makes 𝓛 (Owning.shape R.the_type) tt) tt (bare ∷ []) (tt, (refl, tt)) $ fjoin ! $
      nothing ! $ move ! (1 ∷ 0 ∷ []) $ fjoin ! $ move ! (1 ∷ 0 ∷ []) $ fjoin ! $
      nothing ! $ feq_i ! (List Val) (ptr_val x.ptr ∷ []) (ptr_val x.ptr ∷ []) refl $ fjoin ! $ feq_i ! (List Val) (word x ∷ []) (word x ∷ []) refl $ fjoin ! $
      fpack ! (Valss (RawPtr ∷ [])) (within (Declared.shape B.the_type) (x.ptr, tt) (word x ∷ [])) (ptr_val x.ptr ∷ [], tt) $ fjoin ! $
      feq_i ! (List Val) (made_val x ∷ []) (made_val x ∷ []) refl $ fjoin ! $
      fpack ! (Valss Made) (within (Declared.shape (tuple_type Made)) (x, (d, (r, tt))) (made_val x ∷ [])) (word x ∷ [], (bare ∷ [], (bare ∷ [], tt))) $ done !

  module _ (b : ℕ) where
    -- room for n bytes is n blank bytes
    pub room_is_blank : (n o : ℕ) → ent 𝓤 (H.room (bytes_ty n) b o) (sem 𝓛 (row b o (replicate n None)))
    room_is_blank zero o = qed 𝓛 (‵ (froom (bytes_ty zero) b o) ∷ []) ∵ keep ! [] $ done !
    room_is_blank (suc n) o = qed 𝓛 (‵ (froom (bytes_ty (suc n)) b o) ∷ []) ∵
        use1 𝓛 (‵ (froom (ty_int w8) b o) ⊛ ‵ (froom (bytes_ty n) b (o + 1))) (𝓛.laws.room_uncons (ty_int w8) n b o) $ split ! $ frame ! $ by ! (room_is_blank n (o + 1))

    pub blank_is_room : (n o : ℕ) → ent 𝓤 (sem 𝓛 (row b o (replicate n None))) (H.room (bytes_ty n) b o)
    blank_is_room zero o = 𝓛.laws.room_nil (ty_int w8) b o
    blank_is_room (suc n) o = qed 𝓛 (‵ (froom (ty_int w8) b o) ∷ ‵ (row b (o + 1) (replicate n None)) ∷ []) ∵
        move ! (1 ∷ []) $ use1 𝓛 (‵ (froom (bytes_ty n) b (o + 1))) (blank_is_room n (o + 1)) $ move ! (1 ∷ 0 ∷ []) $ by ! (𝓛.laws.room_cons (ty_int w8) n b o)

module _ {M : Type 1} {𝓤 : Ura M} {𝓛 : Logic 𝓤} {K : Type 0} {Γ : List (Item 𝓤)} {G : Goal 𝓤 𝓛.H} where
  -- the two answers of the heap: a block with the right to free it, or nothing
  pub on_answer : K → (τ : Ty) (v : Val) (r : Answer.Denot)
      → ((b o : ℕ) → v ≡ answer_val true b o → Seq K 𝓛 (‵ (froom τ b o) ∷ ‵ (heap_right τ (block_ptr b o)) ∷ Γ) G) → (v ≡ answer_val false 0 0 → Seq K 𝓛 Γ G)
      → Seq K 𝓛 (‵ (Answer.own_val r (v ∷ [])) ∷ ‵ (block_if_ok heap_right τ r) ∷ Γ) G
  on_answer t τ v (Ok p) ok refused =
      fpick t (λ us. fsplit t $ feq_l t (λ e. fpick t (λ vss. fsplit t $ feq_l t (λ e1. fsplit t $ feq_l t (λ e2. skip t $
      in_a_block t p (λ z. fsep (room_for τ z) (heap_right τ z)) (fst∗ 𝓤 (never 𝓤) (sem 𝓛 (heap_right τ null_ptr))) (λ b o at. fsplit t $
      ok b o (ap only e ∙ ap (λ (ws : List Val). live 0 (of_list ws)) (e1 ∙ ap (λ (ws : List Val). ws ++ []) (e2 ∙ ap (λ (z : Ptr). ptr_val z ∷ []) at)))))))))
  on_answer t τ v (Err n) ok refused =
      fpick t (λ us. fsplit t $ feq_l t (λ e. fpick t (λ vss. fsplit t $ feq_l t (λ e1. fsplit t $ fpick t (λ none. fsplit t $ feq_l t (λ e2. skip t $ skip t $ skip t $
      refused (ap only e ∙ ap (λ (ws : List Val). live 1 (of_list ws)) (e1 ∙ ap (λ (ws : List Val). ws ++ []) e2))))))))

-- the right to free at least one byte is the heap's own
pub right_is : (p : Ptr) (n : ℕ) → 0 < n → to_be_freed p n ≡ heap_right (bytes_ty n) p
right_is p n h1 = grind (arith, common_steps)
