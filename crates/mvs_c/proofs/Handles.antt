-- The machine values of a handle, and what it owns; the parts of a session's box own what that box would. Assumes `Logic`.
use Rattle.std.proofs.Common.{◌≡◌, ℕ, ◌<◌, ◌^◌, List, [], ◌∷◌, ◌++◌, Option, Some, None, refl, subst, lit<}
use lib.Dec.{T}
use seplogic.Ra.Ura.{Ura}
use mir.Raw.{raw as bare}
use mir.Syntax.{impl, tnil, dnil}
use mir.Val.{Val, vstruct, vcons, vnil, of_list, has_ty, WT}
use base.Logic.{never, fst∗, snd∗, via, guard_i}
use types.Logic.{Logic, sem}
use types.Kit.{Item, Goal, Seq, Step, step, ‵, given, ◌$◌, drop, use1, fsplit, fjoin, fpick, fpack, feq_i, feq_l, learn}
use contract.Monad.{fact_use}
use denote.RattleType.{RattleType, Valss}
use denote.Builtin.{RawPtr}
use denote.Memory.{lone}
use denote.Param.{layout}
use denote.RawPtr.{Ptr, block_ptr, null_ptr, ptr_val, in_a_block, Testable}
use denote.Steps.{nothing}
use denote.Struct.Struct.{within}
use denote.Struct.Owning.{shape}
use Rattle.core.specs.Ptr.{points_to}
use Rattle.std.specs.contracts.alloc.Global as heap
use Rattle.std.proofs.alloc.Global.TheLaws as heap_laws
use Rattle.std_heap.specs.contracts.GlobalAllocator.TheImpl.{ghosts}
use Rattle.std_heap.proofs.GlobalToken.{dealloc_token-Testable}
use Rattle.std_alloc.specs.Box.Ownership.{box_owns}
use Rattle.std_alloc.proofs.BoxSteps.Form.{Bx}
use Rattle.mvs_c.specs.Handle.{owned, heap_right}
use Rattle.mvs_c.specs.Opens.{OpenValue}
use Rattle.mvs_c.specs.declared.handle.Handle.{Handle}
use Rattle.mvs_c.specs.contracts.box_parts.BoxParts as parts
use Rattle.mvs_c.specs.contracts.handle.Handle as handle
use Rattle.mvs_c.specs.contracts.open.Open as opened
use Rattle.mvs_c.proofs.open.Open.TheLaws as opened_laws

abbrev pub Open : RattleType
Open = opened.the_row

abbrev pub Row : RattleType
Row = handle.the_row

abbrev pub Parts : RattleType
Parts = parts.the_row Open heap.the_row ghosts

-- a box of a session
abbrev pub E : Bx
E = record { row = Open; laws = opened_laws.the_row_laws; al = record { row = heap.the_row; laws = heap_laws.the_row_laws; g = ghosts; d = impl [] tnil dnil; drops = impl [] tnil dnil } }

-- the machine value of a handle
abbrev pub word : Ptr → Val
word p = vstruct (vcons (ptr_val p) vnil)

pub good : (p : Ptr) → T (has_ty (layout Row) (word p)) × WT (word p)
good (block_ptr b o) = (tt, (tt, tt))
good null_ptr = (tt, (record { fits = lit< tt }, tt))

module _ {M : Type 1} {𝓤 : Ura M} {𝓛 : Logic 𝓤} {K : Type 0} {Γ : List (Item 𝓤)} {G : Goal 𝓤 𝓛.H} where
  pub handle_in : K → (p : Ptr) (x : Option OpenValue) → Step K 𝓛 (‵ (Row.own_val (record { at = p; «open» = x }) (word p ∷ [])) ∷ Γ) G (‵ (owned Open p x) ∷ Γ) G
  handle_in t p x = step (λ s.
      nothing t $ feq_i t (List Val) (ptr_val p ∷ []) (ptr_val p ∷ []) refl $ fjoin t $ feq_i t (List Val) (word p ∷ []) (word p ∷ []) refl $ fjoin t $
      fpack t (Valss (RawPtr ∷ [])) (within (shape handle.the_type) (p, tt) (word p ∷ [])) (ptr_val p ∷ [], tt) $ fjoin t $ s)

  pub handle_out : K → (d : Handle) (vs : List Val) → (vs ≡ word d.at ∷ [] → Seq K 𝓛 (‵ (owned Open d.at d.«open») ∷ Γ) G) → Seq K 𝓛 (‵ (Row.own_val d vs) ∷ Γ) G
  handle_out t d vs next =
      fsplit t $ fpick t (λ vss. fsplit t $ feq_l t (λ spelt. fsplit t $ feq_l t (λ pointed. drop t $
      next (subst (λ (us : List Val). vs ≡ vstruct (of_list (us ++ [])) ∷ []) pointed spelt))))

  -- null, or a block, which may be compared with null
  pub on_owned : K → (p : Ptr) (x : Option OpenValue)
      → (p ≡ null_ptr → x ≡ None → Seq K 𝓛 Γ G)
      → ((b o : ℕ) (v : OpenValue) → p ≡ block_ptr b o → x ≡ Some v → o < 2 ^ 63 → Seq K 𝓛 (‵ (box_owns heap_right Open (block_ptr b o) v) ∷ Γ) G)
      → Seq K 𝓛 (‵ (owned Open p x) ∷ Γ) G
  on_owned t p None none some = feq_l t (λ e. none e refl)
  on_owned t p (Some v) none some =
      in_a_block t p (λ q. box_owns heap_right Open q v) (fst∗ 𝓤 (never 𝓤) (sem 𝓛 (heap_right (bare (lone Open.mir)) null_ptr))) (λ b o e.
      use1 𝓛 (given (Testable (block_ptr b o)) (‵ (box_owns heap_right Open (block_ptr b o) v)))
      (fact_use 𝓤 (Testable (block_ptr b o)) (via 𝓤 _ (snd∗ 𝓤 (sem 𝓛 (points_to Open (block_ptr b o) v)) (sem 𝓛 (heap_right (bare (lone Open.mir)) (block_ptr b o))))
      (dealloc_token-Testable 𝓛 (record { memory = record { seal = tt } }) (bare (lone Open.mir)) (block_ptr b o)))
      (guard_i 𝓤 (Testable (block_ptr b o)) (sem 𝓛 (box_owns heap_right Open (block_ptr b o) v)))) $ learn t (λ may. some b o v e refl may))
