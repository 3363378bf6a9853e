-- What a `&mut` to a handle lends for all of its time: the value behind the pointer. `Shown` is the row of a handle whose `&` holds that.
-- Assumes `Logic`.
use Rattle.std.proofs.Common.{◌≡◌, ℕ, ◌+◌, ◌<◌, ◌^◌, List, [], ◌∷◌, Option, Some, None, refl, sym, subst, lit<, MutBor}
use mathlib.Core.Option.{none}
use seplogic.Ra.Ura.{Ura}
use mir.Raw.{raw as bare}
use mir.Syntax.{ty_ptr}
use mir.Val.{Val}
use base.Logic.{ent, sep, wand, ex_i, apply∗, never_e, guard_i}
use base.Fml.{Lft, Share, Fml, ftrue, fbor, flft, fat, feq}
use contract.BorrowLft.{⊑_static}
use types.Logic.{Logic, sem, lfts}
use types.Kit.{Item, Goal, Seq, Soaks, Step, step, ‵, raw, given, ◌⊛◌, later, await, updating, now, ◌$◌, ◌∵◌, !, qed, done, move, keep, drop, split, use1, use2, fsplit, feq_i, feq_l, learn, rewrite}
use contract.Monad.{fact_use}
use denote.RattleType.{RattleType, RowLaws}
use denote.Builtin.{RawPtr}
use denote.Copied.{plain_Copied}
use denote.Follow.{such_by, follows_by}
use denote.Memory.{lone, cell_at, part_at, shared_of, hidden_shr}
use denote.Opens.{Shut, shr_dup, unhide, hide}
use denote.RawPtr.{Ptr, block_ptr, null_ptr, ptr_val, count_of, coded_ptr, ptr_own, rawptr_pure, ptr_row_laws}
use denote.Shares.{Shares, Shares-less}
use denote.Sharing.{ShrLaws, said, beside}
use denote.SharingLaws.{said_shr_laws, beside_shr_laws}
use denote.Steps.{looks, shuts, nothing}
use denote.Param.Shared.{copy_shared}
use denote.Struct.Field.{RawPtr-field}
use denote.Struct.Laws.{RawPtr-copy, RawPtr-laws}
use denote.Struct.Lending.{Lends, Lends-said, Lends-both, Lends-lies, Law, of_Lends, lent_at, lent_at_shr_laws}
use denote.Struct.Owning.{lending, row, shape}
use denote.Struct.Struct.{Struct, Struct-row_laws}
use Rattle.core.specs.Ptr.{points_to}
use Rattle.std_heap.proofs.GlobalToken.{dealloc_token_start}
use Rattle.mvs_c.specs.Handle.{owned, heap_right}
use Rattle.mvs_c.specs.Lending.{IsLeft}
use Rattle.mvs_c.specs.Opens.{OpenValue}
use Rattle.mvs_c.specs.declared.handle.Handle.{Handle}
use Rattle.mvs_c.specs.contracts.handle.Handle as handle
use Rattle.mvs_c.proofs.Handles.{Open, Row}
use Rattle.mvs_c.proofs.open.Open.TheLaws as opened_laws

-- what a `&` to the value has: that the pointer is null; or a `&` to the value in the block that begins there
abbrev pub lent : Ptr → Option OpenValue → Lft → Fml
lent p None = said (feq Ptr p null_ptr)
lent p (Some x) = beside (lent_at Open p x) (said (feq ℕ (count_of p) 0))

abbrev pub held : Handle → Ptr → Lft → Fml
held h _ κ = lent h.at h.«open» κ

abbrev pub Shown : RattleType
Shown = row (lending handle.struct handle.the_codes handle.the_heap held)

-- the pointer of a handle, as a struct
abbrev pub Words : RattleType
Words = Struct (shape (lending handle.struct handle.the_codes handle.the_heap held))

lent_laws : (p : Ptr) (x : Option OpenValue) → ShrLaws (lent p x)
lent_laws p None = said_shr_laws (feq Ptr p null_ptr) tt
lent_laws p (Some x) = beside_shr_laws (lent_at Open p x) (said (feq ℕ (count_of p) 0)) (lent_at_shr_laws Open opened_laws.the_row_laws.shr_laws p x) (said_shr_laws (feq ℕ (count_of p) 0) tt)

module _ {M : Type 1} {𝓤 : Ura M} (𝓛 : Logic 𝓤) where
  open 𝓛 use {H, A}

  abbrev right : Ptr → Fml
  right p = heap_right (bare (lone Open.mir)) p

  -- the right to free a block says that the pointer is its start
  Lends-start : (p : Ptr) (l : Lft) → Lends 𝓛 (right p) (said (feq ℕ (count_of p) 0)) l
  Lends-start p l κ ts inc sp = qed 𝓛 (‵ (fbor κ (right p)) ∷ raw (lfts 𝓛 ts) ∷ []) {P = H.⇛ (sep 𝓤 (sem 𝓛 (feq ℕ (count_of p) 0)) (lfts 𝓛 ts))} (
      updating ! $ use2 𝓛 (later (‵ (right p) ⊛ raw (wand 𝓤 (sem 𝓛 (right p)) (H.⇛ (sep 𝓤 (A.bor κ (right p)) (lfts 𝓛 ts)))))) (𝓛.more.bor_acc_by κ ts (right p) sp) $ await ! tt $ split ! $
      use1 𝓛 (given (count_of p ≡ 0) (‵ (right p))) (fact_use 𝓤 (count_of p ≡ 0) (dealloc_token_start 𝓛 (record { memory = record { seal = tt } }) (bare (lone Open.mir)) p)
      (guard_i 𝓤 (count_of p ≡ 0) (sem 𝓛 (right p)))) $ learn ! (λ e.
      use2 𝓛 (later (‵ (fbor κ (right p)) ⊛ raw (lfts 𝓛 ts))) (apply∗ 𝓤 (sem 𝓛 (right p)) (H.⇛ (sep 𝓤 (A.bor κ (right p)) (lfts 𝓛 ts)))) $ await ! tt $ split ! $ drop ! $
      feq_i ! ℕ (count_of p) 0 e $ now ! $ done !))

  lends : (p : Ptr) (x : Option OpenValue) (l : Lft) → Lends 𝓛 (owned Open p x) (lent p x) l
  lends p None l = Lends-said 𝓛 (feq Ptr p null_ptr) tt l
  lends p (Some x) l = Lends-both 𝓛 (points_to Open p x) (right p) (lent_at Open p x) (said (feq ℕ (count_of p) 0)) l
      (Lends-lies 𝓛 Open l p x (Shares-less 𝓛 Open Open.lives l (⊑_static l) (opened_laws.the_row_laws.shares 𝓛) x)) (Lends-start p l)

pub shown_law : Law Shown
shown_law = of_Lends handle.struct handle.the_codes handle.the_heap held (λ d p. lent_laws d.at d.«open») (copy_shared RawPtr-field RawPtr-copy, tt)
    (λ M 𝓤 𝓛 d p. lends 𝓛 d.at d.«open» Shown.lives)

module _ {M : Type 1} {𝓤 : Ura M} (𝓛 : Logic 𝓤) where
  open 𝓛 use {H, A}

  pub shares_at : (κ : Lft) → Shares 𝓛 Shown κ
  shares_at κ = Shares-less 𝓛 Shown Shown.lives κ (⊑_static κ) (shown_law.shares M 𝓤 𝓛)

  -- what says the last value of a handle says that it has the same session
  pub left_says : (h : MutBor Handle) → ent 𝓤 (A.res h.ghost_name (Row.coded.code h.now)) (sem 𝓛 (IsLeft h))
  unfolding such_by follows_by
  left_says h = ex_i 𝓤 (λ (s : (s : (Handle → Handle) × Handle) × ((w : Handle) → Unit {0}) × (s.1.«open» ≡ h.now.«open»)). sem 𝓛 (follows_by Handle Handle Row.coded.code Row.coded.code h.ghost_name none s.0.0 s.0.1))
      (((λ _. h.now), h.now), (λ _. tt), refl)

  module _ (κ : Lft) (p : Ptr) (b o : ℕ) where
    abbrev S : Fml
    S = hidden_shr Words κ (p, tt) b o

    laws : RowLaws Words
    laws = Struct-row_laws (shape (lending handle.struct handle.the_codes handle.the_heap held)) (ptr_row_laws, tt)

    pub shows_at : ent 𝓤 (sem 𝓛 S) (sep 𝓤 (sem 𝓛 (hidden_shr RawPtr κ p b (o + 0))) (sem 𝓛 S))
    shows_at = qed 𝓛 (‵ S ∷ []) ∵ shr_dup ! Words laws (p, tt) b o κ $ unhide ! $ fsplit ! $ fsplit ! $ hide ! $ keep ! (0 ∷ 3 ∷ []) $ done !

module _ {M : Type 1} {𝓤 : Ura M} {𝓛 : Logic 𝓤} {K : Type 0} {Γ : List (Item 𝓤)} {G : Goal 𝓤 𝓛.H} where
  -- [nothing; the pointer; the way back; S]
  pub pointer_in : K → Soaks G → {κ : Lft} {q : Share} {S : Fml} (p : Ptr) (b at : ℕ) → ent 𝓤 (sem 𝓛 S) (sep 𝓤 (sem 𝓛 (hidden_shr RawPtr κ p b at)) (sem 𝓛 S))
      → ((q' : Share) → Seq K 𝓛 (‵ ftrue ∷ ‵ (fat q' ty_ptr b at (ptr_val p)) ∷ Shut 𝓛 κ q (part_at RawPtr q' p b at) ∷ ‵ S ∷ Γ) G) → Seq K 𝓛 (‵ S ∷ ‵ (flft κ q) ∷ Γ) G
  pointer_in t z {κ} {q} {S} p b at shown k =
      use1 𝓛 (‵ (hidden_shr RawPtr κ p b at) ⊛ ‵ S) shown $ split t $ move t (0 ∷ 2 ∷ []) $
      looks t z RawPtr (plain_Copied 𝓛 Ptr coded_ptr (ty_ptr ∷ []) ptr_own rawptr_pure ptr_val RawPtr-laws.tells).opens p b at (λ q' vs. move t (1 ∷ []) $ feq_l t (λ e.
      rewrite t 0 (λ (us : List Val). ‵ (cell_at q' RawPtr.mir us b at)) e refl $ move t (2 ∷ []) $ drop t $ nothing t $ k q'))

  pub pointer_out : K → Soaks G → {κ : Lft} {q q' : Share} (p : Ptr) (b at : ℕ)
      → Step K 𝓛 (‵ (flft κ q) ∷ Γ) G (‵ ftrue ∷ ‵ (fat q' ty_ptr b at (ptr_val p)) ∷ Shut 𝓛 κ q (part_at RawPtr q' p b at) ∷ Γ) G
  pointer_out t z {q' = q'} p b at = step (λ s.
      drop t $ feq_i t (List Val) (ptr_val p ∷ []) (ptr_val p ∷ []) refl $ move t (1 ∷ 0 ∷ []) $ shuts t z RawPtr q' p (ptr_val p ∷ []) b at $ s)

  -- null, or a block, which may be compared with null
  pub on_lent : K → (p : Ptr) (x : Option OpenValue) (κ : Lft)
      → (p ≡ null_ptr → x ≡ None → Seq K 𝓛 Γ G)
      → ((b o : ℕ) (v : OpenValue) → p ≡ block_ptr b o → x ≡ Some v → o < 2 ^ 63 → Seq K 𝓛 (‵ (shared_of Open v b o κ) ∷ Γ) G)
      → Seq K 𝓛 (‵ (lent p x κ) ∷ Γ) G
  on_lent t p None κ null some = feq_l t (λ e. null e refl)
  on_lent t (block_ptr b o) (Some v) κ null some = fsplit t $ fsplit t $ drop t $ move t (1 ∷ []) $ feq_l t (λ start. some b o v refl refl (subst (λ (k : ℕ). k < 2 ^ 63) (sym start) (lit< tt)))
  on_lent t null_ptr (Some v) κ null some = fsplit t $ fsplit t $ use1 𝓛 (given ⊥ (‵ ftrue)) (never_e 𝓤 _) $ learn t (λ z. absurd z)
