-- What a `&` to a row of bytes may read: that each value in it is shared, and that a run of values is read from it. Assumes `Logic`.
use Rattle.std.proofs.Common.{◌≡◌, refl, sym, ap, ◌∙◌, List, [], ◌∷◌, ◌++◌, map, length, take, drop, take-append-drop, Option, Some, None}
use Prim.Native.Nat.{ℕ, zero, suc, ◌+◌, ◌≤◌, ◌^◌}
use native.Mathlib.Omega.{arith}
use seplogic.Ra.Ura.{Ura}
use base.Logic.{ent, via, snd∗, mono_r}
use base.Fml.{Lft, ftrue, ffalse, flt}
use types.Logic.{Logic, sem}
use types.Kit.{‵, ◌$◌, ◌∵◌, !, qed, by, keep, use1, rewrite, done}
use contract.BorrowLft.{⊑_static}
use denote.Builtin.{u8}
use denote.RawPtr.{Ptr, block_ptr, null_ptr}
use denote.Sharing.{ShrLaws, said}
use denote.SharingLaws.{beside_shr_laws, nothing_shr_laws, said_shr_laws}
use denote.Slice.{elements_shared}
use denote.Param.Shared.{copy_shared}
use denote.Struct.Field.{u8-field}
use denote.Struct.Laws.{u8-copy}
use denote.Struct.Lending.{Lends, Lends-both, Lends-nothing, Lends-said, Lends-false}
use Rattle.region_raw.specs.Ownership.{byte_at, row, owned, byte_seen, row_seen, seen}

-- a row at a place in a block
module _ (b : ℕ) where
  seen_byte_is_shared : (c : Option ℕ) (o : ℕ) → ShrLaws (byte_seen b o c)
  seen_byte_is_shared None o = nothing_shr_laws
  seen_byte_is_shared (Some x) o = (copy_shared u8-field u8-copy).shr_laws x b o

  seen_row_is_shared : (cs : List (Option ℕ)) (o : ℕ) → ShrLaws (row_seen b o cs)
  seen_row_is_shared [] o = nothing_shr_laws
  seen_row_is_shared (c ∷ cs) o = beside_shr_laws (byte_seen b o c) (row_seen b (o + 1) cs) (seen_byte_is_shared c o) (seen_row_is_shared cs (o + 1))

-- what is seen of a row is shared
pub seen_is_shared : (p : Ptr) (cs : List (Option ℕ)) → ShrLaws (seen p cs)
seen_is_shared null_ptr cs = said_shr_laws ffalse tt
seen_is_shared (block_ptr b o) cs = beside_shr_laws (said (flt (length cs) (2 ^ 63))) (row_seen b o cs) (said_shr_laws (flt (length cs) (2 ^ 63)) tt) (seen_row_is_shared b cs o)

module _ {M : Type 1} {𝓤 : Ura M} (𝓛 : Logic 𝓤) (l : Lft) where
  module _ (b : ℕ) where
    byte_is_lent : (c : Option ℕ) (o : ℕ) → Lends 𝓛 (byte_at b o c) (byte_seen b o c) l
    byte_is_lent None o = Lends-nothing 𝓛 (byte_at b o None) l
    byte_is_lent (Some x) o = λ κ ts inc sp. (copy_shared u8-field u8-copy).shares M 𝓤 𝓛 x κ ts b o (⊑_static _) sp

    row_is_lent : (cs : List (Option ℕ)) (o : ℕ) → Lends 𝓛 (row b o cs) (row_seen b o cs) l
    row_is_lent [] o = Lends-nothing 𝓛 ftrue l
    row_is_lent (c ∷ cs) o = Lends-both 𝓛 (byte_at b o c) (row b (o + 1) cs) (byte_seen b o c) (row_seen b (o + 1) cs) l (byte_is_lent c o) (row_is_lent cs (o + 1))

  -- what is owned of a row may be lent as what is seen of it
  pub owned_is_lent : (p : Ptr) (cs : List (Option ℕ)) → Lends 𝓛 (owned p cs) (seen p cs) l
  owned_is_lent null_ptr cs = Lends-false 𝓛 (said ffalse) l
  owned_is_lent (block_ptr b o) cs =
      let short = flt (length cs) (2 ^ 63) in
      Lends-both 𝓛 short (row b o cs) (said short) (row_seen b o cs) l (Lends-said 𝓛 short tt l) (row_is_lent b cs o)

module _ {M : Type 1} {𝓤 : Ura M} (𝓛 : Logic 𝓤) (κ : Lft) (b : ℕ) where
  trailing : (cs : List (Option ℕ)) (i o at : ℕ) → i ≤ length cs → at ≡ o + i → ent 𝓤 (sem 𝓛 (row_seen b o cs κ)) (sem 𝓛 (row_seen b at (drop i cs) κ))
  trailing cs zero o at le e = let same : o ≡ at = omega arith in qed 𝓛 (‵ (row_seen b o cs κ) ∷ []) ∵ rewrite ! 0 (λ (k : ℕ). ‵ (row_seen b k cs κ)) same refl $ done !
  trailing [] (suc i) o at le e = absurd (omega arith)
  trailing (c ∷ cs) (suc i) o at le e = let less : i ≤ length cs = omega arith in let next : at ≡ (o + 1) + i = omega arith in
      via 𝓤 (sem 𝓛 (row_seen b (o + 1) cs κ)) (snd∗ 𝓤 (sem 𝓛 (byte_seen b o c κ)) (sem 𝓛 (row_seen b (o + 1) cs κ))) (trailing cs i (o + 1) at less next)

  in_front : (xs : List ℕ) (rest : List (Option ℕ)) (o : ℕ) → ent 𝓤 (sem 𝓛 (row_seen b o (map Some xs ++ rest) κ)) (sem 𝓛 (elements_shared u8 xs b o κ))
  in_front [] rest o = qed 𝓛 (‵ (row_seen b o rest κ) ∷ []) ∵ keep ! [] $ done !
  in_front (x ∷ xs) rest o = mono_r 𝓤 (sem 𝓛 (byte_seen b o (Some x) κ)) (in_front xs rest (o + 1))

  -- a run of values is read
  pub run_seen : (cs : List (Option ℕ)) (o i n : ℕ) (xs : List ℕ) → i ≤ length cs → take n (drop i cs) ≡ map Some xs → ent 𝓤 (sem 𝓛 (row_seen b o cs κ)) (sem 𝓛 (elements_shared u8 xs b (o + i) κ))
  run_seen cs o i n xs le is = let rest = drop n (drop i cs) in let split = sym (take-append-drop n (drop i cs)) ∙ ap (λ l. l ++ rest) is in
      qed 𝓛 (‵ (row_seen b o cs κ) ∷ []) ∵ use1 𝓛 (‵ (row_seen b (o + i) (drop i cs) κ)) (trailing cs i o (o + i) le refl) $
      rewrite ! 0 (λ (l : List (Option ℕ)). ‵ (row_seen b (o + i) l κ)) split refl $ by ! (in_front xs rest (o + i))
