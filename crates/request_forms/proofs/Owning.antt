-- The subpools that tasks own, as the store and the tasks have them.
use Rattle.std.proofs.Common.{◌≡◌, ℕ, zero, suc, ◌+◌, ◌<◌, ◌==◌, ◌||◌, Bool, false, true, List, length, get_or, Option, Some, None, refl, sym, ap, ◌∙◌, arith}
use Rattle.std.specs.Prelude.{MatchOption, if◌then◌else◌, ◌&&◌}
use Rattle.std.specs.Option.{option_and_then, option_map}
use Rattle.std.specs.FinMap.{FinMap, get}
use Rattle.mvs_model.specs.declared.name.Name.{Name}
use Rattle.mvs_model.specs.Finite.{has, any_below, count_below}
use Rattle.mvs_model.specs.Consistent.{OwnersConsistent}
use Rattle.mvs_model.specs.Name.{name_cmp}
use Rattle.mvs_model.specs.Owners.{Owners, entry, is_active, subpool_meant}
use Rattle.mvs_model.specs.Reports.{label_of, number_of, page_subpool}
use Rattle.mvs_model.specs.Storage.{Storage, held_bytes, holder}
use Rattle.mvs_model.specs.Subpool.{is_subpool_number}
use Rattle.mvs_model.proofs.SeenReports.{number_kept}
use Rattle.cell_pool.specs.Agree.{Agree}
use Rattle.cell_pool.specs.Roots.{Root}
use Rattle.cell_pool.proofs.Tallied.{splits_bytes}
use Rattle.subpool_store.specs.SubpoolCounts.{assigned_pages}
use Rattle.request_forms.specs.Facts.{bytes_of, has_subpool, owned_at, pages_of}
use Rattle.request_forms.specs.Machine.{machine_state}
use Rattle.request_forms.specs.Reports.{page_holder}
use Rattle.request_forms.specs.SubpoolLabels.{entry_owner, resolved_owner}
use Rattle.request_forms.specs.declared.facts.OwnedSubpool.{OwnedSubpool}
use Rattle.request_forms.proofs.Reporting.{pages_seen}

-- tests that tell the same of each number below a bound
same_below : (n : ℕ) (test other : ℕ → Bool) → ((k : ℕ) → k < n → test k ≡ other k) → any_below test n ≡ any_below other n
unfolding any_below
same_below zero test other same = refl
same_below (suc n) test other same = ap (λ b. b || any_below test n) (same n (omega arith)) ∙ ap (λ b. other n || b) (same_below n test other (λ k low. same k (omega arith)))

-- one entry more
pub one_entry_more : (n : ℕ) (test : ℕ → Bool) (b v : Bool) → b ≡ any_below test n → v ≡ (test n || b) → v ≡ any_below test (n + 1)
unfolding any_below
one_entry_more n test b v before is = is ∙ ap (λ x. test n || x) before ∙ ap (any_below test) (let e : suc n ≡ n + 1 = omega arith in e)

pub no_entry_yet : (test : ℕ → Bool) (b : Bool) → b ≡ false → b ≡ any_below test 0
unfolding any_below
no_entry_yet test b is = is

-- the number and the owner of a subpool
label_is : (o : Owners) (s number : ℕ) (owner : Name) → OwnersConsistent o → get o.owner s ≡ Some owner → entry o owner number ≡ Some s → label_of o (Some s) ≡ Some (number, owner)
label_is o s number owner kept owned entered =
    ap (λ v. option_and_then (λ t. option_map (λ n. (n, t)) (number_of o t s)) v) owned ∙ ap (λ v. option_map (λ n. (n, owner)) v) (number_kept o owner number s kept entered)

-- what the tasks tell of a subpool
pub label_correct : (o : Owners) (s : ℕ) (v : Option (ℕ × Name)) → OwnersConsistent o → MatchOption v (get o.owner s ≡ None) (λ r. (get o.owner s ≡ Some r.1) × (entry o r.1 r.0 ≡ Some s)) → v ≡ label_of o (Some s)
label_correct o s None kept h = sym (ap (λ v. option_and_then (λ t. option_map (λ n. (n, t)) (number_of o t s)) v) h)
label_correct o s (Some r) kept h = sym (label_is o s r.0 r.1 kept h.0 h.1)

-- what an active task has under a number, and what it means by one
pub had_correct : (o : Owners) (t : Name) (n s : ℕ) (v : Option (ℕ × Name)) → true ≡ is_active o t → entry o t n ≡ Some s → v ≡ label_of o (Some s) → v ≡ entry_owner o t n
had_correct o t n s v active entered is = is ∙ ap (label_of o) (sym entered) ∙ ap (λ b. if b then label_of o (entry o t n) else None) active

pub meant_correct : (o : Owners) (t : Name) (n s : ℕ) (v : Option (ℕ × Name)) → true ≡ is_subpool_number n → true ≡ is_active o t → subpool_meant o t n ≡ Some s → v ≡ label_of o (Some s) → v ≡ resolved_owner o t n
meant_correct o t n s v valid active meant is =
    is ∙ ap (label_of o) (sym meant) ∙ ap (λ b. if true && b then label_of o (subpool_meant o t n) else None) active ∙ ap (λ b. if b && is_active o t then label_of o (subpool_meant o t n) else None) valid

-- whether an active task has a subpool, by what stands under its numbers; and one that is not active
pub has_correct : (o : Owners) (t : Name) (s : ℕ) (hints : Bool) (entries : List (Option ℕ)) → true ≡ is_active o t → length entries ≡ 133 → ((n : ℕ) → n < 133 → get_or entries n None ≡ entry o t n)
    → hints ≡ any_below (λ n. has (λ r. r == s) (get_or entries n None)) (length entries) → hints ≡ has_subpool o t s
has_correct o t s hints entries active size each is =
    is ∙ ap (any_below (λ n. has (λ r. r == s) (get_or entries n None))) size
    ∙ same_below 133 (λ n. has (λ r. r == s) (get_or entries n None)) (λ n. has (λ r. r == s) (entry o t n)) (λ n low. ap (has (λ r. r == s)) (each n low))
    ∙ ap (λ b. b && any_below (λ n. has (λ r. r == s) (entry o t n)) 133) active

pub none_correct : (o : Owners) (t : Name) (s : ℕ) → false ≡ is_active o t → false ≡ has_subpool o t s
none_correct o t s active = ap (λ b. b && any_below (λ n. has (λ r. r == s) (entry o t n)) 133) active

module _ (roots : FinMap name_cmp Root) (st : Storage) (o : Owners) (agree : Agree roots st) (s : ℕ) where
  seen : page_holder st ≡ page_subpool (machine_state roots st o)
  seen = pages_seen roots st o agree.parts.storage

  -- what is known of a subpool with this number and this owner
  abbrev row : Name → ℕ × Name → OwnedSubpool
  row t l = record { number = l.0; owner = l.1; bytes = bytes_of (machine_state roots st o) s; pages = pages_of (machine_state roots st o) s; had = has_subpool o t s }

  pub none_owned : (t : Name) → get o.owner s ≡ None → None ≡ owned_at (machine_state roots st o) t s
  none_owned t none = sym (ap (λ v. option_map (row t) (option_and_then (λ t. option_map (λ n. (n, t)) (number_of o t s)) v)) none)

  module _ (number : ℕ) (owner : Name) (kept : OwnersConsistent o) (owned : get o.owner s ≡ Some owner) (entered : entry o owner number ≡ Some s) where
    pub some_owned : (t : Name) (had : Bool) (bytes pages : ℕ) → had ≡ has_subpool o t s → bytes ≡ held_bytes st s → pages ≡ assigned_pages st.regions (holder st) s
        → Some (record { number = number; owner = owner; bytes = bytes; pages = pages; had = had }) ≡ owned_at (machine_state roots st o) t s
    some_owned t had bytes pages has_is held assigned = (λ i. Some (record { number = number; owner = owner; bytes = bytes_is i; pages = pages_are i; had = has_is i })) ∙ sym (ap (option_map (row t)) (label_is o s number owner kept owned entered)) where
      bytes_is : bytes ≡ bytes_of (machine_state roots st o) s
      bytes_is = held ∙ sym (splits_bytes roots st s o agree)

      pages_are : pages ≡ pages_of (machine_state roots st o) s
      pages_are = assigned ∙ (λ i. count_below st.regions.below (λ p. has (λ r. r == s) (seen i (6 + p))) + count_below st.regions.above (λ p. has (λ r. r == s) (seen i (4096 + p))))
