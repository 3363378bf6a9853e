-- How many pools there are, and what CPOOL BUILD is answered.
use Rattle.std.proofs.Common.{◌≡◌, ℕ, ◌<◌, ◌≤◌, inl, inr, suc, Bool, true, false, cond, List, [], ◌∷◌, length, Option, Some, None, T, refl, sym, ap, ◌∙◌, subst, arith}
use Rattle.std.specs.Prelude.{◌&&◌, is_some, nat_le}
use Rattle.std.specs.Ordering.{is_lt, eq_by_cmp}
use Rattle.std.specs.Option.{option_map}
use Rattle.std.proofs.lemmas.Bool.Decides.{nat_tests}
use Rattle.std.specs.declared.cmp.Ordering.{Ordering}
use Rattle.std.specs.FinMap.{FinMap, get, len, contains_key, entries, entries_sorted, from_sorted, entries-from_sorted, get-from_sorted, get-entries, len-entries, is_sorted, find, same_map}
use Rattle.std.specs.FinMap.Entries.{below_all}
use Rattle.mvs_model.specs.declared.name.Name.{Name}
use Rattle.mvs_model.specs.Name.{name_cmp}
use Rattle.mvs_model.specs.Storage.{Storage, NoPlace, holder as held_by}
use Rattle.mvs_model.specs.Owners.{Enters, effective_task}
use Rattle.mvs_model.specs.Pools.{part_want}
use Rattle.mvs_model.specs.View.{state_of}
use Rattle.mvs_model.specs.Requests.{Plan, Builds as MachineBuilds}
use Rattle.mvs_model.specs.Causes.{Passed, Refused, build_causes}
use Rattle.mvs_model.specs.declared.refusal.Refusal.{Refusal}
use Rattle.mvs_model.specs.declared.refusal.Refusal.TheVariants.{NoPart, PoolInUse, TooManyPools}
use Rattle.mvs_model.proofs.StepCases.{built_not_short}
use Rattle.mvs_model.proofs.Orders.{name_cmp_total, name_cmp-IsAntisymmetric}
use Rattle.cell_pool.specs.Layout.{byte_of}
use Rattle.cell_pool.specs.Roots.{Root, pool_of, pools_of}
use Rattle.cell_pool.specs.Building.{Builds, causes_of_build}
use Rattle.cell_pool.specs.Laws.{BuildIsStep}
use Rattle.mvs_model.proofs.Stand.{holder_state}
use Rattle.cell_pool.proofs.Frame.{get-pools_of}

-- a function of each value of a map
module _ {K A B : Type 0} (R : K → K → Ordering) (f : A → B) where
  mapped : List (K × A) → List (K × B)
  mapped [] = []
  mapped (e ∷ es) = (e.0, f e.1) ∷ mapped es

  below-mapped : (k : K) (es : List (K × A)) → below_all R k (mapped es) ≡ below_all R k es
  unfolding mapped
  below-mapped k [] = refl
  below-mapped k (e ∷ es) = ap (λ b. is_lt (R k e.0) && b) (below-mapped k es)

  sorted-mapped : (es : List (K × A)) → is_sorted R (mapped es) ≡ is_sorted R es
  unfolding mapped
  sorted-mapped [] = refl
  sorted-mapped (e ∷ es) = λ i. below-mapped e.0 es i && sorted-mapped es i

  find-mapped : (q : K) (es : List (K × A)) → find R q (mapped es) ≡ option_map f (find R q es)
  unfolding mapped
  find-mapped q [] = refl
  find-mapped q (e ∷ es) = at (eq_by_cmp R q e.0) (find-mapped q es) where
    at : (b : Bool) → find R q (mapped es) ≡ option_map f (find R q es) → cond b (Some (f e.1)) (find R q (mapped es)) ≡ option_map f (cond b (Some e.1) (find R q es))
    at true h = refl
    at false h = h

  length-mapped : (es : List (K × A)) → length (mapped es) ≡ length es
  unfolding mapped
  length-mapped [] = refl
  length-mapped (e ∷ es) = ap (λ n. suc n) (length-mapped es)

  image : FinMap R A → FinMap R B
  image m = from_sorted (mapped (entries m))

  image_sorted : (m : FinMap R A) → T (is_sorted R (mapped (entries m)))
  image_sorted m = subst T (sym (sorted-mapped (entries m))) (entries_sorted m)

  get-image : (m : FinMap R A) (q : K) → get (image m) q ≡ option_map f (get m q)
  unfolding image
  get-image m q = get-from_sorted R (mapped (entries m)) q (image_sorted m) ∙ find-mapped q (entries m) ∙ ap (option_map f) (sym (get-entries m q))

  len-image : (m : FinMap R A) → len (image m) ≡ len m
  unfolding image
  len-image m = len-entries (from_sorted (mapped (entries m))) ∙ ap length (entries-from_sorted R (mapped (entries m)) (image_sorted m)) ∙ length-mapped (entries m) ∙ sym (len-entries m)

-- there are as many pools as are kept
pub len-pools_of : (roots : FinMap name_cmp Root) (st : Storage) → len (pools_of roots st) ≡ len roots
len-pools_of roots st =
    ap len (same_map name_cmp_total name_cmp-IsAntisymmetric (pools_of roots st) (image name_cmp (pool_of (byte_of st)) roots) (λ n. get-pools_of roots st n ∙ sym (get-image name_cmp (pool_of (byte_of st)) roots n)))
    ∙ len-image name_cmp (pool_of (byte_of st)) roots

-- under the same names
pub contains-pools_of : (roots : FinMap name_cmp Root) (st : Storage) (name : Name) → contains_key (pools_of roots st) name ≡ is_some (get roots name)
contains-pools_of roots st name = ap is_some (get-pools_of roots st name) ∙ at (get roots name) where
  at : (v : Option Root) → is_some (option_map (pool_of (byte_of st)) v) ≡ is_some v
  at None = refl
  at (Some r) = refl

module _ (roots : FinMap name_cmp Root) (old : Storage) (name : Name) (s : ℕ) (plan : Plan) where
  pub in_use : (b : Bool) → b ≡ is_some (get roots name) → b ≡ true → Refused (causes_of_build roots old name s plan) PoolInUse
  in_use b e f = inl (contains-pools_of roots old name ∙ sym e ∙ f, refl)

  pub is_fresh : (b : Bool) → b ≡ is_some (get roots name) → b ≡ false → contains_key (pools_of roots old) name ≡ false
  is_fresh b e f = contains-pools_of roots old name ∙ sym e ∙ f

  module _ (fresh : contains_key (pools_of roots old) name ≡ false) where
    pub too_many : 64 ≤ len roots → Refused (causes_of_build roots old name s plan) TooManyPools
    too_many l = inr (fresh, inl (ap (nat_le 64) (len-pools_of roots old) ∙ many (len roots) l, refl)) where
      many : (n : ℕ) → 64 ≤ n → nat_le 64 n ≡ true
      many n l = grind (arith, nat_tests)

    pub has_room : len roots < 64 → nat_le 64 (len (pools_of roots old)) ≡ false
    has_room l = ap (nat_le 64) (len-pools_of roots old) ∙ few (len roots) l where
      few : (n : ℕ) → n < 64 → nat_le 64 n ≡ false
      few n l = grind (arith, nat_tests)

    pub no_room : len roots < 64 → NoPlace old.regions (held_by old) s (part_want plan.cell_size plan.primary plan.side) → Refused (causes_of_build roots old name s plan) NoPart
    no_room l none = inr (fresh, inr (has_room l, inl (none, refl)))

-- a pool that is made is one by the machine
pub build_is_step : BuildIsStep
build_is_step roots new_roots old new name s plan o after t number agree valid of = (done, refused) where
  done : Builds roots old name s plan new_roots new → Enters o (effective_task o t number) number s after
      → Passed (build_causes (state_of old o (pools_of roots old)) t name number (part_want plan.cell_size plan.primary plan.side)) × MachineBuilds (state_of old o (pools_of roots old)) (effective_task o t number) name number plan (state_of new after (pools_of new_roots new))
  done b enters =
      let made : MachineBuilds (state_of old o (pools_of roots old)) (effective_task o t number) name number plan (state_of new after (pools_of new_roots new)) = (s, of, (b.place, after, enters, b.extends o after)) in
      ((valid, (b.fresh, (b.room, (built_not_short (state_of old o (pools_of roots old)) (state_of new after (pools_of new_roots new)) (effective_task o t number) name number plan made, tt)))), made)

  refused : (refusal : Refusal) → Refused (causes_of_build roots old name s plan) refusal → Refused (build_causes (state_of old o (pools_of roots old)) t name number (part_want plan.cell_size plan.primary plan.side)) refusal
  refused refusal (inl h) = inr (valid, inl h)
  refused refusal (inr (a, inl h)) = inr (valid, inr (a, inl h))
  refused refusal (inr (a, inr (b, inl h))) =
      inr (valid, inr (a, inr (b, inl ((s, of, subst (λ h. NoPlace old.regions h s (part_want plan.cell_size plan.primary plan.side)) (λ k d. sym (holder_state old o (pools_of roots old) agree.parts.storage d) k) h.0), h.1))))
  refused refusal (inr (a, inr (b, inr h))) = absurd h.1
