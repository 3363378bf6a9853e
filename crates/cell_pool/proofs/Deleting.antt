-- What CPOOL DELETE is answered.
use Rattle.std.proofs.Common.{◌≡◌, ◌≢◌, ℕ, ◌/◌, ◌<◌, inl, inr, Bool, true, false, cond, Option, Some, None, Err, refl, sym, ap, ◌∙◌, subst}
use Rattle.std.specs.Prelude.{not, is_some, unwrap_or, ◌||◌}
use Rattle.std.specs.Option.{option_map}
use Rattle.std.specs.FinMap.{FinMap, get, nat_cmp-IsAntisymmetric}
use Rattle.mvs_model.specs.declared.name.Name.{Name}
use Rattle.mvs_model.specs.declared.refusal.Refusal.TheVariants.{NoPool}
use Rattle.mvs_model.specs.declared.request.Request.TheVariants as request
use Rattle.mvs_model.specs.declared.request.Reply.TheVariants.{Rc0}
use Rattle.mvs_model.specs.Name.{name_cmp, same_name}
use Rattle.mvs_model.specs.Finite.{Changes}
use Rattle.mvs_model.specs.Storage.{Storage, holder as held_by, Covers}
use Rattle.mvs_model.specs.Owners.{Owners}
use Rattle.mvs_model.specs.Pools.{Pool, in_parts, in_taken}
use Rattle.mvs_model.specs.State.{State, is_plain, in_cell, granted}
use Rattle.mvs_model.specs.View.{in_pools, holding, state_of}
use Rattle.mvs_model.specs.Changes.{DropsPool}
use Rattle.mvs_model.specs.WellFormed.{Apart}
use Rattle.mvs_model.specs.Causes.{Passed, causes_of}
use Rattle.mvs_model.specs.Steps.{Deletes, Does, Tries}
use Rattle.mvs_model.proofs.Orders.{differs}
use Rattle.mvs_model.proofs.Made.{made_without}
use Rattle.mvs_model.proofs.TakenCells.{in_cell_is, cell_pooled, same_test, never}
use Rattle.mvs_model.proofs.PoolPut.{put_cases, kept_cases}
use Rattle.mvs_model.proofs.PartsDeleted.{deleted_apart}
use Rattle.cell_pool.specs.Layout.{byte_of}
use Rattle.cell_pool.specs.Roots.{Root, part_of, pool_of, pools_of}
use Rattle.cell_pool.specs.Agree.{Agree}
use Rattle.cell_pool.specs.Laws.{KeepsParts}
use Rattle.cell_pool.specs.Release.{in_first, DropsParts}
use Rattle.mvs_model.proofs.Stand.{held_state, bytes_state, pooled_found, pooled_from}
use Rattle.cell_pool.proofs.Frame.{get-pools_of, pool_from}
use Rattle.cell_pool.proofs.Counted.{all_kept}
use Rattle.cell_pool.proofs.Keeping.{fewer_agree}
use Rattle.cell_pool.proofs.Only.{only, head_covered}
use Rattle.cell_pool.proofs.SameState.{same_state}
use Rattle.cell_pool.proofs.Released.{first_found, in_all}

-- where no pool has the name
pub no_pool : (roots : FinMap name_cmp Root) (old : Storage) (name : Name) → get roots name ≡ None → (o : Owners) (t : Name) → Tries {A = Unit {0}} (λ _. Rc0) (state_of old o (pools_of roots old)) t (request.Delete name) (Err NoPool) (state_of old o (pools_of roots old))
no_pool roots old name e o t = (inl (ap (λ v. not (is_some v)) (get-pools_of roots old name ∙ ap (option_map (pool_of (byte_of old))) e), refl), refl)

module _ (roots fewer : FinMap name_cmp Root) (old new : Storage) (agree : Agree roots old) (name : Name) (r : Root) (is : get roots name ≡ Some r) (gone : (n : Name) → get fewer n ≡ cond (same_name n name) None (get roots n)) (drops : DropsParts old r r.count new) where
  -- the pools that are left
  left : (n : Name) (q : Root) → get fewer n ≡ Some q → (n ≢ name) × (get roots n ≡ Some q)
  left n q e = at (same_name n name) refl (sym (gone n) ∙ e) where
    at : (b : Bool) → same_name n name ≡ b → cond b None (get roots n) ≡ Some q → (n ≢ name) × (get roots n ≡ Some q)
    at true s f = absurd (let g : None ≡ Some q = f in cc)
    at false s f = (differs n name s, f)

  agree_left : Agree fewer old
  agree_left = fewer_agree roots fewer old agree (λ n q e. (left n q e).1)

  -- have nothing of what was given back
  not_gone : (n : Name) (q : Root) (j d : ℕ) → get fewer n ≡ Some q → j < q.count → Covers (part_of (byte_of old) q j).place d → in_first (byte_of old) r r.count d ≡ false
  not_gone n q j d e l c = never _ (λ t. let f = first_found (byte_of old) r r.count d t in let k = left n q e in k.0 (only roots old agree.parts n name q r j f.0 d k.1 is l f.1 c f.2).0)

  keeps : KeepsParts fewer old new
  keeps = record {
    storage = drops.storage;
    regions = drops.regions;
    held = λ n q j d e l c. drops.held d ∙ ap (λ b. cond b None (get old.held d)) (not_gone n q j d e l c);
    heads = λ n q j x e l low high. ap (λ v. unwrap_or v 0) (drops.bytes x ∙ ap (λ b. cond b None (get old.bytes x)) (not_gone n q j (x / 8) e l (head_covered roots old agree.parts q j x low high)));
  }

  kept : Agree fewer new × (pools_of fewer new ≡ pools_of fewer old)
  kept = all_kept fewer old new agree_left keeps

  pub deleted_agrees : Agree fewer new
  deleted_agrees = kept.0

  pools_now : Changes (get (pools_of roots old)) (λ n. same_name n name) None (get (pools_of fewer new))
  pools_now n =
      ap (λ m. get m n) kept.1 ∙ get-pools_of fewer old n ∙ ap (option_map (pool_of (byte_of old))) (gone n) ∙ mapped (same_name n name) (get roots n)
      ∙ ap (cond (same_name n name) None) (sym (get-pools_of roots old n)) where
        mapped : (b : Bool) (v : Option Root) → option_map (pool_of (byte_of old)) (cond b None v) ≡ cond b None (option_map (pool_of (byte_of old)) v)
        mapped true v = refl
        mapped false v = refl

  module _ (o : Owners) where
    without : State
    without = record (state_of old o (pools_of roots old)) {
      held = (made_without nat_cmp-IsAntisymmetric (state_of old o (pools_of roots old)).held (in_parts (pool_of (byte_of old) r))).0;
      bytes = (made_without nat_cmp-IsAntisymmetric (state_of old o (pools_of roots old)).bytes (in_taken (pool_of (byte_of old) r))).0;
      pools = pools_of fewer new;
    }

    drops_it : DropsPool (state_of old o (pools_of roots old)) name (pool_of (byte_of old) r) without
    unfolding without
    drops_it = record {
      regions = refl;
      held = (made_without nat_cmp-IsAntisymmetric (state_of old o (pools_of roots old)).held (in_parts (pool_of (byte_of old) r))).1;
      bytes = (made_without nat_cmp-IsAntisymmetric (state_of old o (pools_of roots old)).bytes (in_taken (pool_of (byte_of old) r))).1;
      owners = refl;
      pools = pools_now;
    }

    is_apart : Apart without
    is_apart = deleted_apart (state_of old o (pools_of roots old)) without name (pool_of (byte_of old) r) (pool_from roots old name r is) drops_it (agree.parts.apart o)

    -- elsewhere the same pools have a part
    same_pools : (d : ℕ) → in_parts (pool_of (byte_of old) r) d ≡ false → in_pools (pools_of roots old) d ≡ in_pools (pools_of fewer new) d
    unfolding without
    same_pools d out = same_test _ _ there back where
      same_pool : (n : Name) (q : Pool) → n ≡ name → get (pools_of roots old) n ≡ Some q → q ≡ pool_of (byte_of old) r
      same_pool n q s e = let f : Some q ≡ Some (pool_of (byte_of old) r) = sym e ∙ ap (get (pools_of roots old)) s ∙ pool_from roots old name r is in cc

      there : in_pools (pools_of roots old) d ≡ true → in_pools (pools_of fewer new) d ≡ true
      there e =
          let f = pooled_found (pools_of roots old) d e in
          elim (kept_cases (state_of old o (pools_of roots old)) without name None drops_it.pools f.0 f.1 f.2) [
            | inl s ↦ absurd (let g : true ≡ false = sym f.3 ∙ ap (λ p. in_parts p d) (same_pool f.0 f.1 s f.2) ∙ out in cc)
            | inr k ↦ pooled_from (pools_of fewer new) d f.0 f.1 k.1 f.3
          ]

      back : in_pools (pools_of fewer new) d ≡ true → in_pools (pools_of roots old) d ≡ true
      back e =
          let f = pooled_found (pools_of fewer new) d e in
          elim (put_cases (state_of old o (pools_of roots old)) without name None drops_it.pools f.0 f.1 f.2) [
            | inl s ↦ absurd (let g : None ≡ Some f.1 = s.1 in cc)
            | inr k ↦ pooled_from (pools_of roots old) d f.0 f.1 k.1 f.3
          ]

    held_now : (d : ℕ) → get without.held d ≡ holding new (pools_of fewer new) d
    held_now d = drops_it.held d ∙ ap (cond (in_parts (pool_of (byte_of old) r) d) None) (held_state old o (pools_of roots old) agree.parts.storage d) ∙ by (in_parts (pool_of (byte_of old) r) d) refl where
      new_holder : (b : Bool) → in_parts (pool_of (byte_of old) r) d ≡ b → held_by new d ≡ cond b None (held_by old d)
      new_holder b e = drops.held d ∙ ap (λ t. cond t None (get old.held d)) (in_all (byte_of old) r d ∙ e)

      by : (b : Bool) → in_parts (pool_of (byte_of old) r) d ≡ b → cond b None (holding old (pools_of roots old) d) ≡ holding new (pools_of fewer new) d
      by true e = sym (ap (option_map (λ s. record { subpool = s; pooled = in_pools (pools_of fewer new) d })) (new_holder true e))
      by false e = λ i. option_map (λ s. record { subpool = s; pooled = same_pools d e i }) (sym (new_holder false e) i)

    -- a byte that may still be read lies in no part of the pool
    not_in_pool : (x : ℕ) → granted without x ≡ true → in_parts (pool_of (byte_of old) r) (x / 8) ≡ false
    not_in_pool x e = never _ (λ t. none (drops_it.held (x / 8) ∙ ap (λ b. cond b None (get (state_of old o (pools_of roots old)).held (x / 8))) t)) where
      none : get without.held (x / 8) ≡ None → ⊥
      none f = by (is_plain (get without.held (x / 8))) refl e where
        by : (b : Bool) → is_plain (get without.held (x / 8)) ≡ b → (b || in_cell without x) ≡ true → ⊥
        by true g h = absurd (let k : false ≡ true = sym (ap is_plain f) ∙ g in cc)
        by false g h = absurd (let k : None ≡ Some _ = sym f ∙ cell_pooled without is_apart x (in_cell_is without x h) in cc)

    bytes_now : (x b : ℕ) → get without.bytes x ≡ Some b → get new.bytes x ≡ Some b
    bytes_now x b e =
        drops.bytes x
        ∙ ap (λ t. cond t None (get old.bytes x)) (in_all (byte_of old) r (x / 8) ∙ not_in_pool x (sym (is_apart.bytes x) ∙ ap is_some e))
        ∙ there (granted (state_of old o (pools_of roots old)) x) (sym (bytes_state old o (pools_of roots old) agree.parts.storage x) ∙ before (in_taken (pool_of (byte_of old) r) x) (sym (drops_it.bytes x) ∙ e)) where
          before : (t : Bool) → cond t None (get (state_of old o (pools_of roots old)).bytes x) ≡ Some b → get (state_of old o (pools_of roots old)).bytes x ≡ Some b
          before true f = absurd (let k : None ≡ Some b = f in cc)
          before false f = f

          there : (g : Bool) → cond g (get old.bytes x) None ≡ Some b → get old.bytes x ≡ Some b
          there true f = f
          there false f = absurd (let k : None ≡ Some b = f in cc)

    regions_are : without.regions ≡ new.regions
    unfolding without
    regions_are = sym drops.regions

    owners_are : without.owners ≡ o
    unfolding without
    owners_are = refl

    pools_are : without.pools ≡ pools_of fewer new
    unfolding without
    pools_are = refl

    dropped : DropsPool (state_of old o (pools_of roots old)) name (pool_of (byte_of old) r) (state_of new o (pools_of fewer new))
    dropped = subst (DropsPool (state_of old o (pools_of roots old)) name (pool_of (byte_of old) r))
        (same_state new o (pools_of fewer new) drops.storage without is_apart.bytes regions_are owners_are pools_are held_now bytes_now) drops_it

    pub deleted : (t : Name) → Passed (causes_of (state_of old o (pools_of roots old)) t (request.Delete name)) × Does (state_of old o (pools_of roots old)) t (request.Delete name) Rc0 (state_of new o (pools_of fewer new))
    deleted t = (
      (ap (λ v. not (is_some v)) (pool_from roots old name r is), tt),
      (refl, subst (λ v. Deletes (state_of old o (pools_of roots old)) name v (state_of new o (pools_of fewer new))) (sym (pool_from roots old name r is)) dropped),
    )
