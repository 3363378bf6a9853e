-- What BUILD in a store is for the machine.
use Rattle.std.proofs.Common.{◌≡◌, ℕ, [], ◌∷◌, true, false, Option, Some, None, Result, Ok, Err, sym, ap, subst, ◌∙◌}
use Rattle.std.specs.Prelude.{IfErr, OnOk, OnErr, is_ok}
use Rattle.std.specs.FinMap.{FinMap, get}
use Rattle.mvs_model.specs.declared.name.Name.{Name}
use Rattle.mvs_model.specs.declared.refusal.Refusal.{Refusal}
use Rattle.mvs_model.specs.Name.{name_cmp}
use Rattle.mvs_model.specs.Storage.{Chosen, Storage, holder as held_by}
use Rattle.mvs_model.specs.Changes.{Extends}
use Rattle.mvs_model.specs.Pools.{part_want}
use Rattle.mvs_model.proofs.OneOwners.{one_subpool}
use Rattle.mvs_model.proofs.PoolPut.{put_here}
use Rattle.mvs_model.proofs.Seen.{same_holder}
use Rattle.mvs_model.specs.Owners.{Owners, effective_task, subpool_meant, IsSpare, Binds, SubpoolOf}
use Rattle.mvs_model.specs.State.{State}
use Rattle.mvs_model.specs.Subpool.{is_subpool_number}
use Rattle.mvs_model.specs.Requests.{Plan, Builds as MachineBuilds, new_pool, residence_of}
use Rattle.mvs_model.specs.Causes.{Refused}
use Rattle.mvs_model.specs.Steps.{TriesPlan}
use Rattle.mvs_model.specs.declared.want.Residence.{Residence}
use Rattle.mvs_model.specs.declared.want.Residence.TheVariants.{Below}
use Rattle.std.specs.Option.{option_map, unwrap_or}
use Rattle.cell_pool.specs.Agree.{Agree}
use Rattle.cell_pool.specs.Building.{Builds, causes_of_build}
use Rattle.cell_pool.specs.Roots.{Root, pools_of}
use Rattle.cell_pool.specs.Hints.{PartFollowsHint, first_in}
use Rattle.request_forms.specs.Taking.{TakesPool, first_cells}
use Rattle.cell_pool.proofs.Pooled.{build_is_step}
use Rattle.request_forms.specs.Machine.{machine_state}
use Rattle.request_forms.proofs.Cases.{is_valid}
use Rattle.request_forms.proofs.Obtaining.{its_subpool, new_subpool, stays_entered, now_entered}

-- where the task resides
pub residence_seen : (o same : Owners) (t : Name) (r : Residence) → option_map (λ task. task.residence) (get o.tasks t) ≡ Some r → o ≡ same → r ≡ residence_of same t
residence_seen o same t r e is = sym (ap (λ v. unwrap_or v Below) e) ∙ ap (λ x. residence_of x t) is

module _ (roots fewer : FinMap name_cmp Root) (st new : Storage) (o : Owners) (t name : Name) (number s : ℕ) (plan : Plan) (agree : Agree roots st) (low : is_subpool_number number ≡ true) where
  unchanged : new ≡ st → fewer ≡ roots → machine_state fewer new o ≡ machine_state roots st o
  unchanged same alike = ap (λ r. machine_state r new o) alike ∙ ap (λ s. machine_state roots s o) same

  -- in a subpool that the task has
  pub built_here : (r : Result (Unit {0}) Refusal) → subpool_meant o t number ≡ Some s → OnOk r (Builds roots st name s plan fewer new) → IfErr r (Refused (causes_of_build roots st name s plan)) → OnErr r (new ≡ st) → OnErr r (fewer ≡ roots)
      → TriesPlan (machine_state roots st o) t name number plan r (machine_state fewer new o)
  built_here (Ok _) e built why same alike = (build_is_step roots fewer st new name s plan o o t number agree (is_valid number low) (its_subpool o (effective_task o t number) number s e)).0 built (stays_entered o (effective_task o t number) number s e)
  built_here (Err refusal) e built why same alike = ((build_is_step roots fewer st new name s plan o o t number agree (is_valid number low) (its_subpool o (effective_task o t number) number s e)).1 refusal why, unchanged same alike)

  -- in a subpool that the task gets
  pub built_new : (after : Owners) (r : Result (Unit {0}) Refusal) → is_ok r ≡ true → subpool_meant o t number ≡ None → IsSpare o s → Binds o (effective_task o t number) number s after → OnOk r (Builds roots st name s plan fewer new)
      → TriesPlan (machine_state roots st o) t name number plan r (machine_state fewer new after)
  built_new after (Ok _) is e spare binds built = (build_is_step roots fewer st new name s plan o after t number agree (is_valid number low) (new_subpool o (effective_task o t number) number s e spare)).0 built (now_entered o (effective_task o t number) number s after e binds)
  built_new after (Err code) is e spare binds built = absurd (let f : false ≡ true = is in cc)

  pub not_built : (r : Result (Unit {0}) Refusal) → is_ok r ≡ false → subpool_meant o t number ≡ None → IsSpare o s → IfErr r (Refused (causes_of_build roots st name s plan)) → OnErr r (new ≡ st) → OnErr r (fewer ≡ roots)
      → TriesPlan (machine_state roots st o) t name number plan r (machine_state fewer new o)
  not_built (Ok _) is e spare why same alike = absurd (let f : true ≡ false = is in cc)
  not_built (Err refusal) is e spare why same alike = ((build_is_step roots fewer st new name s plan o o t number agree (is_valid number low) (new_subpool o (effective_task o t number) number s e spare)).1 refusal why, unchanged same alike)

-- a pool that is made has its first cell at the hinted address, where the store puts it there
module _ (roots new_roots : FinMap name_cmp Root) (st new : Storage) (o after : Owners) (t name : Name) (number s : ℕ) (plan : Plan) (agree : Agree roots st) (sub : SubpoolOf o (effective_task o t number) number s) where
  takes_pool : (a : ℕ) → PartFollowsHint st name (new_pool s plan) plan.primary a (pools_of new_roots new) → (later : State) → MachineBuilds (machine_state roots st o) (effective_task o t number) name number plan later → first_cells (get later.pools name) ≡ a ∷ []
      → first_cells (get (machine_state new_roots new after).pools name) ≡ a ∷ []
  takes_pool a hints later b e =
      let q = b.2.0 in
      let same : b.0 ≡ s = one_subpool o (effective_task o t number) number b.0 s b.1 sub in
      let x : Extends (machine_state roots st o) name (new_pool s plan) plan.primary q b.2.1 later = subst (λ u. Extends (machine_state roots st o) name (new_pool u plan) plan.primary q b.2.1 later) same b.2.3 in
      let chosen : Chosen st.regions (held_by st) s (part_want plan.cell_size plan.primary plan.side) q = subst (λ h. Chosen st.regions h s (part_want plan.cell_size plan.primary plan.side) q) (same_holder st o (pools_of roots st) agree.parts.storage) x.chosen in
      let there : first_in (new_pool s plan) plan.primary q ∷ [] ≡ a ∷ [] = sym (ap first_cells (put_here (machine_state roots st o) later name _ x.pools)) ∙ e in
      let first : a ≡ first_in (new_pool s plan) plan.primary q = cc in
      ap first_cells (hints q chosen first) ∙ there

  pub pool_takes : (hints : Option ℕ) (r : Result (Unit {0}) Refusal) → ((a : ℕ) → hints ≡ Some a → OnOk r (PartFollowsHint st name (new_pool s plan) plan.primary a (pools_of new_roots new)))
      → OnOk r (TakesPool (machine_state roots st o) t number name plan hints (machine_state new_roots new after))
  pool_takes hints (Ok _) takes = λ a e. takes_pool a (takes a e)
  pool_takes hints (Err code) takes = tt
