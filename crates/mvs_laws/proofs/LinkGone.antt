-- What a release and the end of a task take from the state they take from its labels.
use Rattle.std.proofs.Common.{◌≡◌, ℕ, ◌+◌, ◌/◌, Bool, true, false, cond, List, [], ◌∷◌, map, Some, None, refl, sym, ap, ◌∙◌, not, ◌||◌, arith}
use Rattle.std.specs.List.{list_any, list_all, AllByRecursion}
use Rattle.std.specs.FinMap.{get, empty, keys, get-empty, same_map}
use Rattle.std.specs.Cmp.{first_so, second_so}
use Rattle.std.proofs.Math.Bool.{or-false}
use Rattle.std.proofs.lemmas.Bool.Decides.{nat_tests}
use Rattle.mvs_laws.proofs.Types.{Name}
use Rattle.mvs_model.specs.Name.{name_cmp}
use Rattle.mvs_model.specs.Finite.{kept, has}
use Rattle.mvs_model.specs.Storage.{IsWhole}
use Rattle.mvs_model.specs.Pools.{Pool, in_taken}
use Rattle.mvs_model.specs.State.{State, plain, is_plain, in_cell, granted}
use Rattle.mvs_model.specs.Changes.{any_has, Frees, Drops}
use Rattle.mvs_model.specs.Job.{JobValue}
use Rattle.mvs_laws.specs.Labels.{Labels, Spot, has_offset, is_there}
use Rattle.mvs_laws.specs.Tidy.{Link}
use Rattle.mvs_model.proofs.Orders.{name_cmp_total, name_cmp-IsAntisymmetric}
use Rattle.mvs_model.proofs.SeenStart.{all_names}
use Rattle.mvs_model.proofs.PartsFreed.{any_whole_has}
use Rattle.mvs_laws.proofs.LinkLess.{Goes}
use Rattle.mvs_laws.proofs.Spots.{span_of, has_same}
use Rattle.mvs_model.proofs.Tests.{kept_is}

-- no pools have no cells
pub no_pools : (old new : State) (test : Name → Pool → Bool) → old.pools ≡ empty → ((name : Name) → get new.pools name ≡ kept (test name) (get old.pools name)) → new.pools ≡ empty
no_pools old new test e h = same_map name_cmp_total name_cmp-IsAntisymmetric new.pools empty (λ name. h name ∙ ap (λ p. kept (test name) (get p name)) e ∙ ap (kept (test name)) (get-empty name_cmp name) ∙ sym (get-empty name_cmp name))

pub no_cell : (st : State) (a : ℕ) → st.pools ≡ empty → in_cell st a ≡ false
no_cell st a e = ap (λ pools. list_any (λ name. has (λ pool. in_taken pool a) (get pools name)) (keys pools)) e ∙ all_names _ (keys (empty {X = Pool} {R = name_cmp})) (λ name. ap (has (λ pool. in_taken pool a)) (get-empty name_cmp name))

pub granted_is : (st : State) (a : ℕ) → st.pools ≡ empty → granted st a ≡ is_plain (get st.held (a / 8))
granted_is st a e = ap (λ b. is_plain (get st.held (a / 8)) || b) (no_cell st a e) ∙ or-false (is_plain (get st.held (a / 8)))

module _ (job : JobValue) (m : Labels) (k : Link job m) where
  any_same : (qs : List Spot) → list_all (is_there m) qs ≡ true → (l i b : ℕ) → m.byte l i ≡ Some b → list_any (λ q. has_offset q l i) qs ≡ any_has (map (span_of job m k) qs) (k.base l + i)
  any_same [] h l i b e = refl
  any_same (q ∷ qs) h l i b e = λ x. has_same job m k q (first_so (is_there m q) _ h) l i b e x || any_same qs (second_so (is_there m q) _ h) l i b e x

  -- places that are freed
  pub goes_freed : (qs : List Spot) (new : State) → list_all (is_there m) qs ≡ true → AllByRecursion IsWhole (map (span_of job m k) qs) → Frees job.state (map (span_of job m k) qs) new → Goes job m k (λ l i. list_any (λ q. has_offset q l i) qs) new
  goes_freed qs new there whole f = grind (arith, nat_tests, any_same, any_whole_has, span_of)

  -- what subpools hold
  pub goes_dropped : (test : ℕ → Bool) (new : State) → Drops job.state test new → Goes job m k (λ l i. test (m.subpool l)) new
  goes_dropped test new d = record {
    held_gone = λ l i b e t. held_is l i b e ∙ ap (λ c. cond (not c) (Some (plain (m.subpool l))) None) t;
    held_kept = λ l i b e t. held_is l i b e ∙ ap (λ c. cond (not c) (Some (plain (m.subpool l))) None) t ∙ sym (k.held l i b e);
    held_from = λ x h e. (kept_is (λ h. not (test h.subpool)) _ h (sym (d.held x) ∙ e)).0;
    bytes_gone = λ l i b e t. bytes_is l i b e ∙ ap (λ c. cond (is_plain (cond (not c) (Some (plain (m.subpool l))) None)) (Some b) None) t;
    bytes_kept = λ l i b e t. bytes_is l i b e ∙ ap (λ c. cond (is_plain (cond (not c) (Some (plain (m.subpool l))) None)) (Some b) None) t ∙ sym (k.bytes l i b e);
    bytes_from = λ a b e. (kept_is (λ _. granted new a) _ b (sym (d.bytes a) ∙ e)).0;
    pools = none;
    fill = ap (λ r. r.fill) d.regions;
  } where
    none : new.pools ≡ empty
    none = no_pools job.state new (λ _ p. not (test p.subpool)) k.pools d.pools

    held_is : (l i b : ℕ) → m.byte l i ≡ Some b → get new.held ((k.base l + i) / 8) ≡ cond (not (test (m.subpool l))) (Some (plain (m.subpool l))) None
    held_is l i b e = d.held ((k.base l + i) / 8) ∙ ap (kept (λ h. not (test h.subpool))) (k.held l i b e)

    bytes_is : (l i b : ℕ) → m.byte l i ≡ Some b → get new.bytes (k.base l + i) ≡ cond (is_plain (cond (not (test (m.subpool l))) (Some (plain (m.subpool l))) None)) (Some b) None
    bytes_is l i b e = d.bytes (k.base l + i) ∙ ap (kept (λ _. granted new (k.base l + i))) (k.bytes l i b e) ∙ ap (λ c. cond c (Some b) None) (granted_is new (k.base l + i) none ∙ ap is_plain (held_is l i b e))
