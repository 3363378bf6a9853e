-- What keeps the parts of the pools: a grant, a release that touches no part, and a write of bytes that may be written.
use Rattle.std.proofs.Common.{◌≡◌, ◌≢◌, ℕ, zero, suc, ◌+◌, ◌/◌, ◌<◌, Bool, true, false, cond, List, [], ◌∷◌, slice_index_or, is_some, Option, Some, None, refl, sym, ap, ◌∙◌, subst, arith}
use Rattle.std.specs.Prelude.{not, ◌==◌, unwrap_or}
use Rattle.std.specs.List.{count_by}
use Rattle.std.proofs.lemmas.List.Sums.{sum_by-cons}
use Rattle.std.specs.FinMap.{FinMap, get, empty, get-empty}
use Rattle.std.proofs.lemmas.Bool.Decides.{nat_tests}
use Rattle.mvs_model.specs.declared.name.Name.{Name}
use Rattle.mvs_model.specs.Name.{name_cmp}
use Rattle.mvs_model.specs.Finite.{has, kept}
use Rattle.mvs_model.specs.Place.{PlaceValue}
use Rattle.mvs_model.specs.Want.{WantValue}
use Rattle.mvs_model.specs.Storage.{Storage, holder as held_by, IsStorage, Covers, covers, has_address, Grant}
use Rattle.mvs_model.specs.Owners.{Owners}
use Rattle.mvs_model.specs.View.{state_of}
use Rattle.mvs_model.specs.Changes.{Granted}
use Rattle.mvs_model.proofs.StorageLaws.{covers_is, has_covers}
use Rattle.mvs_model.proofs.CellPlaces.{has_is}
use Rattle.cell_pool.specs.Layout.{byte_of}
use Rattle.cell_pool.specs.Roots.{Root, part_of, pools_of}
use Rattle.cell_pool.specs.Agree.{Agree, AgreeParts}
use Rattle.cell_pool.specs.Laws.{KeepsParts, DropsSubpool, GrantKeeps, ReleaseKeeps, ReleaseAllKeeps, WriteKeeps, FewerAgree, NoneAgree}
use Rattle.mvs_model.specs.Pools.{Pool}
use Rattle.mvs_model.proofs.Stand.{Stand, apart_from, pooled_from}
use Rattle.cell_pool.proofs.Chains.{part_contained}
use Rattle.mvs_model.proofs.TakenCells.{part_from}
use Rattle.mvs_model.specs.View.{in_pools}
use Rattle.cell_pool.specs.Roots.{pool_of}
use Rattle.std.specs.Option.{option_map}
use Rattle.cell_pool.proofs.Frame.{get-pools_of}
use Rattle.mvs_model.specs.Finite.{Changes, Keeps}
use Rattle.cell_pool.proofs.Frame.{root_found, pool_from}
use Rattle.cell_pool.proofs.Only.{stands, part_held, head_covered, not_in_head}

-- a change at places that are not in a part
past : {X : Type 0} (b : Bool) (v o : Option X) → (b ≡ true → ⊥) → cond b v o ≡ o
past true v o h = absurd (h refl)
past false v o h = refl

module _ (roots : FinMap name_cmp Root) (old new : Storage) (agree : AgreeParts roots old) where
  -- of whole doublewords
  changed : (p : PlaceValue) (v b : Option ℕ) → IsStorage new → new.regions ≡ old.regions → ((d : ℕ) → get new.held d ≡ cond (covers p d) v (get old.held d)) → ((a : ℕ) → get new.bytes a ≡ cond (has_address p a) b (get old.bytes a))
      → ((name : Name) (r : Root) (j d : ℕ) → get roots name ≡ Some r → j < r.count → Covers (part_of (byte_of old) r j).place d → Covers p d → ⊥) → KeepsParts roots old new
  changed p v b is regions held bytes clear = record {
    storage = is;
    regions = regions;
    held = λ name r j d e l c. held d ∙ past (covers p d) v (get old.held d) (λ t. clear name r j d e l c (covers_is p d t));
    heads = λ name r j x e l low high. ap (λ o. unwrap_or o 0) (bytes x ∙ past (has_address p x) b (get old.bytes x) (λ t. clear name r j (x / 8) e l (head_covered roots old agree r j x low high) (covers_is p (x / 8) (has_covers p x t))));
  }

pub grant_parts : (roots : FinMap name_cmp Root) (old new : Storage) (s : ℕ) (want : WantValue) (p : PlaceValue) → AgreeParts roots old → IsStorage new → Grant old s want p new → KeepsParts roots old new
grant_parts roots old new s want p agree is g = changed roots old new agree p (Some s) (Some old.regions.fill) is g.regions g.held g.bytes (λ name r j d e l c h. taken (g.chosen.placed.0.each d h).free (part_held roots old agree name r j d e l c)) where
  taken : {o : Option ℕ} {t : ℕ} → o ≡ None → o ≡ Some t → ⊥
  taken e f = absurd (let g : None ≡ Some _ = sym e ∙ f in cc)

pub grant_keeps : GrantKeeps
grant_keeps roots old new s want p agree = grant_parts roots old new s want p agree.parts

pub release_keeps : ReleaseKeeps
release_keeps roots old new s p whole is g clear = let agree = whole.parts in changed roots old new agree p None None is g.regions g.held g.bytes (λ name r j d e l c h.
    let pooled : in_pools (pools_of roots old) d ≡ true = pooled_from (pools_of roots old) d name (pool_of (byte_of old) r) (pool_from roots old name r e) (part_from (pool_of (byte_of old) r) d (part_of (byte_of old) r j) (part_contained (byte_of old) r j l) c) in
    let f : true ≡ false = sym pooled ∙ clear d h in absurd (cc))

-- the release of all that some subpools hold, of which none has a pool
pub releases_keep : (test : ℕ → Bool) (roots : FinMap name_cmp Root) (old new : Storage) → Agree roots old → IsStorage new → new.regions ≡ old.regions → Keeps (get old.held) (λ _ t. not (test t)) (get new.held)
    → Changes (get old.bytes) (λ a. has test (held_by old (a / 8))) None (get new.bytes) → ((name : Name) (r : Root) → get roots name ≡ Some r → test r.subpool ≡ false) → KeepsParts roots old new
releases_keep test roots old new whole is regions held bytes none = let agree = whole.parts in record {
  storage = is;
  regions = regions;
  held = λ name r j d e l c. held d ∙ at r.subpool (held_by old d) (part_held roots old agree name r j d e l c) (none name r e);
  heads = λ name r j x e l low high. ap (λ o. unwrap_or o 0) (bytes x ∙ past (has test (held_by old (x / 8))) None (get old.bytes x) (λ t. other r.subpool (held_by old (x / 8)) (part_held roots old agree name r j (x / 8) e l (head_covered roots old agree r j x low high)) (none name r e) t));
} where
  at : (t : ℕ) (o : Option ℕ) → o ≡ Some t → test t ≡ false → kept (λ u. not (test u)) o ≡ o
  at t o e h = ap (kept (λ u. not (test u))) e ∙ ap (λ b. cond (not b) (Some t) None) h ∙ sym e

  other : (t : ℕ) (o : Option ℕ) → o ≡ Some t → test t ≡ false → has test o ≡ true → ⊥
  other t o e h f = absurd (let g : false ≡ true = sym h ∙ sym (ap (has test) e) ∙ f in cc)

pub release_all_keeps : ReleaseAllKeeps
release_all_keeps roots old new s whole is g none = releases_keep (λ t. t == s) roots old new whole is g.regions g.held g.bytes (λ name r e. differs r.subpool (none name r e)) where
  differs : (t : ℕ) → t ≢ s → (t == s) ≡ false
  differs t h = grind (arith, nat_tests)

pub write_parts : (roots : FinMap name_cmp Root) (old new : Storage) (p : PlaceValue) (value : ℕ → Option ℕ) (o : Owners) → AgreeParts roots old → IsStorage new → new.regions ≡ old.regions → new.held ≡ old.held
    → ((a : ℕ) → get new.bytes a ≡ cond (has_address p a) (value a) (get old.bytes a)) → Granted (state_of old o (pools_of roots old)) p → KeepsParts roots old new
write_parts roots old new p value o agree is regions held bytes granted = record {
  storage = is;
  regions = regions;
  held = λ name r j d e l c. ap (λ m. get m d) held;
  heads = λ name r j x e l low high. ap (λ v. unwrap_or v 0) (bytes x ∙ past (has_address p x) (value x) (get old.bytes x) (λ t. let h = has_is p x t in not_in_head roots old agree o x (granted x h.0 h.1) name r j e l low high));
}

pub write_keeps : WriteKeeps
write_keeps roots old new p value o agree = write_parts roots old new p value o agree.parts

-- some of the pools agree with storage where all do
pub fewer_parts : (roots fewer : FinMap name_cmp Root) (st : Storage) → AgreeParts roots st → ((name : Name) (r : Root) → get fewer name ≡ Some r → get roots name ≡ Some r) → AgreeParts fewer st
fewer_parts roots fewer st agree less = record {
  storage = agree.storage;
  bounded = agree.bounded;
  chained = λ name r e. agree.chained name r (less name r e);
  apart = λ o. apart_from st o (pools_of fewer st) agree.storage stand_fewer;
} where
  s : Stand st (pools_of roots st)
  s = stands roots st agree

  has : (name : Name) (pool : Pool) → get (pools_of fewer st) name ≡ Some pool → get (pools_of roots st) name ≡ Some pool
  has name pool e = let r = root_found fewer st name pool e in pool_from roots st name r.0 (less name r.0 r.1) ∙ ap Some r.2

  stand_fewer : Stand st (pools_of fewer st)
  stand_fewer = record {
    whole = λ name pool part e h. s.whole name pool part (has name pool e) h;
    length = λ name pool part e h. s.length name pool part (has name pool e) h;
    some = λ name pool part e h. s.some name pool part (has name pool e) h;
    held = λ name pool part e h. s.held name pool part (has name pool e) h;
    within = λ name pool e. s.within name pool (has name pool e);
    between = λ m n p q x y ne em en. s.between m n p q x y ne (has m p em) (has n q en);
    cells = λ name pool c e. s.cells name pool c (has name pool e);
  }

pub fewer_agree : FewerAgree
fewer_agree roots fewer st agree less = record { parts = fewer_parts roots fewer st agree.parts less; counted = λ name r e. agree.counted name r (less name r e) }

-- where there are no pools they agree with any storage
pub none_agree : NoneAgree
none_agree st is bounded = record {
  parts = record {
    storage = is;
    bounded = bounded;
    chained = λ name r e. absurd (let f : None ≡ Some r = sym (get-empty name_cmp name) ∙ e in cc);
    apart = λ o. apart_from st o (pools_of empty st) is stand_none;
  };
  counted = λ name r e. absurd (let f : None ≡ Some r = sym (get-empty name_cmp name) ∙ e in cc);
} where
  none : (name : Name) (pool : Pool) → get (pools_of empty st) name ≡ Some pool → ⊥
  none name pool e = let r = root_found empty st name pool e in let f : None ≡ Some r.0 = sym (get-empty name_cmp name) ∙ r.1 in absurd (cc)

  stand_none : Stand st (pools_of empty st)
  stand_none = record {
    whole = λ name pool part e h. absurd (none name pool e);
    length = λ name pool part e h. absurd (none name pool e);
    some = λ name pool part e h. absurd (none name pool e);
    held = λ name pool part e h. absurd (none name pool e);
    within = λ name pool e. absurd (none name pool e);
    between = λ m n p q x y ne em en. absurd (none m p em);
    cells = λ name pool c e. absurd (none name pool e);
  }

-- where the pools of some subpools go
pub drops_pools : (test : ℕ → Bool) (roots fewer : FinMap name_cmp Root) (st : Storage) → Agree roots st → Keeps (get roots) (λ _ r. not (test r.subpool)) (get fewer)
    → Agree fewer st × Keeps (get (pools_of roots st)) (λ _ pool. not (test pool.subpool)) (get (pools_of fewer st)) × ((name : Name) (r : Root) → get fewer name ≡ Some r → test r.subpool ≡ false)
drops_pools test roots fewer st agree keeps = (fewer_agree roots fewer st agree (λ name r e. (stays name r e).0), pools_left, λ name r e. (stays name r e).1) where
  stays : (name : Name) (r : Root) → get fewer name ≡ Some r → (get roots name ≡ Some r) × (test r.subpool ≡ false)
  stays name r e = at (get roots name) refl (sym (keeps name) ∙ e) where
    by : (q : Root) (b : Bool) → test q.subpool ≡ b → get roots name ≡ Some q → cond (not b) (Some q) None ≡ Some r → (get roots name ≡ Some r) × (test r.subpool ≡ false)
    by q true t f g = absurd (let h : ◌≡◌ {A = Option Root} None (Some r) = g in cc)
    by q false t f g = (f ∙ g, (let same : q ≡ r = cc in subst (λ (w : Root). test w.subpool ≡ false) same t))

    at : (v : Option Root) → get roots name ≡ v → kept (λ (q : Root). not (test q.subpool)) v ≡ Some r → (get roots name ≡ Some r) × (test r.subpool ≡ false)
    at None f g = absurd (let h : ◌≡◌ {A = Option Root} None (Some r) = g in cc)
    at (Some q) f g = by q (test q.subpool) refl f g

  pools_left : Keeps (get (pools_of roots st)) (λ _ pool. not (test pool.subpool)) (get (pools_of fewer st))
  pools_left n = get-pools_of fewer st n ∙ ap (option_map (pool_of (byte_of st))) (keeps n) ∙ at (get roots n) ∙ sym (ap (kept (λ pool. not (test pool.subpool))) (get-pools_of roots st n)) where
    by : (r : Root) (b : Bool) → option_map (pool_of (byte_of st)) (cond b (Some r) None) ≡ cond b (Some (pool_of (byte_of st) r)) None
    by r true = refl
    by r false = refl

    at : (v : Option Root) → option_map (pool_of (byte_of st)) (kept (λ (r : Root). not (test r.subpool)) v) ≡ kept (λ pool. not (test pool.subpool)) (option_map (pool_of (byte_of st)) v)
    at None = refl
    at (Some r) = by r (not (test r.subpool))

pub drops_subpool : DropsSubpool
drops_subpool roots fewer st s agree keeps = let d = drops_pools (λ t. t == s) roots fewer st agree keeps in (d.0, d.1, λ name r e. unequal r.subpool (d.2 name r e)) where
  unequal : (t : ℕ) → (t == s) ≡ false → t ≢ s
  unequal t e f = absurd (let g : (t == s) ≡ true = grind (arith, nat_tests) in let h : true ≡ false = sym g ∙ e in cc)

-- a slab without a value has none at any key
pub none_at : {T : Type 0} (slots : List (Option T)) (k : ℕ) → count_by is_some slots ≡ 0 → slice_index_or slots k None ≡ None
none_at [] k h = refl
none_at (None ∷ rest) zero h = refl
none_at (None ∷ rest) (suc k) h = none_at rest k h
none_at {T} (Some x ∷ rest) k h = absurd (let e : 1 + count_by is_some rest ≡ 0 = sym (sum_by-cons (λ (o : Option T). cond (is_some o) 1 0) (Some x) rest) ∙ h in omega arith)
