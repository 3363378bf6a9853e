-- The first pool whose name is after a given one.
use Rattle.std.proofs.Common.{◌≡◌, ◌<◌, ◌≤◌, ℕ, zero, suc, List, [], ◌∷◌, length, Option, Some, None, IsSome, is_some, true, false, refl, sym, ap, subst, ◌∙◌, ◌⊎◌, arith, inl, inr}
use Rattle.std.specs.Prelude.{MatchOption, ◌+◌}
use Rattle.std.proofs.lemmas.Bool.{cases_eq}
use Rattle.std.specs.FinMap.{FinMap, get}
use Rattle.std.specs.Option.{option_map}
use Rattle.slab.specs.Slab.{Slab, get as slab_get}
use Rattle.mvs_model.specs.declared.name.Name.{Name}
use Rattle.mvs_model.specs.Name.{name_cmp}
use Rattle.mvs_model.specs.NextName.{is_before, IsAfter, IsFirstOf, IsNextName}
use Rattle.mvs_model.specs.Storage.{Storage}
use Rattle.mvs_model.proofs.NextNames.{first_from, first_least, first_lower}
use Rattle.cell_pool.specs.Entries.{item_at, roots_of, IsDistinct}
use Rattle.cell_pool.specs.Layout.{byte_of}
use Rattle.cell_pool.specs.Roots.{Root, pool_of, pools_of}
use Rattle.cell_pool.specs.declared.entry.PoolEntry.{PoolEntry}
use Rattle.cell_pool.proofs.Named.{named, unnamed}
use Rattle.cell_pool.proofs.Frame.{get-pools_of}

-- a pool lies among the slots
pub within : (slots : List (Option PoolEntry)) (k : ℕ) (x : PoolEntry) → item_at slots k ≡ Some x → k < length slots
within [] k x e = absurd (let f : ◌≡◌ {A = Option PoolEntry} None (Some x) = e in cc)
within (o ∷ rest) zero x e = omega arith
within (o ∷ rest) (suc k) x e = let below = within rest k x e in omega (arith, below)

-- The name is a pool's, and after the given one.
pub record IsFound (entries : Slab PoolEntry) (given : Option Name) (next : Name) : Type 0 where
  pub key : ℕ
  pub pool : PoolEntry
  pub there : slab_get entries key ≡ Some pool
  pub named : pool.name ≡ next
  pub after : IsAfter next given

-- The name is not before the one that was found.
pub record IsLater (found : Option Name) (name : Name) : Type 0 where
  pub next : Name
  pub is : found ≡ Some next
  pub later : is_before name next ≡ false

-- What was found is the first name after the given one of the pools at the keys below a bound.
pub record FirstBelow (entries : Slab PoolEntry) (given : Option Name) (bound : ℕ) (found : Option Name) : Type 0 where
  pub from : (f : Name) → found ≡ Some f → IsFound entries given f
  pub least : (k : ℕ) (x : PoolEntry) → k < bound → slab_get entries k ≡ Some x → IsAfter x.name given → IsLater found x.name

module _ (entries : Slab PoolEntry) (given : Option Name) where
  pub none_seen : FirstBelow entries given 0 None
  none_seen = record {
    from = λ f e. absurd (let no_name : ◌≡◌ {A = Option Name} None (Some f) = e in cc);
    least = λ k x below _ _. absurd (omega arith);
  }

  module _ (key : ℕ) (found : Option Name) (s : FirstBelow entries given key found) where
    -- a key without a pool
    pub none_more : slab_get entries key ≡ None → FirstBelow entries given (key + 1) found
    none_more empty = record {
      from = s.from;
      least = λ k x below there after. elim (cases_eq k key) [
        | inl same ↦ absurd (let e : ◌≡◌ {A = Option PoolEntry} None (Some x) = sym empty ∙ ap (slab_get entries) (sym same) ∙ there in cc)
        | inr other ↦ s.least k x (lower k below other) there after
      ];
    } where
      lower : (k : ℕ) → k < key + 1 → (k ≡ key → ⊥) → k < key
      lower k below other = grind arith

    -- a key with a pool
    pub one_more : (pool : PoolEntry) (first : Option Name) → slab_get entries key ≡ Some pool → IsFirstOf found pool.name given first → FirstBelow entries given (key + 1) first
    one_more pool first there h = record {
      from = λ f e. elim (first_from found pool.name given first h f e) [
        | inl before ↦ s.from f before
        | inr (same, after) ↦ record { key = key; pool = pool; there = there; named = same; after = subst (λ n. IsAfter n given) same after }
      ];
      least = λ k x below is after. elim (cases_eq k key) [
        | inl same ↦ (
            let is_pool : pool ≡ x = (let e : Some pool ≡ Some x = sym there ∙ ap (slab_get entries) (sym same) ∙ is in cc) in
            of_least x (ap (λ (y : PoolEntry). y.name) is_pool) after)
        | inr other ↦ (
            let l = s.least k x (lower k below other) is after in
            let r = first_lower found pool.name given first h x.name l.next l.is l.later in
            record { next = r.0; is = r.1; later = r.2 })
      ];
    } where
      lower : (k : ℕ) → k < key + 1 → (k ≡ key → ⊥) → k < key
      lower k below other = grind arith

      of_least : (x : PoolEntry) → pool.name ≡ x.name → IsAfter x.name given → IsLater first x.name
      of_least x same after =
          let r = first_least found pool.name given first h (subst (λ n. IsAfter n given) (sym same) after) in
          record { next = r.0; is = r.1; later = subst (λ n. is_before n r.0 ≡ false) same r.2 }

  -- what was found, where all pools were looked at
  pub first_correct : (bound : ℕ) (found : Option Name) → ((k : ℕ) (x : PoolEntry) → slab_get entries k ≡ Some x → k < bound) → FirstBelow entries given bound found
      → MatchOption found ((k : ℕ) (x : PoolEntry) → slab_get entries k ≡ Some x → IsAfter x.name given → ⊥)
      (λ next. ((k : ℕ) × (x : PoolEntry) × (slab_get entries k ≡ Some x) × (x.name ≡ next) × IsAfter next given)
      × ((k : ℕ) (x : PoolEntry) → slab_get entries k ≡ Some x → IsAfter x.name given → is_before x.name next ≡ false))
  first_correct bound None all s = λ k x there after. (let l = s.least k x (all k x there) there after in let e : ◌≡◌ {A = Option Name} None (Some l.next) = l.is in cc)
  first_correct bound (Some next) all s =
      let f = s.from next refl in (
        (f.key, f.pool, f.there, f.named, f.after),
        λ k x there after. (
            let l = s.least k x (all k x there) there after in
            let same : next ≡ l.next = (let e : Some next ≡ Some l.next = l.is in cc) in
            subst (λ n. is_before x.name n ≡ false) (sym same) l.later),
      )

-- the same of the pools that are seen
module _ (slots : List (Option PoolEntry)) (roots : FinMap name_cmp Root) (st : Storage) (given : Option Name) (view : roots_of slots ≡ roots) (distinct : IsDistinct slots) where
  no_pool : (n : Name) → get roots n ≡ None → get (pools_of roots st) n ≡ None
  no_pool n e = get-pools_of roots st n ∙ ap (option_map (pool_of (byte_of st))) e

  missing : (n : Name) → ((k : ℕ) (x : PoolEntry) → item_at slots k ≡ Some x → x.name ≡ n → ⊥) → get roots n ≡ None
  missing n none = subst (λ m. get m n ≡ None) view (unnamed slots n none)

  pub next_is : (found : Option Name)
      → MatchOption found ((k : ℕ) (x : PoolEntry) → item_at slots k ≡ Some x → IsAfter x.name given → ⊥)
      (λ next. ((k : ℕ) × (x : PoolEntry) × (item_at slots k ≡ Some x) × (x.name ≡ next) × IsAfter next given)
      × ((k : ℕ) (x : PoolEntry) → item_at slots k ≡ Some x → IsAfter x.name given → is_before x.name next ≡ false))
      → IsNextName (get (pools_of roots st)) given found
  next_is None h = λ n after. no_pool n (missing n (λ k x there same. h k x there (subst (λ m. IsAfter m given) (sym same) after)))
  next_is (Some next) h =
      let f = h.0 in
      let is : get roots next ≡ Some f.1.root = subst (λ m. get m next ≡ Some f.1.root) view (subst (λ n. get (roots_of slots) n ≡ Some f.1.root) f.3 (named slots f.0 f.1 distinct f.2)) in (
        subst IsSome (sym (get-pools_of roots st next ∙ ap (option_map (pool_of (byte_of st))) is)) refl,
        f.4,
        λ n after before. no_pool n (missing n (λ k x there same. (
            let e : true ≡ false = sym before ∙ ap (λ m. is_before m next) (sym same) ∙ h.1 k x there (subst (λ m. IsAfter m given) (sym same) after) in cc))),
      )
