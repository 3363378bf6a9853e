-- What keeps the parts keeps the pools.
use Rattle.std.proofs.Common.{◌≡◌, ℕ, ◌+◌, ◌*◌, ◌/◌, ◌<◌, ◌≤◌, true, false, Option, Some, None, refl, sym, ap, ◌∙◌, subst, arith}
use Rattle.std.specs.Prelude.{◌==◌, ◌&&◌, is_some}
use Rattle.std.specs.List.{Contains}
use Rattle.std.specs.Option.{option_map}
use Rattle.std.specs.FinMap.{FinMap, get, keys, contains_key-keys, same_map}
use Rattle.mvs_model.specs.declared.name.Name.{Name}
use Rattle.mvs_model.specs.Name.{name_cmp}
use Rattle.mvs_model.specs.Finite.{any_below, count_below}
use Rattle.mvs_model.specs.Storage.{Storage, holder as held_by, Covers}
use Rattle.mvs_model.specs.Owners.{Owners}
use Rattle.mvs_model.specs.Place.{place_at}
use Rattle.mvs_model.specs.Pools.{Pool, Part, part_length, first_cell}
use Rattle.mvs_model.specs.View.{IsBounded, state_of}
use Rattle.mvs_model.specs.WellFormed.{Apart}
use Rattle.mvs_model.proofs.Orders.{name_cmp_total, name_cmp-IsAntisymmetric}
use Rattle.mvs_model.proofs.Keyed.{get-keyed_all}
use Rattle.cell_pool.specs.Layout.{byte_of, word, flag, next_at, count_at, taken_at, flag_room, head_length, IsLaid}
use Rattle.cell_pool.specs.Roots.{Root, part_addr, part_at, parts_of, has_taken, is_taken, taken_of, pool_of, pools_of}
use Rattle.cell_pool.specs.Agree.{IsChained, AgreeParts}
use Rattle.cell_pool.specs.Laws.{KeepsParts}
use Rattle.cell_pool.proofs.Below.{any_same}
use Rattle.cell_pool.proofs.Chains.{same_word, same_flag, contained_part, same_addr, same_parts}
use Rattle.cell_pool.proofs.Taken.{same_taken}
use Rattle.mvs_model.proofs.Stand.{Stand, stand, apart_from}
use Rattle.mvs_model.proofs.Below.{count_same}

-- the pool of a name
pub get-pools_of : (roots : FinMap name_cmp Root) (st : Storage) (name : Name) → get (pools_of roots st) name ≡ option_map (pool_of (byte_of st)) (get roots name)
unfolding pools_of
get-pools_of roots st name = get-keyed_all name_cmp_total name_cmp-IsAntisymmetric (keys roots) (λ n. option_map (pool_of (byte_of st)) (get roots n)) name (λ e. at (get roots name) (contains_key-keys roots name ∙ e)) where
  at : (v : Option Root) → is_some v ≡ false → option_map (pool_of (byte_of st)) v ≡ None
  at None e = refl
  at (Some r) e = absurd (let f : true ≡ false = e in cc)

-- and the root that it has
pub root_found : (roots : FinMap name_cmp Root) (st : Storage) (name : Name) (pool : Pool) → get (pools_of roots st) name ≡ Some pool → (r : Root) × (get roots name ≡ Some r) × (pool_of (byte_of st) r ≡ pool)
root_found roots st name pool e = at (get roots name) refl (sym (get-pools_of roots st name) ∙ e) where
  at : (v : Option Root) → get roots name ≡ v → option_map (pool_of (byte_of st)) v ≡ Some pool → (r : Root) × (get roots name ≡ Some r) × (pool_of (byte_of st) r ≡ pool)
  at None is f = absurd (let g : None ≡ Some pool = f in cc)
  at (Some r) is f = (r, is, (let g : Some (pool_of (byte_of st) r) ≡ Some pool = f in let k : pool_of (byte_of st) r ≡ pool = cc in k))

pub pool_from : (roots : FinMap name_cmp Root) (st : Storage) (name : Name) (r : Root) → get roots name ≡ Some r → get (pools_of roots st) name ≡ Some (pool_of (byte_of st) r)
pool_from roots st name r e = get-pools_of roots st name ∙ ap (option_map (pool_of (byte_of st))) e

-- the bytes before the cells of a part are the same
module _ (m n : ℕ → ℕ) (a : ℕ) (heads : (x : ℕ) → a ≤ x → x < a + head_length (count_at m a) → n x ≡ m x) where
  same_at : (k : ℕ) → k < 16 → n (a + k) ≡ m (a + k)
  same_at k l = heads (a + k) (omega arith) (omega arith)

  word_at : (k : ℕ) → k < 13 → word n (a + k) ≡ word m (a + k)
  word_at k l = same_word m n (a + k) (same_at k (omega arith)) (at 1 (omega arith)) (at 2 (omega arith)) (at 3 (omega arith)) where
    at : (j : ℕ) → k + j < 16 → n (a + k + j) ≡ m (a + k + j)
    at j h = let e : a + k + j ≡ a + (k + j) = omega arith in ap n e ∙ same_at (k + j) h ∙ ap m (sym e)

  pub next_same : next_at n a ≡ next_at m a
  next_same = let e : a + 0 ≡ a = omega arith in ap (word n) (sym e) ∙ word_at 0 (omega arith) ∙ ap (word m) e

  pub count_is : count_at n a ≡ count_at m a
  count_is = word_at 4 (omega arith)

  pub taken_is : taken_at n a ≡ taken_at m a
  taken_is = word_at 8 (omega arith)

  pub flags_same : (i : ℕ) → i < flag_room (count_at m a) → flag n a i ≡ flag m a i
  flags_same i l = same_flag m n a i (heads (a + 16 + i / 8) (omega arith) (omega arith))

  pub laid_same : (size : ℕ) → IsLaid m size a → IsLaid n size a
  laid_same size l = record {
    sized = word_at 12 (omega arith) ∙ l.sized;
    few = subst (λ k. k ≤ 65536) (sym count_is) l.few;
    taken = word_at 8 (omega arith) ∙ l.taken ∙ sym (ap (λ k. count_below k (flag n a)) count_is ∙ count_same (count_at m a) (flag n a) (flag m a) (λ i h. flags_same i (omega arith)));
    past = λ i low high. flags_same i (subst (λ k. i < flag_room k) count_is high) ∙ l.past i (subst (λ k. k ≤ i) count_is low) (subst (λ k. i < flag_room k) count_is high);
  }

  pub has_same : (size c : ℕ) → has_taken n size a c ≡ has_taken m size a c
  unfolding has_taken
  has_same size c =
      ap (λ k. any_below (λ i. (first_cell size (part_at n size a) + i * size == c) && flag n a i) k) count_is
      ∙ any_same _ _ (count_at m a) (λ i l k. (first_cell size (same_part k) + i * size == c) && flags_same i (omega arith) k) where
        same_part : part_at n size a ≡ part_at m size a
        same_part = ap (λ k. record { place = place_at a (part_length size k); count = k }) count_is

module _ (roots : FinMap name_cmp Root) (old new : Storage) (agree : AgreeParts roots old) (keeps : KeepsParts roots old new) where
  -- one pool
  module _ (name : Name) (r : Root) (is : get roots name ≡ Some r) where
    head : (j : ℕ) → j < r.count → (x : ℕ) → part_addr (byte_of old) r.first j ≤ x → x < part_addr (byte_of old) r.first j + head_length (count_at (byte_of old) (part_addr (byte_of old) r.first j)) → byte_of new x ≡ byte_of old x
    head j l x low high = keeps.heads name r j x is l low high

    pub addr : (j : ℕ) → j ≤ r.count → part_addr (byte_of new) r.first j ≡ part_addr (byte_of old) r.first j
    addr = same_addr (byte_of old) (byte_of new) r (λ j l. next_same (byte_of old) (byte_of new) _ (head j l))

    pool_same : pool_of (byte_of new) r ≡ pool_of (byte_of old) r
    unfolding is_taken
    pool_same = λ i. record (pool_of (byte_of old) r) { parts = parts i; taken = taken i } where
      parts : parts_of (byte_of new) r ≡ parts_of (byte_of old) r
      parts = same_parts (byte_of old) (byte_of new) r (λ j l. next_same (byte_of old) (byte_of new) _ (head j l)) (λ j l. count_is (byte_of old) (byte_of new) _ (head j l))

      taken : taken_of (byte_of new) r ≡ taken_of (byte_of old) r
      taken = same_taken (byte_of old) (byte_of new) r (λ c. any_same _ _ r.count (λ j l. ap (λ a. has_taken (byte_of new) r.cell_size a c) (addr j (omega arith)) ∙ has_same (byte_of old) (byte_of new) _ (head j l) r.cell_size c))

    chained : IsChained new r
    chained = let k = agree.chained name r is in record {
      size = k.size;
      small = k.small;
      some = k.some;
      parts = λ j l. subst (IsLaid (byte_of new) r.cell_size) (sym (addr j (omega arith))) (laid_same (byte_of old) (byte_of new) _ (head j l) r.cell_size (k.parts j l));
      last = addr r.count (omega arith) ∙ k.last;
      fill = k.fill ∙ ap (λ g. g.fill) (sym keeps.regions);
    }

  same_pools : pools_of roots new ≡ pools_of roots old
  same_pools = same_map name_cmp_total name_cmp-IsAntisymmetric _ _ (λ name. get-pools_of roots new name ∙ at name (get roots name) refl ∙ sym (get-pools_of roots old name)) where
    at : (name : Name) (v : Option Root) → get roots name ≡ v → option_map (pool_of (byte_of new)) v ≡ option_map (pool_of (byte_of old)) v
    at name None e = refl
    at name (Some r) e = ap Some (pool_same name r e)

  stands : (o : Owners) → Stand new (pools_of roots old)
  stands o = let s = stand old o (pools_of roots old) agree.storage (agree.apart o) in record {
    whole = s.whole;
    length = s.length;
    some = s.some;
    held = λ name pool part e h d c. held name pool part e h d c ∙ s.held name pool part e h d c;
    within = s.within;
    between = s.between;
    cells = s.cells;
  } where
    held : (name : Name) (pool : Pool) (part : Part) → get (pools_of roots old) name ≡ Some pool → Contains pool.parts part → (d : ℕ) → Covers part.place d → held_by new d ≡ held_by old d
    held name pool part e h d c =
        let r = root_found roots old name pool e in
        let j = contained_part (byte_of old) r.0 part (subst (λ p. Contains p.parts part) (sym r.2) h) in
        keeps.held name r.0 j.0 d r.1 j.1 (subst (λ p. Covers p.place d) (sym j.2) c)

  pub kept : AgreeParts roots new × (pools_of roots new ≡ pools_of roots old)
  kept = (
    record {
      storage = keeps.storage;
      bounded = subst IsBounded (sym keeps.regions) agree.bounded;
      chained = λ name r is. chained name r is;
      apart = λ o. subst (λ p. Apart (state_of new o p)) (sym same_pools) (apart_from new o (pools_of roots old) keeps.storage (stands o));
    },
    same_pools,
  )
