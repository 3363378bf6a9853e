-- What CPOOL BUILD leaves.
use Rattle.std.proofs.Common.{◌≡◌, ℕ, ◌+◌, ◌-◌, ◌/◌, ◌<◌, ◌≤◌, Bool, true, false, cond, [], ◌∷◌, ◌++◌, Option, Some, None, refl, sym, ap, ◌∙◌, subst, arith}
use Rattle.std.specs.Prelude.{is_some, unwrap_or}
use Rattle.std.specs.Option.{option_map}
use Rattle.std.specs.Ordering.{nat_cmp}
use Rattle.std.specs.Cmp.{nat_cmp_total}
use Rattle.std.proofs.lemmas.List.FromFn.{map-range_with_len_more}
use Rattle.std.proofs.lemmas.Bool.Decides.{nat_tests}
use Rattle.std.specs.FinMap.{FinMap, get, nat_cmp-IsAntisymmetric}
use Rattle.std.specs.FinSet as set
use Rattle.mvs_model.specs.declared.name.Name.{Name}
use Rattle.mvs_model.specs.Name.{name_cmp, same_name}
use Rattle.mvs_model.specs.Finite.{count_below}
use Rattle.mvs_model.specs.Place.{PlaceValue, place_at}
use Rattle.mvs_model.specs.Want.{WantValue}
use Rattle.mvs_model.specs.Storage.{Storage, holder as held_by, IsStorage, Chosen, Grant, Covers, covers, has_address}
use Rattle.mvs_model.specs.Owners.{Owners}
use Rattle.mvs_model.specs.Pools.{part_length, part_want}
use Rattle.mvs_model.specs.State.{granted}
use Rattle.mvs_model.specs.View.{state_of}
use Rattle.mvs_model.specs.Changes.{Extends, with_part}
use Rattle.mvs_model.specs.Requests.{Plan, new_pool}
use Rattle.mvs_model.proofs.TakenCells.{never}
use Rattle.mvs_model.proofs.PartsGrown.{Stands}
use Rattle.cell_pool.specs.Layout.{byte_of, count_at, taken_at, flag, flag_room, head_length, IsLaid}
use Rattle.cell_pool.specs.Roots.{Root, part_addr, part_at, part_of, parts_of, taken_of, pool_of, pools_of}
use Rattle.cell_pool.specs.Agree.{IsChained, AgreeParts, IsCounted}
use Rattle.cell_pool.specs.Laws.{KeepsParts}
use Rattle.cell_pool.specs.Laying.{LaysOut}
use Rattle.cell_pool.proofs.Taken.{TakenAt, set_found}
use Rattle.cell_pool.proofs.Frame.{get-pools_of, kept}
use Rattle.cell_pool.specs.Roots.{free_in}
use Rattle.cell_pool.proofs.Counted.{free_next, free_none, counted_kept}
use Rattle.cell_pool.proofs.Keeping.{grant_parts}
use Rattle.mvs_model.proofs.Stand.{granted_held}
use Rattle.cell_pool.proofs.Only.{stands, part_held, head_covered}
use Rattle.cell_pool.proofs.Marked.{same_byte}
use Rattle.cell_pool.proofs.Growing.{extends_seen, apart_grown}
use Rattle.mvs_model.proofs.Tests.{none_some}
use Rattle.mvs_model.proofs.Below.{count_none}

-- a part that is laid out has no taken cell
pub laid_out : (old new : Storage) (a count size : ℕ) → LaysOut old a count size new → count ≤ 65536 → IsLaid (byte_of new) size a
laid_out old new a count size l few = record {
  sized = l.sized;
  few = subst (λ n. n ≤ 65536) (sym l.cells) few;
  taken = l.taken ∙ sym (ap (λ n. count_below n (flag (byte_of new) a)) l.cells ∙ count_none count (flag (byte_of new) a) (λ i h. l.flags i (omega arith)));
  past = λ i low high. l.flags i (subst (λ n. i < flag_room n) l.cells high);
}

-- storage is granted and a part laid out in it
module _ (roots : FinMap name_cmp Root) (old mid new : Storage) (agree : AgreeParts roots old) (is_mid : IsStorage mid) (s size count : ℕ) (want : WantValue) (p : PlaceValue) (grant : Grant old s want p mid) (head : head_length count ≤ p.len) (lays : LaysOut mid p.addr count size new) where
  -- no part that there was has a byte of the place
  pub apart_from_old : (name : Name) (r : Root) (j x : ℕ) → get roots name ≡ Some r → j < r.count → Covers (part_of (byte_of old) r j).place (x / 8) → p.addr ≤ x → x < p.addr + p.len → ⊥
  apart_from_old name r j x e l c low high =
      none_some (sym (grant.chosen.placed.0.each (x / 8) (omega arith, omega arith)).free ∙ part_held roots old agree name r j (x / 8) e l c)

  keeps_mid : KeepsParts roots old mid
  keeps_mid = grant_parts roots old mid s want p agree is_mid grant

  pub keeps_old : KeepsParts roots old new
  keeps_old = record {
    storage = lays.storage;
    regions = lays.regions ∙ keeps_mid.regions;
    held = λ name r j d e l c. ap (λ m. get m d) lays.held ∙ keeps_mid.held name r j d e l c;
    heads = λ name r j x e l low high. lays.others x (λ from to. apart_from_old name r j x e l (head_covered roots old agree r j x low high) from (omega arith)) ∙ keeps_mid.heads name r j x e l low high;
  }

  pub held_new : (d : ℕ) → get new.held d ≡ cond (covers p d) (Some s) (get old.held d)
  held_new d = ap (λ m. get m d) lays.held ∙ grant.held d

  -- what may be read and written keeps its bytes
  pub bytes_kept : (o : Owners) (x : ℕ) → granted (state_of old o (pools_of roots old)) x ≡ true → is_some (held_by old (x / 8)) ≡ true → get new.bytes x ≡ get old.bytes x
  bytes_kept o x e held =
      same_byte mid new x is_mid lays.storage lays.held (lays.others x (λ from to. outside (omega arith) (omega arith)))
      ∙ grant.bytes x ∙ past (has_address p x) (λ h. let g : (p.addr ≤ x) × (x < p.addr + p.len) = has x h in outside g.0 g.1) where
        outside : p.addr ≤ x → x < p.addr + p.len → ⊥
        outside low high = absurd (let f : true ≡ false = sym held ∙ ap is_some (grant.chosen.placed.0.each (x / 8) (omega arith, omega arith)).free in cc)

        has : (y : ℕ) → has_address p y ≡ true → (p.addr ≤ y) × (y < p.addr + p.len)
        has y h = grind (arith, nat_tests)

        past : (b : Bool) → (b ≡ true → ⊥) → cond b (Some old.regions.fill) (get old.bytes x) ≡ get old.bytes x
        past true h = absurd (h refl)
        past false h = refl

-- a new pool of one part
module _ (roots : FinMap name_cmp Root) (old mid new : Storage) (agree : AgreeParts roots old) (is_mid : IsStorage mid) (name : Name) (fresh : get roots name ≡ None) (s : ℕ) (plan : Plan) (want : WantValue) (p : PlaceValue) (grant : Grant old s want p mid)
    (is_want : want ≡ part_want plan.cell_size plan.primary plan.side) (lays : LaysOut mid p.addr plan.primary plan.cell_size new) (fill : ℕ) (is_fill : fill ≡ old.regions.fill) (new_roots : FinMap name_cmp Root)
    (roots_now : (n : Name) → get new_roots n ≡ cond (same_name n name) (Some (record { subpool = s; cell_size = plan.cell_size; primary = plan.primary; secondary = plan.secondary; side = plan.side; fill = fill; count = 1; first = p.addr; last = p.addr; free = plan.primary; open_part = p.addr })) (get roots n))
    (size : 4 ≤ plan.cell_size) (small : plan.cell_size ≤ 65536) (some : 1 ≤ plan.primary) (few : plan.primary ≤ 65536) where
  chosen : Chosen old.regions (held_by old) s (part_want plan.cell_size plan.primary plan.side) p
  chosen = subst (λ w. Chosen old.regions (held_by old) s w p) is_want grant.chosen

  len_is : p.len ≡ part_length plan.cell_size plan.primary
  len_is = let l = chosen.length.least in let m = chosen.length.most in omega (arith, l, m)

  head_in : head_length plan.primary ≤ p.len
  head_in = let e = len_is in omega arith

  first : part_addr (byte_of new) p.addr 0 ≡ p.addr
  unfolding part_addr
  first = refl

  last : part_addr (byte_of new) p.addr 1 ≡ 0
  unfolding part_addr
  last = lays.next

  only_part : part_of (byte_of new) (record { subpool = s; cell_size = plan.cell_size; primary = plan.primary; secondary = plan.secondary; side = plan.side; fill = fill; count = 1; first = p.addr; last = p.addr; free = plan.primary; open_part = p.addr }) 0 ≡ record { place = p; count = plan.primary }
  only_part =
      ap (part_at (byte_of new) plan.cell_size) first
      ∙ (λ k. record { place = place_at p.addr (part_length plan.cell_size (lays.cells k)); count = lays.cells k })
      ∙ (λ k. record { place = place_at p.addr (sym len_is k); count = plan.primary })

  parts : parts_of (byte_of new) (record { subpool = s; cell_size = plan.cell_size; primary = plan.primary; secondary = plan.secondary; side = plan.side; fill = fill; count = 1; first = p.addr; last = p.addr; free = plan.primary; open_part = p.addr }) ≡ [] ++ record { place = p; count = plan.primary } ∷ []
  unfolding parts_of
  parts = map-range_with_len_more (part_of (byte_of new) (record { subpool = s; cell_size = plan.cell_size; primary = plan.primary; secondary = plan.secondary; side = plan.side; fill = fill; count = 1; first = p.addr; last = p.addr; free = plan.primary; open_part = p.addr })) 0 0 0 refl ∙ ap (λ x. [] ++ x ∷ []) only_part

  no_cell : (c : ℕ) → TakenAt (byte_of new) (record { subpool = s; cell_size = plan.cell_size; primary = plan.primary; secondary = plan.secondary; side = plan.side; fill = fill; count = 1; first = p.addr; last = p.addr; free = plan.primary; open_part = p.addr }) c → ⊥
  no_cell c t =
      let zero_is : t.part ≡ 0 = (let l : t.part < 1 = t.is_part in omega arith) in
      let at : part_addr (byte_of new) p.addr t.part ≡ p.addr = ap (part_addr (byte_of new) p.addr) zero_is ∙ first in
      let low : t.cell < plan.primary = subst (λ n. t.cell < n) (ap (count_at (byte_of new)) at ∙ lays.cells) t.is_cell in
      let f : true ≡ false = sym t.set ∙ ap (λ a. flag (byte_of new) a t.cell) at ∙ lays.flags t.cell (omega arith) in absurd (cc)

  none_taken : taken_of (byte_of new) (record { subpool = s; cell_size = plan.cell_size; primary = plan.primary; secondary = plan.secondary; side = plan.side; fill = fill; count = 1; first = p.addr; last = p.addr; free = plan.primary; open_part = p.addr }) ≡ set.empty
  none_taken = set.same_set nat_cmp_total nat_cmp-IsAntisymmetric _ _ (λ c. never _ (λ e. no_cell c (set_found (byte_of new) _ c e)) ∙ sym (set.contains-empty nat_cmp c))

  pool_is : pool_of (byte_of new) (record { subpool = s; cell_size = plan.cell_size; primary = plan.primary; secondary = plan.secondary; side = plan.side; fill = fill; count = 1; first = p.addr; last = p.addr; free = plan.primary; open_part = p.addr }) ≡ with_part (new_pool s plan) plan.primary p
  pool_is = λ k. record { subpool = s; cell_size = plan.cell_size; primary = plan.primary; secondary = plan.secondary; side = plan.side; parts = parts k; taken = none_taken k }

  old_kept : AgreeParts roots new × (pools_of roots new ≡ pools_of roots old)
  old_kept = kept roots old new agree (keeps_old roots old mid new agree is_mid s plan.cell_size plan.primary want p grant head_in lays)

  pools_now : (n : Name) → get (pools_of new_roots new) n ≡ cond (same_name n name) (Some (with_part (new_pool s plan) plan.primary p)) (get (pools_of roots old) n)
  pools_now n = get-pools_of new_roots new n ∙ ap (option_map (pool_of (byte_of new))) (roots_now n) ∙ by (same_name n name) where
    by : (b : Bool) → option_map (pool_of (byte_of new)) (cond b (Some (record { subpool = s; cell_size = plan.cell_size; primary = plan.primary; secondary = plan.secondary; side = plan.side; fill = fill; count = 1; first = p.addr; last = p.addr; free = plan.primary; open_part = p.addr })) (get roots n)) ≡ cond b (Some (with_part (new_pool s plan) plan.primary p)) (get (pools_of roots old) n)
    by true = ap Some pool_is
    by false = sym (get-pools_of roots new n) ∙ ap (λ m. get m n) old_kept.1

  no_pool : get (pools_of roots old) name ≡ None
  no_pool = get-pools_of roots old name ∙ ap (option_map (pool_of (byte_of old))) fresh

  stands_new : (o : Owners) → Stands (state_of old o (pools_of roots old)) name (new_pool s plan)
  stands_new o = record {
    parts = λ part h. absurd (omega (arith, h.1));
    taken = λ c t. absurd (let f : false ≡ true = sym (set.contains-empty nat_cmp c) ∙ t in cc);
    within = tt;
    only = λ q e. absurd (let f : None ≡ Some q = sym no_pool ∙ e in cc);
  }

  same_bytes : (o : Owners) (x : ℕ) → granted (state_of old o (pools_of roots old)) x ≡ true → get new.bytes x ≡ get old.bytes x
  same_bytes o x e = bytes_kept roots old mid new agree is_mid s plan.cell_size plan.primary want p grant head_in lays o x e (granted_held old o (pools_of roots old) agree.storage (stands roots old agree) x e)

  pub built : (o after : Owners) → Extends (state_of old o (pools_of roots old)) name (new_pool s plan) plan.primary p after (state_of new after (pools_of new_roots new))
  built o after = extends_seen roots old agree name (new_pool s plan) plan.primary p new_roots new lays.storage (lays.regions ∙ grant.regions) chosen (held_new roots old mid new agree is_mid s plan.cell_size plan.primary want p grant head_in lays) pools_now some o after (stands_new o) (same_bytes o)

  pub built_agrees : AgreeParts new_roots new
  built_agrees = record {
    storage = lays.storage;
    bounded = old_kept.0.bounded;
    chained = λ n q e. by n (same_name n name) q (sym (roots_now n) ∙ e) (old_kept.0.chained n q);
    apart = λ o. apart_grown roots old agree name (new_pool s plan) plan.primary p new_roots new lays.storage (lays.regions ∙ grant.regions) chosen (held_new roots old mid new agree is_mid s plan.cell_size plan.primary want p grant head_in lays) pools_now some o o (stands_new o) (same_bytes o);
  } where
    chain : IsChained new (record { subpool = s; cell_size = plan.cell_size; primary = plan.primary; secondary = plan.secondary; side = plan.side; fill = fill; count = 1; first = p.addr; last = p.addr; free = plan.primary; open_part = p.addr })
    chain = record {
      size = size;
      small = small;
      some = omega arith;
      parts = λ j l. subst (IsLaid (byte_of new) plan.cell_size) (sym (ap (part_addr (byte_of new) p.addr) (let z : j ≡ 0 = omega arith in z) ∙ first)) (laid_out mid new p.addr plan.primary plan.cell_size lays few);
      last = last;
      fill = is_fill ∙ ap (λ g. g.fill) (sym (lays.regions ∙ grant.regions));
    }

    by : (n : Name) (b : Bool) (q : Root) → cond b (Some (record { subpool = s; cell_size = plan.cell_size; primary = plan.primary; secondary = plan.secondary; side = plan.side; fill = fill; count = 1; first = p.addr; last = p.addr; free = plan.primary; open_part = p.addr })) (get roots n) ≡ Some q → (get roots n ≡ Some q → IsChained new q) → IsChained new q
    by n true q e rest = subst (IsChained new) (let f : record { subpool = s; cell_size = plan.cell_size; primary = plan.primary; secondary = plan.secondary; side = plan.side; fill = fill; count = 1; first = p.addr; last = p.addr; free = plan.primary; open_part = p.addr } ≡ q = cc in f) chain
    by n false q e rest = rest e

  -- what is kept of the pools
  pub built_counted : ((n : Name) (q : Root) → get roots n ≡ Some q → IsCounted (byte_of old) q) → (n : Name) (q : Root) → get new_roots n ≡ Some q → IsCounted (byte_of new) q
  built_counted counted n q e = by (same_name n name) (sym (roots_now n) ∙ e) where
    only_addr : (k : ℕ) → 1 ≡ k + 1 → p.addr ≡ part_addr (byte_of new) p.addr k
    only_addr k f = sym (ap (part_addr (byte_of new) p.addr) (let z : k ≡ 0 = omega arith in z) ∙ first)

    all_free : plan.primary ≡ free_in (byte_of new) p.addr 1
    all_free =
        sym (free_next (byte_of new) p.addr 0
        ∙ (λ t. (ap (count_at (byte_of new)) first ∙ lays.cells) t - (ap (taken_at (byte_of new)) first ∙ lays.taken) t + free_none (byte_of new) p.addr t)
        ∙ (let z : plan.primary - 0 + 0 ≡ plan.primary = omega arith in z))

    now : IsCounted (byte_of new) (record { subpool = s; cell_size = plan.cell_size; primary = plan.primary; secondary = plan.secondary; side = plan.side; fill = fill; count = 1; first = p.addr; last = p.addr; free = plan.primary; open_part = p.addr })
    now = record {
      last = only_addr;
      free = all_free;
      number = 0;
      is_part = omega arith;
      open_part = sym first;
      full = λ j l. absurd (omega arith);
    }

    by : (b : Bool) → cond b (Some (record { subpool = s; cell_size = plan.cell_size; primary = plan.primary; secondary = plan.secondary; side = plan.side; fill = fill; count = 1; first = p.addr; last = p.addr; free = plan.primary; open_part = p.addr })) (get roots n) ≡ Some q → IsCounted (byte_of new) q
    by true e = subst (IsCounted (byte_of new)) (let f : record { subpool = s; cell_size = plan.cell_size; primary = plan.primary; secondary = plan.secondary; side = plan.side; fill = fill; count = 1; first = p.addr; last = p.addr; free = plan.primary; open_part = p.addr } ≡ q = cc in f) now
    by false e = counted_kept roots old new agree (keeps_old roots old mid new agree is_mid s plan.cell_size plan.primary want p grant head_in lays) n q e (counted n q e)

-- the fill byte is read off storage that was granted
pub fill_is : (old mid : Storage) (s : ℕ) (want : WantValue) (p : PlaceValue) → Grant old s want p mid → (a b : ℕ) → a ≡ p.addr → b ≡ byte_of mid a → 1 ≤ p.len → b ≡ old.regions.fill
fill_is old mid s want p g a b e f some =
    f ∙ ap (byte_of mid) e ∙ ap (λ o. unwrap_or o 0) (g.bytes p.addr ∙ ap (λ t. cond t (Some old.regions.fill) (get old.bytes p.addr)) (let h : has_address p p.addr ≡ true = grind (arith, nat_tests) in h))

pub lays_is : (old new : Storage) (a b n m k l : ℕ) → a ≡ b → n ≡ m → k ≡ l → LaysOut old a n k new → LaysOut old b m l new
lays_is old new a b n m k l e f g h = subst (λ x. LaysOut old x m l new) e (subst (λ x. LaysOut old a x l new) f (subst (λ x. LaysOut old a n x new) g h))

pub no_root : (o v : Option Root) (b : Bool) → v ≡ o → b ≡ is_some v → b ≡ false → o ≡ None
no_root o None b e f g = sym e
no_root o (Some r) b e f g = absurd (let h : true ≡ false = sym f ∙ g in cc)
