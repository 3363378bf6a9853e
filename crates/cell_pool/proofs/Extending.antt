-- A pool gets a further part.
use Rattle.std.proofs.Common.{◌≡◌, ◌≢◌, ℕ, ◌+◌, ◌*◌, ◌<◌, ◌≤◌, Bool, true, false, cond, Option, Some, None, refl, sym, ap, ◌∙◌, subst, arith}
use Rattle.std.specs.Prelude.{is_some}
use Rattle.std.specs.Option.{option_map}
use Rattle.std.specs.FinMap.{FinMap, get}
use Rattle.mvs_model.specs.declared.name.Name.{Name}
use Rattle.mvs_model.specs.Name.{name_cmp, same_name}
use Rattle.mvs_model.specs.Place.{PlaceValue, place_at}
use Rattle.mvs_model.specs.Storage.{Storage, IsStorage, AllHeld, Grant, covers}
use Rattle.mvs_model.specs.Owners.{Owners}
use Rattle.mvs_model.specs.Pools.{part_length, part_want}
use Rattle.mvs_model.specs.State.{granted}
use Rattle.mvs_model.specs.View.{IsBounded, state_of}
use Rattle.mvs_model.specs.Changes.{with_part}
use Rattle.mvs_model.proofs.Orders.{same_name_self, differs}
use Rattle.mvs_model.proofs.PartsGrown.{Stands}
use Rattle.cell_pool.specs.Layout.{byte_of, head_length}
use Rattle.cell_pool.specs.Roots.{Root, extended, AreFull, part_addr, pool_of, pools_of}
use Rattle.cell_pool.specs.Agree.{IsChained, IsCounted, AgreeParts}
use Rattle.cell_pool.specs.Laws.{KeepsParts}
use Rattle.cell_pool.specs.Laying.{LaysOut, PutsWord}
use Rattle.cell_pool.specs.Walk.{IsFreeAt}
use Rattle.cell_pool.specs.Extended.{Extended}
use Rattle.mvs_model.proofs.Stand.{granted_held}
use Rattle.cell_pool.proofs.Frame.{get-pools_of, pool_from, kept, addr}
use Rattle.cell_pool.proofs.Only.{stands, head_covered, not_in_head}
use Rattle.cell_pool.proofs.Marked.{same_byte}
use Rattle.cell_pool.proofs.Growing.{extends_seen, apart_grown}
use Rattle.cell_pool.proofs.Walking.{chain_of, held_in}
use Rattle.cell_pool.proofs.Built.{keeps_old, held_new, bytes_kept, apart_from_old}
use Rattle.cell_pool.proofs.Counted.{full_kept, counted_kept}
use Rattle.cell_pool.proofs.Linked.{full_before, counted_more, counted_other, pool_more, part_last, pool_other, chain_more, chain_other, addr_new, new_count, new_flag, new_word}

-- the word of the last part is held
pub link_held : (roots : FinMap name_cmp Root) (old one two : Storage) (agree : AgreeParts roots old) (is_one : IsStorage one) (name : Name) (r : Root) (is : get roots name ≡ Some r) (p : PlaceValue) (grant : Grant old r.subpool (part_want r.cell_size r.secondary r.side) p one)
    (lays : LaysOut one p.addr r.secondary r.cell_size two) (k : ℕ) (last : r.count ≡ k + 1) → AllHeld two (place_at (part_addr (byte_of old) r.first k) 4)
link_held roots old one two agree is_one name r is p grant lays k last d c =
    let low : k < r.count = omega arith in
    let h = held_in old r (chain_of roots old name r agree is) k low (part_addr (byte_of old) r.first k) 4 (omega arith) (omega arith) (omega arith) d c in
    let a : part_addr (byte_of old) r.first k < 8 * d + 8 = c.0 in
    let b : 8 * d < part_addr (byte_of old) r.first k + 4 = c.1 in
    ap is_some ((keeps_old roots old one two agree is_one r.subpool r.cell_size r.secondary (part_want r.cell_size r.secondary r.side) p grant (let l = grant.chosen.length.least in omega arith) lays).held name r k d is low (omega arith, omega arith)) ∙ h

module _ (roots : FinMap name_cmp Root) (old one two new : Storage) (agree : AgreeParts roots old) (is_one : IsStorage one) (name : Name) (r : Root) (is : get roots name ≡ Some r) (p : PlaceValue) (grant : Grant old r.subpool (part_want r.cell_size r.secondary r.side) p one)
    (lays : LaysOut one p.addr r.secondary r.cell_size two) (k : ℕ) (last : r.count ≡ k + 1) (w : PutsWord two (part_addr (byte_of old) r.first k) p.addr new) (new_roots : FinMap name_cmp Root)
    (roots_now : (n : Name) → get new_roots n ≡ cond (same_name n name) (Some (extended r p.addr)) (get roots n)) (some : 1 ≤ r.secondary) (few : r.secondary ≤ 65536) (full : AreFull (byte_of old) r.first r.count) where
  len_is : p.len ≡ part_length r.cell_size r.secondary
  len_is = let l = grant.chosen.length.least in let m = grant.chosen.length.most in omega (arith, l, m)

  head_in : head_length r.secondary ≤ p.len
  head_in = let e = len_is in omega arith

  place_is : place_at p.addr (part_length r.cell_size r.secondary) ≡ p
  place_is = λ t. record { addr = p.addr; len = sym len_is t }

  keeps : KeepsParts roots old two
  keeps = keeps_old roots old one two agree is_one r.subpool r.cell_size r.secondary (part_want r.cell_size r.secondary r.side) p grant head_in lays

  two_kept : AgreeParts roots two × (pools_of roots two ≡ pools_of roots old)
  two_kept = kept roots old two agree keeps

  link_is : part_addr (byte_of old) r.first k ≡ part_addr (byte_of two) r.first k
  link_is = sym (addr roots old two agree keeps name r is k (omega arith))

  link : PutsWord two (part_addr (byte_of two) r.first k) p.addr new
  link = subst (λ b. PutsWord two b p.addr new) link_is w

  beside : (x : ℕ) → p.addr ≤ x → x < p.addr + head_length r.secondary → part_addr (byte_of two) r.first k ≤ x → x < part_addr (byte_of two) r.first k + 4 → ⊥
  beside x low high from to =
      let h = head_in in let e = link_is in
      apart_from_old roots old one two agree is_one r.subpool r.cell_size r.secondary (part_want r.cell_size r.secondary r.side) p grant head_in lays name r k x is (omega arith) (head_covered roots old agree r k x (omega arith) (omega arith)) low (omega arith)

  more : pool_of (byte_of new) (extended r p.addr) ≡ with_part (pool_of (byte_of two) r) r.secondary (place_at p.addr (part_length r.cell_size r.secondary))
  more = pool_more roots two new two_kept.0 name r is k last p.addr link r.secondary few lays.next lays.cells lays.taken lays.sized lays.flags beside

  pool_two : pool_of (byte_of two) r ≡ pool_of (byte_of old) r
  pool_two = let f : Some (pool_of (byte_of two) r) ≡ Some (pool_of (byte_of old) r) = sym (pool_from roots two name r is) ∙ ap (λ m. get m name) two_kept.1 ∙ pool_from roots old name r is in cc

  pools_now : (n : Name) → get (pools_of new_roots new) n ≡ cond (same_name n name) (Some (with_part (pool_of (byte_of old) r) r.secondary p)) (get (pools_of roots old) n)
  pools_now n = get-pools_of new_roots new n ∙ ap (option_map (pool_of (byte_of new))) (roots_now n) ∙ by (same_name n name) refl where
    others : n ≢ name → (v : Option Root) → get roots n ≡ v → option_map (pool_of (byte_of new)) v ≡ option_map (pool_of (byte_of two)) v
    others ne None e = refl
    others ne (Some q) e = ap Some (pool_other roots two new two_kept.0 name r is k last p.addr link r.secondary few lays.next lays.cells lays.taken lays.sized lays.flags beside n q e ne)

    by : (b : Bool) → same_name n name ≡ b → option_map (pool_of (byte_of new)) (cond b (Some (extended r p.addr)) (get roots n)) ≡ cond b (Some (with_part (pool_of (byte_of old) r) r.secondary p)) (get (pools_of roots old) n)
    by true e = ap Some (more ∙ (λ t. with_part (pool_two t) r.secondary (place_is t)))
    by false e = others (differs n name e) (get roots n) refl ∙ sym (get-pools_of roots two n) ∙ ap (λ m. get m n) two_kept.1

  stands_there : (o : Owners) → Stands (state_of old o (pools_of roots old)) name (pool_of (byte_of old) r)
  stands_there o = record {
    parts = λ part h. pool_from roots old name r is;
    taken = λ c t. pool_from roots old name r is;
    within = (stands roots old agree).within name (pool_of (byte_of old) r) (pool_from roots old name r is);
    only = λ q f. let g : Some q ≡ Some (pool_of (byte_of old) r) = sym f ∙ pool_from roots old name r is in cc;
  }

  same_bytes : (o : Owners) (x : ℕ) → granted (state_of old o (pools_of roots old)) x ≡ true → get new.bytes x ≡ get old.bytes x
  same_bytes o x e =
      same_byte two new x lays.storage w.storage w.held (w.others x (λ low high. not_in_head roots old agree o x e name r k is (omega arith) low (omega arith)))
      ∙ bytes_kept roots old one two agree is_one r.subpool r.cell_size r.secondary (part_want r.cell_size r.secondary r.side) p grant head_in lays o x e (granted_held old o (pools_of roots old) agree.storage (stands roots old agree) x e)

  held_now : (d : ℕ) → get new.held d ≡ cond (covers p d) (Some r.subpool) (get old.held d)
  held_now d = ap (λ m. get m d) w.held ∙ held_new roots old one two agree is_one r.subpool r.cell_size r.secondary (part_want r.cell_size r.secondary r.side) p grant head_in lays d

  root_is : get new_roots name ≡ Some (extended r p.addr)
  root_is = roots_now name ∙ ap (λ b. cond b (Some (extended r p.addr)) (get roots name)) (same_name_self name)

  full_two : AreFull (byte_of two) r.first r.count
  full_two = full_kept roots old two agree keeps name r is r.count (omega arith) full

  last_addr : p.addr ≡ part_addr (byte_of new) r.first r.count
  last_addr = sym (ap (part_addr (byte_of new) r.first) last ∙ addr_new roots two new two_kept.0 name r is k last p.addr link r.secondary few lays.next lays.cells lays.taken lays.sized lays.flags beside)

  free_cell : IsFreeAt new (extended r p.addr) p.addr 0 0 p.addr
  free_cell = record {
    number = r.count;
    is_part = omega arith;
    addr = last_addr;
    is_cell = subst (λ n. 0 < n) (sym (new_count roots two new two_kept.0 name r is k last p.addr link r.secondary few lays.next lays.cells lays.taken lays.sized lays.flags beside)) (omega arith);
    clear = new_flag roots two new two_kept.0 name r is k last p.addr link r.secondary few lays.next lays.cells lays.taken lays.sized lays.flags beside 0 (omega arith);
    of_taken = sym (new_word roots two new two_kept.0 name r is k last p.addr link r.secondary few lays.next lays.cells lays.taken lays.sized lays.flags beside 8 (omega arith) ∙ lays.taken);
    open_number = r.count;
    is_open = omega arith;
    open_addr = last_addr;
    full = full_before roots two new two_kept.0 name r is k last p.addr link r.secondary few lays.next lays.cells lays.taken lays.sized lays.flags beside full_two;
  }

  pub has_extended : Extended roots old name r p.addr new_roots new
  unfolding free_cell
  has_extended = record {
    place = p;
    root = root_is;
    part = part_last roots two new two_kept.0 name r is k last p.addr link r.secondary few lays.next lays.cells lays.taken lays.sized lays.flags beside ∙ (λ t. record { place = place_is t; count = r.secondary });
    free = free_cell;
    is_last = number_is;
    extends = λ o. extends_seen roots old agree name (pool_of (byte_of old) r) r.secondary p new_roots new w.storage (w.regions ∙ lays.regions ∙ grant.regions) grant.chosen held_now pools_now some o o (stands_there o) (same_bytes o);
  } where
    number_is : free_cell.number ≡ r.count
    number_is = refl

  pub extended_agrees : AgreeParts new_roots new
  extended_agrees = record {
    storage = w.storage;
    bounded = subst IsBounded (sym w.regions) two_kept.0.bounded;
    chained = λ n q e. by n (same_name n name) refl q (sym (roots_now n) ∙ e);
    apart = λ o. apart_grown roots old agree name (pool_of (byte_of old) r) r.secondary p new_roots new w.storage (w.regions ∙ lays.regions ∙ grant.regions) grant.chosen held_now pools_now some o o (stands_there o) (same_bytes o);
  } where
    by : (n : Name) (b : Bool) → same_name n name ≡ b → (q : Root) → cond b (Some (extended r p.addr)) (get roots n) ≡ Some q → IsChained new q
    by n true s q e = subst (IsChained new) (let f : extended r p.addr ≡ q = cc in f) (chain_more roots two new two_kept.0 name r is k last p.addr link r.secondary few lays.next lays.cells lays.taken lays.sized lays.flags beside)
    by n false s q e = chain_other roots two new two_kept.0 name r is k last p.addr link r.secondary few lays.next lays.cells lays.taken lays.sized lays.flags beside n q e (differs n name s)

  -- what is kept of the pools
  pub extended_counted : ((n : Name) (q : Root) → get roots n ≡ Some q → IsCounted (byte_of old) q) → (n : Name) (q : Root) → get new_roots n ≡ Some q → IsCounted (byte_of new) q
  extended_counted counted n q e = by (same_name n name) refl (sym (roots_now n) ∙ e) where
    by : (b : Bool) → same_name n name ≡ b → cond b (Some (extended r p.addr)) (get roots n) ≡ Some q → IsCounted (byte_of new) q
    by true s e = subst (IsCounted (byte_of new)) (let f : extended r p.addr ≡ q = cc in f) (counted_more roots two new two_kept.0 name r is k last p.addr link r.secondary few lays.next lays.cells lays.taken lays.sized lays.flags beside refl full_two)
    by false s e = counted_other roots two new two_kept.0 name r is k last p.addr link r.secondary few lays.next lays.cells lays.taken lays.sized lays.flags beside n q e (differs n name s) (counted_kept roots old two agree keeps n q e (counted n q e))
