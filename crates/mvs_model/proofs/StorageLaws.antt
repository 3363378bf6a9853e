-- Laws over grants and releases.
use Rattle.std.proofs.Common.{◌≡◌, ℕ, ◌+◌, ◌-◌, ◌*◌, ◌/◌, ◌^◌, ◌<◌, ◌≤◌, inl, inr, Bool, true, false, cond, Option, Some, None, refl, sym, ap, ◌∙◌, arith, is_some}
use Rattle.std.specs.Prelude.{IfSome}
use Rattle.std.proofs.Math.Pow.{shr_mono}
use Rattle.std.proofs.lemmas.Bool.Decides.{nat_tests}
use Rattle.std.specs.FinMap.{get}
use Rattle.mvs_model.specs.Place.{PlaceValue, place_at, round8}
use Rattle.mvs_model.specs.Want.{WantValue}
use Rattle.mvs_model.specs.Pools.{part_length}
use Rattle.mvs_model.specs.Storage.{Chosen, NoPlace, Covers, covers, has_address, MayTake, Meets, Places, PageRule, Storage, Regions, holder, IsStorage, Grant, Release}
use Rattle.mvs_model.proofs.Tables.{same_maps}
use Rattle.mvs_model.proofs.Tests.{true_false, else_some}

pub covers_is : (p : PlaceValue) (d : ℕ) → covers p d ≡ true → Covers p d
covers_is p d e = grind (arith, nat_tests)

pub covers_from : (p : PlaceValue) (d : ℕ) → Covers p d → covers p d ≡ true
covers_from p d c = let l : p.addr < 8 * d + 8 = c.0 in let m : 8 * d < p.addr + p.len = c.1 in grind (arith, nat_tests)

-- an address of the place lies in a doubleword that it covers
pub has_covers : (p : PlaceValue) (a : ℕ) → has_address p a ≡ true → covers p (a / 8) ≡ true
has_covers p a e = covers_from p (a / 8) (let h : (p.addr ≤ a) × (a < p.addr + p.len) = grind (arith, nat_tests) in (omega arith, omega arith))

-- the front of a place meets what the place meets
shorter_meets : (want : WantValue) (p : PlaceValue) (n : ℕ) → 1 ≤ n → n ≤ p.len → Meets want p → Meets want (place_at p.addr n)
shorter_meets want p n some short m = record { on_doubleword = m.on_doubleword; start = m.start; within = within want.within m.within; side = m.side } where
  within : (o : Option ℕ) → IfSome o (λ k. p.addr / 2 ^ k ≡ (p.addr + p.len - 1) / 2 ^ k) → IfSome o (λ k. p.addr / 2 ^ k ≡ (p.addr + n - 1) / 2 ^ k)
  within None h = h
  within (Some k) h =
      let low : p.addr / 2 ^ k ≤ (p.addr + n - 1) / 2 ^ k = shr_mono k (omega arith) in
      let high : (p.addr + n - 1) / 2 ^ k ≤ (p.addr + p.len - 1) / 2 ^ k = shr_mono k (omega arith) in
      let e : p.addr / 2 ^ k ≡ (p.addr + p.len - 1) / 2 ^ k = h in omega arith

-- and is open where the place is: there is a place of each shorter length
pub shorter_place : (r : Regions) (h : ℕ → Option ℕ) (s : ℕ) (want : WantValue) (m n a : ℕ) → 1 ≤ m → m ≤ n → Places r h s want n a → Places r h s want m a
shorter_place r h s want m n a some short p = (
  record {
    inside = elim p.0.inside [ inl b ↦ inl ((let l : 0x6000 ≤ a = b.0 in l), omega (arith, b.1)) | inr b ↦ inr ((let l : 0x1000000 ≤ a = b.0 in l), omega (arith, b.1)) ];
    each = λ d c. p.0.each d ((let l : a < 8 * d + 8 = c.0 in l), (let l : 8 * d < a + m = c.1 in omega arith));
  },
  shorter_meets want (place_at a n) m some short p.1,
)

-- a place that is granted and released again leaves the storage as it was
pub taken_back : (old mid new : Storage) (s : ℕ) (want : WantValue) (p : PlaceValue) → IsStorage old → Grant old s want p mid → Release mid s p new → new ≡ old
taken_back old mid new s want p is one two =
    let free : (d : ℕ) → covers p d ≡ true → get old.held d ≡ None = λ d e. (one.chosen.placed.0.each d (covers_is p d e)).free in
    let held = same_maps new.held old.held (λ d. two.held d ∙ ap (cond (covers p d) None) (one.held d) ∙ back (covers p d) s (get old.held d) (free d)) in
    let bytes = same_maps new.bytes old.bytes (λ a. two.bytes a ∙ ap (cond (has_address p a) None) (one.bytes a) ∙ back (has_address p a) old.regions.fill (get old.bytes a) (λ e. no_byte a (free (a / 8) (has_covers p a e)))) in
    let regions = two.regions ∙ one.regions in
    λ i. record { regions = regions i; held = held i; bytes = bytes i } where
      back : (b : Bool) (x : ℕ) (o : Option ℕ) → (b ≡ true → o ≡ None) → cond b None (cond b (Some x) o) ≡ o
      back true x o none = sym (none refl)
      back false x o none = refl

      nothing : (o : Option ℕ) → is_some o ≡ false → o ≡ None
      nothing None e = refl
      nothing (Some x) e = true_false e

      no_byte : (a : ℕ) → get old.held (a / 8) ≡ None → get old.bytes a ≡ None
      no_byte a e = nothing (get old.bytes a) (is.bytes a ∙ ap is_some e)

-- what holds less keeps the page rule
pub fewer_keep_pages : (old new : ℕ → Option ℕ) → ((d s : ℕ) → new d ≡ Some s → old d ≡ Some s) → PageRule old → PageRule new
fewer_keep_pages old new less rule d e s t page hd he = rule d e s t page (less d s hd) (less e t he)

-- what takes no more than it may keeps it
pub taking_keeps_pages : (old new : ℕ → Option ℕ) (test : ℕ → Bool) (s : ℕ) → ((d : ℕ) → new d ≡ cond (test d) (Some s) (old d)) → ((d : ℕ) → test d ≡ true → MayTake old s d) → PageRule old → PageRule new
taking_keeps_pages old new test s h1 h2 h3 = grind (arith, nat_tests)

-- a grant keeps the page rule, and so does a release
pub grant_keeps_pages : (old new : Storage) (s : ℕ) (want : WantValue) (p : PlaceValue) → Grant old s want p new → PageRule (holder old) → PageRule (holder new)
grant_keeps_pages old new s want p g rule = taking_keeps_pages (holder old) (holder new) (covers p) s g.held (λ d e. g.chosen.placed.0.each d (covers_is p d e)) rule

pub release_keeps_pages : (old new : Storage) (s : ℕ) (p : PlaceValue) → Release old s p new → PageRule (holder old) → PageRule (holder new)
release_keeps_pages old new s p r rule = fewer_keep_pages (holder old) (holder new) (λ d t e. else_some (covers p d) (holder old d) t (sym (r.held d) ∙ e)) rule

-- where there is no place of the least length none is chosen
pub none_chosen : (r : Regions) (h : ℕ → Option ℕ) (s : ℕ) (want : WantValue) (p : PlaceValue) → 1 ≤ want.least → NoPlace r h s want → Chosen r h s want p → ⊥
none_chosen r h s want p some none c = none p.addr (shorter_place r h s want want.least p.len p.addr some c.length.least c.placed)

pub part_some : (size count : ℕ) → 1 ≤ part_length size count
part_some size count = at ((count + 63) / 64) (round8 (count * size)) where
  at : (x y : ℕ) → 1 ≤ 16 + 8 * x + y
  at x y = omega arith

pub round8_some : (n : ℕ) → 1 ≤ n → 1 ≤ round8 n
round8_some n l = omega arith
