-- Whether there is a place, and which: by trying every length and every address.
use Rattle.std.proofs.Common.{◌≡◌, ℕ, ◌+◌, ◌*◌, ◌/◌, ◌%◌, ◌<◌, ◌≤◌, ◌⊎◌, inl, inr, Option, Some, None, arith, refl, subst}
use Rattle.std.proofs.lemmas.Bool.Decides.{nat_tests}
use Rattle.std.proofs.lemmas.Grind.{common_steps}
use Rattle.mvs_model.specs.Want.{WantValue}
use Rattle.mvs_model.specs.Place.{PlaceValue, place_at}
use Rattle.mvs_model.specs.Storage.{Regions, IsBetween, Covers, MayTake, Open, Meets, Places, Chosen, NoPlace}
use Rattle.mvs_model.proofs.Decide.{Decided, decided_and, decided_or, decided_implies, decided_like, decided_lt, decided_le, decided_eq, decided_some, decided_all, greatest_below}

decided_none : (o : Option ℕ) → Decided (o ≡ None)
decided_none o = grind (arith, common_steps)

decided_only : (o : Option ℕ) (s : ℕ) → Decided ((t : ℕ) → o ≡ Some t → t ≡ s)
decided_only None s = inl (λ t e. absurd (let h : None ≡ Some t = e in cc))
decided_only (Some u) s = elim (decided_eq u s) [ inl e ↦ inl (λ t h. cc) | inr d ↦ inr (λ h. d (h u refl)) ]

module _ (holder : ℕ → Option ℕ) (s : ℕ) where
  decided_page : (d : ℕ) → Decided ((e t : ℕ) → e / 512 ≡ d / 512 → holder e ≡ Some t → t ≡ s)
  decided_page d = decided_like out back (decided_all (λ k. (t : ℕ) → holder (512 * (d / 512) + k) ≡ Some t → t ≡ s) (λ k. decided_only (holder (512 * (d / 512) + k)) s) 512) where
    out : ((k : ℕ) → k < 512 → (t : ℕ) → holder (512 * (d / 512) + k) ≡ Some t → t ≡ s) → (e t : ℕ) → e / 512 ≡ d / 512 → holder e ≡ Some t → t ≡ s
    out h e t p q = h (e % 512) (omega arith) t (subst (λ x. holder x ≡ Some t) (let r : e ≡ 512 * (d / 512) + e % 512 = omega arith in r) q)

    back : ((e t : ℕ) → e / 512 ≡ d / 512 → holder e ≡ Some t → t ≡ s) → (k : ℕ) → k < 512 → (t : ℕ) → holder (512 * (d / 512) + k) ≡ Some t → t ≡ s
    back h k l t q = h (512 * (d / 512) + k) t (omega arith) q

  decided_may_take : (d : ℕ) → Decided (MayTake holder s d)
  decided_may_take d =
      decided_like (λ h. record { free = h.0; page = h.1 }) (λ m. (m.free, m.page)) (decided_and (decided_none (holder d)) (decided_page d))

  decided_each : (p : PlaceValue) → Decided ((d : ℕ) → Covers p d → MayTake holder s d)
  decided_each p =
      decided_like (λ h d c. h d (let l : 8 * d < p.addr + p.len = c.1 in omega arith) c) (λ h d l c. h d c)
      (decided_all (λ d. Covers p d → MayTake holder s d) (λ d. decided_implies (decided_and (decided_lt p.addr (8 * d + 8)) (decided_lt (8 * d) (p.addr + p.len))) (decided_may_take d)) (p.addr + p.len))

  decided_open : (r : Regions) (p : PlaceValue) → Decided (Open r holder s p)
  decided_open r p =
      decided_like (λ h. record { inside = h.0; each = h.1 }) (λ o. (o.inside, o.each))
      (decided_and (decided_or (lies 0x6000 (0x6000 + 4096 * r.below)) (lies 0x1000000 (0x1000000 + 4096 * r.above))) (decided_each p)) where
        lies : (from to : ℕ) → Decided (IsBetween from to p)
        lies from to = decided_and (decided_le from p.addr) (decided_le (p.addr + p.len) to)

decided_meets : (want : WantValue) (p : PlaceValue) → Decided (Meets want p)
decided_meets want p = grind (arith, nat_tests)

module _ (r : Regions) (holder : ℕ → Option ℕ) (s : ℕ) (want : WantValue) where
  pub decided_place : (n a : ℕ) → Decided (Places r holder s want n a)
  decided_place n a = decided_and (decided_open holder s r (place_at a n)) (decided_meets want (place_at a n))

  -- no place begins past the regions
  abbrev past : ℕ
  past = 0x1006001 + 4096 * r.below + 4096 * r.above

  in_regions : (n a : ℕ) → Places r holder s want n a → a < past
  in_regions n a p = elim p.0.inside [ inl h ↦ omega (arith, h.1) | inr h ↦ omega (arith, h.1) ]

  abbrev pub HasPlace : ℕ → Type 0
  HasPlace n = (a : ℕ) × Places r holder s want n a

  pub decided_has_place : (n : ℕ) → Decided (HasPlace n)
  decided_has_place n = decided_some (Places r holder s want n) (decided_place n) past (in_regions n)

  abbrev HasHigh : ℕ → Type 0
  HasHigh n = (a : ℕ) × ((0x1000000 ≤ a) × Places r holder s want n a)

  decided_has_high : (n : ℕ) → Decided (HasHigh n)
  decided_has_high n = decided_some (λ a. (0x1000000 ≤ a) × Places r holder s want n a) (λ a. decided_and (decided_le 0x1000000 a) (decided_place n a)) past (λ a h. in_regions n a h.1)

  -- a length that is wanted and has a place
  abbrev Serves : ℕ → Type 0
  Serves n = ((n % 8 ≡ 0) × (want.least ≤ n)) × HasPlace n

  decided_serves : (n : ℕ) → Decided (Serves n)
  decided_serves n = decided_and (decided_and (decided_eq (n % 8) 0) (decided_le want.least n)) (decided_has_place n)

  -- Where the lengths are whole and in order, a place is chosen or there is none of the least length.
  pub chosen_or_none : want.least % 8 ≡ 0 → want.least ≤ want.most → ((p : PlaceValue) × Chosen r holder s want p) ⊎ NoPlace r holder s want
  chosen_or_none even ordered =
      elim (greatest_below Serves decided_serves (want.most + 1)) [
        | inl g ↦ inl (found g)
        | inr h ↦ inr (λ a p. h want.least (omega arith) ((even, omega arith), (a, p)))
      ] where
        found : ((n : ℕ) × (n < want.most + 1) × Serves n × ((j : ℕ) → n < j → j < want.most + 1 → Serves j → ⊥)) → (p : PlaceValue) × Chosen r holder s want p
        found g = elim (decided_has_high g.0) [
          | inl h ↦ (place_at h.0 g.0, make h.0 h.1.1 (λ a p l. h.1.0))
          | inr none ↦ (place_at g.2.1.0 g.0, make g.2.1.0 g.2.1.1 (λ a p l. absurd (none (a, (l, p)))))
        ] where
          make : (a : ℕ) → Places r holder s want g.0 a → ((b : ℕ) → Places r holder s want g.0 b → 0x1000000 ≤ b → 0x1000000 ≤ a) → Chosen r holder s want (place_at a g.0)
          make a p high = record {
            length = record { least = g.2.0.1; most = (let l : g.0 < want.most + 1 = g.1 in omega arith); whole = g.2.0.0 };
            placed = p;
            greatest = λ n b l m q. g.3 n l (let k : n ≤ want.most = m.most in omega arith) ((m.whole, m.least), (b, q));
            above = high;
          }
