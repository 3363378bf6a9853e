-- The small laws that show what the definitions mean.
use Rattle.std.proofs.Common.{◌≡◌, ◌≢◌, ◌⊎◌, inl, inr, ℕ, ◌+◌, ◌-◌, ◌*◌, ◌/◌, ◌%◌, ◌^◌, ◌<◌, ◌≤◌, Bool, true, false, cond, Option, Some, None, refl, sym, ap, ◌∙◌, arith, ◌&&◌, ◌||◌, ◌==◌, MatchOption, eqb-true, pow-add, pow_pos, mul_assoc}
use Rattle.std.proofs.lemmas.Bool.{cases_lt, and_right, and_from, and_parts, cond-true, cond-false, or_left, or_right}
use Rattle.std.proofs.lemmas.Bool.Decides.{nat_tests}
use Rattle.std.specs.FinMap.{get, nat_cmp-IsAntisymmetric}
use Rattle.mvs_laws.proofs.Types.{Name, Below, Either}
use Rattle.mvs_model.specs.Place.{PlaceValue, place_at}
use Rattle.mvs_model.specs.Name.{same_name}
use Rattle.mvs_model.specs.Gifts.{gives, shares}
use Rattle.mvs_model.specs.Finite.{kept, has}
use Rattle.mvs_model.specs.Storage.{Regions, Open, Places, Chosen, covers, Covers, has_address}
use Rattle.mvs_model.specs.Owners.{Owners, entry, Binds, EntersBelow, none, passed, entered, is_given}
use Rattle.mvs_laws.specs.Examples.{AcrossPages, BoundaryEdges, AboveOnATie, ReleasesJoin, PartsReleased, GivesAndShares, SharersKeep, SmallPart, two_pages, one_held, two_held, nothing_held, pages, most_want}
use Rattle.mvs_model.proofs.Orders.{same_name_is, same_name_self, names_differ}
use Rattle.mvs_model.proofs.Made.{made_without}
use Rattle.mvs_model.proofs.StorageLaws.{covers_from}
use Rattle.mvs_model.proofs.Below.{some_below}
use Rattle.mvs_model.proofs.Tests.{none_some, same_self}

-- a place across an own page and a free one
own_open : Open two_pages one_held 1 (place_at 0x6008 0x1000)
own_open = grind (arith, nat_tests)

foreign_closed : (e d : ℕ) → e ≢ 0xC00 → Covers (place_at 0x6008 0x1000) d → e / 512 ≡ d / 512 → Open two_pages (two_held e) 1 (place_at 0x6008 0x1000) → ⊥
foreign_closed e d other c same o =
    differs 2 1 refl refl ((o.each d c).page e 2 same (held e other)) where
      differs : (a b : ℕ) → a ≡ 2 → b ≡ 1 → a ≡ b → ⊥
      differs a b e f g = omega arith

      held : (e : ℕ) → e ≢ 0xC00 → two_held e e ≡ Some 2
      held e other = grind (arith, nat_tests)

pub across_pages : AcrossPages
across_pages = (
  own_open,
  λ e other page o. elim page [
    | inl six ↦ foreign_closed e 0xC01 other (omega arith, omega arith) (omega arith) o
    | inr seven ↦ foreign_closed e 0xE00 other (omega arith, omega arith) (omega arith) o
  ],
)

-- the boundaries
eighths : (k : ℕ) → 3 ≤ k → (m : ℕ) × (2 ^ k ≡ 8 * m)
eighths k l = (2 ^ (k - 3), let e : k ≡ 3 + (k - 3) = omega arith in ap (λ j. 2 ^ j) e ∙ pow-add 2 3 (k - 3))

-- a multiple of the boundary, and the last byte of what is as long as it
even_on : (k a : ℕ) → 3 ≤ k → a % 2 ^ k ≡ 0 → a % 8 ≡ 0
even_on k a l e =
    let m = eighths k l in
    let whole : a ≡ 2 ^ k * (a / 2 ^ k) = let some : 0 < 2 ^ k = pow_pos k in omega arith in
    let f : a ≡ 8 * (m.0 * (a / 2 ^ k)) = whole ∙ ap (λ u. u * (a / 2 ^ k)) m.1 ∙ mul_assoc 8 m.0 (a / 2 ^ k) in
    at a (m.0 * (a / 2 ^ k)) f where
      at : (a q : ℕ) → a ≡ 8 * q → a % 8 ≡ 0
      at a q f = omega arith

last_in : (u a : ℕ) → 0 < u → a % u ≡ 0 → (a + u - 1) / u ≡ a / u
last_in u a h1 h2 = grind (arith, nat_tests)

next_out : (u a : ℕ) → 0 < u → a % u ≡ 0 → (a + (u + 1) - 1) / u ≡ a / u + 1
next_out u a h1 h2 = grind (arith, nat_tests)

pub boundary_edges : BoundaryEdges
boundary_edges = (
  λ k a is e. (
    record { on_doubleword = even_on k a is.0 e; start = even_on k a is.0 e; within = sym (last_in (2 ^ k) a (pow_pos k) e); side = λ f. absurd (let g : Either ≡ Below = f in cc) },
    λ m. let f : a / 2 ^ k ≡ a / 2 ^ k + 1 = m.within ∙ next_out (2 ^ k) a (pow_pos k) e in omega arith,
  ),
  λ r h s n a few most place. elim place.0.inside [
    | inl b ↦ let low : 0x6000 ≤ a = b.0 in let m : a % 2147483648 ≡ 0 = place.1.start in omega (arith, b.1)
    | inr b ↦ let low : 0x1000000 ≤ a = b.0 in let m : a % 2147483648 ≡ 0 = place.1.start in omega (arith, b.1)
  ],
)

-- of one length, the place above
placed : (r : Regions) (n a : ℕ) → (0x6000 ≤ a) × (a + n ≤ 0x6000 + 4096 * r.below) ⊎ (0x1000000 ≤ a) × (a + n ≤ 0x1000000 + 4096 * r.above) → a % 8 ≡ 0 → Places r nothing_held 1 most_want n a
placed r n a inside even = grind (arith, nat_tests)

same_span : (p : PlaceValue) (a n : ℕ) → p.addr ≡ a → p.len ≡ n → p ≡ place_at a n
same_span p a n e f = λ i. record { addr = e i; len = f i }

at_least : (r : Regions) (p : PlaceValue) (n a : ℕ) → Chosen r nothing_held 1 most_want p → 8 ≤ n → n ≤ 0x4000 → n % 8 ≡ 0 → Places r nothing_held 1 most_want n a → n ≤ p.len
at_least r p n a c some most even place = elim (cases_lt p.len n) [ inl short ↦ absurd (c.greatest n a short (record { least = some; most = most; whole = even }) place) | inr long ↦ long ]

tie : (p : PlaceValue) → Chosen (pages 1 1) nothing_held 1 most_want p → p ≡ place_at 0x1000000 0x1000
tie p c =
    let long = at_least (pages 1 1) p 0x1000 0x1000000 c (omega arith) (omega arith) (omega arith) (placed (pages 1 1) 0x1000 0x1000000 (inr (omega arith, omega arith)) (omega arith)) in
    let len : p.len ≡ 0x1000 = elim c.placed.0.inside [ inl b ↦ (let l : 0x6000 ≤ p.addr = b.0 in omega (arith, b.1)) | inr b ↦ (let l : 0x1000000 ≤ p.addr = b.0 in omega (arith, b.1)) ] in
    let high : 0x1000000 ≤ p.addr = c.above 0x1000000 (placed (pages 1 1) p.len 0x1000000 (inr (omega arith, omega arith)) (omega arith)) (omega arith) in
    same_span p 0x1000000 0x1000 (elim c.placed.0.inside [ inl b ↦ omega (arith, b.1) | inr b ↦ omega (arith, b.1) ]) len

longer : (p : PlaceValue) → Chosen (pages 2 1) nothing_held 1 most_want p → p ≡ place_at 0x6000 0x2000
longer p c =
    let long = at_least (pages 2 1) p 0x2000 0x6000 c (omega arith) (omega arith) (omega arith) (placed (pages 2 1) 0x2000 0x6000 (inl (omega arith, omega arith)) (omega arith)) in
    elim c.placed.0.inside [
      | inl b ↦ (let l : 0x6000 ≤ p.addr = b.0 in same_span p 0x6000 0x2000 (omega (arith, b.1)) (omega (arith, b.1)))
      | inr b ↦ (let l : 0x1000000 ≤ p.addr = b.0 in absurd (omega (arith, b.1)))
    ]

pub above_on_a_tie : AboveOnATie
above_on_a_tie = (tie, longer)

pub releases_join : ReleasesJoin
releases_join = grind (arith, nat_tests)

pub parts_released : PartsReleased
parts_released old mid s want p a n g even whole low high =
    let held = made_without nat_cmp-IsAntisymmetric mid.held (covers (place_at a n)) in
    let bytes = made_without nat_cmp-IsAntisymmetric mid.bytes (has_address (place_at a n)) in (
      record { regions = mid.regions; held = held.0; bytes = bytes.0 },
      record {
        whole = (even, whole);
        was_held = λ d c. g.held d ∙ ap (λ b. cond b (Some s) (get old.held d)) (covers_from p d ((let l : a < 8 * d + 8 = c.0 in omega arith), (let l : 8 * d < a + n = c.1 in omega arith)));
        regions = refl;
        held = held.1;
        bytes = bytes.1;
      },
    )

entry_stays : (o : Owners) (t : Name) (wanted : ℕ → Bool) (n : ℕ) (new : Owners) → EntersBelow o t wanted n new → (x : Name) (k s : ℕ) → entry o x k ≡ Some s → entry new x k ≡ Some s
entry_stays o t wanted n new none x k s e = e
entry_stays o t wanted n new (passed b f) x k s e = entry_stays o t wanted _ new b x k s e
entry_stays o t wanted n new (entered r {number} {now} b f is enters) x k s e = still (entry now t number) refl enters (entry_stays o t wanted number now b x k s e) where
  bound : (c : Bool) → (c ≡ true → entry now x k ≡ None) → entry now x k ≡ Some s → cond c (Some r) (entry now x k) ≡ Some s
  bound true gone h = none_some (sym (gone refl) ∙ h)
  bound false gone h = h

  still : (v : Option ℕ) → entry now t number ≡ v → MatchOption v (Binds now t number r new) (λ _. new ≡ now) → entry now x k ≡ Some s → entry new x k ≡ Some s
  still (Some q) was same h = ap (λ u. entry u x k) same ∙ h
  still None was binds h =
      binds.table (x, k) ∙ bound (same_name x t && (k == number)) (λ hit. let both = and_parts (same_name x t) (k == number) hit in (λ i. entry now (same_name_is x t both.0 i) (eqb-true k number both.1 i)) ∙ was) h

pub gives_and_shares : GivesAndShares
gives_and_shares old mother name gifts residence new g s m r ne a gl given ge ml kept shared me =
    let ready_g = entry_stays old mother (shares gifts) 128 a.ready a.made mother g s ge in
    let ready_m = entry_stays old mother (shares gifts) 128 a.ready a.made mother m r me in
    let apart = names_differ mother name ne in (
      a.table name g ∙ cond-true (same_name name name) _ _ (same_name_self name) ∙ cond-true (gives gifts g || shares gifts g) _ _ (or_left (gives gifts g) _ given) ∙ ready_g,
      a.table mother g ∙ cond-false (same_name mother name) _ _ apart ∙ cond-true (same_name mother mother && gives gifts g) _ _ (and_from (same_name mother mother) (gives gifts g) (same_name_self mother) given),
      a.owner s ∙ cond-true (is_given a.ready mother gifts s) _ _ (some_below (λ n. gives gifts n && has (λ q. q == s) (entry a.ready mother n)) 128 g gl (and_from (gives gifts g) _ given (ap (has (λ q. q == s)) ready_g ∙ same_self s))),
      a.table name m ∙ cond-true (same_name name name) _ _ (same_name_self name) ∙ cond-true (gives gifts m || shares gifts m) _ _ (or_right (gives gifts m) _ shared) ∙ ready_m,
      a.table mother m ∙ cond-false (same_name mother name) _ _ apart ∙ cond-false (same_name mother mother && gives gifts m) _ _ (and_right (same_name mother mother) (gives gifts m) kept) ∙ ready_m,
    )

pub sharers_keep : SharersKeep
sharers_keep = grind (arith, nat_tests)

pub small_part : SmallPart
small_part = grind (arith, nat_tests)
