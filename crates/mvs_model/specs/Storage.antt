-- Regions, what is held, and what an obtain and a release do.
use Rattle.std.specs.Prelude.{◌≡◌, ℕ, ◌+◌, ◌-◌, ◌*◌, ◌/◌, ◌%◌, ◌^◌, ◌<◌, ◌≤◌, ◌⊎◌, ◌==◌, not, Bool, Option, Some, None, nat_lt, nat_le, ◌&&◌, IfSome, IsSome, MatchOption, is_some, List, refl}
use Rattle.std.specs.Ordering.{nat_cmp}
use Rattle.std.specs.List.{list_any}
use Rattle.std.specs.FinMap.{FinMap, get, code}
use Rattle.std.specs.Coded.{Coded, code_by, coded×, coded_ℕ}
use Rattle.mvs_model.specs.Place.{PlaceValue, place_at}
use Rattle.mvs_model.specs.Want.{WantValue}
use Rattle.mvs_model.specs.declared.want.Side.TheVariants.{Below}
use Rattle.mvs_model.specs.Finite.{Changes, Keeps, has, count_below}
use Rattle.mvs_model.specs.Numbers.{page_bytes, page_doublewords, below_begins, above_begins, first_doubleword_above}

-- The pages of the two regions of a step, and the byte that a grant leaves. (Assembler Services Guide, private area; that
-- a grant leaves one byte everywhere is this project's choice)
pub record Regions : Type 0 where
  pub below : ℕ
  pub above : ℕ
  pub fill : ℕ

-- all of the place is between two addresses
abbrev pub IsBetween : ℕ → ℕ → PlaceValue → Type 0
IsBetween from to p = (from ≤ p.addr) × (p.addr + p.len ≤ to)

-- the place is within one region. (the first addresses are this project's choice)
abbrev pub InRegion : Regions → PlaceValue → Type 0
InRegion r p = IsBetween below_begins (below_begins + page_bytes * r.below) p ⊎ IsBetween above_begins (above_begins + page_bytes * r.above) p

-- the place begins below 16 megabytes
abbrev pub IsBelow : PlaceValue → Type 0
IsBelow p = p.addr < above_begins

-- whether the place has a byte of the doubleword
abbrev pub covers : PlaceValue → ℕ → Bool
covers p d = nat_lt p.addr (8 * d + 8) && nat_lt (8 * d) (p.addr + p.len)

-- whether the place has the address
abbrev pub has_address : PlaceValue → ℕ → Bool
has_address p a = nat_le p.addr a && nat_lt a (p.addr + p.len)

-- the place has a byte of the doubleword
abbrev pub Covers : PlaceValue → ℕ → Type 0
Covers p d = (p.addr < 8 * d + 8) × (8 * d < p.addr + p.len)

-- the place is of whole doublewords
abbrev pub IsWhole : PlaceValue → Type 0
IsWhole p = (p.addr % 8 ≡ 0) × (p.len % 8 ≡ 0)

-- No doublewords of one page are held by two subpools. (Assembler Services Guide, subpools)
abbrev pub PageRule : (ℕ → Option ℕ) → Type 0
PageRule holder = (d e s t : ℕ) → d / page_doublewords ≡ e / page_doublewords → holder d ≡ Some s → holder e ≡ Some t → s ≡ t

-- Nothing holds the doubleword, and no other subpool than s holds a doubleword of its page. (Assembler Services Guide,
-- subpools)
pub record MayTake (holder : ℕ → Option ℕ) (s d : ℕ) : Type 0 where
  pub free : holder d ≡ None
  pub page : (e t : ℕ) → e / page_doublewords ≡ d / page_doublewords → holder e ≡ Some t → t ≡ s

-- The place is within one region, and s may take each of its doublewords. (Assembler Services Guide, subpools)
pub record Open (r : Regions) (holder : ℕ → Option ℕ) (s : ℕ) (p : PlaceValue) : Type 0 where
  pub inside : InRegion r p
  pub each : (d : ℕ) → Covers p d → MayTake holder s d

-- Whole doublewords that follow one another, all below 16 megabytes or all from there on.
pub record IsRun (run : PlaceValue) : Type 0 where
  pub whole : IsWhole run
  pub some : 8 ≤ run.len
  pub short : run.addr + run.len ≤ 2 ^ 31
  pub one_side : run.addr < above_begins → run.addr + run.len ≤ above_begins

-- all of the place is in the run
abbrev pub InRun : PlaceValue → PlaceValue → Type 0
InRun run p = IsBetween run.addr (run.addr + run.len) p

-- The place begins on the requested boundary, does not cross the other one, and is on the requested side. (Assembler Services
-- Reference, GETMAIN: BNDRY, STARTBDY, CONTBDY, LOC)
pub record Meets (want : WantValue) (p : PlaceValue) : Type 0 where
  pub on_doubleword : p.addr % 8 ≡ 0
  pub start : p.addr % 2 ^ want.start ≡ 0
  pub within : IfSome want.within (λ k. p.addr / 2 ^ k ≡ (p.addr + p.len - 1) / 2 ^ k)
  pub side : want.side ≡ Below → IsBelow p

-- The length is a multiple of 8 in the requested range.
pub record IsLength (want : WantValue) (n : ℕ) : Type 0 where
  pub least : want.least ≤ n
  pub most : n ≤ want.most
  pub whole : n % 8 ≡ 0

-- the addresses at which s has an open place of length n that meets the request
abbrev pub Places : Regions → (ℕ → Option ℕ) → ℕ → WantValue → ℕ → ℕ → Type 0
Places r holder s want n a = Open r holder s (place_at a n) × Meets want (place_at a n)

-- The place is of the greatest length for which there are places, and above if one of them is above. (Assembler Services
-- Reference, GETMAIN, variable requests and LOC; that the greatest length over both regions wins, and above on a tie, is
-- this project's choice)
pub record Chosen (r : Regions) (holder : ℕ → Option ℕ) (s : ℕ) (want : WantValue) (p : PlaceValue) : Type 0 where
  pub length : IsLength want p.len
  pub placed : Places r holder s want p.len p.addr
  pub greatest : (n a : ℕ) → p.len < n → IsLength want n → Places r holder s want n a → ⊥
  pub above : (a : ℕ) → Places r holder s want p.len a → above_begins ≤ a → above_begins ≤ p.addr

-- There is no place of the least length.
abbrev pub NoPlace : Regions → (ℕ → Option ℕ) → ℕ → WantValue → Type 0
NoPlace r holder s want = (a : ℕ) → Places r holder s want want.least a → ⊥

-- Storage: the subpool that holds each doubleword, and the byte at each address.
pub record Storage : Type 0 where
  pub regions : Regions
  pub held : FinMap nat_cmp ℕ
  pub bytes : FinMap nat_cmp ℕ

-- a code, for a model's value
abbrev pub storage_code : Coded Storage
storage_code =
    code_by ((ℕ × (ℕ × ℕ)) × (FinMap nat_cmp ℕ × FinMap nat_cmp ℕ))
    (coded× (coded× coded_ℕ (coded× coded_ℕ coded_ℕ)) (coded× (code coded_ℕ coded_ℕ) (code coded_ℕ coded_ℕ)))
    (λ s. ((s.regions.below, (s.regions.above, s.regions.fill)), (s.held, s.bytes)))
    (λ p. record { regions = record { below = p.0.0; above = p.0.1.0; fill = p.0.1.1 }; held = p.1.0; bytes = p.1.1 })
    (λ _. refl)

-- which subpool holds a doubleword
abbrev pub holder : Storage → ℕ → Option ℕ
holder st d = get st.held d

-- whether s holds the doubleword
abbrev pub holds : Storage → ℕ → ℕ → Bool
holds st s d = has (λ t. t == s) (holder st d)

-- each doubleword of the place is held by s
abbrev pub HeldBy : Storage → ℕ → PlaceValue → Type 0
HeldBy st s p = (d : ℕ) → Covers p d → holder st d ≡ Some s

-- each doubleword of the place is held by some subpool
abbrev pub AllHeld : Storage → PlaceValue → Type 0
AllHeld st p = (d : ℕ) → Covers p d → IsSome (holder st d)

-- the first doubleword after the regions
abbrev pub end_of : Regions → ℕ
end_of r = first_doubleword_above + page_doublewords * r.above

-- how many bytes s holds
abbrev pub held_bytes : Storage → ℕ → ℕ
held_bytes st s = 8 * count_below (end_of st.regions) (holds st s)

-- The subpool is the one that the page of an address is assigned to: a page is assigned exactly while a doubleword of it is
-- held. (this project's choice)
abbrev pub IsPageOwner : Storage → ℕ → Option ℕ → Type 0
IsPageOwner st a owner = MatchOption owner
    ((d : ℕ) → d / page_doublewords ≡ a / page_bytes → holder st d ≡ None)
    (λ s. (d : ℕ) × (d / page_doublewords ≡ a / page_bytes) × (holder st d ≡ Some s))

-- Each page belongs to one subpool, everything held is in the regions, and there are bytes exactly where something is held.
pub record IsStorage (st : Storage) : Type 0 where
  pub pages : PageRule (holder st)
  pub inside : (d s : ℕ) → holder st d ≡ Some s → InRegion st.regions (place_at (8 * d) 8)
  pub bytes : (a : ℕ) → is_some (get st.bytes a) ≡ is_some (holder st (a / 8))

-- A place as requested is granted to s: s now holds its doublewords, the bytes are the fill byte, and nothing else has changed.
-- (Assembler Services Reference, GETMAIN; the fill byte is this project's choice)
pub record Grant (old : Storage) (s : ℕ) (want : WantValue) (p : PlaceValue) (new : Storage) : Type 0 where
  pub chosen : Chosen old.regions (holder old) s want p
  pub regions : new.regions ≡ old.regions
  pub held : Changes (get old.held) (covers p) (Some s) (get new.held)
  pub bytes : Changes (get old.bytes) (has_address p) (Some old.regions.fill) (get new.bytes)

-- The doublewords of the place, which s held, are free now and their bytes are gone; all else is as before. (Assembler
-- Services Reference, FREEMAIN)
pub record Release (old : Storage) (s : ℕ) (p : PlaceValue) (new : Storage) : Type 0 where
  pub whole : IsWhole p
  pub was_held : HeldBy old s p
  pub regions : new.regions ≡ old.regions
  pub held : Changes (get old.held) (covers p) None (get new.held)
  pub bytes : Changes (get old.bytes) (has_address p) None (get new.bytes)

-- All that s holds is free now and its bytes are gone; all else is as before. (Assembler Services Reference, FREEMAIN,
-- subpool release)
pub record ReleaseAll (old : Storage) (s : ℕ) (new : Storage) : Type 0 where
  pub regions : new.regions ≡ old.regions
  pub held : Keeps (get old.held) (λ _ t. not (t == s)) (get new.held)
  pub bytes : Changes (get old.bytes) (λ a. holds old s (a / 8)) None (get new.bytes)

-- whether the subpool is one of the list
abbrev pub is_one_of : List ℕ → ℕ → Bool
is_one_of subpools t = list_any (λ s. s == t) subpools

-- All that the subpools hold is free now and its bytes are gone; all else is as before.
pub record ReleaseEach (old : Storage) (subpools : List ℕ) (new : Storage) : Type 0 where
  pub regions : new.regions ≡ old.regions
  pub held : Keeps (get old.held) (λ _ t. not (is_one_of subpools t)) (get new.held)
  pub bytes : Changes (get old.bytes) (λ a. has (is_one_of subpools) (holder old (a / 8))) None (get new.bytes)
