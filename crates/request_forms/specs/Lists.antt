-- What a list request obtains from a store and releases.
use Rattle.std.specs.Prelude.{◌≡◌, ◌+◌, ℕ, zero, suc, List, [], ◌∷◌, map, Option, Some, None}
use Rattle.mvs_model.specs.declared.want.Side.TheVariants.{Below}
use Rattle.mvs_model.specs.declared.name.Name.{Name}
use Rattle.mvs_model.specs.declared.reason.Shortfall.{Shortfall}
use Rattle.mvs_model.specs.Causes.{AfterGrants}
use Rattle.mvs_model.specs.Reasons.{Lacks}
use Rattle.mvs_model.specs.State.{State}
use Rattle.mvs_model.specs.Place.{PlaceValue}
use Rattle.mvs_model.specs.Want.{WantValue, fixed_want}
use Rattle.mvs_model.specs.Changes.{Disjoint}
use Rattle.std.specs.List.{AllByRecursion}
use Rattle.mvs_model.specs.Storage.{Storage, IsStorage, holder, Chosen, HeldBy, Grant, Release}
use Rattle.request_forms.specs.Rooms.{LacksPlace}

-- the requirements for each length of a list: forms that obtain a list are always below. (Assembler Services Reference, GETMAIN)
abbrev pub list_wants : List ℕ → ℕ → List WantValue
list_wants lengths start = map (λ n. fixed_want n start Below) lengths

-- the first hint, if there is one, and those after it
abbrev pub first_of : List ℕ → Option ℕ
first_of [] = None
first_of (a ∷ more) = Some a

abbrev pub later_of : List ℕ → List ℕ
later_of [] = []
later_of (a ∷ more) = more

-- The place is the one at the hinted address, if a place there is chosen.
abbrev pub TakesFirst : Storage → ℕ → WantValue → Option ℕ → PlaceValue → Type 0
TakesFirst st s want hints p = (q : PlaceValue) → hints ≡ Some q.addr → Chosen st.regions (holder st) s want q → p ≡ q

-- Grants to a subpool one after another, one place for each request, by its own hint.
abbrev pub GrantsEach : Storage → ℕ → List WantValue → List ℕ → List PlaceValue → Storage → Type 0
GrantsEach old s [] hints [] new = new ≡ old
GrantsEach old s [] hints (p ∷ ps) new = ⊥
GrantsEach old s (want ∷ wants) hints [] new = ⊥
GrantsEach old s (want ∷ wants) hints (p ∷ ps) new =
    (mid : Storage) × IsStorage mid × Grant old s want p mid × TakesFirst old s want (first_of hints) p × GrantsEach mid s wants (later_of hints) ps new

-- There is no place for a requested area, and this is what it lacks.
abbrev pub LacksIn : Storage → ℕ → WantValue → Shortfall → Type 0
LacksIn st s want short = LacksPlace st s want short.room × (short.bytes ≡ want.least)

-- After grants for this many members, the next one has no place, and lacks this.
abbrev pub LacksAfter : Storage → ℕ → List WantValue → Shortfall → ℕ → Type 0
LacksAfter old s [] short j = ⊥
LacksAfter old s (want ∷ wants) short zero = LacksIn old s want short
LacksAfter old s (want ∷ wants) short (suc j) = (p : PlaceValue) × (mid : Storage) × IsStorage mid × Grant old s want p mid × LacksAfter mid s wants short j

-- The member of this number, from 1 on, has no place once those before it are granted, and lacks this.
abbrev pub LacksAt : Storage → ℕ → List WantValue → ℕ → Shortfall → Type 0
LacksAt old s wants k short = (j : ℕ) × (k ≡ j + 1) × LacksAfter old s wants short j

-- In a state of the machine, the member of this number, from 1 on, has no place once those before it are granted, and lacks this.
abbrev pub IsMemberShort : State → Name → ℕ → List WantValue → ℕ → Shortfall → Type 0
IsMemberShort old t number wants k short = (j : ℕ) × (k ≡ j + 1) × AfterGrants (Lacks t number short) old t number wants j

-- the places that are granted so far
abbrev pub so_far : Option (List PlaceValue) → List PlaceValue
so_far None = []
so_far (Some ps) = ps

-- The subpool holds each of the places, and no two of them overlap.
abbrev pub HoldsApart : Storage → ℕ → List PlaceValue → Type 0
HoldsApart st s ps = AllByRecursion (HeldBy st s) ps × Disjoint ps

-- Releases of a subpool one after another.
abbrev pub ReleasesEach : Storage → ℕ → List PlaceValue → Storage → Type 0
ReleasesEach old s [] new = new ≡ old
ReleasesEach old s (p ∷ ps) new = (mid : Storage) × IsStorage mid × Release old s p mid × ReleasesEach mid s ps new
