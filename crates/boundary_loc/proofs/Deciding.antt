-- Two starts decide for a whole run.
use Rattle.std.proofs.Common.{◌≡◌, ℕ, ◌+◌, ◌-◌, ◌%◌, ◌^◌, ◌<◌, ◌≤◌, ◌↔◌, ◌⊎◌, refl, inl, inr, arith}
use Rattle.std.proofs.lemmas.Bool.Decides.{nat_tests}
use Rattle.std.proofs.lemmas.Grind.{common_steps}
use Rattle.mvs_model.specs.Place.{PlaceValue, place_at}
use Rattle.mvs_model.specs.Want.{WantValue, IsWant}
use Rattle.mvs_model.specs.Storage.{Meets, IsLength, IsRun, InRun}
use Rattle.boundary_loc.specs.declared.Starts.{Starts}
use Rattle.boundary_loc.specs.Boundary.{Fits, IsLeastMultiple, IsGreatestMultiple, IsLastStart, IsNextStart, Allows}
use Rattle.boundary_loc.specs.Starts.{Serves, IsStarts}
use Rattle.boundary_loc.proofs.Multiples.{lower_power}

-- at a start in the run, what fits is what serves
pub serving : (run : PlaceValue) (want : WantValue) (a n : ℕ) → IsRun run → IsWant want → Allows want.side run.addr → run.addr ≤ a → a % 2 ^ want.start ≡ 0 → 0 < n →
    Fits want.within (run.addr + run.len) n a ↔ Serves run want (place_at a n)
serving run want a n is_run is_want allowed from on some = (
  λ fits. (
    (from, fits.0),
    record {
      on_doubleword = lower_power a 3 want.start is_want.start.0 on;
      start = on;
      within = fits.1;
      side = λ below.
          let low : run.addr < 0x1000000 = allowed below in
          let ends : run.addr + run.len ≤ 0x1000000 = is_run.one_side low in
          let fit : a + n ≤ run.addr + run.len = fits.0 in
          omega arith;
    },
  ),
  λ serves. (serves.0.1, serves.1.within),
)

pub starts_decide : (run : PlaceValue) (want : WantValue) (first next first_room next_room : ℕ) → IsRun run → IsWant want → Allows want.side run.addr →
    IsLeastMultiple (2 ^ want.start) run.addr first → IsNextStart want.start want.within first next →
    ((n : ℕ) → 0 < n → (n ≤ first_room) ↔ Fits want.within (run.addr + run.len) n first) →
    ((n : ℕ) → 0 < n → (n ≤ next_room) ↔ Fits want.within (run.addr + run.len) n next) →
    IsStarts run want (record { first = first; first_room = first_room; next = next; next_room = next_room })
starts_decide run want first next first_room next_room is_run is_want allowed least moved at_first at_next =
    let from : run.addr ≤ first = least.after in
    let after : first ≤ next = moved.after in
    let further : run.addr ≤ next = omega arith in
    let serves_first = λ (n : ℕ) (some : 0 < n). serving run want first n is_run is_want allowed from least.multiple some in
    let serves_next = λ (n : ℕ) (some : 0 < n). serving run want next n is_run is_want allowed further moved.on_start some in
    record {
      first = λ n some. (λ short. (serves_first n some).0 ((at_first n some).0 short), λ serves. (at_first n some).1 ((serves_first n some).1 serves));
      next = λ n some. (λ short. (serves_next n some).0 ((at_next n some).0 short), λ serves. (at_next n some).1 ((serves_next n some).1 serves));
      lowest = λ q inside meets. least.least q.addr inside.0 meets.start;
      enough = λ q some inside meets.
          elim (moved.enough (run.addr + run.len) q.len q.addr some (least.least q.addr inside.0 meets.start) meets.start (inside.1, meets.within)) [
            | inl fits ↦ inl ((at_first q.len some).1 fits)
            | inr fits ↦ inr (fits.0, (at_next q.len some).1 fits.1)
          ];
    }

-- what is asked of the lowest place of a length, and of a longest place
abbrev pub IsLowest : PlaceValue → WantValue → ℕ → PlaceValue → Type 0
IsLowest run want n p = (p.len ≡ n) × InRun run p × Meets want p × ((q : PlaceValue) → q.len ≡ n → InRun run q → Meets want q → p.addr ≤ q.addr)

abbrev pub IsLongest : PlaceValue → WantValue → PlaceValue → Type 0
IsLongest run want p = IsLength want p.len × InRun run p × Meets want p × ((q : PlaceValue) → IsLength want q.len → InRun run q → Meets want q → q.len ≤ p.len)

pub lowest_at_first : (run : PlaceValue) (want : WantValue) (starts : Starts) (n : ℕ) → IsStarts run want starts → 8 ≤ n → n ≤ starts.first_room → IsLowest run want n (place_at starts.first n)
lowest_at_first run want starts n decide some short =
    let serves : Serves run want (place_at starts.first n) = (decide.first n (omega arith)).0 short in
    (refl, serves.0, serves.1, λ q len inside meets. decide.lowest q inside meets)

pub lowest_at_next : (run : PlaceValue) (want : WantValue) (starts : Starts) (n : ℕ) → IsStarts run want starts → 8 ≤ n → starts.first_room < n → n ≤ starts.next_room → IsLowest run want n (place_at starts.next n)
lowest_at_next run want starts n decide some long short =
    let serves : Serves run want (place_at starts.next n) = (decide.next n (omega arith)).0 short in
    (refl, serves.0, serves.1, λ q len inside meets. elim (decide.enough q (omega arith) inside meets) [ inl fits ↦ absurd (omega arith) | inr fits ↦ fits.0 ])

-- a whole length at least as great as each that the rooms allow bounds each length that serves
longest_in_room : (run : PlaceValue) (want : WantValue) (starts : Starts) (n : ℕ) → IsStarts run want starts → IsWant want →
    ((m : ℕ) → m % 8 ≡ 0 → m ≤ want.most → (m ≤ starts.first_room) ⊎ (m ≤ starts.next_room) → m ≤ n) →
    (q : PlaceValue) → IsLength want q.len → InRun run q → Meets want q → q.len ≤ n
longest_in_room run want starts n h1 h2 h3 q h4 h5 h6 = grind (arith, common_steps)

-- that length at a start whose room it does not pass is a longest place
pub longest_at_first : (run : PlaceValue) (want : WantValue) (starts : Starts) (n : ℕ) → IsStarts run want starts → IsWant want → IsLength want n → n ≤ starts.first_room →
    ((m : ℕ) → m % 8 ≡ 0 → m ≤ want.most → (m ≤ starts.first_room) ⊎ (m ≤ starts.next_room) → m ≤ n) →
    IsLongest run want (place_at starts.first n)
longest_at_first run want starts n decide is_want len short bound =
    let some : 8 ≤ want.least = is_want.some in
    let least : want.least ≤ n = len.least in
    let serves : Serves run want (place_at starts.first n) = (decide.first n (omega arith)).0 short in
    (len, serves.0, serves.1, longest_in_room run want starts n decide is_want bound)

pub longest_at_next : (run : PlaceValue) (want : WantValue) (starts : Starts) (n : ℕ) → IsStarts run want starts → IsWant want → IsLength want n → n ≤ starts.next_room →
    ((m : ℕ) → m % 8 ≡ 0 → m ≤ want.most → (m ≤ starts.first_room) ⊎ (m ≤ starts.next_room) → m ≤ n) →
    IsLongest run want (place_at starts.next n)
longest_at_next run want starts n decide is_want len short bound =
    let some : 8 ≤ want.least = is_want.some in
    let least : want.least ≤ n = len.least in
    let serves : Serves run want (place_at starts.next n) = (decide.next n (omega arith)).0 short in
    (len, serves.0, serves.1, longest_in_room run want starts n decide is_want bound)

-- what is asked of the highest place of a length
abbrev pub IsHighest : PlaceValue → WantValue → ℕ → PlaceValue → Type 0
IsHighest run want n p = (p.len ≡ n) × InRun run p × Meets want p × ((q : PlaceValue) → q.len ≡ n → InRun run q → Meets want q → q.addr ≤ p.addr)

-- the last start up to the last one at which the length ends in time
pub highest_at_last : (run : PlaceValue) (want : WantValue) (n last at : ℕ) → IsRun run → IsWant want → Allows want.side run.addr → 8 ≤ n → n ≤ run.len →
    IsGreatestMultiple (2 ^ want.start) (run.addr + (run.len - n)) last → IsLastStart want.start want.within n last at → run.addr ≤ at → IsHighest run want n (place_at at n)
highest_at_last run want n last at h1 h2 h3 h4 h5 h6 h7 h8 = grind (arith, nat_tests, serving)
