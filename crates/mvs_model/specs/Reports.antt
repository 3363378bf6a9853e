-- The contents of the reports on subpools and pages. (the reports are this project's own)
use Rattle.std.specs.Prelude.{ℕ, zero, suc, ◌+◌, ◌*◌, ◌==◌, Bool, true, false, not, ◌&&◌, List, [], ◌∷◌, ◌++◌, Option, Some, None, if◌then◌else◌}
use Rattle.std.specs.Option.{option_map, option_and_then}
use Rattle.std.specs.FinMap.{get}
use Rattle.mvs_model.specs.declared.name.Name.{Name}
use Rattle.mvs_model.specs.declared.report.SubpoolLine.{SubpoolLine}
use Rattle.mvs_model.specs.declared.report.MapRun.{MapRun}
use Rattle.mvs_model.specs.Finite.{has, count_below}
use Rattle.mvs_model.specs.Storage.{end_of}
use Rattle.mvs_model.specs.Owners.{Owners, entry, owns}
use Rattle.mvs_model.specs.State.{State, holder}
use Rattle.mvs_model.specs.Numbers.{page_bytes, page_doublewords, subpool_numbers, below_begins, first_page_below, above_begins, first_page_above}

-- how many bytes a subpool holds outside of pools, or in them
abbrev pub bytes_held : State → ℕ → Bool → ℕ
bytes_held st s pooled = 8 * count_below (end_of st.regions) (λ d. has (λ h. (h.subpool == s) && (if pooled then h.pooled else not h.pooled)) (get st.held d))

-- the lists that a function has at the numbers below n, one after another
unfoldable pub each_below : {X : Type 0} → ℕ → (ℕ → List X) → List X
each_below zero f = []
each_below (suc n) f = each_below n f ++ f n

-- the first of the numbers from k on, n of them, at which a function has a value, and that value
unfoldable pub first_from : {X : Type 0} → ℕ → ℕ → (ℕ → Option X) → Option X
first_from k zero f = None
first_from k (suc n) f = or_next (f k) (first_from (k + 1) n f) where
  or_next : {X : Type 0} → Option X → Option X → Option X
  or_next (Some x) next = Some x
  or_next None next = next

-- the line of a number, where the task has it, by how many bytes a subpool has outside of pools and in them
abbrev pub line_of_entry : Owners → (ℕ → ℕ) → (ℕ → ℕ) → Name → ℕ → Option ℕ → List SubpoolLine
line_of_entry o plain pool t n None = []
line_of_entry o plain pool t n (Some s) = record { number = n; owned = owns o t s; plain = plain s; pool = pool s } ∷ []

-- REPORT SP: a line for each number that the task has, in rising order
abbrev pub subpool_lines : Owners → (ℕ → ℕ) → (ℕ → ℕ) → Name → List SubpoolLine
subpool_lines o plain pool t = each_below subpool_numbers (λ n. line_of_entry o plain pool t n (entry o t n))

-- the pages of a region of a state
abbrev pub subpool_lines_of : State → Name → List SubpoolLine
subpool_lines_of st t = subpool_lines st.owners (λ s. bytes_held st s false) (λ s. bytes_held st s true) t

-- the subpool that a page is assigned to: that of its held doublewords
abbrev pub page_subpool : State → ℕ → Option ℕ
page_subpool st page = first_from (page_doublewords * page) page_doublewords (λ d. holder st d)

-- pages that follow one another and are assigned alike: how many, and to which subpool
pub record PageRun : Type 0 where
  pub count : ℕ
  pub subpool : Option ℕ

-- whether two pages are assigned alike
abbrev pub same_subpool : Option ℕ → Option ℕ → Bool
same_subpool None None = true
same_subpool None (Some s) = false
same_subpool (Some r) None = false
same_subpool (Some r) (Some s) = r == s

-- a page before some runs: it extends the first, or is a run of its own
abbrev pub with_page : Option ℕ → List PageRun → List PageRun
with_page s [] = record { count = 1; subpool = s } ∷ []
with_page s (run ∷ runs) = if same_subpool s run.subpool then record { count = run.count + 1; subpool = s } ∷ runs else record { count = 1; subpool = s } ∷ run ∷ runs

-- the runs of a number of pages, from a page on
unfoldable pub page_runs : State → ℕ → ℕ → List PageRun
page_runs st page zero = []
page_runs st page (suc n) = with_page (page_subpool st page) (page_runs st (page + 1) n)

-- the number under which the owner has the subpool
abbrev pub number_of : Owners → Name → ℕ → Option ℕ
number_of o t s = first_from 0 subpool_numbers (λ n. if has (λ r. r == s) (entry o t n) then Some n else None)

-- the number under which the owner of a subpool has it, and the owner (in every state of a run there are both for what is held)
abbrev pub label_of : Owners → Option ℕ → Option (ℕ × Name)
label_of o None = None
label_of o (Some s) = option_and_then (λ t. option_map (λ n. (n, t)) (number_of o t s)) (get o.owner s)

-- runs of pages from an address on, each with what it is assigned to
abbrev pub map_runs : Owners → ℕ → List PageRun → List MapRun
map_runs o a [] = []
map_runs o a (run ∷ runs) =
    record { addr = a; len = page_bytes * run.count; holder = label_of o run.subpool } ∷ map_runs o (a + page_bytes * run.count) runs

-- REPORT MAP: the pages of the region below, and then those of the region above
abbrev pub page_map : State → List MapRun
page_map st =
    map_runs st.owners below_begins (page_runs st first_page_below st.regions.below) ++ map_runs st.owners above_begins (page_runs st first_page_above st.regions.above)
