-- What is freed with a task that ends, by the state before it: the subpools that tasks own.
use Rattle.std.specs.Prelude.{ℕ, ◌+◌, ◌==◌, ◌&&◌, Bool, false, true, List, [], ◌∷◌, Option, Some, None}
use Rattle.std.specs.Option.{option_map}
use Rattle.mvs_model.specs.declared.name.Name.{Name}
use Rattle.mvs_model.specs.Finite.{has, any_below, count_below}
use Rattle.mvs_model.specs.Numbers.{most_subpools, subpool_numbers, first_page_below, first_page_above}
use Rattle.mvs_model.specs.Owners.{Owners, entry, is_active}
use Rattle.mvs_model.specs.Reports.{bytes_held, each_below, label_of, page_subpool}
use Rattle.mvs_model.specs.State.{State}
use Rattle.request_forms.specs.declared.facts.OwnedSubpool.{OwnedSubpool}

-- how many pages of a region, from its first page on, are assigned to a subpool
abbrev pub pages_in : State → ℕ → ℕ → ℕ → ℕ
pages_in st s first count = count_below count (λ p. has (λ r. r == s) (page_subpool st (first + p)))

-- how many pages of both regions are
abbrev pub pages_of : State → ℕ → ℕ
pages_of st s = pages_in st s first_page_below st.regions.below + pages_in st s first_page_above st.regions.above

-- how many bytes a subpool holds, outside of pools and in them
abbrev pub bytes_of : State → ℕ → ℕ
bytes_of st s = bytes_held st s false + bytes_held st s true

-- whether an active task has a subpool under some number
abbrev pub has_subpool : Owners → Name → ℕ → Bool
has_subpool o t s = is_active o t && any_below (λ n. has (λ r. r == s) (entry o t n)) subpool_numbers

-- a subpool that a task owns, and whether another task has it
abbrev pub owned_at : State → Name → ℕ → Option OwnedSubpool
owned_at st t s = option_map (λ l. record { number = l.0; owner = l.1; bytes = bytes_of st s; pages = pages_of st s; had = has_subpool st.owners t s }) (label_of st.owners (Some s))

-- one thing as a list, or none
abbrev pub listed : {X : Type 0} → Option X → List X
listed None = []
listed (Some x) = x ∷ []

-- all subpools that tasks own, and whether a task has them
abbrev pub owned_subpools : State → Name → List OwnedSubpool
owned_subpools st t = each_below most_subpools (λ s. listed (owned_at st t s))
