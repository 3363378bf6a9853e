-- Runs of free doublewords in the pages of a subpool.
use Rattle.std.specs.Prelude.{ℕ, ◌+◌, ◌-◌, ◌*◌, ◌/◌, ◌%◌, ◌==◌, ◌&&◌, ◌||◌, not, Bool, Option, is_some, nat_lt}
use Rattle.mvs_model.specs.Finite.{count_below, has}
use Rattle.mvs_model.specs.Numbers.{first_doubleword_above, page_doublewords}
use Rattle.mvs_model.specs.Storage.{Regions, end_of}
use Rattle.mvs_model.specs.declared.want.Side.{Side}
use Rattle.mvs_model.specs.declared.want.Side.TheVariants.{Below, Either}

-- whether s holds a doubleword of a page
abbrev pub holds_in_page : (ℕ → Option ℕ) → ℕ → ℕ → Bool
holds_in_page holder s p = nat_lt 0 (count_below page_doublewords (λ i. has (λ t. t == s) (holder (page_doublewords * p + i))))

-- whether a free run of a page of s begins at d: d is free, and it is the first of its page or the one before it is held
abbrev pub begins_free_run : (ℕ → Option ℕ) → ℕ → ℕ → Bool
begins_free_run holder s d = not (is_some (holder d)) && (holds_in_page holder s (d / page_doublewords) && (d % page_doublewords == 0 || is_some (holder (d - 1))))

-- the longest runs of free doublewords, each inside one page, of the pages that a side allows and in which s holds something
abbrev pub free_runs : Regions → (ℕ → Option ℕ) → ℕ → Side → ℕ
free_runs r holder s Below = count_below first_doubleword_above (begins_free_run holder s)
free_runs r holder s Either = count_below (end_of r) (begins_free_run holder s)
