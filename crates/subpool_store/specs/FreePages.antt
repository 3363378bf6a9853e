-- Pages that hold nothing.
use Rattle.std.specs.Prelude.{ℕ, ◌+◌, ◌*◌, not, is_some}
use Rattle.mvs_model.specs.Finite.{count_below}
use Rattle.mvs_model.specs.Numbers.{page_doublewords}
use Rattle.mvs_model.specs.Reports.{first_from}
use Rattle.mvs_model.specs.Storage.{Storage, holder}

-- the number of pages, among n from a page on, that hold nothing
abbrev pub free_pages : Storage → ℕ → ℕ → ℕ
free_pages st first count = count_below count (λ p. not (is_some (first_from (page_doublewords * (first + p)) page_doublewords (holder st))))
