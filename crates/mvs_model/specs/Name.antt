-- Names of tasks, areas, cells and cell pools.
use Rattle.std.specs.Prelude.{◌≡◌, ◌≢◌, ℕ, ◌+◌, ◌-◌, ◌<◌, ◌≤◌, ◌==◌, Bool, List, ◌++◌, length, replicate, All, slice_index}
use Rattle.std.specs.List.{before_first}
use Rattle.std.specs.declared.cmp.Ordering.{Ordering}
use Rattle.std.specs.Ordering.{nat_cmp, eq_by_cmp}
use Rattle.std.specs.Cmp.Lexicographic.{slice_cmp}
use Rattle.std.specs.Coded.{Coded, coded_ℕ, coded_list}

-- A text of one to eight bytes, none of them a blank.
pub record IsNameText (text : List ℕ) : Type 0 where
  pub some : 1 ≤ length text
  pub short : length text ≤ 8
  pub no_blank : All (λ b. b ≢ 32) text

-- the text and blanks up to eight bytes
abbrev pub padded : List ℕ → List ℕ
padded text = text ++ replicate (8 - length text) 32

-- the text before the first blank
abbrev pub trimmed : List ℕ → List ℕ
trimmed name = before_first (λ b. b == 32) name

-- The first byte is not a blank, and each of the first eight after a blank is a blank. So a name is a text of at most eight bytes,
-- padded with blanks. (this project's choice; the type Name has eight bytes)
pub record IsName (name : List ℕ) : Type 0 where
  pub begins : slice_index name 0 ≢ 32
  pub ends : (k : ℕ) → k < 7 → slice_index name k ≡ 32 → slice_index name (k + 1) ≡ 32

-- Each is a byte.
abbrev pub AreBytes : List ℕ → Type 0
AreBytes bs = (k : ℕ) → slice_index bs k < 256

-- byte order
abbrev pub name_cmp : List ℕ → List ℕ → Ordering
name_cmp = slice_cmp nat_cmp

-- whether two names are the same
abbrev pub same_name : List ℕ → List ℕ → Bool
same_name = eq_by_cmp name_cmp

-- a code, for a model's value
abbrev pub name_code : Coded (List ℕ)
name_code = coded_list coded_ℕ
