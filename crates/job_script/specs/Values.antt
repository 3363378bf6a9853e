-- Texts of operands that were found well formed and in their ranges.
use Rattle.std.specs.Prelude.{◌≡◌, ◌≤◌, ℕ, List, ◌||◌, true, if◌then◌else◌, length}
use Rattle.std.specs.List.{list_all}
use Rattle.mvs_model.specs.Reading.{is_list, is_pair, items, is_number, is_in_range, is_pair_in_range, is_name, is_address, is_address_in_range, is_bytes, quoted}

-- A length, or a largest and a smallest one.
pub record IsExtent (text : List ℕ) : Type 0 where
  pub of_kind : (is_number text || is_pair text) ≡ true
  pub within : (if is_list text then is_pair_in_range 1 2147483647 text else is_in_range 1 2147483647 text) ≡ true

-- At most sixteen lengths.
pub record IsNumbers (text : List ℕ) : Type 0 where
  pub are : list_all is_number (items text) ≡ true
  pub within : list_all (is_in_range 1 2147483647) (items text) ≡ true
  pub few : length (items text) ≤ 16

-- At most sixteen names.
pub record IsNames (text : List ℕ) : Type 0 where
  pub are : list_all is_name (items text) ≡ true
  pub few : length (items text) ≤ 16

-- At most sixteen addresses.
pub record IsLocations (text : List ℕ) : Type 0 where
  pub are : list_all is_address (items text) ≡ true
  pub within : list_all is_address_in_range (items text) ≡ true
  pub few : length (items text) ≤ 16

-- One to a hundred bytes.
pub record IsSomeBytes (text : List ℕ) : Type 0 where
  pub are : is_bytes text ≡ true
  pub few : length (quoted text) ≤ 200
