-- Lists in parentheses and their items.
use Rattle.std.specs.Prelude.{ℕ, ◌-◌, List, ◌==◌, ◌&&◌, Bool, nat_le, bytes_eq, length, take, drop}
use Rattle.std.specs.List.{list_all, slice_split}
use Rattle.mvs_model.specs.Grammar as grammar
use Rattle.mvs_model.specs.Grammar.{Kind}
use Rattle.mvs_model.specs.Reading.{is_list, items, is_of, is_within, is_twice, number}
use Rattle.job_script.specs.declared.items.Item.{Item}
use Rattle.job_script.specs.declared.items.Item.TheVariants.{Number, Name, Address}

-- the text between the parentheses
abbrev pub inner : List ℕ → List ℕ
inner text = take (length text - 2) (drop 1 text)

-- the items there
abbrev pub items_in : List ℕ → List (List ℕ)
items_in text = slice_split (λ b. b == 44) text

-- the kind of an item
abbrev pub item_kind : Item → Kind
item_kind (Number least most) = grammar.Number least most
item_kind Name = grammar.Name
item_kind Address = grammar.Address

-- whether two items are the same: numbers by value
abbrev pub is_same_item : Item → List ℕ → List ℕ → Bool
is_same_item (Number least most) one other = number one == number other
is_same_item Name one other = bytes_eq one other
is_same_item Address one other = bytes_eq one other

-- whether a text is a list of such items, whether these are in range, and whether there are at most a number of them
abbrev pub is_list_of : Item → List ℕ → Bool
is_list_of item text = is_list text && list_all (is_of (item_kind item)) (items text)

abbrev pub has_items_in_range : Item → List ℕ → Bool
has_items_in_range item text = list_all (is_within (item_kind item)) (items text)

abbrev pub has_items : ℕ → List ℕ → Bool
has_items most text = nat_le (length (items text)) most

-- whether an item is a duplicate
abbrev pub has_twice : Item → List ℕ → Bool
has_twice item text = is_twice (is_same_item item) (items text)
