-- Lists, read item by item.
use Rattle.std.proofs.Common.{◌≡◌, ℕ, suc, ◌+◌, ◌≤◌, List, [], ◌∷◌, ◌++◌, length, map, arith, sym, ap, ◌∙◌, append_assoc, length-append, true, Bool, Option, Some, None}
use Rattle.std.specs.Prelude.{MatchOption}
use Rattle.std.specs.List.{list_all}
use denote.Bor.{Bor}
use Rattle.mvs_model.specs.Reading.{is_number, is_in_range, is_name, is_address, is_address_in_range}
use Rattle.mvs_model.proofs.ReadingTaken.{and_true}
use Rattle.job_script.specs.Items.{items_in}

-- the items that are left, and how long they are
abbrev pub more_items : Option (Bor (List ℕ)) → List (List ℕ)
more_items None = []
more_items (Some text) = items_in text.now

abbrev pub more_len : Option (Bor (List ℕ)) → ℕ
more_len None = 0
more_len (Some text) = suc (length text.now)

-- The list has what the items before these say, and there are at most sixteen.
pub record Reads {X : Type 0} (f : List ℕ → X) (list : List X) (more : Option (Bor (List ℕ))) (text : List ℕ) : Type 0 where
  pub all : list ++ map f (more_items more) ≡ map f (items_in text)
  pub few : length list + length (more_items more) ≤ 16

-- each of those that are left is such an item
abbrev pub Morelengths : Option (Bor (List ℕ)) → Type 0
Morelengths more = (list_all is_number (more_items more) ≡ true) × (list_all (is_in_range 1 2147483647) (more_items more) ≡ true)

abbrev pub Morenames : Option (Bor (List ℕ)) → Type 0
Morenames more = list_all is_name (more_items more) ≡ true

abbrev pub Morelocations : Option (Bor (List ℕ)) → Type 0
Morelocations more = (list_all is_address (more_items more) ≡ true) × (list_all is_address_in_range (more_items more) ≡ true)

-- the first item, and those after it
pub parts_items : (text item : List ℕ) (more : Option (Bor (List ℕ))) → MatchOption more (items_in text ≡ item ∷ []) (λ rest. items_in text ≡ item ∷ items_in rest.now) → items_in text ≡ item ∷ more_items more
parts_items text item None e = e
parts_items text item (Some rest) e = e

pub all_first : (p : List ℕ → Bool) (xs : List (List ℕ)) (x : List ℕ) (ys : List (List ℕ)) → list_all p xs ≡ true → xs ≡ x ∷ ys → (p x ≡ true) × (list_all p ys ≡ true)
all_first p xs x ys all e = and_true (p x) (list_all p ys) (ap (list_all p) (sym e) ∙ all)

pub reads_first : {X : Type 0} (f : List ℕ → X) (list : List X) (more : Option (Bor (List ℕ))) (text item : List ℕ) → list ≡ f item ∷ [] → items_in text ≡ item ∷ more_items more → length (items_in text) ≤ 16 → Reads f list more text
reads_first f list more text item is parts few =
    let long : length (items_in text) ≡ suc (length (more_items more)) = ap length parts in
    let one : length list ≡ 1 = ap length is in
    record { all = ap (λ l. l ++ map f (more_items more)) is ∙ ap (map f) (sym parts); few = omega arith }

pub reads_next : {X : Type 0} (f : List ℕ → X) (list after : List X) (more next : Option (Bor (List ℕ))) (rest : Bor (List ℕ)) (text item : List ℕ) → Reads f list more text → more ≡ Some rest
    → items_in rest.now ≡ item ∷ more_items next → after ≡ list ++ f item ∷ [] → Reads f after next text
reads_next f list after more next rest text item r m parts is =
    let left : more_items more ≡ item ∷ more_items next = ap more_items m ∙ parts in
    let longer : length after ≡ length list + 1 = ap length is ∙ length-append list (f item ∷ []) in
    let fewer : length (more_items more) ≡ suc (length (more_items next)) = ap length left in
    let few = r.few in
    record {
      all = ap (λ l. l ++ map f (more_items next)) is ∙ append_assoc list (f item ∷ []) (map f (more_items next)) ∙ ap (λ xs. list ++ map f xs) (sym left) ∙ r.all;
      few = omega arith;
    }
