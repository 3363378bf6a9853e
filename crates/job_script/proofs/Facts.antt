-- What is known of the texts of operands that were taken.
use Rattle.std.proofs.Common.{◌≡◌, ℕ, List, length, refl, sym, ap, subst, ◌∙◌, true, false, Bool, Option, Some, None}
use Rattle.std.specs.Prelude.{◌==◌, ◌&&◌, ◌||◌, is_some, nat_le, flat_map, codes, if◌then◌else◌}
use Rattle.std.specs.List.{list_all, list_any}
use Rattle.std.proofs.lemmas.Bool.{leb-true, or_right}
use Rattle.mvs_model.specs.Grammar as grammar
use Rattle.mvs_model.specs.Gifts.{IsGifts}
use Rattle.mvs_model.specs.Reading.{is_list, is_pair, is_number, is_in_range, is_pair_in_range, is_hex_digit, is_name, is_address, is_address_in_range, is_bytes, items, quoted, presents, is_conflict, first_of, operand_checks, with_left}
use Rattle.mvs_model.specs.ReadingLaws.{IsTaken}
use Rattle.mvs_model.proofs.Reading.{or_false}
use Rattle.mvs_model.proofs.ReadingTaken.{and_true, nat_same}
use Rattle.mvs_model.proofs.ReadingRanges.{number_no_list, attach_presents}
use Rattle.job_script.specs.declared.given.GivenOperands.{GivenOperands}
use Rattle.job_script.specs.declared.rows.Row.{Row}
use Rattle.job_script.specs.declared.rows.Row.TheVariants as row
use Rattle.job_script.specs.Rows.{row_at}
use Rattle.job_script.specs.GivenOperands.{IsRead, IsPlaced, by_place}
use Rattle.job_script.specs.Values.{IsExtent, IsNumbers, IsNames, IsLocations, IsSomeBytes}
use Rattle.job_script.specs.LineMeaning.{IsByte, AreGiven, if_list}
use Rattle.job_script.proofs.Taking.{taken_text}

pub at_key : (g : GivenOperands) → IsRead g → (r : Row) → g.row ≡ r → (key text : List ℕ) → (by_place g).under key ≡ Some text → IsTaken (row_at r) key text
at_key g read r is key text e = subst (λ r. IsTaken (row_at r) key text) is (taken_text g read.0 read.1 key text e)

pub at_place : (g : GivenOperands) → IsRead g → (r : Row) → g.row ≡ r → (place : ℕ) (text : List ℕ) → (by_place g).at place ≡ Some text → IsPlaced (row_at r) place text
at_place g read r is place text e = subst (λ r. IsPlaced (row_at r) place text) is (read.1.placed place text e)

not_list : (text : List ℕ) → is_number text ≡ true → is_list text ≡ false
not_list text n = at (is_list text) refl where
  at : (b : Bool) → is_list text ≡ b → is_list text ≡ false
  at true l = absurd (number_no_list text n l)
  at false l = l

pub extent_number : (text : List ℕ) → is_number text ≡ true → is_in_range 1 2147483647 text ≡ true → IsExtent text
extent_number text n r = record {
  of_kind = ap (λ b. b || is_pair text) n;
  within = ap (λ b. if b then is_pair_in_range 1 2147483647 text else is_in_range 1 2147483647 text) (not_list text n) ∙ r;
}

pub extent_pair : (text : List ℕ) → is_pair text ≡ true → is_pair_in_range 1 2147483647 text ≡ true → IsExtent text
extent_pair text p r =
    let a = and_true (is_list text && (length (items text) == 2)) (list_all is_number (items text)) p in
    let l = and_true (is_list text) (length (items text) == 2) a.0 in
    record {
      of_kind = ap (λ b. is_number text || b) p ∙ or_right (is_number text) true refl;
      within = ap (λ b. if b then is_pair_in_range 1 2147483647 text else is_in_range 1 2147483647 text) l.0 ∙ r;
    }

pub a_byte : (text : List ℕ) → ((length text == 2) && list_all is_hex_digit text) ≡ true → IsByte text
a_byte text e = let a = and_true (length text == 2) (list_all is_hex_digit text) e in record { two = nat_same (length text) 2 a.0; digits = a.1 }

pub some_numbers : (text : List ℕ) → (is_list text && list_all is_number (items text)) ≡ true → (nat_le (length (items text)) 16 && list_all (is_in_range 1 2147483647) (items text)) ≡ true → IsNumbers text
some_numbers text k w =
    let a = and_true (is_list text) (list_all is_number (items text)) k in
    let b = and_true (nat_le (length (items text)) 16) (list_all (is_in_range 1 2147483647) (items text)) w in
    record { are = a.1; within = b.1; few = leb-true (length (items text)) 16 b.0 }

pub some_names : (text : List ℕ) → (is_list text && list_all is_name (items text)) ≡ true → nat_le (length (items text)) 16 ≡ true → IsNames text
some_names text k w = record { are = (and_true (is_list text) (list_all is_name (items text)) k).1; few = leb-true (length (items text)) 16 w }

pub some_locations : (text : List ℕ) → (is_list text && list_all is_address (items text)) ≡ true → (nat_le (length (items text)) 16 && list_all is_address_in_range (items text)) ≡ true → IsLocations text
some_locations text k w =
    let a = and_true (is_list text) (list_all is_address (items text)) k in
    let b = and_true (nat_le (length (items text)) 16) (list_all is_address_in_range (items text)) w in
    record { are = a.1; within = b.1; few = leb-true (length (items text)) 16 b.0 }

pub some_bytes : (text : List ℕ) → is_bytes text ≡ true → nat_le (length (quoted text)) 200 ≡ true → IsSomeBytes text
some_bytes text k w = record { are = k; few = leb-true (length (quoted text)) 200 w }

-- ---- ATTACH

given_by : (g : GivenOperands) → IsRead g → g.row ≡ row.Attach → (key : List ℕ) → ((text : List ℕ) → IsTaken grammar.attach key text → AreGiven (Some text)) → AreGiven ((by_place g).under key)
given_by g read is key fits = at ((by_place g).under key) refl where
  at : (o : Option (List ℕ)) → (by_place g).under key ≡ o → AreGiven o
  at None e = tt
  at (Some text) e = fits text (at_key g read row.Attach is key text e)

given_number : (text : List ℕ) → is_number text ≡ true → is_in_range 1 127 text ≡ true → AreGiven (Some text)
given_number text n r = subst (λ b. if_list b text) (sym (not_list text n)) (record { digits = ap (λ b. b && true) n; range = ap (λ b. b && true) r })

given_list : (text : List ℕ) → (is_list text && list_all is_number (items text)) ≡ true → list_all (is_in_range 1 127) (items text) ≡ true → AreGiven (Some text)
given_list text k w =
    let a = and_true (is_list text) (list_all is_number (items text)) k in
    subst (λ b. if_list b text) (sym a.0) (record { digits = a.1; range = w })

pub gives_number : (g : GivenOperands) → IsRead g → g.row ≡ row.Attach → AreGiven ((by_place g).under (codes "GSPV"))
gives_number g read is = given_by g read is (codes "GSPV") (λ text k. given_number text k.of_kind k.within)

pub gives_list : (g : GivenOperands) → IsRead g → g.row ≡ row.Attach → AreGiven ((by_place g).under (codes "GSPL"))
gives_list g read is = given_by g read is (codes "GSPL") (λ text k. given_list text k.of_kind k.within)

pub shares_number : (g : GivenOperands) → IsRead g → g.row ≡ row.Attach → AreGiven ((by_place g).under (codes "SHSPV"))
shares_number g read is = given_by g read is (codes "SHSPV") (λ text k. given_number text k.of_kind k.within)

pub shares_list : (g : GivenOperands) → IsRead g → g.row ≡ row.Attach → AreGiven ((by_place g).under (codes "SHSPL"))
shares_list g read is = given_by g read is (codes "SHSPL") (λ text k. given_list text k.of_kind k.within)

-- no rule of ATTACH is broken
pub record Apart (g : GivenOperands) : Type 0 where
  pub one_given : (is_some ((by_place g).under (codes "GSPV")) && is_some ((by_place g).under (codes "GSPL"))) ≡ false
  pub one_shared : (is_some ((by_place g).under (codes "SHSPV")) && is_some ((by_place g).under (codes "SHSPL"))) ≡ false
  pub apart : IsGifts (presents (by_place g))

pub attach_apart : (g : GivenOperands) → IsRead g → g.row ≡ row.Attach → list_any (is_conflict (by_place g)) (row_at g.row).rules ≡ false → Apart g
attach_apart g read is none =
    let rules : list_any (is_conflict (by_place g)) grammar.attach.rules ≡ false = ap (λ r. list_any (is_conflict (by_place g)) (row_at r).rules) (sym is) ∙ none in
    let a = or_false (is_some ((by_place g).under (codes "GSPV")) && is_some ((by_place g).under (codes "GSPL"))) _ rules in
    let b = or_false (is_some ((by_place g).under (codes "SHSPV")) && is_some ((by_place g).under (codes "SHSPL"))) _ a.1 in
    let given = read.1 in
    record {
      one_given = a.0;
      one_shared = b.0;
      apart = subst (λ os. IsGifts (presents os)) (sym given.same) (attach_presents read.0 (taken given.taken) (ap (λ os. list_any (is_conflict os) grammar.attach.rules) (sym given.same) ∙ rules));
    } where
      taken : first_of (flat_map (operand_checks (row_at g.row)) (with_left read.0)) ≡ None → first_of (flat_map (operand_checks grammar.attach) (with_left read.0)) ≡ None
      taken e = ap (λ r. first_of (flat_map (operand_checks (row_at r)) (with_left read.0))) (sym is) ∙ e
