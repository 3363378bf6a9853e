-- A list of areas, as it is read: it has a name for each length, and none stands twice.
use Rattle.std.proofs.Common.{◌≡◌, ℕ, zero, suc, ◌-◌, ◌==◌, ◌||◌, Bool, true, false, cond, List, [], ◌∷◌, ◌++◌, map, length, drop, replicate, find, flat_map, bytes_eq, codes, Option, Some, None, if◌then◌else◌, option_map, unwrap_or, refl, sym, ap, ◌∙◌, subst, arith, eqb-true}
use Rattle.std.specs.List.{AllByRecursion, list_all, list_any, slice_get}
use Rattle.std.proofs.lemmas.Bool.{and_parts, false_from_ne_true, or_parts, not-false}
use Rattle.std.proofs.lemmas.Bool.Decides.{nat_tests}
use Rattle.std.proofs.lemmas.Grind.{flat_map-append}
use Rattle.std.proofs.lemmas.List.{length-map}
use Rattle.mvs_model.specs.declared.line.Fault.{Fault}
use Rattle.mvs_model.specs.declared.line.Fault.TheVariants.{Conflicting, MissingOperand}
use Rattle.mvs_model.specs.declared.line.Line.{Line}
use Rattle.mvs_model.specs.declared.line.Line.TheVariants as line
use Rattle.mvs_model.specs.declared.line.Statement.{Statement}
use Rattle.mvs_model.specs.declared.line.Statement.TheVariants as says
use Rattle.mvs_model.specs.declared.line.SourceRequest.TheVariants as written
use Rattle.mvs_model.specs.Grammar.{Meaning, Row, getmain_list, table}
use Rattle.mvs_model.specs.Grammar as grammar
use Rattle.mvs_model.specs.Name.{padded, same_name}
use Rattle.mvs_model.specs.Reading.{◌>>=◌, ◌when◌, ByKey, LineOf, operands_after_form, by_key, checks, first_of, form_in, has_key, if_kind, is_conflict, is_for, is_half, is_list, is_name, is_name_byte, is_twice, items, key_of, kind_of, lacks_keyword, lacks_positional, number, operand_checks, operands_of, operation_in, release_of, repeats, row_checks, row_of, rows_of, is_blank_or_comment, statement_checks, statement_of, task_in, text_of, value_of, with_left}
use Rattle.mvs_model.specs.ReadingLaws.{keyed}
use Rattle.mvs_model.proofs.Orders.{same_name_is}
use Rattle.mvs_model.proofs.Reading.{found_has, first_fails, none_beyond, none_later, passing_have, said_with}
use Rattle.mvs_model.proofs.ReadingTaken.{bytes_same, none_in_front, under_key}
use Rattle.mvs_model.proofs.Tests.{bytes_self, none_some, true_false}
use Rattle.job_script.proofs.Taking.{left_split}

-- a list of areas has a name for each length, and none stands twice
abbrev pub AreasFit : Statement → Type 0
AreasFit (says.Request (written.ObtainList form number lengths start areas)) = (length areas ≡ length lengths) × (is_twice same_name areas ≡ false)
AreasFit s = Unit {0}

-- ---- names

-- what stands before the first blank
front : List ℕ → List ℕ
front [] = []
front (b ∷ bs) = cond (b == 32) [] (b ∷ front bs)

unpadded : (text : List ℕ) (k : ℕ) → list_all is_name_byte text ≡ true → front (text ++ replicate k 32) ≡ text
unfolding front
unpadded [] zero e = refl
unpadded [] (suc k) e = refl
unpadded (b ∷ text) k e =
    let parts = and_parts (is_name_byte b) (list_all is_name_byte text) e in
    let no_blank : (b == 32) ≡ false = (let h : is_name_byte b ≡ true = parts.0 in grind (arith, nat_tests)) in
    ap (λ c. cond c [] (b ∷ front (text ++ replicate k 32))) no_blank ∙ ap (λ xs. b ∷ xs) (unpadded text k parts.1)

named_bytes : (text : List ℕ) → is_name text ≡ true → list_all is_name_byte text ≡ true
named_bytes text h = grind (arith, nat_tests)

front_name : (text : List ℕ) → is_name text ≡ true → front (padded text) ≡ text
front_name text e = unpadded text (8 - length text) (named_bytes text e)

-- names that differ differ with their padding
not_among : (x : List ℕ) (xs : List (List ℕ)) → is_name x ≡ true → list_all is_name xs ≡ true → list_any (bytes_eq x) xs ≡ false → list_any (same_name (padded x)) (map padded xs) ≡ false
not_among x [] n all e = refl
not_among x (y ∷ xs) n all e =
    let k = and_parts (is_name y) (list_all is_name xs) all in
    let d = or_parts (bytes_eq x y) (list_any (bytes_eq x) xs) e in
    (λ i. differ k.0 d.0 i || not_among x xs n k.1 d.1 i) where
      differ : is_name y ≡ true → bytes_eq x y ≡ false → same_name (padded x) (padded y) ≡ false
      differ m out = false_from_ne_true (same_name (padded x) (padded y)) (λ s.
          let is : x ≡ y = sym (front_name x n) ∙ ap front (same_name_is (padded x) (padded y) s) ∙ front_name y m in
          true_false (sym (ap (bytes_eq x) (sym is) ∙ bytes_self x) ∙ out))

padded_once : (xs : List (List ℕ)) → list_all is_name xs ≡ true → is_twice bytes_eq xs ≡ false → is_twice same_name (map padded xs) ≡ false
padded_once [] all e = refl
padded_once (x ∷ xs) all e =
    let k = and_parts (is_name x) (list_all is_name xs) all in
    let d = or_parts (list_any (bytes_eq x) xs) (is_twice bytes_eq xs) e in
    λ i. not_among x xs k.0 k.1 d.0 i || padded_once xs k.1 d.1 i

-- ---- what stands under a key

-- what is found stands between others
split_at : (test : List ℕ → Bool) (os : List (List ℕ)) (o : List ℕ) → find test os ≡ Some o → (left : List (List ℕ)) × (rest : List (List ℕ)) × (os ≡ left ++ o ∷ rest) × (test o ≡ true)
split_at test [] o e = none_some e
split_at test (x ∷ os) o e = at (test x) refl e (λ f. split_at test os o f) where
  at : (b : Bool) → test x ≡ b → cond b (Some x) (find test os) ≡ Some o → (find test os ≡ Some o → (left : List (List ℕ)) × (rest : List (List ℕ)) × (os ≡ left ++ o ∷ rest) × (test o ≡ true))
      → (left : List (List ℕ)) × (rest : List (List ℕ)) × (x ∷ os ≡ left ++ o ∷ rest) × (test o ≡ true)
  at true t f more = let is : x ≡ o = (let g : Some x ≡ Some o = f in cc) in ([], os, ap (λ y. y ∷ os) is, ap test (sym is) ∙ t)
  at false t f more = let s = more f in (x ∷ s.0, s.1, ap (λ ys. x ∷ ys) s.2, s.3)

-- nothing stands twice in it
once_under : (row : Row) (os : List (List ℕ)) → first_of (flat_map (operand_checks row) (with_left os)) ≡ None → (key text : List ℕ) → value_of key os ≡ Some text → if_kind (λ kind. repeats kind text) (keyed row key) ≡ false
once_under row os ok key text v = at (find (is_for key) os) refl v where
  at : (o : Option (List ℕ)) → find (is_for key) os ≡ o → option_map text_of o ≡ Some text → if_kind (λ kind. repeats kind text) (keyed row key) ≡ false
  at None f v = none_some v
  at (Some o) f v =
      let s = split_at (is_for key) os o f in
      let w = left_split s.0 o s.1 in
      let all : first_of (flat_map (operand_checks row) (with_left s.0 ++ (s.0, o) ∷ w.0)) ≡ None = ap (λ ps. first_of (flat_map (operand_checks row) ps)) (sym w.1) ∙ ap (λ xs. first_of (flat_map (operand_checks row) (with_left xs))) (sym s.2) ∙ ok in
      let trailing = none_beyond (flat_map (operand_checks row) (with_left s.0)) (operand_checks row (s.0, o) ++ flat_map (operand_checks row) w.0) (ap first_of (sym (flat_map-append (operand_checks row) (with_left s.0) ((s.0, o) ∷ w.0))) ∙ all) in
      let here = none_in_front (operand_checks row (s.0, o)) (flat_map (operand_checks row) w.0) trailing in
      let once = first_fails (drop 1 (operand_checks row (s.0, o))) (none_later 1 (operand_checks row (s.0, o)) here) in
      let parts = or_parts _ (if_kind (λ kind. repeats kind (text_of o)) (kind_of row s.0 o)) once in
      let k = and_parts (has_key o) (bytes_eq (key_of o) key) s.3 in
      let kind : kind_of row s.0 o ≡ keyed row key = ap (λ b. if b then keyed row (key_of o) else (if list_any has_key s.0 then None else option_map (λ p. p.kind) (slice_get row.positional (length s.0)))) k.0 ∙ ap (keyed row) (bytes_same (key_of o) key k.1) in
      let said : text_of o ≡ text = (let g : Some (text_of o) ≡ Some text = v in cc) in
      ap (λ k. if_kind (λ kind. repeats kind text) k) (sym kind) ∙ ap (λ x. if_kind (λ kind. repeats kind x) (kind_of row s.0 o)) (sym said) ∙ parts.1

-- ---- what the rows say

said_fits : {A : Type 0} (o : Option A) (f : A → Option Statement) (s : Statement) → (o >>= f) ≡ Some s → ((x : A) → o ≡ Some x → f x ≡ Some s → AreasFit s) → AreasFit s
said_fits None f s e h = none_some e
said_fits (Some x) f s e h = h x refl e

one_fits : (x s : Statement) → Some x ≡ Some s → AreasFit x → AreasFit s
one_fits x s e p = subst AreasFit (let g : Some x ≡ Some s = e in cc) p

-- what a statement of the row says fits, where no check is against an operand and no two exclude each other
abbrev IsFit : Row → Type 0
IsFit row = (form : List ℕ) (os : List (List ℕ)) (s : Statement) → first_of (flat_map (operand_checks row) (with_left os)) ≡ None → list_any (is_conflict (by_key os)) row.rules ≡ false → statement_of row.meaning form (by_key os) ≡ Some s → AreasFit s

-- a list of areas
list_fits : IsFit getmain_list
list_fits form os s ok rules e =
    said_fits (value_of (codes "LA") os) _ s e (λ lengths el e. said_fits (value_of (codes "A") os) _ s e (λ areas ea e.
    let u = under_key getmain_list os ok (codes "A") areas ea in
    let named = (and_parts (is_list areas) (list_all is_name (items areas)) u.of_kind).1 in
    let same = not-false (length (items (unwrap_or (value_of (codes "LA") os) [])) == length (items (unwrap_or (value_of (codes "A") os) []))) (or_parts _ false rules).0 in
    let size : length (items lengths) ≡ length (items areas) = eqb-true (length (items lengths)) (length (items areas)) ((λ i. length (items (unwrap_or (sym el i) [])) == length (items (unwrap_or (sym ea i) []))) ∙ same) in
    one_fits _ s e (length-map (items areas) padded ∙ sym size ∙ sym (length-map (items lengths) number), padded_once (items areas) named (once_under getmain_list os ok (codes "A") areas ea))))

-- any other statement
abbrev IsOther : Meaning → Type 0
IsOther grammar.ObtainsList = ⊥
IsOther m = Unit {0}

released_fit : (f : _) (os : ByKey) (x y : Option (List ℕ)) (s : Statement) → release_of f os x y ≡ Some s → AreasFit s
released_fit f os (Some x) (Some y) s e = one_fits _ s e tt
released_fit f os (Some x) None s e = none_some e
released_fit f os None (Some y) s e = none_some e
released_fit f os None None s e = one_fits _ s e tt

other_fits : (m : Meaning) → IsOther m → (form : List ℕ) (os : ByKey) (s : Statement) → statement_of m form os ≡ Some s → AreasFit s
other_fits grammar.IsRegion i form os s e = said_fits (os.under (codes "BELOW")) _ s e (λ x _ e. one_fits _ s e tt)
other_fits (grammar.Obtains lengths name) i form os s e = said_fits (os.under lengths) _ s e (λ x _ e. said_fits (os.under name) _ s e (λ y _ e. one_fits _ s e tt))
other_fits grammar.ObtainsList i form os s e = absurd i
other_fits (grammar.Releases len address) i form os s e = released_fit _ os (os.under len) (os.under address) s e
other_fits grammar.ReleasesArea i form os s e = said_fits (os.under (codes "A")) _ s e (λ x _ e. one_fits _ s e tt)
other_fits grammar.ReleasesList i form os s e = said_fits (os.under (codes "LA")) _ s e (λ x _ e. said_fits (os.under (codes "A")) _ s e (λ y _ e. one_fits _ s e tt))
other_fits grammar.BuildsPool i form os s e = said_fits (os.under (codes "CPID")) _ s e (λ x _ e. said_fits (os.under (codes "CSIZE")) _ s e (λ y _ e. said_fits (os.under (codes "PCELLCT")) _ s e (λ z _ e. one_fits _ s e tt)))
other_fits grammar.GetsCell i form os s e = said_fits (os.under (codes "CPID")) _ s e (λ x _ e. said_fits (os.under (codes "CELL")) _ s e (λ y _ e. one_fits _ s e tt))
other_fits grammar.FreesCell i form os s e = said_fits (os.under (codes "CPID")) _ s e (λ x _ e. said_fits (os.under (codes "CELL")) _ s e (λ y _ e. one_fits _ s e tt))
other_fits grammar.DeletesPool i form os s e = said_fits (os.under (codes "CPID")) _ s e (λ x _ e. one_fits _ s e tt)
other_fits grammar.Attaches i form os s e = said_fits (os.under (codes "TASK")) _ s e (λ x _ e. one_fits _ s e tt)
other_fits grammar.Returns i form os s e = one_fits _ s e tt
other_fits grammar.Abends i form os s e = said_fits (os.at 0) _ s e (λ x _ e. one_fits _ s e tt)
other_fits grammar.Puts i form os s e = said_fits (os.at 0) _ s e (λ x _ e. said_fits (os.at 1) _ s e (λ y _ e. one_fits _ s e tt))
other_fits grammar.Shows i form os s e = said_fits (os.at 0) _ s e (λ x _ e. said_fits (os.at 1) _ s e (λ y _ e. one_fits _ s e tt))
other_fits grammar.Moves i form os s e = said_fits (os.at 0) _ s e (λ x _ e. said_fits (os.at 1) _ s e (λ y _ e. said_fits (os.at 2) _ s e (λ z _ e. one_fits _ s e tt)))
other_fits grammar.AsksWhere i form os s e = said_fits (os.at 0) _ s e (λ x _ e. one_fits _ s e tt)
other_fits grammar.Reports i form os s e = one_fits _ s e (at (bytes_eq form (codes "MAP"))) where
  at : (b : Bool) → AreasFit (cond b says.ReportMap says.ReportSubpools)
  at true = tt
  at false = tt

other : (row : Row) → IsOther row.meaning → IsFit row
other row i form os s ok rules e = other_fits row.meaning i form (by_key os) s e

all_fit : AllByRecursion IsFit table
all_fit = (
  other grammar.region tt,
  (
    other grammar.getmain_fixed tt,
    (
      other grammar.getmain_fixed_placed tt,
      (
        other grammar.getmain_variable tt,
        (
          other grammar.getmain_variable_placed tt,
          (
            list_fits,
            (
              other grammar.storage_obtain tt,
              (
                other grammar.freemain_or_whole tt,
                (
                  other grammar.freemain_place tt,
                  (
                    other grammar.freemain_area tt,
                    (
                      other grammar.freemain_list tt,
                      (
                        other grammar.storage_release tt,
                        (
                          other grammar.cpool_build tt,
                          (
                            other grammar.cpool_get tt,
                            (
                              other grammar.cpool_free tt,
                              (
                                other grammar.cpool_delete tt,
                                (other grammar.attach tt, (other grammar.return_row tt, (other grammar.abend tt, (other grammar.put tt, (other grammar.show tt, (other grammar.move tt, (other grammar.where_row tt, (other grammar.report tt, tt)))))))),
                              ),
                            ),
                          ),
                        ),
                      ),
                    ),
                  ),
                ),
              ),
            ),
          ),
        ),
      ),
    ),
  ),
)

-- ---- the line

abbrev pub LineFits : Line → Type 0
LineFits line.Nothing = Unit {0}
LineFits (line.Statement t s) = AreasFit s

row_found : (operation : List ℕ) (operands : List (List ℕ)) (row : Row) → row_of operation operands ≡ Some row → IsFit row
row_found operation operands row e = found_has IsFit _ (rows_of operation) row (passing_have IsFit (λ row. bytes_eq row.operation operation) table all_fit) e

-- the checks after those of the operands
abbrev last_checks : Row → ByKey → List (Fault × Bool)
last_checks row os = MissingOperand when (lacks_positional row os || lacks_keyword row os || list_any (is_half os) row.rules) ∷ Conflicting when list_any (is_conflict os) row.rules ∷ []

row_fits : (form : List ℕ) (operands : List (List ℕ)) (row : Row) (s : Statement) → IsFit row → first_of (row_checks operands (Some row)) ≡ None → statement_of row.meaning form (by_key (operands_after_form row operands)) ≡ Some s → AreasFit s
row_fits form operands row s fit e is =
    let checks = flat_map (operand_checks row) (with_left (operands_after_form row operands)) in
    let trailing = last_checks row (by_key (operands_after_form row operands)) in
    fit form (operands_after_form row operands) s (none_in_front checks trailing e) (first_fails (drop 1 trailing) (none_later 1 trailing (none_beyond checks trailing e))) is

statement_fits : (first : Bool) (task operation : List ℕ) (operands : List (List ℕ)) (l : Line) → first_of (statement_checks first task operation operands) ≡ None → said_with task (form_in operation operands) operands (row_of operation operands) ≡ Some l → LineFits l
statement_fits first task operation operands l e said = at (none_later 5 (statement_checks first task operation operands) e) (row_of operation operands) refl said where
  at : first_of (row_checks operands (row_of operation operands)) ≡ None → (o : Option Row) → row_of operation operands ≡ o → said_with task (form_in operation operands) operands o ≡ Some l → LineFits l
  at rest None found is = none_some is
  at rest (Some row) found is =
      stated (statement_of row.meaning (form_in operation operands) (by_key (operands_after_form row operands))) is (λ s es. row_fits (form_in operation operands) operands row s (row_found operation operands row found) (ap (λ o. first_of (row_checks operands o)) (sym found) ∙ rest) es) where
        stated : (o : Option Statement) → (o >>= λ s. Some (line.Statement (padded task) s)) ≡ Some l → ((s : Statement) → o ≡ Some s → AreasFit s) → LineFits l
        stated None e h = none_some e
        stated (Some s) e h = let same : line.Statement (padded task) s ≡ l = (let g : Some (line.Statement (padded task) s) ≡ Some l = e in cc) in subst LineFits same (h s refl)

-- what a line says that is read
pub line_fits : (first : Bool) (bytes : List ℕ) (l : Line) → LineOf first bytes l → LineFits l
line_fits first bytes l is =
    (elim (is_blank_or_comment bytes) as (λ b. first_of (if b then [] else statement_checks first (task_in bytes) (operation_in bytes) (operands_of bytes)) ≡ None → (if b then Some line.Nothing else said_with (task_in bytes) (form_in (operation_in bytes) (operands_of bytes)) (operands_of bytes) (row_of (operation_in bytes) (operands_of bytes))) ≡ Some l → LineFits l) [
      | true ↦ λ e said. let same : line.Nothing ≡ l = (let g : Some line.Nothing ≡ Some l = said in cc) in subst LineFits same tt
      | false ↦ λ e said. statement_fits first (task_in bytes) (operation_in bytes) (operands_of bytes) l e said
    ]) (none_later 2 (checks first bytes) is.no_fault) is.says
