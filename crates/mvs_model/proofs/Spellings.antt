-- How each statement is written: what the table allows, row by row.
use Rattle.std.proofs.Common.{◌≡◌, refl, ◌||◌, ◌&&◌, not, true, false, ℕ, ◌==◌, List, [], ◌∷◌, ◌++◌, map, length, ap, ◌∙◌, Option, None, Some, IfSome, is_some, codes, slice_get, unwrap_or, if◌then◌else◌, arith}
use Rattle.std.specs.List.{list_all, list_any}
use Rattle.std.proofs.lemmas.Bool.{and_right, and_parts, not-true}
use Rattle.std.proofs.lemmas.Bool.Decides.{nat_tests}
use Rattle.std.proofs.lemmas.Grind.{common_steps}
use Rattle.mvs_model.proofs.Types.{Form, TooLong, InvalidByte, UnknownOperation}
use Rattle.mvs_model.specs.declared.code.Form.TheVariants as form
use Rattle.mvs_model.specs.declared.line.Line.TheVariants as line
use Rattle.mvs_model.specs.declared.line.Statement.TheVariants as says
use Rattle.mvs_model.specs.declared.line.SourceRequest.TheVariants as written
use Rattle.mvs_model.specs.Name.{padded}
use Rattle.mvs_model.specs.Grammar.{Number, DistinctNumbers, Word, Row, region, getmain_fixed, getmain_fixed_placed, getmain_variable, getmain_variable_placed, getmain_list, storage_obtain, freemain_or_whole, freemain_place, freemain_area, freemain_list, storage_release, cpool_build, cpool_get, cpool_free, cpool_delete, attach, abend, put, show, move, where_row, report}
use Rattle.mvs_model.specs.Reading.{◌when◌, first_of, form_in, operands_in, operands_of, row_of, rows_of, statement_checks, words, ByKey, form_of, has_key, hex_number, is_conditional, is_digit, is_empty, is_list, is_number, is_one_of, is_text, items, largest, location, number, numbers_in, set_of, smallest}
use Rattle.mvs_model.specs.Spelling.{line_text, Fits, IsOperand}
use Rattle.mvs_model.specs.Spellings.{EachIsSpelled, SpellsStatement, SpellsFixed, SpellsPlaced, SpellsVariable, SpellsVariablePlaced, SpellsList, SpellsRelease, SpellsWhole, SpellsArea, SpellsReleaseList, SpellsGet, SpellsAttach, AllFit, NotBoth, spelled_ask, fill_spelling, length_kind, lengths_kind, number_spelling, numbers_spelling, placed_operands, residence_spelling, sized_operands, start_spelling}
use Rattle.mvs_model.proofs.Filled.{said, filled_is_read, filled_form_is_read}
use Rattle.mvs_model.proofs.Reading.{said_with}
use Rattle.mvs_model.proofs.Spelling.{cut_apart}
use Rattle.mvs_model.proofs.ValueTexts.{not_list}

-- no keyword operands
nothing_keyed : AllFit []
nothing_keyed = record { each = tt }

-- ---- lengths

-- one number is no list
no_list : (least most : ℕ) (n : List ℕ) → Fits (Number least most) n → is_list n ≡ false
no_list least most n fits = let a = and_parts (not (is_empty n)) (list_all is_digit n) fits.of_kind in not_list n a.1 (not-true _ a.0)

largest_is : (n : List ℕ) → Fits length_kind n → largest n ≡ number n
largest_is n fits = ap (λ t. if t then number (unwrap_or (slice_get (items n) 0) []) else number n) (no_list _ _ n fits)

smallest_is : (n : List ℕ) → Fits length_kind n → smallest n ≡ number n
smallest_is n fits = ap (λ t. if t then number (unwrap_or (slice_get (items n) 1) []) else number n) (no_list _ _ n fits)

-- a largest and a smallest length are a list
a_pair : (n : List ℕ) → Fits lengths_kind n → is_list n ≡ true
a_pair n fits = (and_parts (is_list n) _ (and_parts (is_list n && (length (items n) == 2)) (list_all is_number (items n)) fits.of_kind).0).0

-- ---- GETMAIN

-- a word is one of a row's forms, and this form
abbrev IsWordOf : Row → List ℕ → Form → Type 0
IsWordOf row word f = ((is_empty row.forms || is_one_of row.forms word) ≡ true) × ((os : ByKey) → form_of word os ≡ f)

fixed : (word : List ℕ) (f : Form) → IsWordOf getmain_fixed word f → SpellsFixed word f
fixed word f is n area sub boundary fit =
    let os = sized_operands length_kind n area sub boundary in
    let fits : Fits length_kind n = fit.each.0 in
    filled_is_read false 1 getmain_fixed word [] os _ refl is.0 refl refl tt refl refl
    (λ i. Some (says.Request (written.Obtain (is.1 (said [] os) i) (number_spelling 0 sub) (spelled_ask (smallest_is n fits i) (largest_is n fits i) boundary None None None) (no_list _ _ n fits i) (padded area)))) fit

variable : (word : List ℕ) (f : Form) → IsWordOf getmain_variable word f → SpellsVariable word f
variable word f is n area sub boundary fit =
    let os = sized_operands lengths_kind n area sub boundary in
    filled_is_read false 3 getmain_variable word [] os _ refl is.0 refl refl tt refl refl
    (λ i. Some (says.Request (written.Obtain (is.1 (said [] os) i) (number_spelling 0 sub) (spelled_ask (smallest n) (largest n) boundary None None None) (a_pair n fit.each.0 i) (padded area)))) fit

-- BNDRY with neither STARTBDY nor CONTBDY
no_conflict : (boundary start within : Option (List ℕ)) → NotBoth boundary start → NotBoth boundary within → ((is_some boundary && is_some start) || ((is_some boundary && is_some within) || false)) ≡ false
no_conflict boundary start within one other = λ i. one i || (other i || false)

placed : (word : List ℕ) (f : Form) → IsWordOf getmain_fixed_placed word f → SpellsPlaced word f
placed word f is n area sub boundary place start within one other fit =
    let os = placed_operands length_kind n area sub boundary place start within in
    let fits : Fits length_kind n = fit.each.0 in
    filled_is_read false 2 getmain_fixed_placed word [] os _ refl is.0 refl refl tt (no_conflict boundary start within one other) refl
    (λ i. Some (says.Request (written.Obtain (is.1 (said [] os) i) (number_spelling 0 sub) (spelled_ask (smallest_is n fits i) (largest_is n fits i) boundary place start within) (no_list _ _ n fits i) (padded area)))) fit

variable_placed : (word : List ℕ) (f : Form) → IsWordOf getmain_variable_placed word f → SpellsVariablePlaced word f
variable_placed word f is n area sub boundary place start within one other fit =
    let os = placed_operands lengths_kind n area sub boundary place start within in
    filled_is_read false 4 getmain_variable_placed word [] os _ refl is.0 refl refl tt (no_conflict boundary start within one other) refl
    (λ i. Some (says.Request (written.Obtain (is.1 (said [] os) i) (number_spelling 0 sub) (spelled_ask (smallest n) (largest n) boundary place start within) (a_pair n fit.each.0 i) (padded area)))) fit

-- as many items under each of two keys
as_many : (one other : List ℕ) → (length (items one) == length (items other)) ≡ true → (not (length (items one) == length (items other)) || false) ≡ false
as_many one other same = ap (λ t. not t || false) same

list : (word : List ℕ) (f : Form) → IsWordOf getmain_list word f → SpellsList word f
list word f is n areas sub boundary same =
    filled_form_is_read 5 getmain_list word _ f (λ t. says.Request (written.ObtainList t (number_spelling 0 sub) (map number (items n)) (start_spelling boundary None) (map padded (items areas))))
    refl is.0 is.1 refl refl (as_many n areas same) refl

-- ---- FREEMAIN

release : (word : List ℕ) (f : Form) → IsWordOf freemain_or_whole word f → SpellsRelease word f
release word f is n address sub = filled_form_is_read 7 freemain_or_whole word _ f (λ t. says.Request (written.Release t (number_spelling 0 sub) (location address) (number n))) refl is.0 is.1 refl refl refl refl

whole : (word : List ℕ) (f : Form) → IsWordOf freemain_or_whole word f → SpellsWhole word f
whole word f is sub = filled_form_is_read 7 freemain_or_whole word _ f (λ t. says.Request (written.ReleaseWhole t (number_spelling 0 sub))) refl is.0 is.1 refl refl refl refl

release_place : (word : List ℕ) (f : Form) → IsWordOf freemain_place word f → SpellsRelease word f
release_place word f is n address sub = filled_form_is_read 8 freemain_place word _ f (λ t. says.Request (written.Release t (number_spelling 0 sub) (location address) (number n))) refl is.0 is.1 refl refl refl refl

release_area : (word : List ℕ) (f : Form) → IsWordOf freemain_area word f → SpellsArea word f
release_area word f is area sub = filled_form_is_read 9 freemain_area word _ f (λ t. says.Request (written.ReleaseArea t (number_spelling 0 sub) (padded area))) refl is.0 is.1 refl refl refl refl

release_list : (word : List ℕ) (f : Form) → IsWordOf freemain_list word f → SpellsReleaseList word f
release_list word f is n addresses sub same =
    filled_form_is_read 10 freemain_list word _ f (λ t. says.Request (written.ReleaseList t (number_spelling 0 sub) (map location (items addresses)) (map number (items n))))
    refl is.0 is.1 refl refl (as_many n addresses same) refl

-- ---- CPOOL GET

-- a word of a row
a_word : (word : List ℕ) (words : List (List ℕ)) → is_one_of words word ≡ true → IsOperand word → Fits (Word words) word
a_word word words one is = record { of_kind = one; within = refl; once = refl; operand = is }

got : (word : List ℕ) → is_one_of (codes "COND" ∷ codes "C" ∷ codes "UNCOND" ∷ codes "U" ∷ []) word ≡ true → IsOperand word → has_key word ≡ false → SpellsGet (word ∷ []) (is_conditional (Some word))
got word one is no_key pool cell = filled_is_read false 13 cpool_get (codes "GET") (word ∷ []) _ _ refl refl refl refl (a_word word _ one is, no_key, tt) refl refl refl

-- ---- ATTACH

-- a number, or the numbers of a list
numbers_are : (one all : Option (List ℕ)) → NotBoth one all → IfSome one (Fits (Number 1 127)) → IfSome all (Fits (DistinctNumbers 1 127)) → numbers_in one ++ numbers_in all ≡ numbers_spelling one all
numbers_are one all h1 h2 h3 = grind (arith, nat_tests, no_list)

attached : SpellsAttach
attached name gives gives_all shares shares_all zero home one other apart fit =
    let given = numbers_are gives gives_all one fit.each.1.0 fit.each.1.1.0 in
    let shared = numbers_are shares shares_all other fit.each.1.1.1.0 fit.each.1.1.1.1.0 in
    filled_is_read false 16 attach [] [] _ _ refl refl refl refl tt
    ((λ i. one i || (other i || (list_any (λ n. list_any (◌==◌ n) (shared i)) (given i) || false))) ∙ ap (λ t. t || false) apart) refl
    (λ i. Some (says.Request (written.Attach (padded name) (record { given = set_of (given i); shared = set_of (shared i); zero = not (is_text (codes "NO") zero) }) (residence_spelling home)))) fit

return_read : SpellsStatement (codes "RETURN") [] (says.Request written.Return)
return_read task named short =
    let bytes = line_text task (codes "RETURN") [] in
    let cut = cut_apart task (codes "RETURN") [] named (record { some = refl; printed = refl }) tt in
    let none : operands_of bytes ≡ [] = (λ i. if list_any (λ row. row.has_field) (rows_of (unwrap_or (cut.operation_is i) [])) then operands_in (slice_get (words bytes) 2) else []) in
    record {
      no_fault =
          (λ i. first_of (TooLong when short i ∷ InvalidByte when not (cut.plain i) ∷ (if cut.says i then [] else statement_checks false (cut.task_is i) (unwrap_or (cut.operation_is i) []) (none i))))
          ∙ (λ i. first_of (UnknownOperation when not (named i) ∷ []));
      says =
          (λ i. if cut.says i then Some line.Nothing else said_with (cut.task_is i) (form_in (unwrap_or (cut.operation_is i) []) (none i)) (none i) (row_of (unwrap_or (cut.operation_is i) []) (none i)));
    }

-- the fill byte, or 00
fill_is : (fill : Option (List ℕ)) → hex_number (unwrap_or fill []) ≡ fill_spelling fill
fill_is fill = grind (arith, common_steps)

-- ---- each statement

pub each_is_spelled : EachIsSpelled
each_is_spelled = record {
  region = λ first below above fill home. filled_is_read first 0 region [] [] _ _ refl refl refl refl tt refl (and_right first false refl)
      (λ i. Some (says.Region (number below) (number_spelling 0 above) (fill_is fill i) (residence_spelling home)));
  getmain_r = fixed (codes "R") form.R (refl, λ os. refl);
  getmain_ec = fixed (codes "EC") form.Ec (refl, λ os. refl);
  getmain_eu = fixed (codes "EU") form.Eu (refl, λ os. refl);
  getmain_rc = placed (codes "RC") form.Rc (refl, λ os. refl);
  getmain_ru = placed (codes "RU") form.Ru (refl, λ os. refl);
  getmain_vc = variable (codes "VC") form.Vc (refl, λ os. refl);
  getmain_vu = variable (codes "VU") form.Vu (refl, λ os. refl);
  getmain_vrc = variable_placed (codes "VRC") form.Vrc (refl, λ os. refl);
  getmain_vru = variable_placed (codes "VRU") form.Vru (refl, λ os. refl);
  getmain_lc = list (codes "LC") form.Lc (refl, λ os. refl);
  getmain_lu = list (codes "LU") form.Lu (refl, λ os. refl);
  storage_obtain = λ n area sub boundary place start within cond one other.
      filled_is_read false 6 storage_obtain (codes "OBTAIN") [] _ _ refl refl refl refl tt (no_conflict boundary start within one other) refl refl;
  freemain_r = release (codes "R") form.R (refl, λ os. refl);
  freemain_rc = release (codes "RC") form.Rc (refl, λ os. refl);
  freemain_ru = release (codes "RU") form.Ru (refl, λ os. refl);
  freemain_ec = release_place (codes "EC") form.Ec (refl, λ os. refl);
  freemain_eu = release_place (codes "EU") form.Eu (refl, λ os. refl);
  whole_r = whole (codes "R") form.R (refl, λ os. refl);
  whole_rc = whole (codes "RC") form.Rc (refl, λ os. refl);
  whole_ru = whole (codes "RU") form.Ru (refl, λ os. refl);
  freemain_vc = release_area (codes "VC") form.Vc (refl, λ os. refl);
  freemain_vu = release_area (codes "VU") form.Vu (refl, λ os. refl);
  freemain_lc = release_list (codes "LC") form.Lc (refl, λ os. refl);
  freemain_lu = release_list (codes "LU") form.Lu (refl, λ os. refl);
  storage_release = λ n address sub cond. filled_is_read false 11 storage_release (codes "RELEASE") [] _ _ refl refl refl refl tt refl refl refl;
  storage_whole = λ sub cond. filled_is_read false 11 storage_release (codes "RELEASE") [] _ _ refl refl refl refl tt refl refl refl;
  build = λ pool size primary secondary sub place. filled_is_read false 12 cpool_build (codes "BUILD") [] _ _ refl refl refl refl tt refl refl refl;
  get = λ pool cell. filled_is_read false 13 cpool_get (codes "GET") [] _ _ refl refl refl refl tt refl refl refl;
  get_cond = got (codes "COND") refl (record { word = record { some = refl; printed = refl }; closed = refl }) refl;
  get_c = got (codes "C") refl (record { word = record { some = refl; printed = refl }; closed = refl }) refl;
  get_uncond = got (codes "UNCOND") refl (record { word = record { some = refl; printed = refl }; closed = refl }) refl;
  get_u = got (codes "U") refl (record { word = record { some = refl; printed = refl }; closed = refl }) refl;
  free = λ pool cell. filled_is_read false 14 cpool_free (codes "FREE") [] _ _ refl refl refl refl tt refl refl refl;
  delete = λ pool. filled_is_read false 15 cpool_delete (codes "DELETE") [] _ _ refl refl refl refl tt refl refl refl;
  attach = attached;
  return = return_read;
  abend = λ code fits. filled_is_read false 18 abend [] (code ∷ []) [] _ refl refl refl refl (fits.fits, fits.no_key, tt) refl refl refl nothing_keyed;
  put = λ to bytes fits_to fits_bytes. filled_is_read false 19 put [] (to ∷ bytes ∷ []) [] _ refl refl refl refl (fits_to.fits, fits_to.no_key, (fits_bytes.fits, fits_bytes.no_key, tt)) refl refl refl nothing_keyed;
  show = λ from n fits_from fits_n. filled_is_read false 20 show [] (from ∷ n ∷ []) [] _ refl refl refl refl (fits_from.fits, fits_from.no_key, (fits_n.fits, fits_n.no_key, tt)) refl refl refl nothing_keyed;
  move = λ to from n fits_to fits_from fits_n.
      filled_is_read false 21 move [] (to ∷ from ∷ n ∷ []) [] _ refl refl refl refl (fits_to.fits, fits_to.no_key, (fits_from.fits, fits_from.no_key, (fits_n.fits, fits_n.no_key, tt))) refl refl refl nothing_keyed;
  where_is = λ area fits. filled_is_read false 22 where_row [] (area ∷ []) [] _ refl refl refl refl (fits.fits, fits.no_key, tt) refl refl refl nothing_keyed;
  report_sp = filled_is_read false 23 report (codes "SP") [] [] _ refl refl refl refl tt refl refl refl nothing_keyed;
  report_map = filled_is_read false 23 report (codes "MAP") [] [] _ refl refl refl refl tt refl refl refl nothing_keyed;
}
