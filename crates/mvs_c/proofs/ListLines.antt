-- The statements that have lists.
use Rattle.std.proofs.Common.{◌≡◌, ◌⊎◌, refl, sym, subst, ap, ◌∙◌, ℕ, ◌+◌, ◌==◌, ◌<◌, ◌≤◌, ◌^◌, Bool, true, false, List, [], ◌∷◌, ◌++◌, length, map, Option, None, Some, option_map, codes, decimal, nat_lt, append-nil, append_assoc, arith, lit<}
use Rattle.std.proofs.lemmas.List.{length-map}
use Rattle.std.specs.List.{AllByRecursion}
use Rattle.std.specs.FinMap.{FinMap}
use Rattle.mvs_model.specs.declared.code.Form.{Form}
use Rattle.mvs_model.specs.declared.line.Line.TheVariants as line
use Rattle.mvs_model.specs.declared.line.Location.TheVariants.{Absolute}
use Rattle.mvs_model.specs.declared.line.SourceRequest.{SourceRequest}
use Rattle.mvs_model.specs.declared.line.SourceRequest.TheVariants as written
use Rattle.mvs_model.specs.declared.line.Statement.TheVariants as says
use Rattle.mvs_model.specs.Grammar.{DistinctNames, Addresses}
use Rattle.mvs_model.specs.Name.{name_cmp, padded}
use Rattle.mvs_model.specs.Place.{PlaceValue, place_at}
use Rattle.mvs_model.specs.Reading.{LineOf, is_empty, is_name, items, location, number}
use Rattle.mvs_model.specs.Resolving.{places_of}
use Rattle.mvs_model.specs.Spelling.{AreBetween, absolute_text, keyword_text, line_text, list_text}
use Rattle.mvs_model.specs.Spellings.{SpellsList, SpellsReleaseList, Operand, AllFit, must, sp, bndry, filled, length_list_kind}
use Rattle.mvs_c.proofs.ListRows.{addresses_are, in_parens, lengths_are, lengths_count, locations_are, names_are, names_count, same_count}
use Rattle.mvs_c.proofs.StatementRows.{IsLine, boundary_fits, boundary_is, freemain, getmain, row3, row6, row7, short_line, sub_is}
use Rattle.mvs_c.specs.ListStatements.{area_names, each_text}
use Rattle.mvs_c.specs.Statements.{boundary_word}

-- ---- GETMAIN

abbrev pub listed_by : {X : Type 0} → List ℕ → List ℕ → List X → ℕ → ℕ → List Operand
listed_by ns base xs s start = must (codes "LA") length_list_kind (list_text (map decimal ns)) ∷ must (codes "A") (DistinctNames 16) (list_text (area_names base 65 xs)) ∷ sp (Some (decimal s)) ∷ bndry (Some (boundary_word start)) ∷ []

pub list_is : {X : Type 0} (word : List ℕ) (f : Form) → SpellsList word f → (task base ns : List ℕ) (xs : List X) (s start : ℕ) → is_name task ≡ true → is_name base ≡ true → length base ≤ 7
    → length ns ≡ length xs → 1 ≤ length xs → length xs ≤ 16 → is_empty ns ≡ false → AreBetween 1 2147483647 ns → s < 256 → (start ≡ 3) ⊎ (start ≡ 12)
    → (few : length (getmain task word (listed_by ns base xs s start)) ≤ 240) → IsLine task (getmain task word (listed_by ns base xs s start)) (written.ObtainList f s ns start (map padded (area_names base 65 xs)))
list_is word f spells task base ns xs s start named base_named short same some most ns_some between low at few =
    let ns_few : length ns ≤ 16 = omega (arith, same, most) in
    let lens = lengths_are ns ns_some ns_few between in let names = names_are base xs base_named short some most in let sub = sub_is s low in
    let fits : AllFit (listed_by ns base xs s start) = record { each = (lens.0, (names.0, (sub.0.fits, (boundary_fits start, tt)))) } in
    let count = same_count _ _ (length xs) (lengths_count ns ns_some ns_few between ∙ same) (ap length names.1 ∙ names_count base 65 xs) in
    subst (λ r. IsLine task (getmain task word (listed_by ns base xs s start)) r)
    (λ i. written.ObtainList f (sub.1 i) (lens.1 i) (boundary_is start at i) (map padded (names.1 i)))
    (spells (list_text (map decimal ns)) (list_text (area_names base 65 xs)) (Some (decimal s)) (Some (boundary_word start)) count fits task named (short_line _ few))

-- ---- FREEMAIN

abbrev pub places_by : List ℕ → List ℕ → ℕ → List Operand
places_by ns at_all s = must (codes "LA") length_list_kind (list_text (map decimal ns)) ∷ must (codes "A") (Addresses 16) (list_text (map absolute_text at_all)) ∷ sp (Some (decimal s)) ∷ []

pub release_list_is : (word : List ℕ) (f : Form) → SpellsReleaseList word f → (task ns at_all : List ℕ) (s : ℕ) → is_name task ≡ true → length ns ≡ length at_all → length ns ≤ 16 → is_empty ns ≡ false → is_empty at_all ≡ false
    → AreBetween 1 2147483647 ns → AllByRecursion (λ a. a < 2 ^ 31) at_all → s < 256
    → (few : length (freemain task word (places_by ns at_all s)) ≤ 240) → IsLine task (freemain task word (places_by ns at_all s)) (written.ReleaseList f s (map Absolute at_all) ns)
release_list_is word f spells task ns at_all s named same most ns_some some between addresses low few =
    let lens = lengths_are ns ns_some most between in let at = addresses_are at_all addresses some (omega (arith, same, most)) in let sub = sub_is s low in
    let fits : AllFit (places_by ns at_all s) = record { each = (lens.0, (at.0, (sub.0.fits, tt))) } in
    let count = same_count _ _ (length at_all) (lengths_count ns ns_some most between ∙ same) (ap length at.1 ∙ length-map at_all absolute_text) in
    subst (λ r. IsLine task (freemain task word (places_by ns at_all s)) r)
    (λ i. written.ReleaseList f (sub.1 i) ((ap (map location) at.1 ∙ locations_are at_all addresses) i) (lens.1 i))
    (spells (list_text (map decimal ns)) (list_text (map absolute_text at_all)) (Some (decimal s)) count fits task named (short_line _ few))

-- ---- in a row

row8 : (a b c d e f g h : List ℕ) → a ++ b ++ c ++ d ++ e ++ f ++ g ++ h ≡ a ++ (b ++ (c ++ (d ++ (e ++ (f ++ (g ++ h))))))
row8 a b c d e f g h = append_assoc (a ++ b ++ c ++ d ++ e ++ f) g h ∙ row7 a b c d e f (g ++ h)

-- two lists in parentheses, after a word and before the rest
pub two_lists : (word : List ℕ) (one other : List (List ℕ)) (rest : List ℕ) → is_empty one ≡ false → is_empty other ≡ false
    → word ++ (each_text 40 one ++ (codes "),A=" ++ (each_text 40 other ++ (41 ∷ rest)))) ≡ word ++ (list_text one ++ (codes ",A=" ++ (list_text other ++ rest)))
two_lists word one other rest some others =
    ap (λ (t : List ℕ). word ++ (each_text 40 one ++ (codes "),A=" ++ t))) (in_parens other others rest)
    ∙ ap (λ (t : List ℕ). word ++ t) (in_parens one some (codes ",A=" ++ (list_text other ++ rest)))

pub obtain_row : (task word : List ℕ) (one other : List (List ℕ)) (s b : List ℕ) → is_empty one ≡ false → is_empty other ≡ false
    → task ++ codes " " ++ (word ++ each_text 40 one ++ codes "),A=" ++ each_text 40 other ++ codes "),SP=" ++ s ++ codes ",BNDRY=" ++ b)
    ≡ task ++ (codes " " ++ (word ++ (list_text one ++ (codes ",A=" ++ (list_text other ++ (codes ",SP=" ++ (s ++ (codes ",BNDRY=" ++ b))))))))
obtain_row task word one other s b some others =
    row3 task (codes " ") _ ∙ ap (λ (t : List ℕ). task ++ (codes " " ++ t)) (row8 word (each_text 40 one) (codes "),A=") (each_text 40 other) (codes "),SP=") s (codes ",BNDRY=") b ∙ two_lists word one other (codes ",SP=" ++ (s ++ (codes ",BNDRY=" ++ b))) some others)

pub release_row : (task word : List ℕ) (one other : List (List ℕ)) (s : List ℕ) → is_empty one ≡ false → is_empty other ≡ false
    → task ++ codes " " ++ (word ++ each_text 40 one ++ codes "),A=" ++ each_text 40 other ++ codes "),SP=" ++ s)
    ≡ task ++ (codes " " ++ (word ++ (list_text one ++ (codes ",A=" ++ (list_text other ++ (codes ",SP=" ++ s))))))
release_row task word one other s some others =
    row3 task (codes " ") _ ∙ ap (λ (t : List ℕ). task ++ (codes " " ++ t)) (row6 word (each_text 40 one) (codes "),A=") (each_text 40 other) (codes "),SP=") s ∙ two_lists word one other (codes ",SP=" ++ s) some others)

-- ---- the places of a release

pub places_are : {X : Type 0} (names : FinMap name_cmp PlaceValue) (address len : X → ℕ) (xs : List X) → places_of names (map Absolute (map address xs)) (map len xs) ≡ Some (map (λ x. place_at (address x) (len x)) xs)
places_are names address len [] = refl
places_are names address len (x ∷ xs) = ap (λ o. option_map (λ ps. place_at (address x) (len x) ∷ ps) o) (places_are names address len xs)
