-- What the statements say that a script repeats most, written plainly.
use Rattle.std.proofs.Common.{◌≡◌, refl, not, true, false, Bool, ℕ, ◌==◌, ◌+◌, ◌&&◌, suc, List, [], ◌∷◌, ◌++◌, Option, Some, None, ◌≤◌, arith, length, sym, ap, subst, ◌∙◌, append-nil, append_assoc, length-append}
use Rattle.std.specs.Prelude.{IfSome, codes, map, nat_le, nat_lt, slice_index}
use Rattle.std.specs.List.{list_all}
use Rattle.std.proofs.lemmas.Bool.Decides.{nat_tests}
use Rattle.mvs_model.specs.declared.code.Form.{Form}
use Rattle.mvs_model.specs.declared.code.Form.TheVariants as form
use Rattle.mvs_model.specs.declared.line.Line.{Line}
use Rattle.mvs_model.specs.declared.line.Line.TheVariants as line
use Rattle.mvs_model.specs.declared.line.Location.{Location}
use Rattle.mvs_model.specs.declared.line.Location.TheVariants.{Named}
use Rattle.mvs_model.specs.declared.line.Statement.{Statement}
use Rattle.mvs_model.specs.declared.line.Statement.TheVariants as says
use Rattle.mvs_model.specs.declared.line.SourceRequest.TheVariants as written
use Rattle.mvs_model.specs.declared.name.Name.{Name}
use Rattle.mvs_model.specs.declared.want.Loc.{Loc}
use Rattle.mvs_model.specs.declared.want.Loc.TheVariants as loc
use Rattle.mvs_model.specs.Name.{padded}
use Rattle.mvs_model.specs.Want.{AskValue}
use Rattle.mvs_model.specs.Grammar as grammar
use Rattle.mvs_model.specs.Reading.{LineOf, hex_bytes, is_digit, is_empty, is_name, is_name_byte, is_one_of, location, number, quoted}
use Rattle.mvs_model.specs.Spelling.{Fits, IsWord, closes, joined, keyword_text}
use Rattle.mvs_model.specs.Spellings as spellings
use Rattle.mvs_model.specs.Spellings.{SpellsStatement, SpellsFixed, SpellsPlaced, SpellsRelease, filled, length_kind, number_spelling, placed_operands}
use Rattle.mvs_model.proofs.ReadingTaken.{and_true, nat_same}
use Rattle.mvs_model.proofs.Spelling.{plain, printed}
use Rattle.mvs_model.proofs.Spellings.{each_is_spelled}
use Rattle.job_script.specs.Fronts.{IsAddressFront, IsFront, IsNumberFront, IsPooled, IsSized, IsSubpoolFront, SpellsAfter, form_word, get_text, is_remark, is_single, loc_text, may_place}
use Rattle.job_script.specs.Values.{IsSomeBytes}
use Rattle.job_script.proofs.Remarks.{begins_word, with_remark, without_blank}

-- ---- the number of a subpool and the place in storage, where they are written

abbrev FitsSubpool : Option (List ℕ) → Type 0
FitsSubpool sp = IfSome sp (Fits (grammar.Number 0 255))

abbrev subpool_text : Option (List ℕ) → List ℕ
subpool_text None = []
subpool_text (Some sp) = codes ",SP=" ++ sp

abbrev subpool_operand : Option (List ℕ) → List (List ℕ)
subpool_operand None = []
subpool_operand (Some sp) = (codes "SP=" ++ sp) ∷ []

abbrev loc_operand : Loc → List (List ℕ)
loc_operand loc.Any = codes "LOC=ANY" ∷ []
loc_operand loc.Below = codes "LOC=BELOW" ∷ []
loc_operand loc.Res = []

abbrev subpool_number : Option (List ℕ) → ℕ
subpool_number sp = number_spelling 0 sp

fits_subpool : (text : List ℕ) (n : ℕ) (sp : Option (List ℕ)) (rest : List ℕ) → IsSubpoolFront text n sp rest → FitsSubpool sp
fits_subpool text n None rest e = tt
fits_subpool text n (Some sp) rest e = e.1

number_is : (text : List ℕ) (n : ℕ) (sp : Option (List ℕ)) (rest : List ℕ) → IsSubpoolFront text n sp rest → n ≡ subpool_number sp
number_is text n None rest e = e.1
number_is text n (Some sp) rest e = e.2

-- the last operand before them
joined_with : (operand : List ℕ) (sp : Option (List ℕ)) (l : Loc) → joined (operand ∷ (subpool_operand sp ++ loc_operand l)) ≡ operand ++ (subpool_text sp ++ loc_text l)
joined_with operand None loc.Res = sym (append-nil operand)
joined_with operand None loc.Any = refl
joined_with operand None loc.Below = refl
joined_with operand (Some sp) loc.Res = ap (λ t. operand ++ t) (sym (append-nil (codes ",SP=" ++ sp)))
joined_with operand (Some sp) loc.Any = refl
joined_with operand (Some sp) loc.Below = refl

both_are : (text : List ℕ) (n : ℕ) (sp : Option (List ℕ)) (after : List ℕ) (l : Loc) (trailing : List ℕ) → IsSubpoolFront text n sp after → after ≡ loc_text l ++ trailing → text ≡ (subpool_text sp ++ loc_text l) ++ trailing
both_are text n None after l trailing e placed = e.0 ∙ placed
both_are text n (Some sp) after l trailing e placed = e.0 ∙ ap (λ t. codes ",SP=" ++ t) (ap (λ t. sp ++ t) placed ∙ sym (append_assoc sp (loc_text l) trailing))

joined_end : (operand text : List ℕ) (n : ℕ) (sp : Option (List ℕ)) (after : List ℕ) (l : Loc) (trailing : List ℕ) → IsSubpoolFront text n sp after → after ≡ loc_text l ++ trailing
    → operand ++ text ≡ joined (operand ∷ (subpool_operand sp ++ loc_operand l)) ++ trailing
joined_end operand text n sp after l trailing e placed =
    ap (λ t. operand ++ t) (both_are text n sp after l trailing e placed) ∙ sym (append_assoc operand (subpool_text sp ++ loc_text l) trailing) ∙ ap (λ t. t ++ trailing) (sym (joined_with operand sp l))

-- ---- the forms for one area

one_of_three : (P : Form → Type 0) → P form.R → P form.Rc → P form.Ru → (f : Form) → is_single f ≡ true → P f
one_of_three P r rc ru form.R e = r
one_of_three P r rc ru form.Rc e = rc
one_of_three P r rc ru form.Ru e = ru
one_of_three P r rc ru form.Vrc e = absurd (let g : false ≡ true = e in cc)
one_of_three P r rc ru form.Vru e = absurd (let g : false ≡ true = e in cc)
one_of_three P r rc ru form.Ec e = absurd (let g : false ≡ true = e in cc)
one_of_three P r rc ru form.Eu e = absurd (let g : false ≡ true = e in cc)
one_of_three P r rc ru form.Vc e = absurd (let g : false ≡ true = e in cc)
one_of_three P r rc ru form.Vu e = absurd (let g : false ≡ true = e in cc)
one_of_three P r rc ru form.Lc e = absurd (let g : false ≡ true = e in cc)
one_of_three P r rc ru form.Lu e = absurd (let g : false ≡ true = e in cc)
one_of_three P r rc ru form.Storage e = absurd (let g : false ≡ true = e in cc)
one_of_three P r rc ru form.StorageConditional e = absurd (let g : false ≡ true = e in cc)

-- ---- obtains

abbrev asked : List ℕ → Loc → AskValue
asked n l = record { least = number n; most = number n; start = 3; within = None; loc = l }

abbrev obtaining : Form → List ℕ → List ℕ → Option (List ℕ) → Loc → Statement
obtaining f n area sp l = says.Request (written.Obtain f (subpool_number sp) (asked n l) false (padded area))

abbrev Obtains : List ℕ → Form → Loc → Type 0
Obtains word f l =
    (n area : List ℕ) (sp : Option (List ℕ)) → Fits length_kind n → Fits grammar.Name area → FitsSubpool sp
    → SpellsStatement (codes "GETMAIN") (word ∷ (codes "LV=" ++ n) ∷ (codes "A=" ++ area) ∷ (subpool_operand sp ++ loc_operand l)) (obtaining f n area sp l)

-- the word of a location, where one is written
abbrev loc_word : Loc → Option (List ℕ)
loc_word loc.Any = Some (codes "ANY")
loc_word loc.Below = Some (codes "BELOW")
loc_word loc.Res = None

-- a location of the table
loc_fits : (word : List ℕ) → is_one_of (codes "BELOW" ∷ codes "24" ∷ codes "ANY" ∷ codes "31" ∷ codes "RES" ∷ []) word ≡ true → IsWord word → closes 0 word ≡ true
    → Fits (grammar.Word (codes "BELOW" ∷ codes "24" ∷ codes "ANY" ∷ codes "31" ∷ codes "RES" ∷ [])) word
loc_fits word e is closed = record { of_kind = e; within = refl; once = refl; operand = record { word = is; closed = closed } }

word_fits : (l : Loc) → IfSome (loc_word l) (Fits (grammar.Word (codes "BELOW" ∷ codes "24" ∷ codes "ANY" ∷ codes "31" ∷ codes "RES" ∷ [])))
word_fits loc.Any = loc_fits (codes "ANY") refl (record { some = refl; printed = refl }) refl
word_fits loc.Below = loc_fits (codes "BELOW") refl (record { some = refl; printed = refl }) refl
word_fits loc.Res = tt

fixed : (word : List ℕ) (f : Form) → SpellsFixed word f → Obtains word f loc.Res
fixed word f said n area None fits_n fits_area fits_sp = said n area None None (record { each = (fits_n, (fits_area, (tt, (tt, tt)))) })
fixed word f said n area (Some sp) fits_n fits_area fits_sp = said n area (Some sp) None (record { each = (fits_n, (fits_area, (fits_sp, (tt, tt)))) })

placed : (word : List ℕ) (f : Form) (l : Loc) → SpellsPlaced word f → Obtains word f l
placed word f l said n area sp fits_n fits_area fits_sp =
    at sp l (said n area sp None (loc_word l) None None refl refl (record { each = (fits_n, (fits_area, (fits_sp, (tt, (word_fits l, (tt, (tt, tt))))))) })) where
      at : (sp : Option (List ℕ)) (l : Loc)
          → SpellsStatement (codes "GETMAIN") (word ∷ map keyword_text (filled (placed_operands length_kind n area sp None (loc_word l) None None)))
          (says.Request (written.Obtain f (number_spelling 0 sp) (spellings.spelled_ask (number n) (number n) None (loc_word l) None None) false (padded area)))
          → SpellsStatement (codes "GETMAIN") (word ∷ (codes "LV=" ++ n) ∷ (codes "A=" ++ area) ∷ (subpool_operand sp ++ loc_operand l)) (obtaining f n area sp l)
      at None loc.Res said = said
      at None loc.Any said = said
      at None loc.Below said = said
      at (Some sp) loc.Res said = said
      at (Some sp) loc.Any said = said
      at (Some sp) loc.Below said = said

obtains_unplaced : (l : Loc) → may_place form.R l ≡ true → Obtains (codes "R") form.R l
obtains_unplaced loc.Res m = fixed (codes "R") form.R each_is_spelled.getmain_r
obtains_unplaced loc.Any m = absurd (let g : false ≡ true = m in cc)
obtains_unplaced loc.Below m = absurd (let g : false ≡ true = m in cc)

obtains : (f : Form) (l : Loc) → is_single f ≡ true → may_place f l ≡ true → Obtains (form_word f) f l
obtains f l e =
    one_of_three (λ f. may_place f l ≡ true → Obtains (form_word f) f l) (obtains_unplaced l) (λ m. placed (codes "RC") form.Rc l each_is_spelled.getmain_rc)
    (λ m. placed (codes "RU") form.Ru l each_is_spelled.getmain_ru) f e

-- ---- releases

abbrev releasing : Form → List ℕ → List ℕ → Option (List ℕ) → Statement
releasing f n address sp = says.Request (written.Release f (subpool_number sp) (location address) (number n))

abbrev Releases : List ℕ → Form → Type 0
Releases word f =
    (n address : List ℕ) (sp : Option (List ℕ)) → Fits length_kind n → Fits grammar.Address address → FitsSubpool sp
    → SpellsStatement (codes "FREEMAIN") (word ∷ (codes "LV=" ++ n) ∷ (codes "A=" ++ address) ∷ (subpool_operand sp ++ loc_operand loc.Res)) (releasing f n address sp)

place : (word : List ℕ) (f : Form) → SpellsRelease word f → Releases word f
place word f said n address None fits_n fits_address fits_sp = said n address None (record { each = (fits_n, (fits_address, (tt, tt))) })
place word f said n address (Some sp) fits_n fits_address fits_sp = said n address (Some sp) (record { each = (fits_n, (fits_address, (fits_sp, tt))) })

releases : (f : Form) → is_single f ≡ true → Releases (form_word f) f
releases =
    one_of_three (λ f. Releases (form_word f) f) (place (codes "R") form.R each_is_spelled.freemain_r) (place (codes "RC") form.Rc each_is_spelled.freemain_rc)
    (place (codes "RU") form.Ru each_is_spelled.freemain_ru)

-- ---- lines

-- the line of a task with an operation and its operands says this, where it has at most 255 bytes
abbrev SaysLine : List ℕ → List ℕ → Name → Line → Type 0
SaysLine operation field task l =
    (text : List ℕ) → is_name text ≡ true → task ≡ padded text → nat_lt 255 (length (text ++ (32 ∷ (operation ++ (32 ∷ field))))) ≡ false
    → LineOf false (text ++ (32 ∷ (operation ++ (32 ∷ field)))) l

shorter : (a b : List ℕ) → nat_lt 255 (length (a ++ b)) ≡ false → nat_lt 255 (length a) ≡ false
shorter a b e = let long : length (a ++ b) ≡ length a + length b = length-append a b in grind (arith, nat_tests)

-- what stands after the operands says nothing
after_too : (text operation field trailing : List ℕ) (l : Line) → is_name text ≡ true → IsWord operation → begins_word field ≡ true → is_remark trailing ≡ true
    → nat_lt 255 (length (text ++ (32 ∷ (operation ++ (32 ∷ (field ++ trailing)))))) ≡ false
    → (nat_lt 255 (length (text ++ (32 ∷ (operation ++ (32 ∷ field))))) ≡ false → LineOf false (text ++ (32 ∷ (operation ++ (32 ∷ field)))) l)
    → LineOf false (text ++ (32 ∷ (operation ++ (32 ∷ (field ++ trailing))))) l
after_too text operation field [] l named is_word begins e short said =
    subst (λ f. LineOf false (text ++ (32 ∷ (operation ++ (32 ∷ f)))) l) (sym (append-nil field))
    (said (ap (λ f. nat_lt 255 (length (text ++ (32 ∷ (operation ++ (32 ∷ f)))))) (sym (append-nil field)) ∙ short))
after_too text operation field (b ∷ bs) l named is_word begins e short said =
    let a = and_true (b == 32) (list_all plain bs) e in
    let front : List ℕ = text ++ (32 ∷ (operation ++ (32 ∷ field))) in
    let whole : front ++ (32 ∷ bs) ≡ text ++ (32 ∷ (operation ++ (32 ∷ (field ++ (b ∷ bs))))) =
    append_assoc text (32 ∷ (operation ++ (32 ∷ field))) (32 ∷ bs) ∙ ap (λ r. text ++ (32 ∷ r)) (append_assoc operation (32 ∷ field) (32 ∷ bs))
    ∙ ap (λ c. text ++ (32 ∷ (operation ++ (32 ∷ (field ++ (c ∷ bs)))))) (sym (nat_same b 32 a.0)) in
    let short_too : nat_lt 255 (length (front ++ (32 ∷ bs))) ≡ false = ap (λ t. nat_lt 255 (length t)) whole ∙ short in
    subst (λ t. LineOf false t l) whole (with_remark false text operation field bs l named is_word begins a.1 short_too (said (shorter front (32 ∷ bs) short_too)))

printed_begins : (x : List ℕ) (rest : List ℕ) → IsWord x → begins_word (x ++ rest) ≡ true
printed_begins [] rest is = absurd (let f : true ≡ false = is.some in cc)
printed_begins (b ∷ bs) rest is = let a = and_true (printed b) (list_all printed bs) is.printed in grind (arith, nat_tests, a.0)

joined_begins : (x : List ℕ) (xs : List (List ℕ)) → IsWord x → begins_word (joined (x ∷ xs)) ≡ true
joined_begins x [] is = ap begins_word (sym (append-nil x)) ∙ printed_begins x [] is
joined_begins x (y ∷ ys) is = printed_begins x (44 ∷ joined (y ∷ ys)) is

-- what operands say says the field in which they are joined
to_line : (operation field x : List ℕ) (xs : List (List ℕ)) (trailing : List ℕ) (task : Name) (s t : Statement) → SpellsStatement operation (x ∷ xs) s → IsWord operation → IsWord x
    → field ≡ joined (x ∷ xs) ++ trailing → is_remark trailing ≡ true → t ≡ s → SaysLine operation field task (line.Statement task t)
to_line operation field x xs trailing task s t said is_word first whole remark same text named is short =
    let short_too : nat_lt 255 (length (text ++ (32 ∷ (operation ++ (32 ∷ (joined (x ∷ xs) ++ trailing)))))) ≡ false = ap (λ f. nat_lt 255 (length (text ++ (32 ∷ (operation ++ (32 ∷ f)))))) (sym whole) ∙ short in
    let written : LineOf false (text ++ (32 ∷ (operation ++ (32 ∷ (joined (x ∷ xs) ++ trailing))))) (line.Statement (padded text) s) =
    after_too text operation (joined (x ∷ xs)) trailing (line.Statement (padded text) s) named is_word (joined_begins x xs first) remark short_too (said text named) in
    let in_field : LineOf false (text ++ (32 ∷ (operation ++ (32 ∷ field)))) (line.Statement (padded text) s) =
    subst (λ f. LineOf false (text ++ (32 ∷ (operation ++ (32 ∷ f)))) (line.Statement (padded text) s)) (sym whole) written in
    subst (λ u. LineOf false (text ++ (32 ∷ (operation ++ (32 ∷ field)))) u) (λ i. line.Statement (sym is i) (sym same i)) in_field

-- a word of letters
word : (text : List ℕ) → is_empty text ≡ false → list_all printed text ≡ true → IsWord text
word text some are = record { some = some; printed = are }

form_is_word : (f : Form) → is_single f ≡ true → IsWord (form_word f)
form_is_word = one_of_three (λ f. IsWord (form_word f)) (word (codes "R") refl refl) (word (codes "RC") refl refl) (word (codes "RU") refl refl)

-- the operands of a request for one area or of its release
sized_field : (field : List ℕ) (f : Form) (n : ℕ) (digits rest area after : List ℕ) (sub : ℕ) (sp : Option (List ℕ)) (last : List ℕ) (l : Loc) (trailing : List ℕ) → IsSized field f n digits rest → rest ≡ area ++ after
    → IsSubpoolFront after sub sp last → last ≡ loc_text l ++ trailing → field ≡ joined (form_word f ∷ (codes "LV=" ++ digits) ∷ (codes "A=" ++ area) ∷ (subpool_operand sp ++ loc_operand l)) ++ trailing
sized_field field f n digits rest area after sub sp last l trailing sized whole end placed =
    let from_area : codes "A=" ++ rest ≡ joined ((codes "A=" ++ area) ∷ (subpool_operand sp ++ loc_operand l)) ++ trailing = ap (λ t. codes "A=" ++ t) whole ∙ joined_end (codes "A=" ++ area) after sub sp last l trailing end placed in
    let inner : List ℕ = joined ((codes "A=" ++ area) ∷ (subpool_operand sp ++ loc_operand l)) in
    sized.whole ∙ ap (λ t. form_word f ++ (codes ",LV=" ++ (digits ++ (44 ∷ t)))) from_area
    ∙ ap (λ t. form_word f ++ (codes ",LV=" ++ t)) (sym (append_assoc digits (44 ∷ inner) trailing))
    ∙ sym (append_assoc (form_word f) (codes ",LV=" ++ (digits ++ (44 ∷ inner))) trailing)

pub obtain_line : (field : List ℕ) (task : Name) (f : Form) (n : ℕ) (digits rest text after : List ℕ) (area : Name) (sub : ℕ) (sp : Option (List ℕ)) (last : List ℕ) (l : Loc) (trailing : List ℕ) (ask : AskValue)
    → IsSized field f n digits rest → IsFront grammar.Name rest text after → area ≡ padded text → IsSubpoolFront after sub sp last → last ≡ loc_text l ++ trailing → may_place f l ≡ true → is_remark trailing ≡ true
    → ask ≡ record { least = n; most = n; start = 3; within = None; loc = l }
    → SpellsAfter (codes " GETMAIN " ++ field) task (line.Statement task (says.Request (written.Obtain f sub ask false area)))
obtain_line field task f n digits rest text after area sub sp last l trailing ask sized front is end placed may remark asks =
    to_line (codes "GETMAIN") field (form_word f) ((codes "LV=" ++ digits) ∷ (codes "A=" ++ text) ∷ (subpool_operand sp ++ loc_operand l)) trailing task (obtaining f digits text sp l) _
    (obtains f l sized.form_is may digits text sp sized.fits front.alone.fits (fits_subpool after sub sp last end)) (word (codes "GETMAIN") refl refl) (form_is_word f sized.form_is)
    (sized_field field f n digits rest text after sub sp last l trailing sized front.whole end placed) remark
    (λ i. says.Request (written.Obtain f (number_is after sub sp last end i) ((asks ∙ (λ k. record { least = sized.length_is k; most = sized.length_is k; start = 3; within = None; loc = l })) i) false (is i)))

pub release_line : (field : List ℕ) (task : Name) (f : Form) (n : ℕ) (digits rest name text after : List ℕ) (offset : ℕ) (address : Location) (len sub : ℕ) (sp : Option (List ℕ)) (trailing : List ℕ)
    → IsSized field f n digits rest → IsAddressFront rest name offset text after → address ≡ Named (padded name) offset → len ≡ n → IsSubpoolFront after sub sp trailing → is_remark trailing ≡ true
    → SpellsAfter (codes " FREEMAIN " ++ field) task (line.Statement task (says.Request (written.Release f sub address len)))
release_line field task f n digits rest name text after offset address len sub sp trailing sized address_front is same end remark =
    to_line (codes "FREEMAIN") field (form_word f) ((codes "LV=" ++ digits) ∷ (codes "A=" ++ text) ∷ (subpool_operand sp ++ loc_operand loc.Res)) trailing task (releasing f digits text sp) _
    (releases f sized.form_is digits text sp sized.fits address_front.front.alone.fits (fits_subpool after sub sp trailing end)) (word (codes "FREEMAIN") refl refl) (form_is_word f sized.form_is)
    (sized_field field f n digits rest text after sub sp trailing loc.Res trailing sized address_front.front.whole end refl) remark
    (λ i. says.Request (written.Release f (number_is after sub sp trailing end i) ((is ∙ address_front.location_is) i) ((same ∙ sized.length_is) i)))

-- the operands of a request for a cell or of its release
pooled_field : (field name rest text trailing : List ℕ) → IsPooled field name rest → rest ≡ text ++ trailing → field ≡ joined ((codes "CPID=" ++ name) ∷ (codes "CELL=" ++ text) ∷ []) ++ trailing
pooled_field field name rest text trailing pooled whole =
    pooled.whole ∙ ap (λ t. codes "CPID=" ++ (name ++ (codes ",CELL=" ++ t))) whole ∙ ap (λ t. codes "CPID=" ++ t) (sym (append_assoc name (codes ",CELL=" ++ text) trailing))

pub get_line : (conditional : Bool) (field : List ℕ) (task pool cell : Name) (name rest text trailing : List ℕ) → IsPooled field name rest → pool ≡ padded name → IsFront grammar.Name rest text trailing → cell ≡ padded text → is_remark trailing ≡ true
    → SpellsAfter (get_text conditional ++ field) task (line.Statement task (says.Request (written.Get pool conditional cell)))
get_line true field task pool cell name rest text trailing pooled pool_is front is remark =
    to_line (codes "CPOOL") (codes "GET,C," ++ field) (codes "GET") (codes "C" ∷ (codes "CPID=" ++ name) ∷ (codes "CELL=" ++ text) ∷ []) trailing task _ _
    (each_is_spelled.get_c name text (record { each = (pooled.fits, (front.alone.fits, tt)) })) (word (codes "CPOOL") refl refl) (word (codes "GET") refl refl)
    (ap (λ t. codes "GET,C," ++ t) (pooled_field field name rest text trailing pooled front.whole)) remark
    (λ i. says.Request (written.Get (pool_is i) true (is i)))
get_line false field task pool cell name rest text trailing pooled pool_is front is remark =
    to_line (codes "CPOOL") (codes "GET," ++ field) (codes "GET") ((codes "CPID=" ++ name) ∷ (codes "CELL=" ++ text) ∷ []) trailing task _ _
    (each_is_spelled.get name text (record { each = (pooled.fits, (front.alone.fits, tt)) })) (word (codes "CPOOL") refl refl) (word (codes "GET") refl refl)
    (ap (λ t. codes "GET," ++ t) (pooled_field field name rest text trailing pooled front.whole)) remark
    (λ i. says.Request (written.Get (pool_is i) false (is i)))

pub free_line : (field : List ℕ) (task pool : Name) (cell : Location) (name rest area text trailing : List ℕ) (offset : ℕ) → IsPooled field name rest → pool ≡ padded name → IsAddressFront rest area offset text trailing → cell ≡ Named (padded area) offset → is_remark trailing ≡ true
    → SpellsAfter (codes " CPOOL FREE," ++ field) task (line.Statement task (says.Request (written.Free pool cell)))
free_line field task pool cell name rest area text trailing offset pooled pool_is place is remark =
    to_line (codes "CPOOL") (codes "FREE," ++ field) (codes "FREE") ((codes "CPID=" ++ name) ∷ (codes "CELL=" ++ text) ∷ []) trailing task _ _
    (each_is_spelled.free name text (record { each = (pooled.fits, (place.front.alone.fits, tt)) })) (word (codes "CPOOL") refl refl) (word (codes "FREE") refl refl)
    (ap (λ t. codes "FREE," ++ t) (pooled_field field name rest text trailing pooled place.front.whole)) remark
    (λ i. says.Request (written.Free (pool_is i) ((is ∙ place.location_is) i)))

-- a name is short
short_name : (name : List ℕ) → is_name name ≡ true → length name ≤ 8
short_name name e =
    let a = and_true (not (is_empty name) && nat_le (length name) 8 && list_all is_name_byte name) (not (is_digit (slice_index name 0))) e in
    let b = and_true (not (is_empty name) && nat_le (length name) 8) (list_all is_name_byte name) a.0 in
    let c = and_true (not (is_empty name)) (nat_le (length name) 8) b.0 in
    grind (arith, nat_tests, c.1)

pub return_line : (field : List ℕ) (task : Name) → (length field == 0) ≡ true → SpellsAfter (codes " RETURN" ++ field) task (line.Statement task (says.Request written.Return))
return_line [] task none text named is short =
    let long : length (text ++ codes " RETURN ") ≡ length text + 8 = length-append text (codes " RETURN ") in
    let small : length text ≤ 8 = short_name text named in
    let with_blank : nat_lt 255 (length (text ++ codes " RETURN ")) ≡ false = grind (arith, nat_tests) in
    without_blank false text (codes "RETURN") (line.Statement task (says.Request written.Return)) named (word (codes "RETURN") refl refl) short
    (subst (λ u. LineOf false (text ++ codes " RETURN ") (line.Statement u (says.Request written.Return))) (sym is) (each_is_spelled.return text named with_blank))
return_line (b ∷ field) task none text named is short = absurd (let zero : suc (length field) ≡ 0 = nat_same (suc (length field)) 0 none in omega arith)

pub put_line : (field : List ℕ) (task : Name) (to : Location) (bytes : List ℕ) (name text rest after value trailing : List ℕ) (offset : ℕ) → IsAddressFront field name offset text rest → to ≡ Named (padded name) offset → rest ≡ 44 ∷ after
    → IsFront (grammar.Bytes 100) after value trailing → bytes ≡ hex_bytes (quoted value) → is_remark trailing ≡ true → SpellsAfter (codes " PUT " ++ field) task (line.Statement task (says.Request (written.Put to bytes)))
put_line field task to bytes name text rest after value trailing offset place is comma value_front said remark =
    to_line (codes "PUT") field text (value ∷ []) trailing task _ _ (each_is_spelled.put text value place.front.alone value_front.alone) (word (codes "PUT") refl refl) place.front.alone.fits.operand.word
    (place.front.whole ∙ ap (λ t. text ++ t) (comma ∙ ap (λ t. 44 ∷ t) value_front.whole) ∙ sym (append_assoc text (44 ∷ value) trailing)) remark
    (λ i. says.Request (written.Put ((is ∙ place.location_is) i) (said i)))

pub some_bytes : (text value rest : List ℕ) → IsFront (grammar.Bytes 100) text value rest → IsSomeBytes value
some_bytes text value rest front = record { are = front.alone.fits.of_kind; few = grind (arith, nat_tests, front.alone.fits.within) }

pub show_line : (field : List ℕ) (task : Name) (from : Location) (len n : ℕ) (name text rest after digits trailing : List ℕ) (offset : ℕ) → IsAddressFront field name offset text rest → from ≡ Named (padded name) offset → rest ≡ 44 ∷ after
    → IsNumberFront 1 4096 after n digits trailing → len ≡ n → is_remark trailing ≡ true → SpellsAfter (codes " SHOW " ++ field) task (line.Statement task (says.Request (written.Show from len)))
show_line field task from len n name text rest after digits trailing offset place is comma count same remark =
    to_line (codes "SHOW") field text (digits ∷ []) trailing task _ _ (each_is_spelled.show text digits place.front.alone count.front.alone) (word (codes "SHOW") refl refl) place.front.alone.fits.operand.word
    (place.front.whole ∙ ap (λ t. text ++ t) (comma ∙ ap (λ t. 44 ∷ t) count.front.whole) ∙ sym (append_assoc text (44 ∷ digits) trailing)) remark
    (λ i. says.Request (written.Show ((is ∙ place.location_is) i) ((same ∙ count.value) i)))

pub where_line : (field : List ℕ) (task area : Name) (text trailing : List ℕ) → IsFront grammar.Name field text trailing → area ≡ padded text → is_remark trailing ≡ true
    → SpellsAfter (codes " WHERE " ++ field) task (line.Statement task (says.Where area))
where_line field task area text trailing front is remark =
    to_line (codes "WHERE") field text [] trailing task _ _ (each_is_spelled.where_is text front.alone) (word (codes "WHERE") refl refl) front.alone.fits.operand.word front.whole remark (λ i. says.Where (is i))

pub report_line : (field : List ℕ) (task : Name) → is_remark field ≡ true → SpellsAfter (codes " REPORT SP" ++ field) task (line.Statement task says.ReportSubpools)
report_line field task remark =
    to_line (codes "REPORT") (codes "SP" ++ field) (codes "SP") [] field task _ _ each_is_spelled.report_sp (word (codes "REPORT") refl refl) (word (codes "SP") refl refl) refl remark refl

-- what a text says that is known
pub of_text : {X : Type 0} {text known : List ℕ} (o : Option X) (task : Name) (l : Line) → text ≡ known → IfSome o (λ _. SpellsAfter known task l) → IfSome o (λ _. SpellsAfter text task l)
of_text o task l is said = subst (λ t. IfSome o (λ _. SpellsAfter t task l)) (sym is) said

-- the line of a task, and what stands after its name
pub whole_line : {X : Type 0} (o : Option X) (line task rest : List ℕ) (name : Name) (l : Line) → nat_lt 255 (length line) ≡ false → IsFront grammar.Name line task rest → name ≡ padded task
    → IfSome o (λ _. SpellsAfter rest name l) → IfSome o (λ _. LineOf false line l)
whole_line None line task rest name l short front is said = tt
whole_line (Some x) line task rest name l short front is said =
    subst (λ t. LineOf false t l) (sym front.whole) (said task front.alone.fits.of_kind is (ap (λ t. nat_lt 255 (length t)) (sym front.whole) ∙ short))
