-- Operands as they are written fit, and make the statements that have them.
use Rattle.std.proofs.Common.{◌≡◌, ◌⊎◌, refl, sym, subst, ap, ◌∙◌, ℕ, ◌==◌, ◌<◌, ◌≤◌, ◌^◌, Bool, true, false, List, [], ◌∷◌, ◌++◌, length, map, Option, None, Some, IfSome, option_map, codes, decimal, nat_lt, append_assoc, arith, lit<, inl, inr, if◌then◌else◌}
use Rattle.std.proofs.lemmas.Bool.{le-ltb, ne_eqb}
use Rattle.mvs_model.specs.declared.code.Form.{Form}
use Rattle.mvs_model.specs.declared.code.Form.TheVariants as form
use Rattle.mvs_model.specs.declared.line.Line.TheVariants as line
use Rattle.mvs_model.specs.declared.line.Location.TheVariants.{Absolute}
use Rattle.mvs_model.specs.declared.line.SourceRequest.{SourceRequest}
use Rattle.mvs_model.specs.declared.line.SourceRequest.TheVariants as written
use Rattle.mvs_model.specs.declared.line.Statement.TheVariants as says
use Rattle.mvs_model.specs.declared.want.Loc.{Loc}
use Rattle.mvs_model.specs.declared.want.Loc.TheVariants as loc
use Rattle.mvs_model.specs.Grammar.{Kind, Word, Number, NumberOrPair, Pair, Name, Address}
use Rattle.mvs_model.specs.Name.{padded}
use Rattle.mvs_model.specs.Reading.{LineOf, is_name, is_list, largest, smallest, number}
use Rattle.mvs_model.specs.Spelling.{Fits, FitsAlone, absolute_text, keyword_text, line_text, list_text}
use Rattle.mvs_model.specs.Spellings.{SpellsFixed, SpellsPlaced, SpellsVariable, SpellsVariablePlaced, SpellsRelease, SpellsWhole, SpellsGet, Operand, AllFit, cpid, may, must, sp, bndry, loc_word as loc_word_operand, startbdy, contbdy, cond_word, filled, sized_operands, placed_operands, length_kind, lengths_kind, loc_spelling, start_spelling, storage_spelling}
use Rattle.mvs_model.specs.Want.{AskValue, IsExponent}
use Rattle.mvs_model.proofs.Spellings.{each_is_spelled}
use Rattle.mvs_model.proofs.ValueTexts.{each_is_written}
use Rattle.mvs_c.specs.Statements.{boundary_word, loc_word}

-- ---- operands

pub loc_fits : (l : Loc) → Fits (Word (codes "BELOW" ∷ codes "24" ∷ codes "ANY" ∷ codes "31" ∷ codes "RES" ∷ [])) (loc_word l)
loc_fits loc.Res = record { of_kind = refl; within = refl; once = refl; operand = record { word = record { some = refl; printed = refl }; closed = refl } }
loc_fits loc.Below = record { of_kind = refl; within = refl; once = refl; operand = record { word = record { some = refl; printed = refl }; closed = refl } }
loc_fits loc.Any = record { of_kind = refl; within = refl; once = refl; operand = record { word = record { some = refl; printed = refl }; closed = refl } }

pub loc_is : (l : Loc) → loc_spelling (Some (loc_word l)) ≡ l
loc_is loc.Res = refl
loc_is loc.Below = refl
loc_is loc.Any = refl

pub boundary_fits : (n : ℕ) → Fits (Word (codes "DBLWD" ∷ codes "PAGE" ∷ [])) (boundary_word n)
boundary_fits n = elim (n == 12) as (λ b. Fits (Word (codes "DBLWD" ∷ codes "PAGE" ∷ [])) (if b then codes "PAGE" else codes "DBLWD")) [
  | true ↦ record { of_kind = refl; within = refl; once = refl; operand = record { word = record { some = refl; printed = refl }; closed = refl } }
  | false ↦ record { of_kind = refl; within = refl; once = refl; operand = record { word = record { some = refl; printed = refl }; closed = refl } }
]

-- a doubleword or a page
pub boundary_is : (n : ℕ) → (n ≡ 3) ⊎ (n ≡ 12) → start_spelling (Some (boundary_word n)) None ≡ n
boundary_is n (inl e) = subst (λ (m : ℕ). start_spelling (Some (boundary_word m)) None ≡ m) (sym e) refl
boundary_is n (inr e) = subst (λ (m : ℕ). start_spelling (Some (boundary_word m)) None ≡ m) (sym e) refl

-- a number that is not 0
pub not_zero : (n : ℕ) → 1 ≤ n → (n == 0) ≡ false
not_zero n some = ne_eqb n 0 (λ e. omega (arith, some, e))

-- numbers in their ranges
pub sub_is : (n : ℕ) → n < 256 → FitsAlone (Number 0 255) (decimal n) × (number (decimal n) ≡ n)
sub_is n low = each_is_written.number_is 0 255 n (omega arith) (omega (arith, low)) (lit< tt)

pub length_is : (n : ℕ) → 1 ≤ n → n < 2 ^ 31 → FitsAlone (Number 1 2147483647) (decimal n) × (number (decimal n) ≡ n)
length_is n some short = each_is_written.number_is 1 2147483647 n some (omega (arith, short)) (lit< tt)

pub power_is : (n : ℕ) → IsExponent n → FitsAlone (Number 3 31) (decimal n) × (number (decimal n) ≡ n)
power_is n e = each_is_written.number_is 3 31 n e.0 e.1 (lit< tt)

-- a line is short enough
pub short_line : (text : List ℕ) → length text ≤ 240 → nat_lt 255 (length text) ≡ false
short_line text few = le-ltb 255 (length text) (omega (arith, few))

-- ---- GETMAIN

abbrev pub obtained : Form → ℕ → AskValue → Bool → List ℕ → SourceRequest
obtained f s ask variable area = written.Obtain f s ask variable (padded area)

abbrev pub IsLine : List ℕ → List ℕ → SourceRequest → Type 0
IsLine task text r = LineOf false text (line.Statement (padded task) (says.Request r))

abbrev pub getmain : List ℕ → List ℕ → List Operand → List ℕ
getmain task word operands = line_text task (codes "GETMAIN") (word ∷ map keyword_text (filled operands))

pub fixed_is : (word : List ℕ) (f : Form) → SpellsFixed word f → (task area : List ℕ) (n s start : ℕ) → is_name task ≡ true → is_name area ≡ true → 1 ≤ n → n < 2 ^ 31 → s < 256
    → (start ≡ 3) ⊎ (start ≡ 12) → (few : length (getmain task word (sized_operands length_kind (decimal n) area (Some (decimal s)) (Some (boundary_word start)))) ≤ 240)
    → IsLine task (getmain task word (sized_operands length_kind (decimal n) area (Some (decimal s)) (Some (boundary_word start))))
    (obtained f s (record { least = n; most = n; start = start; within = None; loc = loc.Res }) false area)
fixed_is word f spells task area n s start named area_named some short low at few =
    let len = length_is n some short in let sub = sub_is s low in
    let fits : AllFit (sized_operands length_kind (decimal n) area (Some (decimal s)) (Some (boundary_word start)))
    = record { each = (len.0.fits, ((each_is_written.name_is area area_named).fits, (sub.0.fits, (boundary_fits start, tt)))) } in
    subst (λ r. IsLine task (getmain task word (sized_operands length_kind (decimal n) area (Some (decimal s)) (Some (boundary_word start)))) r)
    (λ i. obtained f (sub.1 i) (record { least = len.1 i; most = len.1 i; start = boundary_is start at i; within = None; loc = loc.Res }) false area)
    (spells (decimal n) area (Some (decimal s)) (Some (boundary_word start)) fits task named (short_line _ few))

-- two lengths
pub pair_is : (most least : ℕ) → 1 ≤ least → least ≤ most → most < 2 ^ 31
    → Fits (Pair 1 2147483647) (list_text (decimal most ∷ decimal least ∷ [])) × Fits (NumberOrPair 1 2147483647) (list_text (decimal most ∷ decimal least ∷ []))
    × (largest (list_text (decimal most ∷ decimal least ∷ [])) ≡ most) × (smallest (list_text (decimal most ∷ decimal least ∷ [])) ≡ least)
pair_is most least some ordered short = each_is_written.pair_is 1 2147483647 most least some ordered (omega (arith, short)) (lit< tt)

pub variable_is : (word : List ℕ) (f : Form) → SpellsVariable word f → (task area : List ℕ) (most least s start : ℕ) → is_name task ≡ true → is_name area ≡ true → 1 ≤ least → least ≤ most → most < 2 ^ 31 → s < 256
    → (start ≡ 3) ⊎ (start ≡ 12) → (few : length (getmain task word (sized_operands lengths_kind (list_text (decimal most ∷ decimal least ∷ [])) area (Some (decimal s)) (Some (boundary_word start)))) ≤ 240)
    → IsLine task (getmain task word (sized_operands lengths_kind (list_text (decimal most ∷ decimal least ∷ [])) area (Some (decimal s)) (Some (boundary_word start))))
    (obtained f s (record { least = least; most = most; start = start; within = None; loc = loc.Res }) true area)
variable_is word f spells task area most least s start named area_named some ordered short low at few =
    let len = pair_is most least some ordered short in let sub = sub_is s low in
    let fits : AllFit (sized_operands lengths_kind (list_text (decimal most ∷ decimal least ∷ [])) area (Some (decimal s)) (Some (boundary_word start)))
    = record { each = (len.0, ((each_is_written.name_is area area_named).fits, (sub.0.fits, (boundary_fits start, tt)))) } in
    subst (λ r. IsLine task (getmain task word (sized_operands lengths_kind (list_text (decimal most ∷ decimal least ∷ [])) area (Some (decimal s)) (Some (boundary_word start)))) r)
    (λ i. obtained f (sub.1 i) (record { least = len.3 i; most = len.2 i; start = boundary_is start at i; within = None; loc = loc.Res }) true area)
    (spells (list_text (decimal most ∷ decimal least ∷ [])) area (Some (decimal s)) (Some (boundary_word start)) fits task named (short_line _ few))

-- the boundary that is not crossed
pub within_fits : (w : Option ℕ) → IfSome w IsExponent → IfSome (option_map decimal w) (Fits (Number 3 31))
within_fits None e = tt
within_fits (Some k) e = (power_is k e).0.fits

pub within_is : (w : Option ℕ) → IfSome w IsExponent → option_map number (option_map decimal w) ≡ w
within_is None e = refl
within_is (Some k) e = ap Some (power_is k e).1

-- the operands of a form with a location
abbrev pub placed_by : Kind → List ℕ → List ℕ → ℕ → Loc → ℕ → Option ℕ → List Operand
placed_by kind n area s l start w = placed_operands kind n area (Some (decimal s)) None (Some (loc_word l)) (Some (decimal start)) (option_map decimal w)

pub placed_is : (word : List ℕ) (f : Form) → SpellsPlaced word f → (task area : List ℕ) (n s start : ℕ) (l : Loc) (w : Option ℕ) → is_name task ≡ true → is_name area ≡ true → 1 ≤ n → n < 2 ^ 31 → s < 256
    → IsExponent start → IfSome w IsExponent → (few : length (getmain task word (placed_by length_kind (decimal n) area s l start w)) ≤ 240)
    → IsLine task (getmain task word (placed_by length_kind (decimal n) area s l start w)) (obtained f s (record { least = n; most = n; start = start; within = w; loc = l }) false area)
placed_is word f spells task area n s start l w named area_named some short low at inside few =
    let len = length_is n some short in let sub = sub_is s low in let power = power_is start at in
    let fits : AllFit (placed_by length_kind (decimal n) area s l start w)
    = record { each = (len.0.fits, ((each_is_written.name_is area area_named).fits, (sub.0.fits, (tt, (loc_fits l, (power.0.fits, (within_fits w inside, tt))))))) } in
    subst (λ r. IsLine task (getmain task word (placed_by length_kind (decimal n) area s l start w)) r)
    (λ i. obtained f (sub.1 i) (record { least = len.1 i; most = len.1 i; start = power.1 i; within = within_is w inside i; loc = loc_is l i }) false area)
    (spells (decimal n) area (Some (decimal s)) None (Some (loc_word l)) (Some (decimal start)) (option_map decimal w) refl refl fits task named (short_line _ few))

pub variable_placed_is : (word : List ℕ) (f : Form) → SpellsVariablePlaced word f → (task area : List ℕ) (most least s start : ℕ) (l : Loc) (w : Option ℕ) → is_name task ≡ true → is_name area ≡ true → 1 ≤ least → least ≤ most → most < 2 ^ 31 → s < 256
    → IsExponent start → IfSome w IsExponent → (few : length (getmain task word (placed_by lengths_kind (list_text (decimal most ∷ decimal least ∷ [])) area s l start w)) ≤ 240)
    → IsLine task (getmain task word (placed_by lengths_kind (list_text (decimal most ∷ decimal least ∷ [])) area s l start w)) (obtained f s (record { least = least; most = most; start = start; within = w; loc = l }) true area)
variable_placed_is word f spells task area most least s start l w named area_named some ordered short low at inside few =
    let len = pair_is most least some ordered short in let sub = sub_is s low in let power = power_is start at in
    let n : List ℕ = list_text (decimal most ∷ decimal least ∷ []) in
    let fits : AllFit (placed_by lengths_kind n area s l start w)
    = record { each = (len.0, ((each_is_written.name_is area area_named).fits, (sub.0.fits, (tt, (loc_fits l, (power.0.fits, (within_fits w inside, tt))))))) } in
    subst (λ r. IsLine task (getmain task word (placed_by lengths_kind n area s l start w)) r)
    (λ i. obtained f (sub.1 i) (record { least = len.3 i; most = len.2 i; start = power.1 i; within = within_is w inside i; loc = loc_is l i }) true area)
    (spells n area (Some (decimal s)) None (Some (loc_word l)) (Some (decimal start)) (option_map decimal w) refl refl fits task named (short_line _ few))

-- ---- STORAGE OBTAIN

abbrev pub stored_by : List ℕ → List ℕ → ℕ → Loc → ℕ → Option ℕ → List ℕ → List Operand
stored_by n area s l start w cond =
    must (codes "LENGTH") (NumberOrPair 1 2147483647) n ∷ must (codes "ADDR") Name area ∷ sp (Some (decimal s)) ∷ bndry None ∷ loc_word_operand (Some (loc_word l)) ∷ startbdy (Some (decimal start)) ∷ contbdy (option_map decimal w) ∷ cond_word (Some cond) ∷ []

abbrev pub storage : List ℕ → List ℕ → List Operand → List ℕ
storage task word operands = line_text task (codes "STORAGE") (word ∷ map keyword_text (filled operands))

-- COND=NO and COND=YES
abbrev pub IsCond : List ℕ → Form → Type 0
IsCond cond f = Fits (Word (codes "YES" ∷ codes "NO" ∷ [])) cond × (storage_spelling (Some cond) ≡ f)

pub no_cond : IsCond (codes "NO") form.Storage
no_cond = (record { of_kind = refl; within = refl; once = refl; operand = record { word = record { some = refl; printed = refl }; closed = refl } }, refl)

pub yes_cond : IsCond (codes "YES") form.StorageConditional
yes_cond = (record { of_kind = refl; within = refl; once = refl; operand = record { word = record { some = refl; printed = refl }; closed = refl } }, refl)

pub stored_is : (cond : List ℕ) (f : Form) → IsCond cond f → (n : List ℕ) (least most : ℕ) → Fits (NumberOrPair 1 2147483647) n → largest n ≡ most → smallest n ≡ least
    → (task area : List ℕ) (s start : ℕ) (l : Loc) (w : Option ℕ) → is_name task ≡ true → is_name area ≡ true → s < 256
    → IsExponent start → IfSome w IsExponent → (few : length (storage task (codes "OBTAIN") (stored_by n area s l start w cond)) ≤ 240)
    → IsLine task (storage task (codes "OBTAIN") (stored_by n area s l start w cond)) (obtained f s (record { least = least; most = most; start = start; within = w; loc = l }) (is_list n) area)
stored_is cond f is n least most n_fits most_is least_is task area s start l w named area_named low at inside few =
    let sub = sub_is s low in let power = power_is start at in
    let fits : AllFit (stored_by n area s l start w cond)
    = record { each = (n_fits, ((each_is_written.name_is area area_named).fits, (sub.0.fits, (tt, (loc_fits l, (power.0.fits, (within_fits w inside, (is.0, tt)))))))) } in
    subst (λ r. IsLine task (storage task (codes "OBTAIN") (stored_by n area s l start w cond)) r)
    (λ i. obtained (is.1 i) (sub.1 i) (record { least = least_is i; most = most_is i; start = power.1 i; within = within_is w inside i; loc = loc_is l i }) (is_list n) area)
    (each_is_spelled.storage_obtain n area (Some (decimal s)) None (Some (loc_word l)) (Some (decimal start)) (option_map decimal w) (Some cond) refl refl fits task named (short_line _ few))

-- ---- FREEMAIN and STORAGE RELEASE

abbrev pub freemain : List ℕ → List ℕ → List Operand → List ℕ
freemain task word operands = line_text task (codes "FREEMAIN") (word ∷ map keyword_text (filled operands))

abbrev pub place_by : ℕ → ℕ → ℕ → List Operand
place_by n a s = must (codes "LV") length_kind (decimal n) ∷ must (codes "A") Address (absolute_text a) ∷ sp (Some (decimal s)) ∷ []

pub release_is : (word : List ℕ) (f : Form) → SpellsRelease word f → (task : List ℕ) (n a s : ℕ) → is_name task ≡ true → 1 ≤ n → n < 2 ^ 31 → a < 2 ^ 31 → s < 256
    → (few : length (freemain task word (place_by n a s)) ≤ 240) → IsLine task (freemain task word (place_by n a s)) (written.Release f s (Absolute a) n)
release_is word f spells task n a s named some short address low few =
    let len = length_is n some short in let sub = sub_is s low in let at = each_is_written.absolute_is a address in
    let fits : AllFit (place_by n a s) = record { each = (len.0.fits, (at.0.fits, (sub.0.fits, tt))) } in
    subst (λ r. IsLine task (freemain task word (place_by n a s)) r) (λ i. written.Release f (sub.1 i) (at.1 i) (len.1 i))
    (spells (decimal n) (absolute_text a) (Some (decimal s)) fits task named (short_line _ few))

pub whole_is : (word : List ℕ) (f : Form) → SpellsWhole word f → (task : List ℕ) (s : ℕ) → is_name task ≡ true → s < 256
    → (few : length (freemain task word (sp (Some (decimal s)) ∷ [])) ≤ 240) → IsLine task (freemain task word (sp (Some (decimal s)) ∷ [])) (written.ReleaseWhole f s)
whole_is word f spells task s named low few =
    let sub = sub_is s low in
    let fits : AllFit (sp (Some (decimal s)) ∷ []) = record { each = (sub.0.fits, tt) } in
    subst (λ r. IsLine task (freemain task word (sp (Some (decimal s)) ∷ [])) r) (λ i. written.ReleaseWhole f (sub.1 i)) (spells (Some (decimal s)) fits task named (short_line _ few))

abbrev pub storage_place_by : ℕ → ℕ → ℕ → List ℕ → List Operand
storage_place_by n a s cond = must (codes "LENGTH") length_kind (decimal n) ∷ must (codes "ADDR") Address (absolute_text a) ∷ sp (Some (decimal s)) ∷ cond_word (Some cond) ∷ []

pub storage_release_is : (cond : List ℕ) (f : Form) → IsCond cond f → (task : List ℕ) (n a s : ℕ) → is_name task ≡ true → 1 ≤ n → n < 2 ^ 31 → a < 2 ^ 31 → s < 256
    → (few : length (storage task (codes "RELEASE") (storage_place_by n a s cond)) ≤ 240) → IsLine task (storage task (codes "RELEASE") (storage_place_by n a s cond)) (written.Release f s (Absolute a) n)
storage_release_is cond f is task n a s named some short address low few =
    let len = length_is n some short in let sub = sub_is s low in let at = each_is_written.absolute_is a address in
    let fits : AllFit (storage_place_by n a s cond) = record { each = (len.0.fits, (at.0.fits, (sub.0.fits, (is.0, tt)))) } in
    subst (λ r. IsLine task (storage task (codes "RELEASE") (storage_place_by n a s cond)) r) (λ i. written.Release (is.1 i) (sub.1 i) (at.1 i) (len.1 i))
    (each_is_spelled.storage_release (decimal n) (absolute_text a) (Some (decimal s)) (Some cond) fits task named (short_line _ few))

pub storage_whole_is : (cond : List ℕ) (f : Form) → IsCond cond f → (task : List ℕ) (s : ℕ) → is_name task ≡ true → s < 256
    → (few : length (storage task (codes "RELEASE") (sp (Some (decimal s)) ∷ cond_word (Some cond) ∷ [])) ≤ 240)
    → IsLine task (storage task (codes "RELEASE") (sp (Some (decimal s)) ∷ cond_word (Some cond) ∷ [])) (written.ReleaseWhole f s)
storage_whole_is cond f is task s named low few =
    let sub = sub_is s low in
    let fits : AllFit (sp (Some (decimal s)) ∷ cond_word (Some cond) ∷ []) = record { each = (sub.0.fits, (is.0, tt)) } in
    subst (λ r. IsLine task (storage task (codes "RELEASE") (sp (Some (decimal s)) ∷ cond_word (Some cond) ∷ [])) r) (λ i. written.ReleaseWhole (is.1 i) (sub.1 i))
    (each_is_spelled.storage_whole (Some (decimal s)) (Some cond) fits task named (short_line _ few))

-- ---- CPOOL

abbrev pub cpool : List ℕ → List (List ℕ) → List Operand → List ℕ
cpool task words operands = line_text task (codes "CPOOL") (words ++ map keyword_text (filled operands))

abbrev pub built_by : List ℕ → ℕ → ℕ → ℕ → ℕ → Loc → List Operand
built_by pool size primary secondary s l =
    cpid pool ∷ must (codes "CSIZE") (Number 4 65536) (decimal size) ∷ must (codes "PCELLCT") (Number 1 65536) (decimal primary) ∷ may (codes "SCELLCT") (Number 1 65536) (Some (decimal secondary))
    ∷ sp (Some (decimal s)) ∷ loc_word_operand (Some (loc_word l)) ∷ []

pub count_is : (n : ℕ) → 1 ≤ n → n ≤ 65536 → FitsAlone (Number 1 65536) (decimal n) × (number (decimal n) ≡ n)
count_is n some few = each_is_written.number_is 1 65536 n some few (lit< tt)

pub build_is : (task pool : List ℕ) (size primary secondary s : ℕ) (l : Loc) → is_name task ≡ true → is_name pool ≡ true → 4 ≤ size → size ≤ 65536 → 1 ≤ primary → primary ≤ 65536 → 1 ≤ secondary → secondary ≤ 65536 → s < 256
    → (few : length (cpool task (codes "BUILD" ∷ []) (built_by pool size primary secondary s l)) ≤ 240)
    → IsLine task (cpool task (codes "BUILD" ∷ []) (built_by pool size primary secondary s l)) (written.Build (padded pool) s size primary secondary l)
build_is task pool size primary secondary s l named pool_named least most some_first few_first some_next few_next low few =
    let bytes = each_is_written.number_is 4 65536 size least most (lit< tt) in
    let first = count_is primary some_first few_first in let next = count_is secondary some_next few_next in let sub = sub_is s low in
    let fits : AllFit (built_by pool size primary secondary s l)
    = record { each = ((each_is_written.name_is pool pool_named).fits, (bytes.0.fits, (first.0.fits, (next.0.fits, (sub.0.fits, (loc_fits l, tt)))))) } in
    subst (λ r. IsLine task (cpool task (codes "BUILD" ∷ []) (built_by pool size primary secondary s l)) r) (λ i. written.Build (padded pool) (sub.1 i) (bytes.1 i) (first.1 i) (next.1 i) (loc_is l i))
    (each_is_spelled.build pool (decimal size) (decimal primary) (Some (decimal secondary)) (Some (decimal s)) (Some (loc_word l)) fits task named (short_line _ few))

abbrev pub taken_by : List ℕ → List ℕ → List Operand
taken_by pool cell = cpid pool ∷ must (codes "CELL") Name cell ∷ []

pub get_is : (word : List ℕ) (conditional : Bool) → SpellsGet (word ∷ []) conditional → (task pool cell : List ℕ) → is_name task ≡ true → is_name pool ≡ true → is_name cell ≡ true
    → (few : length (cpool task (codes "GET" ∷ word ∷ []) (taken_by pool cell)) ≤ 240)
    → IsLine task (cpool task (codes "GET" ∷ word ∷ []) (taken_by pool cell)) (written.Get (padded pool) conditional (padded cell))
get_is word conditional spells task pool cell named pool_named cell_named few =
    let fits : AllFit (taken_by pool cell) = record { each = ((each_is_written.name_is pool pool_named).fits, ((each_is_written.name_is cell cell_named).fits, tt)) } in
    spells pool cell fits task named (short_line _ few)

abbrev pub freed_by : List ℕ → ℕ → List Operand
freed_by pool a = cpid pool ∷ must (codes "CELL") Address (absolute_text a) ∷ []

pub free_is : (task pool : List ℕ) (a : ℕ) → is_name task ≡ true → is_name pool ≡ true → a < 2 ^ 31 → (few : length (cpool task (codes "FREE" ∷ []) (freed_by pool a)) ≤ 240)
    → IsLine task (cpool task (codes "FREE" ∷ []) (freed_by pool a)) (written.Free (padded pool) (Absolute a))
free_is task pool a named pool_named address few =
    let at = each_is_written.absolute_is a address in
    let fits : AllFit (freed_by pool a) = record { each = ((each_is_written.name_is pool pool_named).fits, (at.0.fits, tt)) } in
    subst (λ r. IsLine task (cpool task (codes "FREE" ∷ []) (freed_by pool a)) r) (λ i. written.Free (padded pool) (at.1 i)) (each_is_spelled.free pool (absolute_text a) fits task named (short_line _ few))

pub delete_is : (task pool : List ℕ) → is_name task ≡ true → is_name pool ≡ true → (few : length (cpool task (codes "DELETE" ∷ []) (cpid pool ∷ [])) ≤ 240)
    → IsLine task (cpool task (codes "DELETE" ∷ []) (cpid pool ∷ [])) (written.Delete (padded pool))
delete_is task pool named pool_named few =
    let fits : AllFit (cpid pool ∷ []) = record { each = ((each_is_written.name_is pool pool_named).fits, tt) } in
    each_is_spelled.delete pool fits task named (short_line _ few)

-- ---- positional operands

pub abend_is : (task : List ℕ) (n : ℕ) → is_name task ≡ true → n < 4096 → (few : length (line_text task (codes "ABEND") (decimal n ∷ [])) ≤ 240) → IsLine task (line_text task (codes "ABEND") (decimal n ∷ [])) (written.Abend n)
abend_is task n named low few =
    let code = each_is_written.number_is 0 4095 n (omega arith) (omega (arith, low)) (lit< tt) in
    subst (λ r. IsLine task (line_text task (codes "ABEND") (decimal n ∷ [])) r) (λ i. written.Abend (code.1 i)) (each_is_spelled.abend (decimal n) code.0 task named (short_line _ few))

pub show_is : (task : List ℕ) (a n : ℕ) → is_name task ≡ true → a < 2 ^ 31 → 1 ≤ n → n ≤ 4096 → (few : length (line_text task (codes "SHOW") (absolute_text a ∷ decimal n ∷ [])) ≤ 240)
    → IsLine task (line_text task (codes "SHOW") (absolute_text a ∷ decimal n ∷ [])) (written.Show (Absolute a) n)
show_is task a n named address some most few =
    let at = each_is_written.absolute_is a address in let len = each_is_written.number_is 1 4096 n some most (lit< tt) in
    subst (λ r. IsLine task (line_text task (codes "SHOW") (absolute_text a ∷ decimal n ∷ [])) r) (λ i. written.Show (at.1 i) (len.1 i)) (each_is_spelled.show (absolute_text a) (decimal n) at.0 len.0 task named (short_line _ few))

pub move_is : (task : List ℕ) (to from n : ℕ) → is_name task ≡ true → to < 2 ^ 31 → from < 2 ^ 31 → 1 ≤ n → n ≤ 65536 → (few : length (line_text task (codes "MOVE") (absolute_text to ∷ absolute_text from ∷ decimal n ∷ [])) ≤ 240)
    → IsLine task (line_text task (codes "MOVE") (absolute_text to ∷ absolute_text from ∷ decimal n ∷ [])) (written.Move (Absolute to) (Absolute from) n)
move_is task to from n named to_address from_address some most few =
    let at = each_is_written.absolute_is to to_address in let source = each_is_written.absolute_is from from_address in let len = each_is_written.number_is 1 65536 n some most (lit< tt) in
    subst (λ r. IsLine task (line_text task (codes "MOVE") (absolute_text to ∷ absolute_text from ∷ decimal n ∷ [])) r) (λ i. written.Move (at.1 i) (source.1 i) (len.1 i))
    (each_is_spelled.move (absolute_text to) (absolute_text from) (decimal n) at.0 source.0 len.0 task named (short_line _ few))

-- ---- texts in a row

pub row3 : (a b c : List ℕ) → a ++ b ++ c ≡ a ++ (b ++ c)
row3 a b c = append_assoc a b c

pub row4 : (a b c d : List ℕ) → a ++ b ++ c ++ d ≡ a ++ (b ++ (c ++ d))
row4 a b c d = append_assoc (a ++ b) c d ∙ row3 a b (c ++ d)

pub row5 : (a b c d e : List ℕ) → a ++ b ++ c ++ d ++ e ≡ a ++ (b ++ (c ++ (d ++ e)))
row5 a b c d e = append_assoc (a ++ b ++ c) d e ∙ row4 a b c (d ++ e)

pub row6 : (a b c d e f : List ℕ) → a ++ b ++ c ++ d ++ e ++ f ≡ a ++ (b ++ (c ++ (d ++ (e ++ f))))
row6 a b c d e f = append_assoc (a ++ b ++ c ++ d) e f ∙ row5 a b c d (e ++ f)

pub row7 : (a b c d e f g : List ℕ) → a ++ b ++ c ++ d ++ e ++ f ++ g ≡ a ++ (b ++ (c ++ (d ++ (e ++ (f ++ g)))))
row7 a b c d e f g = append_assoc (a ++ b ++ c ++ d ++ e) f g ∙ row6 a b c d e (f ++ g)
