-- The statement of a request by values is read as that request.
use Rattle.std.proofs.Common.{◌≡◌, ◌⊎◌, refl, sym, subst, ap, ◌∙◌, ℕ, ◌<◌, ◌≤◌, ◌^◌, Bool, true, false, List, [], ◌∷◌, ◌++◌, length, Option, None, Some, MatchOption, unwrap_or, codes, decimal, append-nil, append_assoc, eq-zero-or-pos, arith, lit<, inl, inr, if◌then◌else◌}
use Rattle.mvs_model.specs.declared.code.Form.{Form}
use Rattle.mvs_model.specs.declared.code.Form.TheVariants as form
use Rattle.mvs_model.specs.declared.line.Location.TheVariants.{Absolute}
use Rattle.mvs_model.specs.declared.line.SourceRequest.{SourceRequest}
use Rattle.mvs_model.specs.declared.line.SourceRequest.TheVariants as written
use Rattle.mvs_model.specs.declared.want.Loc.{Loc}
use Rattle.mvs_model.specs.declared.want.Loc.TheVariants as loc
use Rattle.mvs_model.specs.Grammar.{Kind, NumberOrPair}
use Rattle.mvs_model.specs.Name.{padded}
use Rattle.mvs_model.specs.Reading.{is_name, is_list, largest, smallest}
use Rattle.mvs_model.specs.Spelling.{Fits, absolute_text, line_text, list_text}
use Rattle.mvs_model.specs.Spellings.{SpellsFixed, SpellsPlaced, SpellsVariable, SpellsVariablePlaced, SpellsRelease, SpellsWhole, cpid, sp, cond_word, sized_operands, length_kind, lengths_kind}
use Rattle.mvs_model.proofs.Spellings.{each_is_spelled}
use Rattle.mvs_model.proofs.ValueTexts.{each_is_written}
use Rattle.mvs_model.specs.declared.request.Request.{Request}
use Rattle.mvs_model.specs.declared.request.Request.TheVariants as request
use Rattle.mvs_model.specs.Place.{place_at}
use Rattle.mvs_c.specs.declared.ask.RawRequest.{RawRequest}
use Rattle.mvs_c.specs.declared.field.RequestField.TheVariants as field
use Rattle.mvs_c.specs.declared.ask.RequestKind.TheVariants.{Obtain, Release, ReleaseWhole, Build, Get, Free, Delete, Attach, Return, Abend, Show, Move, SystemAbend}
use Rattle.mvs_c.specs.Asks.{IsLeast, IsLength, IsLocation, IsStart, IsWithin, ask_value, form_numbered, form_value, gifts_value, is_located, location_value, name_text, name_value, needs_least, obtains_one, or_else, releases_one, request_value, releases_whole, takes_least, within_value}
use Rattle.mvs_c.specs.Statements.{IsReadAs, StatementsAreRead, area_key, boundary_word, cond_text, free_text, length_key, lengths_text, loc_word, obtain_text, released_form, statement_text, where_text, within_text}
use Rattle.mvs_c.proofs.SubpoolLists.{attach_read, in_words}
use Rattle.mvs_c.proofs.StatementRows.{not_zero, short_line, obtained, IsLine, getmain, fixed_is, pair_is, variable_is, placed_by, placed_is, variable_placed_is, stored_by, storage, IsCond, no_cond, yes_cond, stored_is, freemain, place_by, release_is, whole_is, storage_place_by, storage_release_is, storage_whole_is, cpool, built_by, build_is, taken_by, get_is, freed_by, free_is, delete_is, abend_is, show_is, move_is, row3, row4, row5, row6, row7}

-- ---- obtains of a struct

-- the statement of an obtain, by what is written for its lengths and behind its subpool
abbrev line_with : Form → List ℕ → List ℕ → List ℕ → ℕ → List ℕ → List ℕ
line_with f task lengths area s trailing = task ++ codes " " ++ (obtain_text f ++ lengths ++ area_key f ++ area ++ codes ",SP=" ++ decimal s ++ trailing)

-- the same, from its end
abbrev row_with : Form → List ℕ → List ℕ → List ℕ → ℕ → List ℕ → List ℕ
row_with f task lengths area s trailing = task ++ (codes " " ++ (obtain_text f ++ (lengths ++ (area_key f ++ (area ++ (codes ",SP=" ++ (decimal s ++ trailing)))))))

in_row : (f : Form) (task lengths area : List ℕ) (s : ℕ) (trailing : List ℕ) → line_with f task lengths area s trailing ≡ row_with f task lengths area s trailing
in_row f task lengths area s trailing =
    row3 task (codes " ") _ ∙ (λ i. task ++ (codes " " ++ row7 (obtain_text f) lengths (area_key f) area (codes ",SP=") (decimal s) trailing i))

-- with the operands of a statement without and with a location
abbrev IsSized : Form → List ℕ → Type 0
IsSized f word = (kind : Kind) (task lengths area : List ℕ) (s : ℕ) (b : List ℕ) → row_with f task lengths area s (codes ",BNDRY=" ++ b) ≡ getmain task word (sized_operands kind lengths area (Some (decimal s)) (Some b))

-- what is written behind the subpool of a form with a location
abbrev end_text : Loc → ℕ → Option ℕ → List ℕ
end_text l start None = codes ",LOC=" ++ (loc_word l ++ (codes ",STARTBDY=" ++ decimal start))
end_text l start (Some k) = codes ",LOC=" ++ (loc_word l ++ (codes ",STARTBDY=" ++ (decimal start ++ (codes ",CONTBDY=" ++ decimal k))))

ended : (l : Loc) (start : ℕ) (w : Option ℕ) → codes ",LOC=" ++ loc_word l ++ codes ",STARTBDY=" ++ decimal start ++ within_text w ++ [] ≡ end_text l start w
ended l start None =
    append-nil (codes ",LOC=" ++ loc_word l ++ codes ",STARTBDY=" ++ decimal start ++ []) ∙ append-nil (codes ",LOC=" ++ loc_word l ++ codes ",STARTBDY=" ++ decimal start) ∙ row4 (codes ",LOC=") (loc_word l) (codes ",STARTBDY=") (decimal start)
ended l start (Some k) =
    append-nil (codes ",LOC=" ++ loc_word l ++ codes ",STARTBDY=" ++ decimal start ++ (codes ",CONTBDY=" ++ decimal k)) ∙ row5 (codes ",LOC=") (loc_word l) (codes ",STARTBDY=") (decimal start) (codes ",CONTBDY=" ++ decimal k)

-- and of STORAGE
abbrev stored_text : Loc → ℕ → Option ℕ → List ℕ → List ℕ
stored_text l start None cond = codes ",LOC=" ++ (loc_word l ++ (codes ",STARTBDY=" ++ (decimal start ++ cond)))
stored_text l start (Some k) cond = codes ",LOC=" ++ (loc_word l ++ (codes ",STARTBDY=" ++ (decimal start ++ (codes ",CONTBDY=" ++ (decimal k ++ cond)))))

stored : (l : Loc) (start : ℕ) (w : Option ℕ) (cond : List ℕ) → codes ",LOC=" ++ loc_word l ++ codes ",STARTBDY=" ++ decimal start ++ within_text w ++ cond ≡ stored_text l start w cond
stored l start None cond = row6 (codes ",LOC=") (loc_word l) (codes ",STARTBDY=") (decimal start) [] cond
stored l start (Some k) cond =
    row6 (codes ",LOC=") (loc_word l) (codes ",STARTBDY=") (decimal start) (codes ",CONTBDY=" ++ decimal k) cond

abbrev IsPlaced : Form → List ℕ → Type 0
IsPlaced f word = (kind : Kind) (task lengths area : List ℕ) (s : ℕ) (l : Loc) (start : ℕ) (w : Option ℕ) → row_with f task lengths area s (end_text l start w) ≡ getmain task word (placed_by kind lengths area s l start w)

-- What a struct says that obtains for a form.
record Says (f : Form) (a : RawRequest) (area : List ℕ) : Type 0 where
  pub task : is_name (name_text a.task) ≡ true
  pub named : is_name area ≡ true
  pub sub : a.subpool < 256
  pub length : IsLength a.length
  pub least : IsLeast f a.length a.least
  pub start : IsStart f a.boundary
  pub within : IsWithin f a.within
  pub location : IsLocation f a.location

-- its statement
abbrev line_of : Form → RawRequest → List ℕ → List ℕ
line_of f a area = line_with f (name_text a.task) (lengths_text a.length a.least) area a.subpool (where_text f (is_located f) (location_value a.location) (or_else a.boundary 3) (within_value a.within))

-- A line is read if one is that is the same.
same_line : (task text other : List ℕ) (r : SourceRequest) → text ≡ other → (length other ≤ 240 → IsLine task other r) → length text ≤ 240 → IsLine task text r
same_line task text other r same read few = subst (λ t. IsLine task t r) (sym same) (read (subst (λ (t : List ℕ). length t ≤ 240) same few))

-- the boundary of a form without a location
of_two : (n : ℕ) → (or_else n 3 ≡ 3) ⊎ (n ≡ 12) → (or_else n 3 ≡ 3) ⊎ (or_else n 3 ≡ 12)
of_two n (inl e) = inl e
of_two n (inr e) = inr (ap (λ (m : ℕ). or_else m 3) e)

-- one length
lengths_one : (most least : ℕ) → least ≡ 0 → lengths_text most least ≡ decimal most
lengths_one most least e = ap (λ (n : ℕ). lengths_text most n) e

-- two lengths
lengths_two : (most least : ℕ) → 1 ≤ least → lengths_text most least ≡ list_text (decimal most ∷ decimal least ∷ [])
lengths_two most least some = ap (λ b. if b then decimal most else list_text (decimal most ∷ decimal least ∷ [])) (not_zero least some)

least_two : (most least : ℕ) → 1 ≤ least → or_else least most ≡ least
least_two most least some = ap (λ b. if b then most else least) (not_zero least some)

-- a form without a location and with one length
fixed_read : (f : Form) (word : List ℕ) → SpellsFixed word f → IsSized f word → is_located f ≡ false → takes_least f ≡ false → (a : RawRequest) (area : List ℕ) → Says f a area → length (line_of f a area) ≤ 240
    → IsReadAs (name_value a.task) (request.Obtain f a.subpool (ask_value a)) (line_of f a area)
fixed_read f word spells sized unlocated one a area says few =
    let none : a.least ≡ 0 = says.least.2 one in let two = of_two a.boundary (says.start.1 unlocated) in
    let same : line_of f a area ≡ getmain (name_text a.task) word (sized_operands length_kind (decimal a.length) area (Some (decimal a.subpool)) (Some (boundary_word (or_else a.boundary 3))))
    = (λ i. line_with f (name_text a.task) (lengths_one a.length a.least none i) area a.subpool (where_text f (unlocated i) (location_value a.location) (or_else a.boundary 3) (within_value a.within)))
    ∙ in_row f (name_text a.task) (decimal a.length) area a.subpool (codes ",BNDRY=" ++ boundary_word (or_else a.boundary 3))
    ∙ sized length_kind (name_text a.task) (decimal a.length) area a.subpool (boundary_word (or_else a.boundary 3)) in
    let r : SourceRequest = obtained f a.subpool (record { least = a.length; most = a.length; start = or_else a.boundary 3; within = None; loc = loc.Res }) false area in
    record {
      written = r;
      read = same_line (name_text a.task) _ _ r same (fixed_is word f spells (name_text a.task) area a.length a.subpool (or_else a.boundary 3) says.task says.named says.length.0 says.length.1 says.sub two) few;
      request = λ names. λ i. Some (request.Obtain f a.subpool (record {
        least = sym (ap (λ (n : ℕ). or_else n a.length) none) i;
        most = a.length;
        start = or_else a.boundary 3;
        within = sym (ap within_value (says.within.1 unlocated)) i;
        loc = sym (ap location_value (says.location.1 unlocated)) i;
      }));
    }

-- one without a location and with two lengths
variable_read : (f : Form) (word : List ℕ) → SpellsVariable word f → IsSized f word → is_located f ≡ false → needs_least f ≡ true → (a : RawRequest) (area : List ℕ) → Says f a area → length (line_of f a area) ≤ 240
    → IsReadAs (name_value a.task) (request.Obtain f a.subpool (ask_value a)) (line_of f a area)
variable_read f word spells sized unlocated two_lengths a area says few =
    let some : 1 ≤ a.least = says.least.1 two_lengths in let two = of_two a.boundary (says.start.1 unlocated) in
    let ordered : a.least ≤ a.length = subst (λ (n : ℕ). n ≤ a.length) (least_two a.length a.least some) says.least.0 in
    let same : line_of f a area ≡ getmain (name_text a.task) word (sized_operands lengths_kind (list_text (decimal a.length ∷ decimal a.least ∷ [])) area (Some (decimal a.subpool)) (Some (boundary_word (or_else a.boundary 3))))
    = (λ i. line_with f (name_text a.task) (lengths_two a.length a.least some i) area a.subpool (where_text f (unlocated i) (location_value a.location) (or_else a.boundary 3) (within_value a.within)))
    ∙ in_row f (name_text a.task) (list_text (decimal a.length ∷ decimal a.least ∷ [])) area a.subpool (codes ",BNDRY=" ++ boundary_word (or_else a.boundary 3))
    ∙ sized lengths_kind (name_text a.task) (list_text (decimal a.length ∷ decimal a.least ∷ [])) area a.subpool (boundary_word (or_else a.boundary 3)) in
    let r : SourceRequest = obtained f a.subpool (record { least = a.least; most = a.length; start = or_else a.boundary 3; within = None; loc = loc.Res }) true area in
    record {
      written = r;
      read = same_line (name_text a.task) _ _ r same (variable_is word f spells (name_text a.task) area a.length a.least a.subpool (or_else a.boundary 3) says.task says.named some ordered says.length.1 says.sub two) few;
      request = λ names. λ i. Some (request.Obtain f a.subpool (record {
        least = sym (least_two a.length a.least some) i;
        most = a.length;
        start = or_else a.boundary 3;
        within = sym (ap within_value (says.within.1 unlocated)) i;
        loc = sym (ap location_value (says.location.1 unlocated)) i;
      }));
    }

-- one with a location and with one length
placed_read : (f : Form) (word : List ℕ) → SpellsPlaced word f → IsPlaced f word → is_located f ≡ true → takes_least f ≡ false → cond_text f ≡ [] → (a : RawRequest) (area : List ℕ) → Says f a area → length (line_of f a area) ≤ 240
    → IsReadAs (name_value a.task) (request.Obtain f a.subpool (ask_value a)) (line_of f a area)
placed_read f word spells placed located one no_cond a area says few =
    let none : a.least ≡ 0 = says.least.2 one in
    let l : Loc = location_value a.location in let start : ℕ = or_else a.boundary 3 in let w : Option ℕ = within_value a.within in
    let same : line_of f a area ≡ getmain (name_text a.task) word (placed_by length_kind (decimal a.length) area a.subpool l start w)
    = (λ i. line_with f (name_text a.task) (lengths_one a.length a.least none i) area a.subpool (where_text f (located i) l start w))
    ∙ (λ i. line_with f (name_text a.task) (decimal a.length) area a.subpool (codes ",LOC=" ++ loc_word l ++ codes ",STARTBDY=" ++ decimal start ++ within_text w ++ no_cond i))
    ∙ (λ i. line_with f (name_text a.task) (decimal a.length) area a.subpool (ended l start w i))
    ∙ in_row f (name_text a.task) (decimal a.length) area a.subpool (end_text l start w)
    ∙ placed length_kind (name_text a.task) (decimal a.length) area a.subpool l start w in
    let r : SourceRequest = obtained f a.subpool (record { least = a.length; most = a.length; start = start; within = w; loc = l }) false area in
    record {
      written = r;
      read = same_line (name_text a.task) _ _ r same (placed_is word f spells (name_text a.task) area a.length a.subpool start l w says.task says.named says.length.0 says.length.1 says.sub says.start.0 says.within.0) few;
      request = λ names. λ i. Some (request.Obtain f a.subpool (record { least = sym (ap (λ (n : ℕ). or_else n a.length) none) i; most = a.length; start = start; within = w; loc = l }));
    }

-- one with a location and with two lengths
variable_placed_read : (f : Form) (word : List ℕ) → SpellsVariablePlaced word f → IsPlaced f word → is_located f ≡ true → needs_least f ≡ true → cond_text f ≡ [] → (a : RawRequest) (area : List ℕ) → Says f a area → length (line_of f a area) ≤ 240
    → IsReadAs (name_value a.task) (request.Obtain f a.subpool (ask_value a)) (line_of f a area)
variable_placed_read f word spells placed located two_lengths no_cond a area says few =
    let some : 1 ≤ a.least = says.least.1 two_lengths in
    let ordered : a.least ≤ a.length = subst (λ (n : ℕ). n ≤ a.length) (least_two a.length a.least some) says.least.0 in
    let l : Loc = location_value a.location in let start : ℕ = or_else a.boundary 3 in let w : Option ℕ = within_value a.within in
    let n : List ℕ = list_text (decimal a.length ∷ decimal a.least ∷ []) in
    let same : line_of f a area ≡ getmain (name_text a.task) word (placed_by lengths_kind n area a.subpool l start w)
    = (λ i. line_with f (name_text a.task) (lengths_two a.length a.least some i) area a.subpool (where_text f (located i) l start w))
    ∙ (λ i. line_with f (name_text a.task) n area a.subpool (codes ",LOC=" ++ loc_word l ++ codes ",STARTBDY=" ++ decimal start ++ within_text w ++ no_cond i))
    ∙ (λ i. line_with f (name_text a.task) n area a.subpool (ended l start w i))
    ∙ in_row f (name_text a.task) n area a.subpool (end_text l start w)
    ∙ placed lengths_kind (name_text a.task) n area a.subpool l start w in
    let r : SourceRequest = obtained f a.subpool (record { least = a.least; most = a.length; start = start; within = w; loc = l }) true area in
    record {
      written = r;
      read = same_line (name_text a.task) _ _ r same (variable_placed_is word f spells (name_text a.task) area a.length a.least a.subpool start l w says.task says.named some ordered says.length.1 says.sub says.start.0 says.within.0) few;
      request = λ names. λ i. Some (request.Obtain f a.subpool (record { least = sym (least_two a.length a.least some) i; most = a.length; start = start; within = w; loc = l }));
    }

-- the rows of a form with a location, whose operands depend on whether it has a boundary that is not crossed
rc_placed : IsPlaced form.Rc (codes "RC")
rc_placed kind task lengths area s l start None = refl
rc_placed kind task lengths area s l start (Some k) = refl

ru_placed : IsPlaced form.Ru (codes "RU")
ru_placed kind task lengths area s l start None = refl
ru_placed kind task lengths area s l start (Some k) = refl

vrc_placed : IsPlaced form.Vrc (codes "VRC")
vrc_placed kind task lengths area s l start None = refl
vrc_placed kind task lengths area s l start (Some k) = refl

vru_placed : IsPlaced form.Vru (codes "VRU")
vru_placed kind task lengths area s l start None = refl
vru_placed kind task lengths area s l start (Some k) = refl

-- STORAGE
abbrev IsStored : Form → List ℕ → Type 0
IsStored f cond = (task lengths area : List ℕ) (s : ℕ) (l : Loc) (start : ℕ) (w : Option ℕ) → row_with f task lengths area s (stored_text l start w (codes ",COND=" ++ cond)) ≡ storage task (codes "OBTAIN") (stored_by lengths area s l start w cond)

no_stored : IsStored form.Storage (codes "NO")
no_stored task lengths area s l start None = refl
no_stored task lengths area s l start (Some k) = refl

yes_stored : IsStored form.StorageConditional (codes "YES")
yes_stored task lengths area s l start None = refl
yes_stored task lengths area s l start (Some k) = refl

stored_read_by : (f : Form) (cond : List ℕ) → IsCond cond f → IsStored f cond → is_located f ≡ true → cond_text f ≡ codes ",COND=" ++ cond → (a : RawRequest) (area n : List ℕ) (least : ℕ) → Says f a area
    → lengths_text a.length a.least ≡ n → Fits (NumberOrPair 1 2147483647) n → largest n ≡ a.length → smallest n ≡ least → least ≡ or_else a.least a.length → length (line_of f a area) ≤ 240
    → IsReadAs (name_value a.task) (request.Obtain f a.subpool (ask_value a)) (line_of f a area)
stored_read_by f cond is stored_row located by_cond a area n least says lengths n_fits most_is least_is asks few =
    let l : Loc = location_value a.location in let start : ℕ = or_else a.boundary 3 in let w : Option ℕ = within_value a.within in
    let same : line_of f a area ≡ storage (name_text a.task) (codes "OBTAIN") (stored_by n area a.subpool l start w cond)
    = (λ i. line_with f (name_text a.task) (lengths i) area a.subpool (where_text f (located i) l start w))
    ∙ (λ i. line_with f (name_text a.task) n area a.subpool (codes ",LOC=" ++ loc_word l ++ codes ",STARTBDY=" ++ decimal start ++ within_text w ++ by_cond i))
    ∙ (λ i. line_with f (name_text a.task) n area a.subpool (stored l start w (codes ",COND=" ++ cond) i))
    ∙ in_row f (name_text a.task) n area a.subpool (stored_text l start w (codes ",COND=" ++ cond))
    ∙ stored_row (name_text a.task) n area a.subpool l start w in
    let r : SourceRequest = obtained f a.subpool (record { least = least; most = a.length; start = start; within = w; loc = l }) (is_list n) area in
    record {
      written = r;
      read = same_line (name_text a.task) _ _ r same (stored_is cond f is n least a.length n_fits most_is least_is (name_text a.task) area a.subpool start l w says.task says.named says.sub says.start.0 says.within.0) few;
      request = λ names. λ i. Some (request.Obtain f a.subpool (record { least = asks i; most = a.length; start = start; within = w; loc = l }));
    }

-- with one length or two
stored_read : (f : Form) (cond : List ℕ) → IsCond cond f → IsStored f cond → is_located f ≡ true → cond_text f ≡ codes ",COND=" ++ cond → (a : RawRequest) (area : List ℕ) → Says f a area → length (line_of f a area) ≤ 240
    → IsReadAs (name_value a.task) (request.Obtain f a.subpool (ask_value a)) (line_of f a area)
stored_read f cond is stored_row located by_cond a area says few = elim (eq-zero-or-pos a.least) as (λ _. IsReadAs (name_value a.task) (request.Obtain f a.subpool (ask_value a)) (line_of f a area)) [
  | inl none ↦ (let one = each_is_written.one_length 1 2147483647 a.length says.length.0 (omega (arith, says.length.1)) (lit< tt) in
      stored_read_by f cond is stored_row located by_cond a area (decimal a.length) a.length says (lengths_one a.length a.least none) one.0 one.1 one.2 (sym (ap (λ (n : ℕ). or_else n a.length) none)) few)
  | inr some ↦ (
      let ordered : a.least ≤ a.length = subst (λ (n : ℕ). n ≤ a.length) (least_two a.length a.least some) says.least.0 in
      let two = pair_is a.length a.least some ordered says.length.1 in
      stored_read_by f cond is stored_row located by_cond a area (list_text (decimal a.length ∷ decimal a.least ∷ [])) a.least says (lengths_two a.length a.least some) two.1 two.2 two.3 (sym (least_two a.length a.least some)) few)
]

-- each form that obtains one area
obtain_read : (f : Form) → obtains_one f ≡ true → (a : RawRequest) (area : List ℕ) → Says f a area → length (line_of f a area) ≤ 240
    → IsReadAs (name_value a.task) (request.Obtain f a.subpool (ask_value a)) (line_of f a area)
obtain_read form.R is = fixed_read form.R (codes "R") each_is_spelled.getmain_r (λ kind task lengths area s b. refl) refl refl
obtain_read form.Ec is = fixed_read form.Ec (codes "EC") each_is_spelled.getmain_ec (λ kind task lengths area s b. refl) refl refl
obtain_read form.Eu is = fixed_read form.Eu (codes "EU") each_is_spelled.getmain_eu (λ kind task lengths area s b. refl) refl refl
obtain_read form.Vc is = variable_read form.Vc (codes "VC") each_is_spelled.getmain_vc (λ kind task lengths area s b. refl) refl refl
obtain_read form.Vu is = variable_read form.Vu (codes "VU") each_is_spelled.getmain_vu (λ kind task lengths area s b. refl) refl refl
obtain_read form.Rc is = placed_read form.Rc (codes "RC") each_is_spelled.getmain_rc rc_placed refl refl refl
obtain_read form.Ru is = placed_read form.Ru (codes "RU") each_is_spelled.getmain_ru ru_placed refl refl refl
obtain_read form.Vrc is = variable_placed_read form.Vrc (codes "VRC") each_is_spelled.getmain_vrc vrc_placed refl refl refl
obtain_read form.Vru is = variable_placed_read form.Vru (codes "VRU") each_is_spelled.getmain_vru vru_placed refl refl refl
obtain_read form.Storage is = stored_read form.Storage (codes "NO") no_cond no_stored refl refl
obtain_read form.StorageConditional is = stored_read form.StorageConditional (codes "YES") yes_cond yes_stored refl refl
obtain_read form.Lc is = λ a area says few. absurd (let e : false ≡ true = is in cc)
obtain_read form.Lu is = λ a area says few. absurd (let e : false ≡ true = is in cc)

-- ---- releases of a struct

row8 : (a b c d e f g h : List ℕ) → a ++ b ++ c ++ d ++ e ++ f ++ g ++ h ≡ a ++ (b ++ (c ++ (d ++ (e ++ (f ++ (g ++ h))))))
row8 a b c d e f g h = append_assoc (a ++ b ++ c ++ d ++ e ++ f) g h ∙ row7 a b c d e f (g ++ h)

abbrev release_line : Form → List ℕ → ℕ → ℕ → ℕ → List ℕ → List ℕ
release_line f task n a s cond = task ++ codes " " ++ (free_text f ++ length_key f ++ decimal n ++ area_key f ++ absolute_text a ++ codes ",SP=" ++ decimal s ++ cond)

abbrev release_row : Form → List ℕ → ℕ → ℕ → List ℕ → List ℕ
release_row f task n a end = task ++ (codes " " ++ (free_text f ++ (length_key f ++ (decimal n ++ (area_key f ++ (absolute_text a ++ (codes ",SP=" ++ end)))))))

release_in_row : (f : Form) (task : List ℕ) (n a s : ℕ) (cond : List ℕ) → release_line f task n a s cond ≡ release_row f task n a (decimal s ++ cond)
release_in_row f task n a s cond = row3 task (codes " ") _ ∙ (λ i. task ++ (codes " " ++ row8 (free_text f) (length_key f) (decimal n) (area_key f) (absolute_text a) (codes ",SP=") (decimal s) cond i))

abbrev whole_line : Form → List ℕ → ℕ → List ℕ → List ℕ
whole_line f task s cond = task ++ codes " " ++ (free_text f ++ codes "SP=" ++ decimal s ++ cond)

abbrev whole_row : Form → List ℕ → List ℕ → List ℕ
whole_row f task end = task ++ (codes " " ++ (free_text f ++ (codes "SP=" ++ end)))

whole_in_row : (f : Form) (task : List ℕ) (s : ℕ) (cond : List ℕ) → whole_line f task s cond ≡ whole_row f task (decimal s ++ cond)
whole_in_row f task s cond = row3 task (codes " ") _ ∙ (λ i. task ++ (codes " " ++ row4 (free_text f) (codes "SP=") (decimal s) cond i))

-- What a struct says that releases a place.
record Frees (a : RawRequest) : Type 0 where
  pub task : is_name (name_text a.task) ≡ true
  pub sub : a.subpool < 256
  pub length : IsLength a.length
  pub address : a.address < 2 ^ 31

abbrev released : Form → RawRequest → Request
released f a = request.Release f a.subpool (place_at a.address a.length)

-- a release by FREEMAIN of form g, which may be another
freemain_read : (f g : Form) (word : List ℕ) → SpellsRelease word g → ((task : List ℕ) (n a s : ℕ) → release_row f task n a (decimal s) ≡ freemain task word (place_by n a s)) → (a : RawRequest) → Frees a
    → length (release_line f (name_text a.task) a.length a.address a.subpool []) ≤ 240 → IsReadAs (name_value a.task) (released g a) (release_line f (name_text a.task) a.length a.address a.subpool [])
freemain_read f g word spells row a says few =
    let same : release_line f (name_text a.task) a.length a.address a.subpool [] ≡ freemain (name_text a.task) word (place_by a.length a.address a.subpool)
    = release_in_row f (name_text a.task) a.length a.address a.subpool [] ∙ (λ i. release_row f (name_text a.task) a.length a.address (append-nil (decimal a.subpool) i)) ∙ row (name_text a.task) a.length a.address a.subpool in
    let r : SourceRequest = written.Release g a.subpool (Absolute a.address) a.length in
    record {
      written = r;
      read = same_line (name_text a.task) _ _ r same (release_is word g spells (name_text a.task) a.length a.address a.subpool says.task says.length.0 says.length.1 says.address says.sub) few;
      request = λ names. refl;
    }

-- and by STORAGE
storage_read : (f : Form) (cond : List ℕ) → IsCond cond f → ((task : List ℕ) (n a s : ℕ) → release_row f task n a (decimal s ++ (codes ",COND=" ++ cond)) ≡ storage task (codes "RELEASE") (storage_place_by n a s cond)) → (a : RawRequest) → Frees a
    → length (release_line f (name_text a.task) a.length a.address a.subpool (codes ",COND=" ++ cond)) ≤ 240
    → IsReadAs (name_value a.task) (released f a) (release_line f (name_text a.task) a.length a.address a.subpool (codes ",COND=" ++ cond))
storage_read f cond is row a says few =
    let same : release_line f (name_text a.task) a.length a.address a.subpool (codes ",COND=" ++ cond) ≡ storage (name_text a.task) (codes "RELEASE") (storage_place_by a.length a.address a.subpool cond)
    = release_in_row f (name_text a.task) a.length a.address a.subpool (codes ",COND=" ++ cond) ∙ row (name_text a.task) a.length a.address a.subpool in
    let r : SourceRequest = written.Release f a.subpool (Absolute a.address) a.length in
    record {
      written = r;
      read = same_line (name_text a.task) _ _ r same (storage_release_is cond f is (name_text a.task) a.length a.address a.subpool says.task says.length.0 says.length.1 says.address says.sub) few;
      request = λ names. refl;
    }

abbrev release_of : Form → RawRequest → List ℕ
release_of f a = release_line f (name_text a.task) a.length a.address a.subpool (cond_text f)

release_read : (f : Form) → releases_one f ≡ true → (a : RawRequest) → Frees a → length (release_of f a) ≤ 240 → IsReadAs (name_value a.task) (released (released_form f) a) (release_of f a)
release_read form.R is = freemain_read form.R form.R (codes "R") each_is_spelled.freemain_r (λ task n a s. refl)
release_read form.Rc is = freemain_read form.Rc form.Rc (codes "RC") each_is_spelled.freemain_rc (λ task n a s. refl)
release_read form.Ru is = freemain_read form.Ru form.Ru (codes "RU") each_is_spelled.freemain_ru (λ task n a s. refl)
release_read form.Ec is = freemain_read form.Ec form.Ec (codes "EC") each_is_spelled.freemain_ec (λ task n a s. refl)
release_read form.Eu is = freemain_read form.Eu form.Eu (codes "EU") each_is_spelled.freemain_eu (λ task n a s. refl)
release_read form.Vc is = freemain_read form.Vc form.Ec (codes "EC") each_is_spelled.freemain_ec (λ task n a s. refl)
release_read form.Vu is = freemain_read form.Vu form.Eu (codes "EU") each_is_spelled.freemain_eu (λ task n a s. refl)
release_read form.Storage is = storage_read form.Storage (codes "NO") no_cond (λ task n a s. refl)
release_read form.StorageConditional is = storage_read form.StorageConditional (codes "YES") yes_cond (λ task n a s. refl)
release_read form.Vrc is = λ a says few. absurd (let e : false ≡ true = is in cc)
release_read form.Vru is = λ a says few. absurd (let e : false ≡ true = is in cc)
release_read form.Lc is = λ a says few. absurd (let e : false ≡ true = is in cc)
release_read form.Lu is = λ a says few. absurd (let e : false ≡ true = is in cc)

-- a release of a whole subpool by FREEMAIN and by STORAGE
freemain_whole_read : (f : Form) (word : List ℕ) → SpellsWhole word f → ((task : List ℕ) (s : ℕ) → whole_row f task (decimal s) ≡ freemain task word (sp (Some (decimal s)) ∷ [])) → (a : RawRequest) → is_name (name_text a.task) ≡ true → a.subpool < 256
    → length (whole_line f (name_text a.task) a.subpool []) ≤ 240 → IsReadAs (name_value a.task) (request.ReleaseWhole f a.subpool) (whole_line f (name_text a.task) a.subpool [])
freemain_whole_read f word spells row a named sub few =
    let same : whole_line f (name_text a.task) a.subpool [] ≡ freemain (name_text a.task) word (sp (Some (decimal a.subpool)) ∷ [])
    = whole_in_row f (name_text a.task) a.subpool [] ∙ (λ i. whole_row f (name_text a.task) (append-nil (decimal a.subpool) i)) ∙ row (name_text a.task) a.subpool in
    let r : SourceRequest = written.ReleaseWhole f a.subpool in
    record { written = r; read = same_line (name_text a.task) _ _ r same (whole_is word f spells (name_text a.task) a.subpool named sub) few; request = λ names. refl }

storage_whole_read : (f : Form) (cond : List ℕ) → IsCond cond f → ((task : List ℕ) (s : ℕ) → whole_row f task (decimal s ++ (codes ",COND=" ++ cond)) ≡ storage task (codes "RELEASE") (sp (Some (decimal s)) ∷ cond_word (Some cond) ∷ [])) → (a : RawRequest)
    → is_name (name_text a.task) ≡ true → a.subpool < 256 → length (whole_line f (name_text a.task) a.subpool (codes ",COND=" ++ cond)) ≤ 240
    → IsReadAs (name_value a.task) (request.ReleaseWhole f a.subpool) (whole_line f (name_text a.task) a.subpool (codes ",COND=" ++ cond))
storage_whole_read f cond is row a named sub few =
    let same : whole_line f (name_text a.task) a.subpool (codes ",COND=" ++ cond) ≡ storage (name_text a.task) (codes "RELEASE") (sp (Some (decimal a.subpool)) ∷ cond_word (Some cond) ∷ [])
    = whole_in_row f (name_text a.task) a.subpool (codes ",COND=" ++ cond) ∙ row (name_text a.task) a.subpool in
    let r : SourceRequest = written.ReleaseWhole f a.subpool in
    record { written = r; read = same_line (name_text a.task) _ _ r same (storage_whole_is cond f is (name_text a.task) a.subpool named sub) few; request = λ names. refl }

abbrev whole_of : Form → RawRequest → List ℕ
whole_of f a = whole_line f (name_text a.task) a.subpool (cond_text f)

whole_read : (f : Form) → releases_whole f ≡ true → (a : RawRequest) → is_name (name_text a.task) ≡ true → a.subpool < 256 → length (whole_of f a) ≤ 240 → IsReadAs (name_value a.task) (request.ReleaseWhole f a.subpool) (whole_of f a)
whole_read form.R is = freemain_whole_read form.R (codes "R") each_is_spelled.whole_r (λ task s. refl)
whole_read form.Rc is = freemain_whole_read form.Rc (codes "RC") each_is_spelled.whole_rc (λ task s. refl)
whole_read form.Ru is = freemain_whole_read form.Ru (codes "RU") each_is_spelled.whole_ru (λ task s. refl)
whole_read form.Storage is = storage_whole_read form.Storage (codes "NO") no_cond (λ task s. refl)
whole_read form.StorageConditional is = storage_whole_read form.StorageConditional (codes "YES") yes_cond (λ task s. refl)
whole_read form.Ec is = λ a named sub few. absurd (let e : false ≡ true = is in cc)
whole_read form.Eu is = λ a named sub few. absurd (let e : false ≡ true = is in cc)
whole_read form.Vc is = λ a named sub few. absurd (let e : false ≡ true = is in cc)
whole_read form.Vu is = λ a named sub few. absurd (let e : false ≡ true = is in cc)
whole_read form.Vrc is = λ a named sub few. absurd (let e : false ≡ true = is in cc)
whole_read form.Vru is = λ a named sub few. absurd (let e : false ≡ true = is in cc)
whole_read form.Lc is = λ a named sub few. absurd (let e : false ≡ true = is in cc)
whole_read form.Lu is = λ a named sub few. absurd (let e : false ≡ true = is in cc)

-- ---- cell pools of a struct

row9 : (a b c d e f g h i : List ℕ) → a ++ b ++ c ++ d ++ e ++ f ++ g ++ h ++ i ≡ a ++ (b ++ (c ++ (d ++ (e ++ (f ++ (g ++ (h ++ i)))))))
row9 a b c d e f g h i = append_assoc (a ++ b ++ c ++ d ++ e ++ f ++ g) h i ∙ row8 a b c d e f g (h ++ i)

row10 : (a b c d e f g h i j : List ℕ) → a ++ b ++ c ++ d ++ e ++ f ++ g ++ h ++ i ++ j ≡ a ++ (b ++ (c ++ (d ++ (e ++ (f ++ (g ++ (h ++ (i ++ j))))))))
row10 a b c d e f g h i j = append_assoc (a ++ b ++ c ++ d ++ e ++ f ++ g ++ h) i j ∙ row9 a b c d e f g h (i ++ j)

row11 : (a b c d e f g h i j k : List ℕ) → a ++ b ++ c ++ d ++ e ++ f ++ g ++ h ++ i ++ j ++ k ≡ a ++ (b ++ (c ++ (d ++ (e ++ (f ++ (g ++ (h ++ (i ++ (j ++ k)))))))))
row11 a b c d e f g h i j k = append_assoc (a ++ b ++ c ++ d ++ e ++ f ++ g ++ h ++ i) j k ∙ row10 a b c d e f g h i (j ++ k)

row12 : (a b c d e f g h i j k l : List ℕ) → a ++ b ++ c ++ d ++ e ++ f ++ g ++ h ++ i ++ j ++ k ++ l ≡ a ++ (b ++ (c ++ (d ++ (e ++ (f ++ (g ++ (h ++ (i ++ (j ++ (k ++ l))))))))))
row12 a b c d e f g h i j k l = append_assoc (a ++ b ++ c ++ d ++ e ++ f ++ g ++ h ++ i ++ j) k l ∙ row11 a b c d e f g h i j (k ++ l)

-- the statement of a task whose operation is read in a row
in_a_row : (task left right : List ℕ) → left ≡ right → task ++ codes " " ++ left ≡ task ++ (codes " " ++ right)
in_a_row task left right same = row3 task (codes " ") left ∙ (λ i. task ++ (codes " " ++ same i))

build_read : (a : RawRequest) → is_name (name_text a.task) ≡ true → is_name (name_text a.name) ≡ true → (4 ≤ a.length) × (a.length ≤ 65536) → (1 ≤ a.primary) × (a.primary ≤ 65536) → (1 ≤ or_else a.secondary a.primary) × (or_else a.secondary a.primary ≤ 65536)
    → a.subpool < 256 → length (statement_text Build a []) ≤ 240 → IsReadAs (name_value a.task) (request_value Build a) (statement_text Build a [])
build_read a named pool_named bytes first next sub few =
    let next_count : ℕ = or_else a.secondary a.primary in let l : Loc = location_value a.location in
    let same : statement_text Build a [] ≡ cpool (name_text a.task) (codes "BUILD" ∷ []) (built_by (name_text a.name) a.length a.primary next_count a.subpool l)
    = in_a_row (name_text a.task) _ _ (row12 (codes "CPOOL BUILD,CPID=") (name_text a.name) (codes ",CSIZE=") (decimal a.length) (codes ",PCELLCT=") (decimal a.primary) (codes ",SCELLCT=") (decimal next_count) (codes ",SP=") (decimal a.subpool) (codes ",LOC=") (loc_word l)) in
    let r : SourceRequest = written.Build (padded (name_text a.name)) a.subpool a.length a.primary next_count l in
    record {
      written = r;
      read = same_line (name_text a.task) _ _ r same (build_is (name_text a.task) (name_text a.name) a.length a.primary next_count a.subpool l named pool_named bytes.0 bytes.1 first.0 first.1 next.0 next.1 sub) few;
      request = λ names. refl;
    }

-- the statement of a conditional or an unconditional get
abbrev get_text : Bool → List ℕ → List ℕ → List ℕ → List ℕ
get_text conditional task pool cell = task ++ codes " " ++ (codes "CPOOL GET," ++ (if conditional then codes "COND" else codes "UNCOND") ++ codes ",CPID=" ++ pool ++ codes ",CELL=" ++ cell)

get_read : (conditional : Bool) (task pool cell : List ℕ) → is_name task ≡ true → is_name pool ≡ true → is_name cell ≡ true → length (get_text conditional task pool cell) ≤ 240
    → IsReadAs (padded task) (request.Get (padded pool) conditional) (get_text conditional task pool cell)
get_read true task pool cell named pool_named cell_named few =
    let same : get_text true task pool cell ≡ cpool task (codes "GET" ∷ codes "COND" ∷ []) (taken_by pool cell)
    = in_a_row task _ _ (row6 (codes "CPOOL GET,") (codes "COND") (codes ",CPID=") pool (codes ",CELL=") cell) in
    let r : SourceRequest = written.Get (padded pool) true (padded cell) in
    record { written = r; read = same_line task _ _ r same (get_is (codes "COND") true each_is_spelled.get_cond task pool cell named pool_named cell_named) few; request = λ names. refl }
get_read false task pool cell named pool_named cell_named few =
    let same : get_text false task pool cell ≡ cpool task (codes "GET" ∷ codes "UNCOND" ∷ []) (taken_by pool cell)
    = in_a_row task _ _ (row6 (codes "CPOOL GET,") (codes "UNCOND") (codes ",CPID=") pool (codes ",CELL=") cell) in
    let r : SourceRequest = written.Get (padded pool) false (padded cell) in
    record { written = r; read = same_line task _ _ r same (get_is (codes "UNCOND") false each_is_spelled.get_uncond task pool cell named pool_named cell_named) few; request = λ names. refl }

free_read : (a : RawRequest) → is_name (name_text a.task) ≡ true → is_name (name_text a.name) ≡ true → a.address < 2 ^ 31 → length (statement_text Free a []) ≤ 240 → IsReadAs (name_value a.task) (request_value Free a) (statement_text Free a [])
free_read a named pool_named address few =
    let same : statement_text Free a [] ≡ cpool (name_text a.task) (codes "FREE" ∷ []) (freed_by (name_text a.name) a.address)
    = in_a_row (name_text a.task) _ _ (row4 (codes "CPOOL FREE,CPID=") (name_text a.name) (codes ",CELL=") (absolute_text a.address)) in
    let r : SourceRequest = written.Free (padded (name_text a.name)) (Absolute a.address) in
    record { written = r; read = same_line (name_text a.task) _ _ r same (free_is (name_text a.task) (name_text a.name) a.address named pool_named address) few; request = λ names. refl }

delete_read : (a : RawRequest) → is_name (name_text a.task) ≡ true → is_name (name_text a.name) ≡ true → length (statement_text Delete a []) ≤ 240 → IsReadAs (name_value a.task) (request_value Delete a) (statement_text Delete a [])
delete_read a named pool_named few =
    let same : statement_text Delete a [] ≡ cpool (name_text a.task) (codes "DELETE" ∷ []) (cpid (name_text a.name) ∷ []) = in_a_row (name_text a.task) _ _ refl in
    let r : SourceRequest = written.Delete (padded (name_text a.name)) in
    record { written = r; read = same_line (name_text a.task) _ _ r same (delete_is (name_text a.task) (name_text a.name) named pool_named) few; request = λ names. refl }

-- ---- other statements of a struct

return_read : (a : RawRequest) → is_name (name_text a.task) ≡ true → length (statement_text Return a []) ≤ 240 → IsReadAs (name_value a.task) request.Return (statement_text Return a [])
return_read a named few =
    let same : statement_text Return a [] ≡ line_text (name_text a.task) (codes "RETURN") [] = in_a_row (name_text a.task) _ _ refl in
    record { written = written.Return; read = same_line (name_text a.task) _ _ written.Return same (λ short. each_is_spelled.return (name_text a.task) named (short_line _ short)) few; request = λ names. refl }

abend_read : (a : RawRequest) → is_name (name_text a.task) ≡ true → a.code < 4096 → length (statement_text Abend a []) ≤ 240 → IsReadAs (name_value a.task) (request.Abend a.code) (statement_text Abend a [])
abend_read a named low few =
    let same : statement_text Abend a [] ≡ line_text (name_text a.task) (codes "ABEND") (decimal a.code ∷ []) = in_a_row (name_text a.task) _ _ refl in
    record { written = written.Abend a.code; read = same_line (name_text a.task) _ _ (written.Abend a.code) same (abend_is (name_text a.task) a.code named low) few; request = λ names. refl }

show_read : (a : RawRequest) → is_name (name_text a.task) ≡ true → a.address < 2 ^ 31 → (1 ≤ a.length) × (a.length ≤ 4096) → length (statement_text Show a []) ≤ 240 → IsReadAs (name_value a.task) (request_value Show a) (statement_text Show a [])
show_read a named address bytes few =
    let same : statement_text Show a [] ≡ line_text (name_text a.task) (codes "SHOW") (absolute_text a.address ∷ decimal a.length ∷ [])
    = in_a_row (name_text a.task) _ _ (row4 (codes "SHOW ") (absolute_text a.address) (codes ",") (decimal a.length)) in
    let r : SourceRequest = written.Show (Absolute a.address) a.length in
    record { written = r; read = same_line (name_text a.task) _ _ r same (show_is (name_text a.task) a.address a.length named address bytes.0 bytes.1) few; request = λ names. refl }

move_read : (a : RawRequest) → is_name (name_text a.task) ≡ true → a.address < 2 ^ 31 → a.source < 2 ^ 31 → (1 ≤ a.length) × (a.length ≤ 65536) → length (statement_text Move a []) ≤ 240 → IsReadAs (name_value a.task) (request_value Move a) (statement_text Move a [])
move_read a named to from bytes few =
    let same : statement_text Move a [] ≡ line_text (name_text a.task) (codes "MOVE") (absolute_text a.address ∷ absolute_text a.source ∷ decimal a.length ∷ [])
    = in_a_row (name_text a.task) _ _ (row6 (codes "MOVE ") (absolute_text a.address) (codes ",") (absolute_text a.source) (codes ",") (decimal a.length)) in
    let r : SourceRequest = written.Move (Absolute a.address) (Absolute a.source) a.length in
    record { written = r; read = same_line (name_text a.task) _ _ r same (move_is (name_text a.task) a.address a.source a.length named to from bytes.0 bytes.1) few; request = λ names. refl }

-- ---- each struct

taken : (takes : Form → Bool) (o : Option Form) → MatchOption o ⊥ (λ f. takes f ≡ true) → takes (unwrap_or o form.R) ≡ true
taken takes None is = absurd is
taken takes (Some f) is = is

pub are_read : StatementsAreRead
are_read Obtain a area named area_named fits words few =
    let says : Says (form_value a.form) a area = record {
      task = named;
      named = area_named;
      sub = fits field.Subpool;
      length = fits field.Length;
      least = fits field.Least;
      start = fits field.Boundary;
      within = fits field.Within;
      location = fits field.Location;
    } in
    obtain_read (form_value a.form) (taken obtains_one (form_numbered a.form) (fits field.Form)) a area says few
are_read Release a area named area_named fits words few =
    let frees : Frees a = record { task = named; sub = fits field.Subpool; length = fits field.Length; address = fits field.Address } in
    release_read (form_value a.form) (taken releases_one (form_numbered a.form) (fits field.Form)) a frees few
are_read ReleaseWhole a area named area_named fits words few = whole_read (form_value a.form) (taken releases_whole (form_numbered a.form) (fits field.Form)) a named (fits field.Subpool) few
are_read Build a area named area_named fits words few = build_read a named (fits field.Name) (fits field.Length) (fits field.Primary) (fits field.Secondary) (fits field.Subpool) few
are_read Get a area named area_named fits words few = get_read a.conditional (name_text a.task) (name_text a.name) area named (fits field.Name) area_named few
are_read Free a area named area_named fits words few = free_read a named (fits field.Name) (fits field.Address) few
are_read Delete a area named area_named fits words few = delete_read a named (fits field.Name) few
are_read Attach a area named area_named fits words few = attach_read a.keeps_zero a.above (name_text a.task) (name_text a.name) (gifts_value a).given (gifts_value a).shared named (fits field.Name) (in_words a.given_low a.given_high words.0 words.1) (in_words a.shared_low a.shared_high words.2 words.3) (fits field.Subpools) few
are_read Return a area named area_named fits words few = return_read a named few
are_read Abend a area named area_named fits words few = abend_read a named (fits field.Code) few
are_read Show a area named area_named fits words few = show_read a named (fits field.Address) (fits field.Length) few
are_read Move a area named area_named fits words few = move_read a named (fits field.Address) (fits field.Source) (fits field.Length) few
are_read SystemAbend a area named area_named fits words few = abend_read a named (fits field.Code) few
