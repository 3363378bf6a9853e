-- The statement of a list request by values is read as that request.
use Rattle.std.proofs.Common.{◌≡◌, ◌⊎◌, refl, sym, subst, ap, ◌∙◌, ℕ, ◌<◌, ◌≤◌, ◌^◌, Bool, true, false, List, [], ◌∷◌, ◌++◌, length, map, Option, None, Some, MatchOption, option_map, unwrap_or, codes, decimal, arith, inl, inr}
use Rattle.std.specs.List.{AllByRecursion}
use Rattle.std.proofs.lemmas.List.{length-map}
use Rattle.mvs_model.specs.declared.code.Form.{Form}
use Rattle.mvs_model.specs.declared.code.Form.TheVariants as form
use Rattle.mvs_model.specs.declared.line.Location.TheVariants.{Absolute}
use Rattle.mvs_model.specs.declared.line.SourceRequest.{SourceRequest}
use Rattle.mvs_model.specs.declared.line.SourceRequest.TheVariants as written
use Rattle.mvs_model.specs.declared.request.Request.TheVariants as request
use Rattle.mvs_model.specs.Name.{padded}
use Rattle.mvs_model.specs.Place.{place_at}
use Rattle.mvs_model.specs.Reading.{is_empty, is_name}
use Rattle.mvs_model.specs.Spelling.{AreBetween, absolute_text, list_text}
use Rattle.mvs_model.specs.Spellings.{SpellsList, SpellsReleaseList}
use Rattle.mvs_model.proofs.Spellings.{each_is_spelled}
use Rattle.mvs_c.specs.declared.ask.RawRequest.{RawRequest}
use Rattle.mvs_c.specs.declared.field.RequestField.TheVariants as field
use Rattle.mvs_c.specs.declared.list.ListArea.{ListArea}
use Rattle.mvs_c.specs.Asks.{IsLength, form_numbered, form_value, name_text, name_value, or_else}
use Rattle.mvs_c.specs.Lists.{AreLengths, ArePlaces, IsListLength, IsListStart, is_list_form}
use Rattle.mvs_c.specs.ListStatements.{ListStatementsAreRead, area_names, each_text, obtain_word, release_word}
use Rattle.mvs_c.specs.Statements.{IsReadAs, boundary_word}
use Rattle.mvs_c.proofs.StatementRows.{IsLine, freemain, getmain}
use Rattle.mvs_c.proofs.ListRows.{map_some, names_some}
use Rattle.mvs_c.proofs.ListLines.{list_is, listed_by, obtain_row, places_are, places_by, release_list_is, release_row}

-- a list that is not empty
not_empty : {X : Type 0} (xs : List X) → 1 ≤ length xs → is_empty xs ≡ false
not_empty [] some = absurd (let e : 1 ≤ 0 = some in omega (arith, e))
not_empty (x ∷ xs) some = refl

-- a line is read if one is that is the same
same_line : (task text other : List ℕ) (r : SourceRequest) → text ≡ other → (length other ≤ 240 → IsLine task other r) → length text ≤ 240 → IsLine task text r
same_line task text other r same read few = subst (λ t. IsLine task t r) (sym same) (read (subst (λ (t : List ℕ). length t ≤ 240) same few))

-- the boundary of each area
of_two : (n : ℕ) → IsListStart n → (or_else n 3 ≡ 3) ⊎ (or_else n 3 ≡ 12)
of_two n (inl e) = inl e
of_two n (inr e) = inr (ap (λ (m : ℕ). or_else m 3) e)

-- the lengths and the addresses of areas
are_between : (areas : List ListArea) → AreLengths areas → AreBetween 1 2147483647 (map (λ x. x.length) areas)
are_between [] each = tt
are_between (a ∷ rest) each = ((each.0.0, (let short = each.0.1 in omega (arith, short))), are_between rest each.1)

place_lengths : (areas : List ListArea) → ArePlaces areas → AreLengths areas
place_lengths [] each = tt
place_lengths (a ∷ rest) each = (each.0.1, place_lengths rest each.1)

are_low : (areas : List ListArea) → ArePlaces areas → AllByRecursion (λ a. a < 2 ^ 31) (map (λ x. x.address) areas)
are_low [] each = tt
are_low (a ∷ rest) each = (each.0.0, are_low rest each.1)

-- ---- obtains

abbrev obtain_line : Form → List ℕ → List ListArea → List ℕ → ℕ → ℕ → List ℕ
obtain_line f task areas base s start =
    task ++ codes " " ++ (obtain_word f ++ each_text 40 (map decimal (map (λ x. x.length) areas)) ++ codes "),A=" ++ each_text 40 (area_names base 65 areas) ++ codes "),SP=" ++ decimal s ++ codes ",BNDRY=" ++ boundary_word start)

-- What a struct says that obtains a list.
record Says (a : RawRequest) (areas : List ListArea) (base : List ℕ) : Type 0 where
  pub task : is_name (name_text a.task) ≡ true
  pub named : is_name base ≡ true
  pub short : length base ≤ 7
  pub sub : a.subpool < 256
  pub start : IsListStart a.boundary
  pub some : IsListLength (length areas)
  pub lengths : AreLengths areas

-- with the operands of the statement
abbrev IsListed : Form → List ℕ → Type 0
IsListed f word = (task ns base : List ℕ) (xs : List ListArea) (s start : ℕ)
    → task ++ (codes " " ++ (obtain_word f ++ (list_text (map decimal ns) ++ (codes ",A=" ++ (list_text (area_names base 65 xs) ++ (codes ",SP=" ++ (decimal s ++ (codes ",BNDRY=" ++ boundary_word start))))))))
    ≡ getmain task word (listed_by ns base xs s start)

obtain_read_by : (f : Form) (word : List ℕ) → SpellsList word f → IsListed f word → (a : RawRequest) (areas : List ListArea) (base : List ℕ) → Says a areas base
    → length (obtain_line f (name_text a.task) areas base a.subpool (or_else a.boundary 3)) ≤ 240
    → IsReadAs (name_value a.task) (request.ObtainList f a.subpool (map (λ x. x.length) areas) (or_else a.boundary 3)) (obtain_line f (name_text a.task) areas base a.subpool (or_else a.boundary 3))
obtain_read_by f word spells listed a areas base says few =
    let task : List ℕ = name_text a.task in let start : ℕ = or_else a.boundary 3 in
    let ns : List ℕ = map (λ x. x.length) areas in
    let count : length ns ≡ length areas = length-map areas (λ x. x.length) in
    let ns_some : is_empty ns ≡ false = map_some (λ x. x.length) areas (not_empty areas says.some.0) in
    let same : obtain_line f task areas base a.subpool start ≡ getmain task word (listed_by ns base areas a.subpool start)
    = obtain_row task (obtain_word f) (map decimal ns) (area_names base 65 areas) (decimal a.subpool) (boundary_word start) (map_some decimal ns ns_some) (names_some base 65 areas says.some.0)
    ∙ listed task ns base areas a.subpool start in
    let r : SourceRequest = written.ObtainList f a.subpool ns start (map padded (area_names base 65 areas)) in
    record {
      written = r;
      read = same_line task _ _ r same (list_is word f spells task base ns areas a.subpool start says.task says.named says.short count says.some.0 says.some.1 ns_some (are_between areas says.lengths) says.sub (of_two a.boundary says.start)) few;
      request = λ names. refl;
    }

obtain_read : (f : Form) → is_list_form f ≡ true → (a : RawRequest) (areas : List ListArea) (base : List ℕ) → Says a areas base
    → length (obtain_line f (name_text a.task) areas base a.subpool (or_else a.boundary 3)) ≤ 240
    → IsReadAs (name_value a.task) (request.ObtainList f a.subpool (map (λ x. x.length) areas) (or_else a.boundary 3)) (obtain_line f (name_text a.task) areas base a.subpool (or_else a.boundary 3))
obtain_read form.Lc is = obtain_read_by form.Lc (codes "LC") each_is_spelled.getmain_lc (λ task ns base xs s start. refl)
obtain_read form.Lu is = obtain_read_by form.Lu (codes "LU") each_is_spelled.getmain_lu (λ task ns base xs s start. refl)
obtain_read form.R is = λ a areas base says few. absurd (let e : false ≡ true = is in cc)
obtain_read form.Rc is = λ a areas base says few. absurd (let e : false ≡ true = is in cc)
obtain_read form.Ru is = λ a areas base says few. absurd (let e : false ≡ true = is in cc)
obtain_read form.Vrc is = λ a areas base says few. absurd (let e : false ≡ true = is in cc)
obtain_read form.Vru is = λ a areas base says few. absurd (let e : false ≡ true = is in cc)
obtain_read form.Ec is = λ a areas base says few. absurd (let e : false ≡ true = is in cc)
obtain_read form.Eu is = λ a areas base says few. absurd (let e : false ≡ true = is in cc)
obtain_read form.Vc is = λ a areas base says few. absurd (let e : false ≡ true = is in cc)
obtain_read form.Vu is = λ a areas base says few. absurd (let e : false ≡ true = is in cc)
obtain_read form.Storage is = λ a areas base says few. absurd (let e : false ≡ true = is in cc)
obtain_read form.StorageConditional is = λ a areas base says few. absurd (let e : false ≡ true = is in cc)

-- ---- releases

abbrev release_line : Form → List ℕ → List ListArea → ℕ → List ℕ
release_line f task areas s =
    task ++ codes " " ++ (release_word f ++ each_text 40 (map decimal (map (λ x. x.length) areas)) ++ codes "),A=" ++ each_text 40 (map absolute_text (map (λ x. x.address) areas)) ++ codes "),SP=" ++ decimal s)

record Frees (a : RawRequest) (areas : List ListArea) : Type 0 where
  pub task : is_name (name_text a.task) ≡ true
  pub sub : a.subpool < 256
  pub some : IsListLength (length areas)
  pub places : ArePlaces areas

abbrev IsFreed : Form → List ℕ → Type 0
IsFreed f word = (task ns addresses : List ℕ) (s : ℕ)
    → task ++ (codes " " ++ (release_word f ++ (list_text (map decimal ns) ++ (codes ",A=" ++ (list_text (map absolute_text addresses) ++ (codes ",SP=" ++ decimal s))))))
    ≡ freemain task word (places_by ns addresses s)

release_read_by : (f : Form) (word : List ℕ) → SpellsReleaseList word f → IsFreed f word → (a : RawRequest) (areas : List ListArea) → Frees a areas
    → length (release_line f (name_text a.task) areas a.subpool) ≤ 240
    → IsReadAs (name_value a.task) (request.ReleaseList f a.subpool (map (λ x. place_at x.address x.length) areas)) (release_line f (name_text a.task) areas a.subpool)
release_read_by f word spells freed a areas says few =
    let task : List ℕ = name_text a.task in
    let ns : List ℕ = map (λ x. x.length) areas in let addresses : List ℕ = map (λ x. x.address) areas in
    let count : length ns ≡ length areas = length-map areas (λ x. x.length) in
    let address_count : length addresses ≡ length areas = length-map areas (λ x. x.address) in
    let some : is_empty areas ≡ false = not_empty areas says.some.0 in
    let ns_some : is_empty ns ≡ false = map_some (λ x. x.length) areas some in
    let addresses_some : is_empty addresses ≡ false = map_some (λ x. x.address) areas some in
    let most : length ns ≤ 16 = (let m = says.some.1 in omega (arith, count, m)) in
    let same : release_line f task areas a.subpool ≡ freemain task word (places_by ns addresses a.subpool)
    = release_row task (release_word f) (map decimal ns) (map absolute_text addresses) (decimal a.subpool) (map_some decimal ns ns_some) (map_some absolute_text addresses addresses_some)
    ∙ freed task ns addresses a.subpool in
    let r : SourceRequest = written.ReleaseList f a.subpool (map Absolute addresses) ns in
    record {
      written = r;
      read = same_line task _ _ r same (release_list_is word f spells task ns addresses a.subpool says.task (count ∙ sym address_count) most ns_some addresses_some (are_between areas (place_lengths areas says.places)) (are_low areas says.places) says.sub) few;
      request = λ names. ap (λ o. option_map (λ ps. request.ReleaseList f a.subpool ps) o) (places_are names (λ x. x.address) (λ x. x.length) areas);
    }

release_read : (f : Form) → is_list_form f ≡ true → (a : RawRequest) (areas : List ListArea) → Frees a areas
    → length (release_line f (name_text a.task) areas a.subpool) ≤ 240
    → IsReadAs (name_value a.task) (request.ReleaseList f a.subpool (map (λ x. place_at x.address x.length) areas)) (release_line f (name_text a.task) areas a.subpool)
release_read form.Lc is = release_read_by form.Lc (codes "LC") each_is_spelled.freemain_lc (λ task ns addresses s. refl)
release_read form.Lu is = release_read_by form.Lu (codes "LU") each_is_spelled.freemain_lu (λ task ns addresses s. refl)
release_read form.R is = λ a areas says few. absurd (let e : false ≡ true = is in cc)
release_read form.Rc is = λ a areas says few. absurd (let e : false ≡ true = is in cc)
release_read form.Ru is = λ a areas says few. absurd (let e : false ≡ true = is in cc)
release_read form.Vrc is = λ a areas says few. absurd (let e : false ≡ true = is in cc)
release_read form.Vru is = λ a areas says few. absurd (let e : false ≡ true = is in cc)
release_read form.Ec is = λ a areas says few. absurd (let e : false ≡ true = is in cc)
release_read form.Eu is = λ a areas says few. absurd (let e : false ≡ true = is in cc)
release_read form.Vc is = λ a areas says few. absurd (let e : false ≡ true = is in cc)
release_read form.Vu is = λ a areas says few. absurd (let e : false ≡ true = is in cc)
release_read form.Storage is = λ a areas says few. absurd (let e : false ≡ true = is in cc)
release_read form.StorageConditional is = λ a areas says few. absurd (let e : false ≡ true = is in cc)

-- ---- each list request

taken : (takes : Form → Bool) (o : Option Form) → MatchOption o ⊥ (λ f. takes f ≡ true) → takes (unwrap_or o form.R) ≡ true
taken takes None is = absurd is
taken takes (Some f) is = is

pub are_read : ListStatementsAreRead
are_read true a areas base named based fits few =
    let at = fits field.Areas in
    let says : Says a areas (name_text base) = record { task = named; named = based.0; short = based.1; sub = fits field.Subpool; start = fits field.Boundary; some = at.0; lengths = at.1 } in
    obtain_read (form_value a.form) (taken is_list_form (form_numbered a.form) (fits field.Form)) a areas (name_text base) says few
are_read false a areas base named based fits few =
    let at = fits field.Areas in
    let frees : Frees a areas = record { task = named; sub = fits field.Subpool; some = at.0; places = at.1 } in
    release_read (form_value a.form) (taken is_list_form (form_numbered a.form) (fits field.Form)) a areas frees few
