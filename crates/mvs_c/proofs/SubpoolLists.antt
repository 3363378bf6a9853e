-- The statement of ATTACH, with the lists of numbers of the subpools that are given and shared.
use Rattle.std.proofs.Common.{◌≡◌, refl, sym, subst, ap, ◌∙◌, ℕ, ◌+◌, ◌*◌, ◌^◌, ◌==◌, ◌%◌, ◌<◌, ◌≤◌, not, Bool, true, false, inl, inr, List, [], ◌∷◌, ◌++◌, length, map, decimal, codes, Option, None, Some, IfSome, append_assoc, eq-zero-or-pos, arith, lit<, if◌then◌else◌}
use Rattle.std.specs.List.{list_any, AllByRecursion}
use Rattle.std.proofs.lemmas.Bool.{ne_eqb}
use Rattle.mvs_model.specs.declared.line.Line.TheVariants as line
use Rattle.mvs_model.specs.declared.line.SourceRequest.{SourceRequest}
use Rattle.mvs_model.specs.declared.line.SourceRequest.TheVariants as written
use Rattle.mvs_model.specs.declared.line.Statement.TheVariants as says
use Rattle.mvs_model.specs.declared.request.Request.TheVariants as request
use Rattle.mvs_model.specs.Gifts.{IsGifts, has_bit}
use Rattle.mvs_model.specs.Grammar.{Word, Number, DistinctNumbers, Name}
use Rattle.mvs_model.specs.Name.{padded}
use Rattle.mvs_model.specs.Reading.{LineOf, is_name, is_text, set_of}
use Rattle.mvs_model.specs.Spelling.{Fits, keyword_text, line_text, list_text}
use Rattle.mvs_model.specs.Spellings.{Operand, AllFit, must, may, res, filled, numbers_spelling, residence_spelling}
use Rattle.mvs_model.proofs.Spellings.{each_is_spelled}
use Rattle.mvs_model.proofs.ValueTexts.{each_is_written}
use Rattle.mvs_c.specs.Asks.{residence_value}
use Rattle.mvs_c.specs.Statements.{IsReadAs, numbers_text, set_text}
use Rattle.mvs_c.proofs.StatementRows.{row3, row6, short_line}
use Rattle.mvs_c.proofs.ListRows.{in_parens, map_some}
use Rattle.mvs_c.proofs.SubpoolNumbers.{numbers_of, texts_are, are_between, are_in, are_distinct, are_set, are_some, are_apart}

-- ---- a list of numbers

-- a keyword with its text, if it has one, before other texts
abbrev pub with_text : List ℕ → Option (List ℕ) → List ℕ → List ℕ
with_text key None rest = rest
with_text key (Some text) rest = key ++ (text ++ rest)

-- What is written of a set.
pub record Writes (set : ℕ) (text : Option (List ℕ)) : Type 0 where
  pub fits : IfSome text (Fits (DistinctNumbers 1 127))
  pub value : set_of (numbers_spelling None text) ≡ set
  pub each : AllByRecursion (λ n. has_bit set n ≡ true) (numbers_spelling None text)
  pub row : (key rest : List ℕ) → set_text key set ++ rest ≡ with_text key text rest

row_of : (set : ℕ) (key rest : List ℕ) → set < 2 ^ 128 → set % 2 ≡ 0 → 1 ≤ set → set_text key set ++ rest ≡ key ++ (list_text (map decimal (numbers_of set 127)) ++ rest)
row_of set key rest low even some =
    let ts : List (List ℕ) = map decimal (numbers_of set 127) in
    ap (λ b. (if b then [] else key ++ numbers_text set 40 127 ++ codes ")") ++ rest) (ne_eqb set 0 (λ e. omega (arith, some, e)))
    ∙ append_assoc (key ++ numbers_text set 40 127) (codes ")") rest ∙ append_assoc key (numbers_text set 40 127) (41 ∷ rest)
    ∙ ap (λ (t : List ℕ). key ++ (t ++ (41 ∷ rest))) (texts_are set 40 127) ∙ ap (λ (t : List ℕ). key ++ t) (in_parens ts (map_some decimal (numbers_of set 127) (are_some set low even some)) rest)

pub is_written : (set : ℕ) → set < 2 ^ 128 → set % 2 ≡ 0 → (text : Option (List ℕ)) × Writes set text
is_written set low even = elim (eq-zero-or-pos set) as (λ _. (text : Option (List ℕ)) × Writes set text) [
  | inl none ↦ (None, record { fits = tt; value = sym none; each = tt; row = λ key rest. ap (λ (n : ℕ). set_text key n ++ rest) none })
  | inr some ↦ (
      let ns : List ℕ = numbers_of set 127 in
      let is = each_is_written.distinct_are 1 127 ns (are_some set low even some) (are_between set 127 (omega arith)) (lit< tt) (are_distinct set 127 (omega arith)) in (
        Some (list_text (map decimal ns)),
        record {
          fits = is.0;
          value = ap set_of is.1 ∙ are_set set low even;
          each = subst (λ ms. AllByRecursion (λ n. has_bit set n ≡ true) ms) (sym is.1) (are_in set 127);
          row = λ key rest. row_of set key rest low even some;
        },
      ))
]

-- ---- the other operands

abbrev zero_word : Bool → List ℕ
zero_word true = codes "NO"
zero_word false = codes "YES"

abbrev home_word : Bool → List ℕ
home_word true = codes "ABOVE"
home_word false = codes "BELOW"

zero_fits : (keeps : Bool) → Fits (Word (codes "YES" ∷ codes "NO" ∷ [])) (zero_word keeps)
zero_fits true = record { of_kind = refl; within = refl; once = refl; operand = record { word = record { some = refl; printed = refl }; closed = refl } }
zero_fits false = record { of_kind = refl; within = refl; once = refl; operand = record { word = record { some = refl; printed = refl }; closed = refl } }

home_fits : (above : Bool) → Fits (Word (codes "BELOW" ∷ codes "ABOVE" ∷ [])) (home_word above)
home_fits true = record { of_kind = refl; within = refl; once = refl; operand = record { word = record { some = refl; printed = refl }; closed = refl } }
home_fits false = record { of_kind = refl; within = refl; once = refl; operand = record { word = record { some = refl; printed = refl }; closed = refl } }

zero_is : (keeps : Bool) → not (is_text (codes "NO") (Some (zero_word keeps))) ≡ not keeps
zero_is true = refl
zero_is false = refl

home_is : (above : Bool) → residence_spelling (Some (home_word above)) ≡ residence_value above
home_is true = refl
home_is false = refl

zero_text : (keeps : Bool) → (if keeps then codes ",SZERO=NO" else codes ",SZERO=YES") ≡ codes ",SZERO=" ++ zero_word keeps
zero_text true = refl
zero_text false = refl

home_text : (above : Bool) → (if above then codes ",RES=ABOVE" else codes ",RES=BELOW") ≡ codes ",RES=" ++ home_word above
home_text true = refl
home_text false = refl

-- ---- the statement

abbrev attached_by : List ℕ → Option (List ℕ) → Option (List ℕ) → List ℕ → List ℕ → List Operand
attached_by name given shared zero home =
    must (codes "TASK") Name name ∷ may (codes "GSPV") (Number 1 127) None ∷ may (codes "GSPL") (DistinctNumbers 1 127) given ∷ may (codes "SHSPV") (Number 1 127) None
    ∷ may (codes "SHSPL") (DistinctNumbers 1 127) shared ∷ may (codes "SZERO") (Word (codes "YES" ∷ codes "NO" ∷ [])) (Some zero) ∷ res (Some home) ∷ []

abbrev attach : List ℕ → List ℕ → Option (List ℕ) → Option (List ℕ) → List ℕ → List ℕ → List ℕ
attach task name given shared zero home = line_text task (codes "ATTACH") (map keyword_text (filled (attached_by name given shared zero home)))

attach_line : (task name zero home : List ℕ) (given shared : Option (List ℕ))
    → task ++ (codes " " ++ (codes "ATTACH TASK=" ++ (name ++ with_text (codes ",GSPL=") given (with_text (codes ",SHSPL=") shared ((codes ",SZERO=" ++ zero) ++ (codes ",RES=" ++ home)))))) ≡ attach task name given shared zero home
attach_line task name zero home None None = refl
attach_line task name zero home None (Some s) = refl
attach_line task name zero home (Some g) None = refl
attach_line task name zero home (Some g) (Some s) = refl

abbrev pub attach_text : Bool → Bool → List ℕ → List ℕ → ℕ → ℕ → List ℕ
attach_text keeps above task name given shared =
    task ++ codes " " ++ (codes "ATTACH TASK=" ++ name ++ set_text (codes ",GSPL=") given ++ set_text (codes ",SHSPL=") shared ++ (if keeps then codes ",SZERO=NO" else codes ",SZERO=YES") ++ (if above then codes ",RES=ABOVE" else codes ",RES=BELOW"))

attach_row : (keeps above : Bool) (task name : List ℕ) (given shared : ℕ) (gives shares : Option (List ℕ)) → Writes given gives → Writes shared shares
    → attach_text keeps above task name given shared ≡ attach task name gives shares (zero_word keeps) (home_word above)
attach_row keeps above task name given shared gives shares g s =
    row3 task (codes " ") _
    ∙ ap (λ (t : List ℕ). task ++ (codes " " ++ t)) (
    row6 (codes "ATTACH TASK=") name (set_text (codes ",GSPL=") given) (set_text (codes ",SHSPL=") shared) (if keeps then codes ",SZERO=NO" else codes ",SZERO=YES") (if above then codes ",RES=ABOVE" else codes ",RES=BELOW")
    ∙ (λ i. codes "ATTACH TASK=" ++ (name ++ (set_text (codes ",GSPL=") given ++ (set_text (codes ",SHSPL=") shared ++ (zero_text keeps i ++ home_text above i)))))
    ∙ ap (λ (t : List ℕ). codes "ATTACH TASK=" ++ (name ++ (set_text (codes ",GSPL=") given ++ t))) (s.row (codes ",SHSPL=") ((codes ",SZERO=" ++ zero_word keeps) ++ (codes ",RES=" ++ home_word above)))
    ∙ ap (λ (t : List ℕ). codes "ATTACH TASK=" ++ (name ++ t)) (g.row (codes ",GSPL=") (with_text (codes ",SHSPL=") shares ((codes ",SZERO=" ++ zero_word keeps) ++ (codes ",RES=" ++ home_word above)))))
    ∙ attach_line task name (zero_word keeps) (home_word above) gives shares

pub attach_read : (keeps above : Bool) (task name : List ℕ) (given shared : ℕ) → is_name task ≡ true → is_name name ≡ true → given < 2 ^ 128 → shared < 2 ^ 128
    → IsGifts (record { given = given; shared = shared; zero = not keeps }) → length (attach_text keeps above task name given shared) ≤ 240
    → IsReadAs (padded task) (request.Attach (padded name) (record { given = given; shared = shared; zero = not keeps }) (residence_value above)) (attach_text keeps above task name given shared)
attach_read keeps above task name given shared named subtask_named given_low shared_low gifts few =
    let g = is_written given given_low gifts.zero_not_given in let s = is_written shared shared_low gifts.zero_not_shared in
    let same = attach_row keeps above task name given shared g.0 s.0 g.1 s.1 in
    let apart : list_any (λ n. list_any (◌==◌ n) (numbers_spelling None s.0)) (numbers_spelling None g.0) ≡ false = are_apart given shared (numbers_spelling None g.0) (numbers_spelling None s.0) gifts.apart g.1.each s.1.each in
    let fits : AllFit (attached_by name g.0 s.0 (zero_word keeps) (home_word above))
    = record { each = ((each_is_written.name_is name subtask_named).fits, (tt, (g.1.fits, (tt, (s.1.fits, (zero_fits keeps, (home_fits above, tt))))))) } in
    let r : SourceRequest = written.Attach (padded name) (record { given = set_of (numbers_spelling None g.0); shared = set_of (numbers_spelling None s.0); zero = not (is_text (codes "NO") (Some (zero_word keeps))) }) (residence_spelling (Some (home_word above))) in
    let short : length (attach task name g.0 s.0 (zero_word keeps) (home_word above)) ≤ 240 = subst (λ (t : List ℕ). length t ≤ 240) same few in
    record {
      written = r;
      read = subst (λ t. LineOf false t (line.Statement (padded task) (says.Request r))) (sym same)
          (each_is_spelled.attach name None g.0 None s.0 (Some (zero_word keeps)) (Some (home_word above)) refl refl apart fits task named (short_line _ short));
      request = λ names. λ i. Some (request.Attach (padded name) (record { given = g.1.value i; shared = s.1.value i; zero = zero_is keeps i }) (home_is above i));
    }

-- two words of 64 bits
pub in_words : (low high : ℕ) → low < 2 ^ 64 → high < 2 ^ 64 → low + 2 ^ 64 * high < 2 ^ 128
in_words low high l h = omega (arith, l, h)
