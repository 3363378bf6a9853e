-- Operands, taken one after the other.
use Rattle.std.proofs.Common.{◌≡◌, ℕ, zero, suc, ◌+◌, ◌<◌, List, [], ◌∷◌, ◌++◌, length, map, get_or, replicate, arith, refl, sym, ap, ◌∙◌, true, false, Bool, cond, Option, Some, None, length-append, append-nil}
use Rattle.std.proofs.Math.ListN.{set, length-set}
use Rattle.std.specs.Prelude.{◌&&◌, ◌||◌, not, bytes_eq, find, filter, position, slice_get, is_some, flat_map, nat_lt, if◌then◌else◌, IfSome, MatchOption}
use Rattle.std.specs.Option.{option_map}
use Rattle.std.specs.List.{list_any, position_or_len, after_first}
use Rattle.std.proofs.lemmas.Bool.Decides.{nat_tests}
use Rattle.std.proofs.lemmas.Grind.{flat_map-append}
use denote.Bor.{Bor}
use Rattle.mvs_model.specs.declared.line.Fault.{Fault}
use Rattle.mvs_model.specs.declared.line.Fault.TheVariants.{InvalidOperand, Repeated, OutOfRange}
use Rattle.mvs_model.specs.Grammar as grammar
use Rattle.mvs_model.specs.Reading.{first_of, operand_checks, with_left, kind_of, if_kind, is_of, is_within, repeats, has_key, key_of, text_of, is_for, has, value_of, positionals, is_equals, parts_within, ◌when◌}
use Rattle.mvs_model.specs.ReadingLaws.{IsTaken}
use Rattle.mvs_model.proofs.Reading.{none_first, or_false, not_false}
use Rattle.mvs_model.proofs.ReadingTaken.{under_key, bytes_same}
use Rattle.job_script.specs.declared.given.GivenOperands.{GivenOperands}
use Rattle.job_script.specs.declared.keys.TheConstants.{KEYS}
use Rattle.std.proofs.lemmas.Option.{slice_get-get_or}
use Rattle.job_script.specs.declared.rows.Keyword.{Keyword}
use Rattle.job_script.specs.declared.rows.Positional.{Positional}
use Rattle.job_script.specs.Kinds.{checks_of, as_kind}
use Rattle.job_script.specs.Rows.{row_at, key_text, as_keyword, as_positional}
use Rattle.job_script.specs.Places.{place_by, place_in}
use Rattle.job_script.specs.Parted.{field_in}
use Rattle.job_script.proofs.KeyPlaces.{mapped_some, same_place}
use Rattle.job_script.specs.GivenOperands.{option_now, kept, text_at, by_place, IsPlaced, IsGiven}
use Rattle.mvs_model.proofs.Tests.{bytes_self}
use Rattle.std.proofs.lemmas.Bool.{or_right}

-- ---- places of an array

abbrev Texts : Type 0
Texts = List (Option (Bor (List ℕ)))

pub kept_at : (xs : Texts) (i : ℕ) → kept (slice_get xs i) ≡ option_now (get_or xs i None)
kept_at [] i = refl
kept_at (x ∷ xs) zero = refl
kept_at (x ∷ xs) (suc i) = kept_at xs i

-- whether two places are one
abbrev is_place : ℕ → ℕ → Bool
is_place zero zero = true
is_place zero (suc i) = false
is_place (suc k) zero = false
is_place (suc k) (suc i) = is_place k i

one_place : (k i : ℕ) → is_place k i ≡ true → k ≡ i
one_place zero zero e = refl
one_place zero (suc i) e = absurd (let f : false ≡ true = e in cc)
one_place (suc k) zero e = absurd (let f : false ≡ true = e in cc)
one_place (suc k) (suc i) e = ap (λ n. suc n) (one_place k i e)

kept_set : (xs : Texts) (i : ℕ) (t : Bor (List ℕ)) (k : ℕ) → i < length xs → kept (slice_get (set xs i (Some t)) k) ≡ (if is_place k i then Some t.now else kept (slice_get xs k))
kept_set [] i t k h = absurd (omega arith)
kept_set (x ∷ xs) zero t zero h = refl
kept_set (x ∷ xs) zero t (suc k) h = refl
kept_set (x ∷ xs) (suc i) t zero h = refl
kept_set (x ∷ xs) (suc i) t (suc k) h = kept_set xs i t k (omega arith)

some_now : (o : Option (Bor (List ℕ))) → is_some (option_now o) ≡ is_some o
some_now None = refl
some_now (Some t) = refl

pub each_now : (P : List ℕ → Type 0) (o : Option (Bor (List ℕ))) (u : Option (List ℕ)) → option_now o ≡ u → ((text : List ℕ) → u ≡ Some text → P text) → IfSome o (λ t. P t.now)
each_now P None u e each = tt
each_now P (Some t) u e each = each t.now (sym e)

pub said_now : (o : Option (Bor (List ℕ))) (u : Option (List ℕ)) → option_now o ≡ u → MatchOption o (u ≡ None) (λ t. u ≡ Some t.now)
said_now None u e = sym e
said_now (Some t) u e = sym e

get_push : (xs : List (List ℕ)) (o : List ℕ) (k : ℕ) → slice_get (xs ++ o ∷ []) k ≡ (if is_place k (length xs) then Some o else slice_get xs k)
get_push [] o zero = refl
get_push [] o (suc k) = refl
get_push (x ∷ xs) o zero = refl
get_push (x ∷ xs) o (suc k) = get_push xs o k

-- ---- places of keys

lt_suc : (l n : ℕ) → nat_lt (suc l) (suc n) ≡ nat_lt l n
lt_suc l n = grind (arith, nat_tests)

zero_lt : (n : ℕ) → nat_lt 0 (suc n) ≡ true
zero_lt n = grind (arith, nat_tests)

found_step : (n l : ℕ) → cond (nat_lt (1 + l) (suc n)) (Some (1 + l)) None ≡ option_map (λ i. suc i) (cond (nat_lt l n) (Some l) None)
found_step n l = ap (λ m. cond (nat_lt m (suc n)) (Some m) None) (let s : 1 + l ≡ suc l = omega arith in s) ∙ ap (λ b. cond b (Some (suc l)) None) (lt_suc l n) ∙ at (nat_lt l n) where
  at : (b : Bool) → cond b (Some (suc l)) None ≡ option_map (λ i. suc i) (cond b (Some l) None)
  at true = refl
  at false = refl

pub place_is : {X : Type 0} (p : X → Bool) (xs : List X) → position p xs ≡ place_by p xs
place_is p [] = refl
place_is p (x ∷ xs) =
    elim (p x) as (λ b. cond (nat_lt (cond (not b) (1 + position_or_len p xs) 0) (suc (length xs))) (Some (cond (not b) (1 + position_or_len p xs) 0)) None ≡ (if b then Some 0 else option_map (λ i. suc i) (place_by p xs))) [
      | true ↦ ap (λ b. cond b (Some 0) None) (zero_lt (length xs))
      | false ↦ found_step (length xs) (position_or_len p xs) ∙ ap (option_map (λ i. suc i)) (place_is p xs)
    ]

pub place_map : {X Y : Type 0} (f : X → Y) (p : Y → Bool) (xs : List X) → place_by (λ x. p (f x)) xs ≡ place_by p (map f xs)
place_map f p [] = refl
place_map f p (x ∷ xs) = ap (λ o. if p (f x) then Some 0 else option_map (λ i. suc i) o) (place_map f p xs)

-- what is found stands at its place
not_mapped : (o : Option ℕ) → option_map (λ i. suc i) o ≡ None → o ≡ None
not_mapped None e = refl
not_mapped (Some i) e = absurd (let f : Some (suc i) ≡ None = e in cc)

pub place_none : {X : Type 0} (p : X → Bool) (xs : List X) → place_by p xs ≡ None → find p xs ≡ None
place_none p [] e = refl
place_none p (x ∷ xs) e =
    (elim (p x) as (λ b. (if b then Some 0 else option_map (λ i. suc i) (place_by p xs)) ≡ None → (if b then Some x else find p xs) ≡ None) [
      | true ↦ λ e. absurd (let f : Some 0 ≡ None = e in cc)
      | false ↦ λ e. place_none p xs (not_mapped (place_by p xs) e)
    ]) e

pub place_some : {X : Type 0} (p : X → Bool) (xs : List X) (i : ℕ) → place_by p xs ≡ Some i → find p xs ≡ slice_get xs i
place_some p [] i e = absurd (let f : None ≡ Some i = e in cc)
place_some p (x ∷ xs) i e =
    (elim (p x) as (λ b. (if b then Some 0 else option_map (λ i. suc i) (place_by p xs)) ≡ Some i → (if b then Some x else find p xs) ≡ slice_get (x ∷ xs) i) [
      | true ↦ λ e. ap (slice_get (x ∷ xs)) (let f : Some 0 ≡ Some i = e in let g : 0 ≡ i = cc in g)
      | false ↦ λ e.
          let m = mapped_some (place_by p xs) i e in
          place_some p xs m.0 m.1 ∙ ap (slice_get (x ∷ xs)) (sym m.2)
    ]) e

get_map : {X Y : Type 0} (f : X → Y) (xs : List X) (i : ℕ) → slice_get (map f xs) i ≡ option_map f (slice_get xs i)
get_map f [] i = refl
get_map f (x ∷ xs) zero = refl
get_map f (x ∷ xs) (suc i) = get_map f xs i

-- a table's place of a key, and its kind there
abbrev table_place : List Keyword → List ℕ → Option ℕ
table_place kws key = position (λ k. bytes_eq (key_text k.key) key) kws

pub row_place : (kws : List Keyword) (key : List ℕ) → table_place kws key ≡ place_by (λ k. bytes_eq k.key key) (map as_keyword kws)
row_place kws key = place_is (λ k. bytes_eq (key_text k.key) key) kws ∙ place_map as_keyword (λ k. bytes_eq k.key key) kws

pub place_kind : (kws : List Keyword) (key : List ℕ) (i : ℕ) → place_by (λ k. bytes_eq k.key key) (map as_keyword kws) ≡ Some i → i < length kws → (d : Keyword)
    → option_map (λ k. k.kind) (find (λ k. bytes_eq k.key key) (map as_keyword kws)) ≡ Some (as_kind (get_or kws i d).kind)
place_kind kws key i place within d =
    ap (option_map (λ k. k.kind)) (place_some (λ k. bytes_eq k.key key) (map as_keyword kws) i place ∙ get_map as_keyword kws i ∙ ap (option_map as_keyword) (slice_get-get_or kws i d within))

pub positional_kind : (ps : List Positional) (row : grammar.Row) → map as_positional ps ≡ row.positional → (i : ℕ) (p : Positional) → slice_get ps i ≡ Some p
    → option_map (λ p. p.kind) (slice_get row.positional i) ≡ Some (as_kind p.kind)
positional_kind ps row e i p is = ap (λ ps. option_map (λ p. p.kind) (slice_get ps i)) (sym e) ∙ ap (option_map (λ p. p.kind)) (get_map as_positional ps i ∙ ap (option_map as_positional) is)

-- ---- checks

-- the checks of an operand by its kind
abbrev checks_with : Option grammar.Kind → Bool → List ℕ → List (Fault × Bool)
checks_with kind again text =
    InvalidOperand when not (if_kind (λ kind. is_of kind text) kind)
    ∷ Repeated when (again || if_kind (λ kind. repeats kind text) kind)
    ∷ OutOfRange when not (if_kind (λ kind. is_within kind text) kind)
    ∷ []

-- an operand that the row does not have there
pub not_there : (row : grammar.Row) (left : List (List ℕ)) (operand : List ℕ) → kind_of row left operand ≡ None → first_of (operand_checks row (left, operand)) ≡ Some InvalidOperand
not_there row left operand e = ap (λ kind. first_of (checks_with kind (has_key operand && has (key_of operand) left) (text_of operand))) e

-- one that it has
pub there : (row : grammar.Row) (left : List (List ℕ)) (operand : List ℕ) (kind : grammar.Kind) (again : Bool) (text : List ℕ) → kind_of row left operand ≡ Some kind → (has_key operand && has (key_of operand) left) ≡ again → text_of operand ≡ text
    → first_of (operand_checks row (left, operand)) ≡ first_of (checks_of kind again text)
there row left operand kind again text k a t = λ i. first_of (checks_with (k i) (a i) (t i))

-- what no check is against is of its kind and in its range
pub none_against : (kind : grammar.Kind) (again : Bool) (text : List ℕ) → first_of (checks_of kind again text) ≡ None → (is_of kind text ≡ true) × (is_within kind text ≡ true)
none_against kind again text e =
    let a = none_first (InvalidOperand when not (is_of kind text)) (Repeated when (again || repeats kind text) ∷ OutOfRange when not (is_within kind text) ∷ []) e in
    let b = none_first (Repeated when (again || repeats kind text)) (OutOfRange when not (is_within kind text) ∷ []) a.1 in
    let c = none_first (OutOfRange when not (is_within kind text)) [] b.1 in
    (not_false (is_of kind text) a.0, not_false (is_within kind text) c.0)

-- ---- those on the left

abbrev Placed : Type 0
Placed = List (List ℕ) × List ℕ

abbrev onto : List ℕ → List Placed → List Placed
onto x ps = map (λ p. (x ∷ p.0, p.1)) ps

onto_append : (x : List ℕ) (ps qs : List Placed) → onto x (ps ++ qs) ≡ onto x ps ++ onto x qs
onto_append x [] qs = refl
onto_append x (p ∷ ps) qs = ap (λ rs. (x ∷ p.0, p.1) ∷ rs) (onto_append x ps qs)

-- an operand with those on its left, and others after it
pub left_split : (left : List (List ℕ)) (operand : List ℕ) (rest : List (List ℕ)) → (trailing : List Placed) × (with_left (left ++ operand ∷ rest) ≡ with_left left ++ (left, operand) ∷ trailing)
left_split [] operand rest = (onto operand (with_left rest), refl)
left_split (x ∷ left) operand rest =
    let s = left_split left operand rest in
    (onto x s.0, ap (λ ps. ([], x) ∷ onto x ps) s.1 ∙ ap (λ ps. ([], x) ∷ ps) (onto_append x (with_left left) ((left, operand) ∷ s.0)))

left_push : (left : List (List ℕ)) (operand : List ℕ) → with_left (left ++ operand ∷ []) ≡ with_left left ++ (left, operand) ∷ []
left_push [] operand = refl
left_push (x ∷ left) operand = ap (λ ps. ([], x) ∷ onto x ps) (left_push left operand) ∙ ap (λ ps. ([], x) ∷ ps) (onto_append x (with_left left) ((left, operand) ∷ []))

pub is_first_after : (front trailing : List (Fault × Bool)) → first_of front ≡ None → first_of (front ++ trailing) ≡ first_of trailing
is_first_after [] trailing e = refl
is_first_after (check ∷ front) trailing e =
    let a = none_first check front e in
    ap (λ b. if b then Some check.0 else first_of (front ++ trailing)) a.0 ∙ is_first_after front trailing a.1

pub first_front : (front trailing : List (Fault × Bool)) (fault : Fault) → first_of front ≡ Some fault → first_of (front ++ trailing) ≡ Some fault
first_front [] trailing fault e = absurd (let f : None ≡ Some fault = e in cc)
first_front (check ∷ front) trailing fault e =
    (elim check.1 as (λ b. (if b then Some check.0 else first_of front) ≡ Some fault → (if b then Some check.0 else first_of (front ++ trailing)) ≡ Some fault) [
      | true ↦ λ e. e
      | false ↦ λ e. first_front front trailing fault e
    ]) e

abbrev NoneAgainst : grammar.Row → List (List ℕ) → Type 0
NoneAgainst row left = first_of (flat_map (operand_checks row) (with_left left)) ≡ None

taken_more : (row : grammar.Row) (left : List (List ℕ)) (operand : List ℕ) → NoneAgainst row left → first_of (operand_checks row (left, operand)) ≡ None → NoneAgainst row (left ++ operand ∷ [])
taken_more row left operand none here =
    ap (λ ps. first_of (flat_map (operand_checks row) ps)) (left_push left operand)
    ∙ ap first_of (flat_map-append (operand_checks row) (with_left left) ((left, operand) ∷ []))
    ∙ is_first_after (flat_map (operand_checks row) (with_left left)) (operand_checks row (left, operand) ++ []) none
    ∙ is_first_after (operand_checks row (left, operand)) [] here

-- the first operand that is not taken decides
pub fault_at : (row : grammar.Row) (left : List (List ℕ)) (operand : List ℕ) (rest : List (List ℕ)) (fault : Fault) → NoneAgainst row left → first_of (operand_checks row (left, operand)) ≡ Some fault
    → first_of (flat_map (operand_checks row) (with_left (left ++ operand ∷ rest))) ≡ Some fault
fault_at row left operand rest fault none here =
    let s = left_split left operand rest in
    ap (λ ps. first_of (flat_map (operand_checks row) ps)) s.1
    ∙ ap first_of (flat_map-append (operand_checks row) (with_left left) ((left, operand) ∷ s.0))
    ∙ is_first_after (flat_map (operand_checks row) (with_left left)) (operand_checks row (left, operand) ++ flat_map (operand_checks row) s.0) none
    ∙ first_front (operand_checks row (left, operand)) (flat_map (operand_checks row) s.0) fault here

-- ---- one operand more

any_push : (p : List ℕ → Bool) (xs : List (List ℕ)) (x : List ℕ) → list_any p (xs ++ x ∷ []) ≡ (list_any p xs || p x)
any_push p [] x = elim (p x) as (λ b. (b || false) ≡ b) [ true ↦ refl | false ↦ refl ]
any_push p (y ∷ xs) x = elim (p y) as (λ b. (b || list_any p (xs ++ x ∷ [])) ≡ ((b || list_any p xs) || p x)) [
  | true ↦ refl
  | false ↦ any_push p xs x
]

find_push : (p : List ℕ → Bool) (xs : List (List ℕ)) (x : List ℕ) → find p (xs ++ x ∷ []) ≡ (if is_some (find p xs) then find p xs else (if p x then Some x else None))
find_push p [] x = refl
find_push p (y ∷ xs) x = elim (p y) as (λ b. (if b then Some y else find p (xs ++ x ∷ [])) ≡ (if is_some (if b then Some y else find p xs) then (if b then Some y else find p xs) else (if p x then Some x else None))) [
  | true ↦ refl
  | false ↦ find_push p xs x
]

filter_push : (p : List ℕ → Bool) (xs : List (List ℕ)) (x : List ℕ) → filter p (xs ++ x ∷ []) ≡ filter p xs ++ (if p x then x ∷ [] else [])
filter_push p [] x = elim (p x) as (λ b. (if b then x ∷ [] else []) ≡ [] ++ (if b then x ∷ [] else [])) [
  | true ↦ refl
  | false ↦ refl
]
filter_push p (y ∷ xs) x = elim (p y) as (λ b. (if b then y ∷ filter p (xs ++ x ∷ []) else filter p (xs ++ x ∷ [])) ≡ (if b then y ∷ filter p xs else filter p xs) ++ (if p x then x ∷ [] else [])) [
  | true ↦ ap (λ ys. y ∷ ys) (filter_push p xs x)
  | false ↦ filter_push p xs x
]

-- what is taken is of its kind and in its range, under its key
pub taken_text : (g : GivenOperands) (left : List (List ℕ)) → IsGiven g left → (key text : List ℕ) → (by_place g).under key ≡ Some text → IsTaken (row_at g.row) key text
taken_text g left given key text e = under_key (row_at g.row) left given.taken key text (sym (ap (λ b. b.under key) given.same) ∙ e)

place_itself : (i : ℕ) → is_place i i ≡ true
place_itself zero = refl
place_itself (suc i) = place_itself i

-- ---- what one operand more changes

module _ (g : GivenOperands) (left : List (List ℕ)) (operand : List ℕ) (given : IsGiven g left) where
  -- a positional operand: what stands under keys stays
  plain_under : has_key operand ≡ false → (key : List ℕ) → value_of key (left ++ operand ∷ []) ≡ value_of key left
  plain_under e key =
      ap (option_map text_of) (find_push (is_for key) left operand)
      ∙ ap (λ b. option_map text_of (if is_some (find (is_for key) left) then find (is_for key) left else (if b && bytes_eq (key_of operand) key then Some operand else None))) e
      ∙ at (find (is_for key) left) where
        at : (o : Option (List ℕ)) → option_map text_of (if is_some o then o else None) ≡ option_map text_of o
        at None = refl
        at (Some x) = refl

  plain_positionals : has_key operand ≡ false → positionals (left ++ operand ∷ []) ≡ positionals left ++ operand ∷ []
  plain_positionals e =
      filter_push (λ operand. not (has_key operand)) left operand ∙ ap (λ b. positionals left ++ (if not b then operand ∷ [] else [])) e

  counted : g.count ≡ length (positionals left)
  counted = ap (λ b. b.count) given.same

  -- the places with the operand after the others
  plain_at : has_key operand ≡ false → (t : Bor (List ℕ)) → t.now ≡ operand → g.count < length g.places → (k : ℕ)
      → text_at (set g.places g.count (Some t)) (Some k) ≡ slice_get (positionals (left ++ operand ∷ [])) k
  plain_at e t is room k =
      kept_set g.places g.count t k room
      ∙ (λ i. if is_place k (counted i) then Some (is i) else ap (λ b. b.at k) given.same i)
      ∙ sym (get_push (positionals left) operand k)
      ∙ ap (λ xs. slice_get xs k) (sym (plain_positionals e))

  -- without a key on the left, the kind of a positional operand is that of its place
  plain_kind : has_key operand ≡ false → g.keyed ≡ false → kind_of (row_at g.row) left operand ≡ option_map (λ p. p.kind) (slice_get (row_at g.row).positional g.count)
  plain_kind e k =
      let row = row_at g.row in
      let place : g.count ≡ length left = given.plain k in
      ap (λ b. if b then option_map (λ k. k.kind) (find (λ k. bytes_eq k.key (key_of operand)) row.keywords) else (if list_any has_key left then None else option_map (λ p. p.kind) (slice_get row.positional (length left)))) e
      ∙ ap (λ b. if b then None else option_map (λ p. p.kind) (slice_get row.positional (length left))) (sym given.keyed ∙ k)
      ∙ ap (λ n. option_map (λ p. p.kind) (slice_get row.positional n)) (sym place)

  plain_checks : has_key operand ≡ false → g.keyed ≡ false → (kind : grammar.Kind) → option_map (λ p. p.kind) (slice_get (row_at g.row).positional g.count) ≡ Some kind
      → first_of (operand_checks (row_at g.row) (left, operand)) ≡ first_of (checks_of kind false operand)
  plain_checks e k kind is =
      there (row_at g.row) left operand kind false operand (plain_kind e k ∙ is) (ap (λ b. b && has (key_of operand) left) e) (ap (λ b. if b then after_first is_equals operand else operand) e)

  -- a positional operand is taken
  pub plain_given : has_key operand ≡ false → g.keyed ≡ false → (t : Bor (List ℕ)) → t.now ≡ operand → g.count < length g.places → (kind : grammar.Kind)
      → option_map (λ p. p.kind) (slice_get (row_at g.row).positional g.count) ≡ Some kind → first_of (checks_of kind false operand) ≡ None
      → IsGiven (record g { places = set g.places g.count (Some t); count = g.count + 1 }) (left ++ operand ∷ [])
  plain_given e k t is room kind kind_is none =
      let row = row_at g.row in
      let long : length (positionals left ++ operand ∷ []) ≡ length (positionals left) + 1 = length-append (positionals left) (operand ∷ []) in
      let more : g.count + 1 ≡ length (positionals (left ++ operand ∷ [])) = ap (λ n. n + 1) counted ∙ sym long ∙ ap length (sym (plain_positionals e)) in
      let longer : length (left ++ operand ∷ []) ≡ length left + 1 = length-append left (operand ∷ []) in
      record {
        table = given.table;
        three = length-set g.places g.count (Some t) ∙ given.three;
        keys = given.keys;
        same = λ i. record { under = λ key. (ap (λ b. b.under key) given.same ∙ sym (plain_under e key)) i; at = λ n. plain_at e t is room n i; count = more i };
        keyed = k ∙ sym (any_push has_key left operand ∙ (λ i. (sym given.keyed ∙ k) i || e i));
        plain = λ _. ap (λ n. n + 1) (given.plain k) ∙ sym longer;
        taken = taken_more row left operand given.taken (plain_checks e k kind kind_is ∙ none);
        placed = λ n text said. placed n text (is_place n g.count) refl (sym (kept_set g.places g.count t n room) ∙ said);
      } where
        placed : (n : ℕ) (text : List ℕ) (b : Bool) → is_place n g.count ≡ b → (if b then Some t.now else kept (slice_get g.places n)) ≡ Some text → IsPlaced (row_at g.row) n text
        placed n text true p said =
            let a = none_against kind false operand none in
            let here : n ≡ g.count = one_place n g.count p in
            let same_text : operand ≡ text = sym is ∙ (let f : Some t.now ≡ Some text = said in cc) in
            let there_kind : option_map (λ p. p.kind) (slice_get (row_at g.row).positional n) ≡ Some kind = ap (λ n. option_map (λ p. p.kind) (slice_get (row_at g.row).positional n)) here ∙ kind_is in
            record {
              of_kind = ap (λ o. if_kind (λ kind. is_of kind text) o) there_kind ∙ ap (is_of kind) (sym same_text) ∙ a.0;
              within = ap (λ o. if_kind (λ kind. is_within kind text) o) there_kind ∙ ap (is_within kind) (sym same_text) ∙ a.1;
            }
        placed n text false p said = given.placed n text said

  -- ---- an operand with a key

  key_under : has_key operand ≡ true → (i : ℕ) → place_in (key_of operand) ≡ Some i → i < length g.texts → (t : Bor (List ℕ)) → t.now ≡ text_of operand → has (key_of operand) left ≡ false → (key : List ℕ)
      → text_at (set g.texts i (Some t)) (place_in key) ≡ value_of key (left ++ operand ∷ [])
  key_under e i place room t is once key = at (bytes_eq (key_of operand) key) refl where
    row : grammar.Row
    row = row_at g.row

    said : value_of key (left ++ operand ∷ []) ≡ option_map text_of (if is_some (find (is_for key) left) then find (is_for key) left else (if bytes_eq (key_of operand) key then Some operand else None))
    said = ap (option_map text_of) (find_push (is_for key) left operand)
        ∙ ap (λ b. option_map text_of (if is_some (find (is_for key) left) then find (is_for key) left else (if b && bytes_eq (key_of operand) key then Some operand else None))) e

    none_left : (o : Option (List ℕ)) → is_some (option_map text_of o) ≡ false → (if is_some o then o else Some operand) ≡ Some operand
    none_left None n = refl
    none_left (Some x) n = absurd (let f : true ≡ false = n in cc)

    some_left : (o : Option (List ℕ)) → (if is_some o then o else None) ≡ o
    some_left None = refl
    some_left (Some x) = refl

    other : (o : Option ℕ) → place_in key ≡ o → bytes_eq (key_of operand) key ≡ false → text_at (set g.texts i (Some t)) o ≡ text_at g.texts o
    other None p f = refl
    other (Some j) p f = kept_set g.texts i t j room ∙ apart (is_place j i) refl where
      apart : (b : Bool) → is_place j i ≡ b → (if b then Some t.now else kept (slice_get g.texts j)) ≡ kept (slice_get g.texts j)
      apart true q = absurd (
          let here : place_in key ≡ Some i = p ∙ ap (λ n. Some n) (one_place j i q) in
          let same : key_of operand ≡ key = same_place (key_of operand) key i place here in
          let f : true ≡ false = sym (bytes_self key) ∙ ap (λ k. bytes_eq k key) (sym same) ∙ f in
          cc
          )
      apart false q = refl

    at : (b : Bool) → bytes_eq (key_of operand) key ≡ b → text_at (set g.texts i (Some t)) (place_in key) ≡ value_of key (left ++ operand ∷ [])
    at true b =
        let same : key_of operand ≡ key = bytes_same (key_of operand) key b in
        let here : place_in key ≡ Some i = ap place_in (sym same) ∙ place in
        let once_here : has key left ≡ false = ap (λ k. has k left) (sym same) ∙ once in
        ap (text_at (set g.texts i (Some t))) here
        ∙ kept_set g.texts i t i room
        ∙ ap (λ b. if b then Some t.now else kept (slice_get g.texts i)) (place_itself i)
        ∙ ap (λ x. Some x) is
        ∙ sym (said ∙ ap (λ b. option_map text_of (if is_some (find (is_for key) left) then find (is_for key) left else (if b then Some operand else None))) b
        ∙ ap (option_map text_of) (none_left (find (is_for key) left) once_here))
    at false b =
        other (place_in key) refl b
        ∙ ap (λ b. b.under key) given.same
        ∙ sym (said ∙ ap (λ b. option_map text_of (if is_some (find (is_for key) left) then find (is_for key) left else (if b then Some operand else None))) b ∙ ap (option_map text_of) (some_left (find (is_for key) left)))

  key_positionals : has_key operand ≡ true → positionals (left ++ operand ∷ []) ≡ positionals left
  key_positionals e =
      filter_push (λ operand. not (has_key operand)) left operand ∙ ap (λ b. positionals left ++ (if not b then operand ∷ [] else [])) e ∙ append-nil (positionals left)

  key_kind : has_key operand ≡ true → kind_of (row_at g.row) left operand ≡ option_map (λ k. k.kind) (find (λ k. bytes_eq k.key (key_of operand)) (row_at g.row).keywords)
  key_kind e =
      let row = row_at g.row in
      ap (λ b. if b then option_map (λ k. k.kind) (find (λ k. bytes_eq k.key (key_of operand)) row.keywords) else (if list_any has_key left then None else option_map (λ p. p.kind) (slice_get row.positional (length left)))) e

  -- what is found against a text under its key is found against the operand
  pub key_checks : has_key operand ≡ true → (kind : grammar.Kind) (again : Bool) → option_map (λ k. k.kind) (find (λ k. bytes_eq k.key (key_of operand)) (row_at g.row).keywords) ≡ Some kind → has (key_of operand) left ≡ again
      → first_of (operand_checks (row_at g.row) (left, operand)) ≡ first_of (checks_of kind again (text_of operand))
  key_checks e kind again kind_is a = there (row_at g.row) left operand kind again (text_of operand) (key_kind e ∙ kind_is) (ap (λ b. b && has (key_of operand) left) e ∙ a) refl

  -- a key that the row does not have
  pub key_unknown : has_key operand ≡ true → find (λ k. bytes_eq k.key (key_of operand)) (row_at g.row).keywords ≡ None → first_of (operand_checks (row_at g.row) (left, operand)) ≡ Some InvalidOperand
  key_unknown e none = not_there (row_at g.row) left operand (key_kind e ∙ ap (option_map (λ k. k.kind)) none)

  -- whether the key stands on the left is seen at its place
  pub key_again : (i : ℕ) → place_in (key_of operand) ≡ Some i → has (key_of operand) left ≡ is_some (get_or g.texts i None)
  key_again i place =
      ap is_some (sym (ap (λ b. b.under (key_of operand)) given.same)) ∙ ap (λ o. is_some (text_at g.texts o)) place ∙ ap is_some (kept_at g.texts i) ∙ some_now (get_or g.texts i None)

  -- an operand with a key is taken
  pub key_given : has_key operand ≡ true → (i : ℕ) → place_in (key_of operand) ≡ Some i → i < length g.texts → (t : Bor (List ℕ)) → t.now ≡ text_of operand → (kind : grammar.Kind) (again : Bool)
      → option_map (λ k. k.kind) (find (λ k. bytes_eq k.key (key_of operand)) (row_at g.row).keywords) ≡ Some kind → has (key_of operand) left ≡ again → first_of (checks_of kind again (text_of operand)) ≡ None
      → IsGiven (record g { keyed = true; texts = set g.texts i (Some t) }) (left ++ operand ∷ [])
  key_given e i place room t is kind again kind_is again_is none =
      let first = none_first (InvalidOperand when not (is_of kind (text_of operand))) (Repeated when (again || repeats kind (text_of operand)) ∷ OutOfRange when not (is_within kind (text_of operand)) ∷ []) none in
      let second = none_first (Repeated when (again || repeats kind (text_of operand))) (OutOfRange when not (is_within kind (text_of operand)) ∷ []) first.1 in
      let once : has (key_of operand) left ≡ false = again_is ∙ (or_false again (repeats kind (text_of operand)) second.0).0 in
      record {
        table = given.table;
        three = given.three;
        keys = length-set g.texts i (Some t) ∙ given.keys;
        same = λ j. record {
          under = λ key. key_under e i place room t is once key j;
          at = λ n. (ap (λ b. b.at n) given.same ∙ ap (λ xs. slice_get xs n) (sym (key_positionals e))) j;
          count = (counted ∙ ap length (sym (key_positionals e))) j;
        };
        keyed = sym (any_push has_key left operand ∙ ap (λ b. list_any has_key left || b) e ∙ or_right (list_any has_key left) true refl);
        plain = λ f. absurd (let g : true ≡ false = f in cc);
        taken = taken_more (row_at g.row) left operand given.taken (key_checks e kind again kind_is again_is ∙ none);
        placed = given.placed;
      }

-- what is known when the operands on the left of a text were taken
pub record TakesOn (old now : GivenOperands) (field rest : List ℕ) : Type 0 where
  pub left : List (List ℕ)
  pub parts : parts_within 0 (field_in field) ≡ left ++ parts_within 0 (field_in rest)
  pub given : IsGiven now left
  pub row : now.row ≡ old.row

-- nothing stands in any place of an array of nothing
none_kept : (n m : ℕ) → kept (slice_get (replicate n None) m) ≡ None
none_kept zero m = refl
none_kept (suc n) zero = refl
none_kept (suc n) (suc m) = none_kept n m

nowhere : (n : ℕ) (o : Option ℕ) → text_at (replicate n None) o ≡ None
nowhere n None = refl
nowhere n (Some m) = none_kept n m

pub nothing_given : (g : GivenOperands) → map as_keyword g.keywords.now ≡ (row_at g.row).keywords → g.places ≡ replicate 3 None → g.texts ≡ replicate KEYS None → g.keyed ≡ false → g.count ≡ 0 → IsGiven g []
nothing_given g table p t k n = record {
  table = table;
  three = ap length p;
  keys = ap length t;
  same = λ i. record { under = λ key. (ap (λ ts. text_at ts (place_in key)) t ∙ nowhere KEYS (place_in key)) i; at = λ m. (ap (λ ps. text_at ps (Some m)) p ∙ none_kept 3 m) i; count = n i };
  keyed = k;
  plain = λ _. n;
  taken = refl;
  placed = λ m text said. absurd (let f : None ≡ Some text = sym (ap (λ ps. text_at ps (Some m)) p ∙ none_kept 3 m) ∙ said in cc);
}

-- there is an operand more
pub some_operand : (P : List (List ℕ)) (o : List ℕ) (more : Option (Bor (List ℕ))) → MatchOption more (P ≡ o ∷ []) (λ rest. P ≡ o ∷ parts_within 0 (field_in rest.now)) → (trailing : List (List ℕ)) × (P ≡ o ∷ trailing)
some_operand P o None e = ([], e)
some_operand P o (Some rest) e = (parts_within 0 (field_in rest.now), e)
