-- The names of a line and of a text, a piece at a time.
use Rattle.std.proofs.Common.{◌≡◌, ℕ, suc, ◌+◌, ◌-◌, ◌<◌, ◌≤◌, ◌==◌, Bool, true, false, not, cond, if◌then◌else◌, List, [], ◌∷◌, ◌++◌, length, drop, get_or, add-one, append_assoc, arith, Bor, sym, ap, ◌∙◌, Option, Some, None}
use Rattle.std.specs.Prelude.{◌||◌, ◌&&◌, flat_map, IfSome, MatchOption}
use Rattle.std.specs.List.{after_first, before_first, list_any, onto_first, position_or_len, prefix_len}
use Rattle.std.proofs.Math.Seq.{drop-cons}
use Rattle.std.proofs.lemmas.List.{length-append, length-drop, length-take}
use Rattle.mvs_model.specs.Lines.{lines_of}
use Rattle.mvs_model.specs.Reading.{is_equals, key_of, parts_within}
use Rattle.job_script.specs.Parted.{field_in}
use Rattle.expected_answers.proofs.Cutting.{first_line}
use Rattle.language_server.specs.declared.names.Occurrence.{Occurrence}
use Rattle.language_server.specs.Names.{PieceValue, StatementValue, kind_of, line_names, names_by, names_from, operand_names, placed, step_after}

-- the place of a byte that passes is in the text, and what is before it and after it has the other bytes
some_within : (p : ℕ → Bool) (xs : List ℕ) → list_any p xs ≡ true → position_or_len p xs < length xs
some_within p [] h = absurd (let f : false ≡ true = h in cc)
some_within p (x ∷ xs) h = elim (p x) as (λ b. (b || list_any p xs) ≡ true → cond (not b) (1 + position_or_len p xs) 0 < suc (length xs)) [
  | true ↦ λ h. omega arith
  | false ↦ λ h. let r = some_within p xs h in omega (arith, r)
] h

pub cut_length : (p : ℕ → Bool) (xs : List ℕ) → list_any p xs ≡ true → length (before_first p xs) + 1 + length (after_first p xs) ≡ length xs
cut_length p xs h =
    let w = some_within p xs h in
    let t = length-take (position_or_len p xs) xs in
    let d = length-drop (position_or_len p xs + 1) xs in
    omega (arith, w, t, d)

pub byte_whole : (p : ℕ → Bool) (text before : List ℕ) (more : Option (Bor (List ℕ))) → before ≡ before_first p text
    → MatchOption more ((list_any p text ≡ false) × (after_first p text ≡ [])) (λ rest. (list_any p text ≡ true) × (rest.now ≡ after_first p text))
    → MatchOption more (length before ≤ length text) (λ rest. length before + 1 + length rest.now ≡ length text)
byte_whole p text before None is after = let e = ap length is in let t = length-take (position_or_len p text) text in omega (arith, e, t)
byte_whole p text before (Some rest) is after =
    let e = ap length is in
    let r = ap length after.1 in
    let c = cut_length p text after.0 in
    omega (arith, e, r, c)

pub line_cut : (text line : List ℕ) (more : Option (Bor (List ℕ))) → line ≡ before_first (λ b. b == 10) text
    → MatchOption more ((list_any (λ b. b == 10) text ≡ false) × (after_first (λ b. b == 10) text ≡ [])) (λ rest. (list_any (λ b. b == 10) text ≡ true) × (rest.now ≡ after_first (λ b. b == 10) text))
    → 0 < length text → MatchOption more (lines_of text ≡ line ∷ []) (λ rest. lines_of text ≡ line ∷ lines_of rest.now)
line_cut text line None is after some = first_line text some ∙ ap (λ l. l ∷ lines_of (after_first (λ b. b == 10) text)) (sym is) ∙ ap (λ a. line ∷ lines_of a) after.1
line_cut text line (Some rest) is after some = first_line text some ∙ ap (λ l. l ∷ lines_of (after_first (λ b. b == 10) text)) (sym is) ∙ ap (λ a. line ∷ lines_of a) (sym after.1)

-- the bytes of pieces, with one more for each
abbrev joined : List (List ℕ) → ℕ
joined [] = 0
joined (piece ∷ pieces) = length piece + 1 + joined pieces

onto_joined : (b : ℕ) (pieces : List (List ℕ)) → 1 ≤ joined pieces → joined (onto_first b pieces) ≡ joined pieces + 1
onto_joined b [] some = absurd (omega arith)
onto_joined b (piece ∷ pieces) some = omega arith

parts_joined : (opened : ℕ) (bytes : List ℕ) → joined (parts_within opened bytes) ≡ length bytes + 1
parts_joined opened [] = omega arith
parts_joined opened (b ∷ bytes) =
    elim ((b == 44) && (opened == 0)) as (λ t. joined (if t then [] ∷ parts_within 0 bytes else onto_first b (parts_within (if b == 40 then opened + 1 else (if b == 41 then opened - 1 else opened)) bytes)) ≡ suc (length bytes) + 1) [
      | true ↦ let r = parts_joined 0 bytes in omega (arith, r)
      | false ↦
          let r = parts_joined (if b == 40 then opened + 1 else (if b == 41 then opened - 1 else opened)) bytes in
          let o = onto_joined b (parts_within (if b == 40 then opened + 1 else (if b == 41 then opened - 1 else opened)) bytes) (omega (arith, r)) in
          omega (arith, r, o)
    ]

field_short : (text : List ℕ) → length (field_in text) ≤ length text
field_short [] = omega arith
field_short (b ∷ text) = elim (b == 32) as (λ t. length (if t then [] else b ∷ field_in text) ≤ suc (length text)) [
  | true ↦ omega arith
  | false ↦ let r = field_short text in omega (arith, r)
]

pub operand_whole : (text operand : List ℕ) (more : Option (Bor (List ℕ)))
    → MatchOption more (parts_within 0 (field_in text) ≡ operand ∷ []) (λ rest. parts_within 0 (field_in text) ≡ operand ∷ parts_within 0 (field_in rest.now))
    → IfSome more (λ rest. text ≡ operand ++ 44 ∷ rest.now)
    → MatchOption more (length operand ≤ length text) (λ rest. length operand + 1 + length rest.now ≡ length text)
operand_whole text operand None parts cut =
    let j = parts_joined 0 (field_in text) in
    let e = ap joined parts in
    let f = field_short text in
    omega (arith, j, e, f)
operand_whole text operand (Some rest) parts cut = let e = ap length cut in let a = length-append operand (44 ∷ rest.now) in omega (arith, e, a)

-- the blanks with which a text begins
pub blanks_more : (text : List ℕ) (i : ℕ) → i < length text → (get_or text i 0 == 32) ≡ true → (i + 1) + prefix_len (λ b. b == 32) (drop (i + 1) text) ≡ i + prefix_len (λ b. b == 32) (drop i text)
blanks_more text i h e = rw (drop-cons text i 0 h, e, add-one i) (omega arith)

pub blanks_end : (text : List ℕ) (i : ℕ) → i < length text → (get_or text i 0 == 32) ≡ false → i + prefix_len (λ b. b == 32) (drop i text) ≡ i
blanks_end text i h e = rw (drop-cons text i 0 h, e) (omega arith)

abbrev piece : ℕ → List ℕ → PieceValue
piece at bytes = record { at = at; bytes = bytes }

-- an operand with a key, and one without
module _ (s : StatementValue) (at : ℕ) (operand : List ℕ) where
  abbrev names_if : Bool → List Occurrence
  names_if b = names_by (kind_of s.operation (if b then key_of operand else [])) s (if b then piece (at + length (key_of operand) + 1) (if b then after_first is_equals operand else operand) else piece at operand)

  pub with_key : (key value : List ℕ) → key ≡ before_first is_equals operand → list_any is_equals operand ≡ true → value ≡ after_first is_equals operand
      → names_by (kind_of s.operation key) s (piece (at + length key + 1) value) ≡ operand_names s (piece at operand)
  with_key key value k any v =
      ap (λ k. names_by (kind_of s.operation k) s (piece (at + length k + 1) value)) k
      ∙ ap (λ v. names_by (kind_of s.operation (key_of operand)) s (piece (at + length (key_of operand) + 1) v)) v
      ∙ sym (ap names_if any)

  pub without_key : list_any is_equals operand ≡ false → names_by (kind_of s.operation []) s (piece at operand) ≡ operand_names s (piece at operand)
  without_key none = sym (ap names_if none)

-- an operand is done, and a line
pub operands_more : (s : StatementValue) (place : ℕ) (rest operand next : List ℕ) (found found' : List Occurrence) → found' ≡ found ++ operand_names s (piece place operand)
    → parts_within 0 (field_in rest) ≡ operand ∷ parts_within 0 (field_in next)
    → found' ++ flat_map (operand_names s) (placed (place + (length operand + 1)) (parts_within 0 (field_in next))) ≡ found ++ flat_map (operand_names s) (placed place (parts_within 0 (field_in rest)))
operands_more s place rest operand next found found' new cut =
    let same : place + (length operand + 1) ≡ place + length operand + 1 = omega arith in
    ap (λ f. f ++ flat_map (operand_names s) (placed (place + (length operand + 1)) (parts_within 0 (field_in next)))) new
    ∙ append_assoc found (operand_names s (piece place operand)) (flat_map (operand_names s) (placed (place + (length operand + 1)) (parts_within 0 (field_in next))))
    ∙ ap (λ at. found ++ (operand_names s (piece place operand) ++ flat_map (operand_names s) (placed at (parts_within 0 (field_in next))))) same
    ∙ ap (λ parts. found ++ flat_map (operand_names s) (placed place parts)) (sym cut)

pub lines_more : (n step step' place : ℕ) (rest line next : List ℕ) (found found' : List Occurrence) → step' ≡ step_after step (piece place line)
    → found' ≡ found ++ line_names n step' (piece place line) → lines_of rest ≡ line ∷ lines_of next
    → found' ++ names_from (n + 1) step' (placed (place + (length line + 1)) (lines_of next)) ≡ found ++ names_from n step (placed place (lines_of rest))
lines_more n step step' place rest line next found found' is new cut =
    let same : place + (length line + 1) ≡ place + length line + 1 = omega arith in
    ap (λ f. f ++ names_from (n + 1) step' (placed (place + (length line + 1)) (lines_of next))) new
    ∙ append_assoc found (line_names n step' (piece place line)) (names_from (n + 1) step' (placed (place + (length line + 1)) (lines_of next)))
    ∙ ap (λ at. found ++ (line_names n step' (piece place line) ++ names_from (n + 1) step' (placed at (lines_of next)))) same
    ∙ ap (λ s. found ++ (line_names n s (piece place line) ++ names_from (n + 1) s (placed (place + length line + 1) (lines_of next)))) is
    ∙ ap (λ lines. found ++ names_from n step (placed place lines)) (sym cut)
