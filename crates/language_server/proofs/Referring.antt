-- References and symbols are in the text, and references have the bytes of the name.
use Rattle.std.proofs.Common.{◌≡◌, ℕ, ◌+◌, ◌==◌, Bool, true, false, cond, not, if◌then◌else◌, List, [], ◌∷◌, ◌++◌, length, get_or, arith, inl, inr, refl, sym, ap, ◌∙◌, Option, Some, None}
use Rattle.std.specs.Prelude.{filter, find, nat_le, bytes_eq, ◌&&◌, ◌||◌}
use Rattle.std.specs.List.{All}
use Rattle.std.proofs.lemmas.Bool.{and_parts, leb-true}
use Rattle.std.proofs.lemmas.List.Elements.{All-cons, All-map}
use Rattle.mvs_model.proofs.ReadingTaken.{bytes_same}
use Rattle.language_server.specs.declared.names.Occurrence.{Occurrence}
use Rattle.language_server.specs.declared.span.Span.{Span}
use Rattle.language_server.specs.Names.{names_of}
use Rattle.language_server.specs.References.{is_in, is_same, is_use, kind_number, name_at, references_of, uses_of}
use Rattle.language_server.specs.Actions.{ActionValue, is_unwritten, statement_length, writing, writings_from, writings_in, writings_of}
use Rattle.language_server.specs.LineOutputs.{LineOutputValue}
use Rattle.language_server.specs.Spans.{AreReferences, IsIn, IsSameAt, bytes_of, line_at, line_bytes, line_end, line_start, touches, within}
use Rattle.language_server.specs.Symbols.{begins_task, symbol_of, symbols_of, whole_of}

-- what a search finds passes its test
found_passes : (p : Occurrence → Bool) (names : List Occurrence) (name : Occurrence) → find p names ≡ Some name → p name ≡ true
found_passes p [] name e = absurd (let f : None ≡ Some name = e in cc)
found_passes p (x ∷ names) name e = elim (p x) as (λ b. p x ≡ b → cond b (Some x) (find p names) ≡ Some name → p name ≡ true) [
  | true ↦ λ is e. let same : x ≡ name = cc in sym (ap p same) ∙ is
  | false ↦ λ is e. found_passes p names name e
] refl e

-- all that pass a test have what follows from it
all_passing : (p : Occurrence → Bool) (P : Occurrence → Type 0) → ((x : Occurrence) → p x ≡ true → P x) → (names : List Occurrence) → All P (filter p names)
all_passing p P follows [] = λ k d h. absurd (omega arith)
all_passing p P follows (x ∷ names) = elim (p x) as (λ b. p x ≡ b → All P (cond b (x ∷ filter p names) (filter p names))) [
  | true ↦ λ is. All-cons P x (filter p names) (follows x is) (all_passing p P follows names)
  | false ↦ λ is. all_passing p P follows names
] refl

same_at : (text : List ℕ) (declares : Bool) (name other : Occurrence) → is_use text declares name other ≡ true → IsSameAt text name.span other.span
same_at text declares name other used =
    let same = and_parts (is_same text name other) (declares || not other.is_set) used in
    let a = and_parts (is_in text other.span) ((kind_number name.kind == kind_number other.kind) && ((name.step == other.step) && bytes_eq (bytes_of text name.span) (bytes_of text other.span))) same.0 in
    let b = and_parts (nat_le other.span.start other.span.end) (nat_le other.span.end (length text)) a.0 in
    let c = and_parts (kind_number name.kind == kind_number other.kind) ((name.step == other.step) && bytes_eq (bytes_of text name.span) (bytes_of text other.span)) a.1 in
    let d = and_parts (name.step == other.step) (bytes_eq (bytes_of text name.span) (bytes_of text other.span)) c.1 in
    ((leb-true other.span.start other.span.end b.0, leb-true other.span.end (length text) b.1), sym (bytes_same (bytes_of text name.span) (bytes_of text other.span) d.1))

pub references_same : (text : List ℕ) (place : ℕ) (declares : Bool) → AreReferences text place (references_of text place declares)
references_same text place declares = by (name_at place (names_of text)) refl where
  by : (found : Option Occurrence) → name_at place (names_of text) ≡ found → AreReferences text place (uses_of text declares (names_of text) found)
  by None e = inr refl
  by (Some name) e =
      inl (
        name.span,
        found_passes (λ n. touches n.span place) (names_of text) name e,
        All-map (IsSameAt text name.span) (λ n. n.span) (filter (is_use text declares name) (names_of text))
            (all_passing (is_use text declares name) (λ n. IsSameAt text name.span n.span) (same_at text declares name) (names_of text)),
      )

pub within_in : (text : List ℕ) (s : Span) → IsIn text (within text s)
within_in text s = (omega arith, omega arith)

pub symbols_in : (text : List ℕ) → All (λ symbol. IsIn text symbol.span × IsIn text symbol.whole) (symbols_of text)
symbols_in text =
    All-map (λ symbol. IsIn text symbol.span × IsIn text symbol.whole) (symbol_of text (names_of text)) (filter begins_task (names_of text))
    (λ k d h. each (get_or (filter begins_task (names_of text)) k d))
  where
    each : (name : Occurrence) → IsIn text (within text name.span) × IsIn text (within text (whole_of name.is_step text (names_of text) name))
    each name = (within_in text name.span, within_in text (whole_of name.is_step text (names_of text) name))

-- an action that writes an answer is in the text
writings_one : (text : List ℕ) (is_asked : Bool) (n : ℕ) (answer : List ℕ) (rest : List ActionValue) → All (λ action. IsIn text action.span) rest → All (λ action. IsIn text action.span) (writings_in is_asked text n answer ++ rest)
writings_one text is_asked n answer rest others =
    elim (is_asked && is_unwritten (line_bytes text n) answer) as (λ b. All (λ action. IsIn text action.span) ((if b then writing text n answer ∷ [] else []) ++ rest)) [
      | true ↦ All-cons (λ action. IsIn text action.span) (writing text n answer) rest (within_in text (record { start = line_start text n + statement_length (line_bytes text n); end = line_end text n })) others
      | false ↦ others
    ]

writings_within : (text : List ℕ) (n first last : ℕ) (outputs : List LineOutputValue) → All (λ action. IsIn text action.span) (writings_from text n first last outputs)
writings_within text n first last [] = λ k d h. absurd (omega arith)
writings_within text n first last (o ∷ outputs) =
    writings_one text (nat_le first n && nat_le n last) n o.answer (writings_from text (n + 1) first last outputs) (writings_within text (n + 1) first last outputs)

pub writings_are_in : (text : List ℕ) (s : Span) (outputs : List LineOutputValue) → All (λ action. IsIn text action.span) (writings_of text s outputs)
writings_are_in text s outputs = writings_within text 0 (line_at text s.start) (line_at text s.end) outputs
