-- Actions that mend something change bytes of the text.
use Rattle.std.proofs.Common.{ℕ, Bool, true, false, if◌then◌else◌, List, [], ◌∷◌, ◌++◌, arith, refl, Option, Some, None}
use Rattle.std.specs.Prelude.{◌&&◌, flat_map, nat_le}
use Rattle.std.specs.List.{All}
use Rattle.std.proofs.lemmas.List.Elements.{All-append, All-cons}
use Rattle.mvs_model.specs.Lines.{lines_of}
use Rattle.language_server.specs.Documents.{DocumentValue}
use Rattle.language_server.specs.Fixes.{IsFix, change, changes_to, fixes_of, is_mended, leak_fixes_by, name_fixes, note_fixes, release_fix, release_fixes_by, release_of, release_place, obtained_by, word_fixes}
use Rattle.language_server.specs.LeakNotes.{LeakValue, leak_in}
use Rattle.language_server.specs.NoteValues.{NoteValue}
use Rattle.language_server.specs.declared.span.Span.{Span}
use Rattle.language_server.proofs.Referring.{within_in}

no_one : {A : Type 0} (P : A → Type 0) → All P []
no_one P = λ k d h. absurd (omega arith)

of_each : {X A : Type 0} (P : A → Type 0) (f : X → List A) → ((x : X) → All P (f x)) → (xs : List X) → All P (flat_map f xs)
of_each P f each [] = no_one P
of_each P f each (x ∷ xs) = All-append P (f x) (flat_map f xs) (each x) (of_each P f each xs)

changes_in : (text : List ℕ) (s : Span) (word : Option (List ℕ)) → All (IsFix text) (changes_to text s word)
changes_in text s None = no_one (IsFix text)
changes_in text s (Some word) = All-cons (IsFix text) (change text s word) [] (within_in text s, refl) (no_one (IsFix text))

note_in : (d : DocumentValue) (first last : ℕ) (note : NoteValue) → All (IsFix d.text) (note_fixes d first last note)
note_in d first last note = by (is_mended d.text first last note) where
  by : (b : Bool) → All (IsFix d.text) (if b then word_fixes d note ++ name_fixes d note else [])
  by true = All-append (IsFix d.text) (word_fixes d note) (name_fixes d note) (changes_in d.text note.span _) (changes_in d.text note.span _)
  by false = no_one (IsFix d.text)

release_in : (text : List ℕ) (l : LeakValue) (statement : Option (List ℕ)) → All (IsFix text) (release_fixes_by text l statement)
release_in text l None = no_one (IsFix text)
release_in text l (Some statement) =
    let place = release_place text l.line (obtained_by l.text) in
    All-cons (IsFix text) (release_fix text place (obtained_by l.text) statement) [] (within_in text (record { start = place; end = place }), refl) (no_one (IsFix text))

leak_fix_in : (text : List ℕ) (first last : ℕ) (l : Option LeakValue) → All (IsFix text) (leak_fixes_by text first last l)
leak_fix_in text first last None = no_one (IsFix text)
leak_fix_in text first last (Some l) = by (nat_le first l.line && nat_le l.line last) where
  by : (b : Bool) → All (IsFix text) (if b then release_fixes_by text l (release_of l) else [])
  by true = release_in text l (release_of l)
  by false = no_one (IsFix text)

pub fixes_are_in : (d : DocumentValue) (first last : ℕ) (notes : List NoteValue) → All (IsFix d.text) (fixes_of d first last notes)
fixes_are_in d first last notes =
    All-append (IsFix d.text) (flat_map (note_fixes d first last) notes) (flat_map (λ line. leak_fixes_by d.text first last (leak_in line)) (lines_of d.leaks))
    (of_each (IsFix d.text) (note_fixes d first last) (note_in d first last) notes)
    (of_each (IsFix d.text) (λ line. leak_fixes_by d.text first last (leak_in line)) (λ line. leak_fix_in d.text first last (leak_in line)) (lines_of d.leaks))
