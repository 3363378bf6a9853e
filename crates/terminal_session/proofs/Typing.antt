-- What was typed, a line at a time.
use Rattle.std.proofs.Common.{◌≡◌, ◌⊎◌, ℕ, inl, inr, Bool, true, false, List, [], ◌∷◌, ◌++◌, append_assoc, append-nil, take, Option, refl, sym, ap, ◌∙◌, subst}
use Rattle.std.specs.List.{AllByRecursion}
use Rattle.std.specs.Io.KnownBytes.{Consumes}
use Rattle.std.proofs.KnownBytes.{Consumes-nil, Consumes-trans}
use Rattle.mvs_model.specs.Lines.{IsUnended, ended_text, lines_of}
use Rattle.mvs_job.proofs.Feeding.{lines_cut}
use Rattle.shell.proofs.Lines.{each_last, ended_last}
use Rattle.shell.specs.Inputs.{ReadsLine}
use Rattle.shell.specs.Edits.{is_command, edit_of}
use Rattle.terminal_session.specs.Sessions.{IsTyped, IsTypedFirst, Makes, MakesAll, EditsLines, text_of, with_line}

-- the lines of their text
pub same_lines : (lines : List (List ℕ)) → AllByRecursion IsUnended lines → lines_of (ended_text lines) ≡ lines
same_lines lines each = ap lines_of (sym (append-nil (ended_text lines))) ∙ lines_cut lines [] each ∙ append-nil lines

-- ---- what was read

pub typed_start : (unread : Option (List ℕ)) (ended : Bool) → IsTyped unread unread ended []
typed_start unread ended = ([], Consumes-nil unread, tt, inl refl)

module _ (unread left : Option (List ℕ)) (typed : List (List ℕ)) where
  pub typed_line : (later : Option (List ℕ)) (was ended : Bool) (l : List ℕ) → was ≡ false → IsTyped unread left was typed → IsUnended l → ReadsLine left later ended l → IsTyped unread later ended (typed ++ l ∷ [])
  typed_line later was false l e (bytes, read, each, inl is) unended line =
      (bytes ++ (l ++ 10 ∷ []), Consumes-trans unread left later bytes (l ++ 10 ∷ []) read line, each_last typed l each unended, inl (ap (λ x. x ++ (l ++ 10 ∷ [])) is ∙ sym (ended_last typed l)))
  typed_line later was true l e (bytes, read, each, inl is) unended line = (
    bytes ++ l,
    Consumes-trans unread left later bytes l read line,
    each_last typed l each unended,
    inr (refl, append_assoc bytes l (10 ∷ []) ∙ ap (λ x. x ++ (l ++ 10 ∷ [])) is ∙ sym (ended_last typed l)),
  )
  typed_line later was ended l e (bytes, read, each, inr (sure, is)) unended line = absurd (let f : true ≡ false = sym sure ∙ e in cc)

  pub typed_none : (later : Option (List ℕ)) (was ended : Bool) → ended ≡ true → IsTyped unread left was typed → Consumes left later [] → IsTyped unread later ended typed
  typed_none later was ended e (bytes, read, each, inl is) none = (bytes ++ [], Consumes-trans unread left later bytes [] read none, each, inl (append-nil bytes ∙ is))
  typed_none later was ended e (bytes, read, each, inr (sure, is)) none =
      (bytes ++ [], Consumes-trans unread left later bytes [] read none, each, inr (e, ap (λ x. x ++ 10 ∷ []) (append-nil bytes) ∙ is))

  pub typed_first : (ended : Bool) → IsTyped unread left ended typed → IsTypedFirst unread left typed
  typed_first ended (bytes, read, each, inl is) = (bytes, read, each, inl ([], is ∙ sym (append-nil _)))
  typed_first ended (bytes, read, each, inr (sure, is)) = (bytes, read, each, inr is)

  pub typed_part : (later : Option (List ℕ)) (was : Bool) (part : List ℕ) → (was ≡ true → part ≡ []) → IsTyped unread left was typed → Consumes left later part → IsTypedFirst unread later typed
  typed_part later was part none (bytes, read, each, inl is) more = (bytes ++ part, Consumes-trans unread left later bytes part read more, each, inl (part, ap (λ x. x ++ part) is))
  typed_part later was part none (bytes, read, each, inr (sure, is)) more =
      let e : bytes ++ part ≡ bytes = ap (λ x. bytes ++ x) (none sure) ∙ append-nil bytes in
      (bytes ++ part, Consumes-trans unread left later bytes part read more, each, inr (ap (λ x. x ++ 10 ∷ []) e ∙ is))

-- ---- the lines of the job

module _ (cleans : Bool) where
  pub makes_next : (lines typed mid : List (List ℕ)) (l : List ℕ) (new : List (List ℕ)) → MakesAll cleans lines typed mid → Makes cleans mid l new → MakesAll cleans lines (typed ++ l ∷ []) new
  makes_next lines [] mid l new all next = (new, subst (λ x. Makes cleans x l new) all next, refl)
  makes_next lines (t ∷ typed) mid l new (first, h, rest) next = (first, h, makes_next first typed mid l new rest next)

  module _ (mid : List (List ℕ)) (text l : List ℕ) (is : text ≡ text_of cleans l) (new : List (List ℕ)) where
    pub makes_line : is_command text ≡ false → new ≡ with_line mid text → Makes cleans mid l new
    makes_line never h = rw (← is, never) h

    pub makes_edit : is_command text ≡ true → EditsLines (edit_of text) mid new → Makes cleans mid l new
    makes_edit sure h = rw (← is, sure) h
