-- A script with its questions, a line at a time.
use Rattle.std.proofs.Common.{◌≡◌, ◌&&◌, ℕ, Bool, true, false, if◌then◌else◌, List, [], ◌∷◌, ◌++◌, append_assoc, append-nil, Option, Some, None, is_some, refl, sym, ap, ◌∙◌, subst}
use Rattle.std.specs.Io.KnownBytes.{Appends}
use Rattle.std.proofs.KnownBytes.{Appends-nil, Appends-trans}
use Rattle.line_text.specs.Writing.{AppendsFront}
use Rattle.line_text.proofs.Appending.{front_longer, front_more}
use Rattle.mvs_model.specs.declared.line.Fault.{Fault}
use Rattle.mvs_model.specs.declared.line.Line.{Line}
use Rattle.mvs_model.specs.Lines.{lines_of}
use Rattle.mvs_model.specs.Reading.{FaultOf, LineOf, line_meaning, is_blank_or_comment}
use Rattle.mvsjob.specs.Queries.{with_queries, questions}
use Rattle.terminal_session.specs.Sessions.{is_faulty}

-- what is written so far, and what is to be written of the lines that are left, are what is written of the script
abbrev pub SoFar : Option (List ℕ) → Option (List ℕ) → List ℕ → Bool → List ℕ → Type 0
SoFar start now script first rest = (written : List ℕ) × Appends start now written × (with_queries true (lines_of script) ≡ written ++ with_queries first (lines_of rest))

module _ (start before one two now : Option (List ℕ)) (script text line next : List ℕ) (first : Bool) (cut : lines_of text ≡ line ∷ lines_of next) (s : SoFar start before script first text) where
  abbrev after : List ℕ
  after = if is_faulty first line then [] else questions (line_meaning line) ++ with_queries (first && is_blank_or_comment line) (lines_of next)

  -- all of it, by its parts: what is written so far, the line, its end, and what is after it
  whole : with_queries true (lines_of script) ≡ ((s.0 ++ line) ++ 10 ∷ []) ++ after
  whole = s.2 ∙ ap (λ ls. s.0 ++ with_queries first ls) cut ∙ sym (append_assoc (s.0 ++ line) (10 ∷ []) after ∙ append_assoc s.0 line (10 ∷ after))

  pub in_line : AppendsFront before now line → AppendsFront start now (with_queries true (lines_of script))
  in_line front =
      subst (AppendsFront start now) (sym (whole ∙ append_assoc (s.0 ++ line) (10 ∷ []) after))
      (front_longer start now (s.0 ++ line) (10 ∷ after) (front_more start before now s.0 line s.1 front))

  to_line : Appends before one line → Appends start one (s.0 ++ line)
  to_line a = Appends-trans start before one s.0 line s.1 a

  pub in_end : Appends before one line → AppendsFront one now (10 ∷ []) → AppendsFront start now (with_queries true (lines_of script))
  in_end a front =
      subst (AppendsFront start now) (sym whole) (front_longer start now ((s.0 ++ line) ++ 10 ∷ []) after (front_more start one now (s.0 ++ line) (10 ∷ []) (to_line a) front))

  to_end : Appends before one line → Appends one two (10 ∷ []) → Appends start two ((s.0 ++ line) ++ 10 ∷ [])
  to_end a b = Appends-trans start one two (s.0 ++ line) (10 ∷ []) (to_line a) b

  pub at_fault : (fault : Fault) → FaultOf first line fault → Appends before one line → Appends one two (10 ∷ []) → Appends start two (with_queries true (lines_of script))
  unfolding is_faulty
  at_fault fault is a b =
      let none : after ≡ [] = ap (λ f. if f then [] else questions (line_meaning line) ++ with_queries (first && is_blank_or_comment line) (lines_of next)) (ap is_some is) in
      subst (Appends start two) (sym (whole ∙ ap (λ t. ((s.0 ++ line) ++ 10 ∷ []) ++ t) none ∙ append-nil ((s.0 ++ line) ++ 10 ∷ []))) (to_end a b)

  module _ (l : Line) (said : LineOf first line l) where
    on : after ≡ questions (Some l) ++ with_queries (first && is_blank_or_comment line) (lines_of next)
    unfolding is_faulty
    on = ap (λ f. if f then [] else questions (line_meaning line) ++ with_queries (first && is_blank_or_comment line) (lines_of next)) (ap is_some said.no_fault) ∙ ap (λ o. questions o ++ with_queries (first && is_blank_or_comment line) (lines_of next)) said.says

    trailing : with_queries true (lines_of script) ≡ (((s.0 ++ line) ++ 10 ∷ []) ++ questions (Some l)) ++ with_queries (first && is_blank_or_comment line) (lines_of next)
    trailing = whole ∙ ap (λ t. ((s.0 ++ line) ++ 10 ∷ []) ++ t) on ∙ sym (append_assoc ((s.0 ++ line) ++ 10 ∷ []) (questions (Some l)) (with_queries (first && is_blank_or_comment line) (lines_of next)))

    pub in_questions : Appends before one line → Appends one two (10 ∷ []) → AppendsFront two now (questions (Some l)) → AppendsFront start now (with_queries true (lines_of script))
    in_questions a b front =
        subst (AppendsFront start now) (sym trailing)
        (front_longer start now (((s.0 ++ line) ++ 10 ∷ []) ++ questions (Some l)) (with_queries (first && is_blank_or_comment line) (lines_of next)) (front_more start two now ((s.0 ++ line) ++ 10 ∷ []) (questions (Some l)) (to_end a b) front))

    pub line_asked : (nothing : Bool) → nothing ≡ is_blank_or_comment line → Appends before one line → Appends one two (10 ∷ []) → Appends two now (questions (Some l)) → SoFar start now script (first && nothing) next
    line_asked nothing is a b c =
        subst (λ n. SoFar start now script (first && n) next) (sym is)
        (((s.0 ++ line) ++ 10 ∷ []) ++ questions (Some l), Appends-trans start two now ((s.0 ++ line) ++ 10 ∷ []) (questions (Some l)) (to_end a b) c, trailing)

pub nothing_asked : (start : Option (List ℕ)) (script : List ℕ) → SoFar start start script true script
nothing_asked start script = ([], Appends-nil start, refl)
