-- Lines of JSON, one after another.
use Rattle.std.proofs.Common.{◌≡◌, ℕ, List, [], ◌∷◌, ◌++◌, append_assoc, append-nil, Bool, true, false, Option, Some, None, Result, Ok, Err, IfOk, refl, sym, ap, subst, ◌∙◌}
use Rattle.std.specs.Prelude.{IsErrOf}
use Rattle.line_text.specs.Writing.{WritesAll}
use Rattle.mvs_model.specs.declared.line.Line.{Line}
use Rattle.mvs_model.specs.declared.name.Name.{Name}
use Rattle.mvs_model.specs.declared.watched.Failed.{Failed}
use Rattle.mvs_model.specs.Answers.{Answer, Event, AnswerTo, StepEnded, Faulted}
use Rattle.mvs_model.specs.Job.{JobValue}
use Rattle.mvs_job.specs.declared.consumer.End.{End}
use Rattle.mvs_job.specs.declared.printing.Stop.{Stop}
use Rattle.mvs_job.specs.declared.printing.Stop.TheVariants as stop
use Rattle.mvs_job.specs.declared.walk.LineEvent.{LineEvent}
use Rattle.mvs_job.specs.Consuming.{AcceptsLast, AcceptsLine, IsEnd, WrittenAfter, keeps_nothing}
use Rattle.mvs_job.specs.Granting.{reports_grant}
use Rattle.mvs_job.specs.Observing.{Hearing}
use Rattle.mvs_job.specs.LineEvents.{WalkValue, ended, events_of_line}
use Rattle.mvs_job.specs.Trace.{Entry, events_of}
use Rattle.event_json.specs.Lines.{AreLinesOf, EndsWithAnswer, IsStatement, WritesEvents, WritesLast, event_lines, statement_head, step_end}

-- ---- the lines of a line of the script

-- one line
pub statement_lines : (number : ℕ) (t : Name) (answer : Answer) (text : List ℕ) → IsStatement number t text → AreLinesOf (AnswerTo number t answer ∷ []) text
statement_lines number t answer text is = (text, [], sym (append-nil text), is, refl)

-- the line of a statement after that of the end of a step
pub region_lines : (end : Option Bool) (number : ℕ) (t : Name) (answer : Answer) (text members : List ℕ) → text ≡ (step_end end ++ statement_head number t) ++ members ++ 10 ∷ [] → AreLinesOf (ended end ++ AnswerTo number t answer ∷ []) text
region_lines None number t answer text members is = statement_lines number t answer text (members, is)
region_lines (Some abended) number t answer text members is =
    let rest = statement_head number t ++ members ++ 10 ∷ [] in
    let end = step_end (Some abended) in
    let head = statement_head number t in
    (end, rest, is ∙ ap (λ x. x ++ 10 ∷ []) (append_assoc end head members) ∙ append_assoc end (head ++ members) (10 ∷ []), refl, statement_lines number t answer rest (members, refl))

-- a text that was written, or not
pub text_written : {X : Type 0} (before after : Option (List ℕ)) (events : List Event) (text : List ℕ) → AreLinesOf events text → (r : Result X Stop) → WritesAll before after r text → (IsErrOf r stop.Memory → ⊥) → WritesEvents before after events r
text_written before after events text are (Ok x) a other = (text, are, a)
text_written before after events text are (Err stop.Write) f other = (text, are, f)
text_written before after events text are (Err stop.Memory) f other = absurd (other refl)

-- the end of a step, if one ended
pub ended_lines : (end : Option Bool) → AreLinesOf (ended end) (step_end end)
ended_lines None = refl
ended_lines (Some abended) = (step_end (Some abended), [], sym (append-nil (step_end (Some abended))), refl, refl)

-- what is so of each value, is so
pub if_ok : {T E : Type 0} (r : Result T E) (P Q : T → Type 0) → IfOk r P → ((x : T) → P x → Q x) → IfOk r Q
if_ok (Ok x) P Q h f = f x h
if_ok (Err e) P Q h f = tt

-- ---- an entry

module _ {S : Type 0} (heard : Hearing S) (sees : S → Option JobValue → Line → Type 0) (before after : Option (List ℕ)) (first s s' : S) (n : ℕ) (line : List ℕ) (w : WalkValue) (t : LineEvent) where
  pub accepts_line : {X : Type 0} (r : Result X Stop) → WritesEvents before after (events_of_line n w t) r → AcceptsLine {S = S} {X = X} event_lines heard sees (keeps_nothing first) before after s s' n line w t r
  accepts_line (Ok x) (text, are, a) mid history e is follows seen observed known = ((text, subst (λ v. AreLinesOf v text) (sym is.events) are, a), tt)
  accepts_line (Err stop.Write) (text, are, f) mid history e is follows seen observed known = ((text, subst (λ v. AreLinesOf v text) (sym is.events) are, f), tt)
  accepts_line (Err stop.Memory) (needs, kept) mid history e is follows seen observed known = ((subst EndsWithAnswer (sym is.events) needs, kept), tt)

pub accepts_end : {S X : Type 0} (before after : Option (List ℕ)) (first s s' : S) (n : ℕ) (how : End) (r : Result X Failed) (events : List Event) → ((e : Entry) → IsEnd n how e → e.events ≡ events) → WritesLast before after events r
    → (history : List Entry) (e : Entry) → IsEnd n how e → AcceptsLast {S = S} {X = X} event_lines (keeps_nothing first) before after s' history e r
accepts_end before after first s s' n how (Ok x) events same (text, are, a) history e is = ((text, subst (λ v. AreLinesOf v text) (sym (same e is)) are, a), tt)
accepts_end before after first s s' n how (Err failed) events same (text, are, f) history e is = ((text, subst (λ v. AreLinesOf v text) (sym (same e is)) are, f), tt)

-- ---- a run

lines_both : (events more : List Event) (text rest : List ℕ) → AreLinesOf events text → AreLinesOf more rest → AreLinesOf (events ++ more) (text ++ rest)
lines_both [] more text rest is are = subst (AreLinesOf more) (ap (λ t. t ++ rest) (sym is)) are
lines_both (event ∷ events) more text rest (line, left, whole, is, each) are =
    (line, left ++ rest, ap (λ t. t ++ rest) whole ∙ append_assoc line left rest, is, lines_both events more left rest each are)

-- what is written for entries are the lines of their events
pub lines_of_entries : (history entries : List Entry) (text : List ℕ) → WrittenAfter event_lines history entries text → AreLinesOf (events_of entries) text
lines_of_entries history [] text is = is
lines_of_entries history (e ∷ entries) text (one, rest, are, more, cut) =
    subst (AreLinesOf (e.events ++ events_of entries)) (sym cut) (lines_both e.events (events_of entries) one rest are (lines_of_entries (history ++ e ∷ []) entries rest more))

-- ---- a granted request

-- the events of a line that say that a request was granted are its answer
pub granted_answer : (events : List Event) → reports_grant events ≡ true → EndsWithAnswer events
granted_answer [] grant = absurd (let f : false ≡ true = grant in cc)
granted_answer (AnswerTo number t a ∷ []) grant = ([], number, t, a, refl)
granted_answer (AnswerTo number t a ∷ other ∷ rest) grant = absurd (let f : false ≡ true = grant in cc)
granted_answer (StepEnded abended ∷ rest) grant = absurd (let f : false ≡ true = grant in cc)
granted_answer (Faulted number fault ∷ rest) grant = absurd (let f : false ≡ true = grant in cc)
