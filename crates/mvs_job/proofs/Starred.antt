-- What is left of a text without its lines that begin with an asterisk.
use Rattle.std.proofs.Common.{◌≡◌, ◌≢◌, ℕ, zero, suc, ◌+◌, ◌==◌, List, [], ◌∷◌, ◌++◌, get_or, take, codes, decimal, append_assoc, append-nil, arith, Bool, true, false, not, cond, Option, Some, None, inl, inr, ◌⊎◌, refl, sym, ap, ◌∙◌, subst}
use Rattle.std.specs.Prelude.{slice_index, Ok}
use Rattle.std.specs.List.{flat_map, filter, before_first, position_or_len, AllByRecursion}
use Rattle.std.proofs.lemmas.List.Elements.{filter-append}
use Rattle.std.proofs.lemmas.List.Sums.{fails_before_first, prefix_len-le-length}
use Rattle.mvs_model.specs.declared.name.Name.{Name}
use Rattle.mvs_model.specs.declared.line.Line.{Line}
use Rattle.mvs_model.specs.declared.line.Line.TheVariants as line
use Rattle.mvs_model.specs.declared.line.Statement.TheVariants as says
use Rattle.mvs_model.specs.declared.reason.LineReason.{LineReason}
use Rattle.mvs_model.specs.declared.request.Request.{Request}
use Rattle.mvs_model.specs.declared.request.Request.TheVariants.{Return}
use Rattle.mvs_model.specs.Answers.{Answer, NotRun, NoName, At, Rc0, Granted, Rc4, Cell, NoCell, Attached, Ended, Done, Data, Abended, Subpools, Map, Region, Event, AnswerTo, StepEnded, Faulted}
use Rattle.mvs_model.specs.Job.{JobValue}
use Rattle.mvs_model.specs.Lines.{ended_text, lines_of, IsUnended}
use Rattle.mvs_model.specs.Name.{trimmed}
use Rattle.mvs_model.specs.Resolving.{resolved}
use Rattle.mvs_model.specs.Texts.{answer_text, code_text, data_lines, fault_number, map_text, printing, reply_line, one_line_text, subpool_text, text_of}
use Rattle.mvs_laws.proofs.Going.{printed_both}
use Rattle.explanation.specs.ReasonTexts.{one_line, reason_line, why_text}
use Rattle.mvs_model.specs.Owners.{is_among_ended}
use Rattle.request_forms.specs.declared.facts.OwnedSubpool.{OwnedSubpool}
use Rattle.explanation.specs.FactTexts.{fact_line, fact_text, freed_line, freed_text_of, stays_line, stays_text}
use Rattle.mvs_job.specs.Facts.{IsFreeing, ended_by, fate, fate_line, freed_text, subpool_line}
use Rattle.mvs_job.specs.declared.ends.Fate.{Fate}
use Rattle.mvs_job.specs.declared.ends.Fate.TheVariants.{Freed, Remains, Unaffected}
use Rattle.request_forms.specs.Facts.{owned_subpools}
use Rattle.mvs_job.specs.declared.granting.Baseline.{Baseline}
use Rattle.mvs_job.specs.Granting.{IsGranting, before_line, granted_facts, granted_text}
use Rattle.explanation.specs.NamingTexts.{naming_words}
use Rattle.mvs_job.specs.declared.name_origins.NamedAddress.{NamedAddress}
use Rattle.mvs_job.specs.NamedAddress.{IsNamed, NameOrigins, naming_text}
use Rattle.mvs_job.specs.Why.{spoken}
use Rattle.mvs_job.specs.Consuming.{Piece, WritesText, WrittenAfter}
use Rattle.mvs_job.specs.Explained.{ExplainedArePrintings, IsExplainedAs, explained, set_by_entries}
use Rattle.mvs_job.specs.Explaining.{IsExplanationText, IsExplanation, NoLineIsStarred, reason_text, without_starred}
use Rattle.mvs_job.specs.Trace.{Closed, Entry, Executed, Exhausted, Faulty, Kind, events_of}
use Rattle.mvs_model.specs.declared.outcome.Outcome.{Outcome}
use Rattle.mvs_model.specs.Runs.{IsPrinting}
use Rattle.mvs_job.proofs.Tracing.{traces_are_runs}
use Rattle.mvs_job.proofs.Feeding.{all_before, lines_cut, lines_ended}

-- ---- texts that end in a line feed

-- The last byte is a line feed.
abbrev pub IsClosed : List ℕ → Type 0
IsClosed text = (front : List ℕ) × (text ≡ front ++ 10 ∷ [])

-- The last byte is a line feed, or there is no byte.
abbrev pub IsEnded : List ℕ → Type 0
IsEnded text = (text ≡ []) ⊎ IsClosed text

pub closed_after : (front text : List ℕ) → IsClosed text → IsClosed (front ++ text)
closed_after front text c = (front ++ c.0, ap (λ x. front ++ x) c.1 ∙ sym (append_assoc front c.0 (10 ∷ [])))

ended_both : (one other : List ℕ) → IsEnded one → IsEnded other → IsEnded (one ++ other)
ended_both one other a (inl e) = subst IsEnded (sym (append-nil one) ∙ ap (λ x. one ++ x) (sym e)) a
ended_both one other a (inr c) = inr (closed_after one other c)

ended_each : {X : Type 0} (f : X → List ℕ) (xs : List X) → ((x : X) → IsEnded (f x)) → IsEnded (flat_map f xs)
ended_each f [] each = inl refl
ended_each f (x ∷ xs) each = ended_both (f x) (flat_map f xs) (each x) (ended_each f xs each)

-- ---- what is printed ends so

pub reply_closed : (number : ℕ) (t : Name) (text : List ℕ) → IsClosed (reply_line number t text)
reply_closed number t text = (decimal number ++ codes " " ++ trimmed t ++ codes " " ++ text, refl)

data_ended : (number : ℕ) (t : Name) (lines offset : ℕ) (bytes : List ℕ) → IsEnded (data_lines number t lines offset bytes)
unfolding data_lines
data_ended number t zero offset bytes = inl refl
data_ended number t (suc lines) offset bytes = ended_both _ _ (inr (reply_closed number t _)) (data_ended number t lines _ _)

answer_ended : (number : ℕ) (t : Name) (answer : Answer) → IsEnded (answer_text number t answer)
answer_ended number t (Data bytes) = data_ended number t _ 0 bytes
answer_ended number t (Abended code fallen) =
    ended_both _ _ (inr (reply_closed number t (codes "ABEND " ++ code_text code))) (ended_each (λ x. reply_line number x (codes "ENDED WITH " ++ trimmed t)) fallen (λ x. inr (reply_closed number x _)))
answer_ended number t (Subpools []) = inr (reply_closed number t (codes "SP NONE"))
answer_ended number t (Subpools (l ∷ lines)) = ended_each (λ l. reply_line number t (subpool_text l)) (l ∷ lines) (λ l. inr (reply_closed number t _))
answer_ended number t (Map runs) = ended_each (λ r. reply_line number t (map_text r)) runs (λ r. inr (reply_closed number t _))
answer_ended number t NotRun = inr (reply_closed number t _)
answer_ended number t NoName = inr (reply_closed number t _)
answer_ended number t (At a) = inr (reply_closed number t _)
answer_ended number t Rc0 = inr (reply_closed number t _)
answer_ended number t (Granted n) = inr (reply_closed number t _)
answer_ended number t Rc4 = inr (reply_closed number t _)
answer_ended number t Cell = inr (reply_closed number t _)
answer_ended number t NoCell = inr (reply_closed number t _)
answer_ended number t Attached = inr (reply_closed number t _)
answer_ended number t Ended = inr (reply_closed number t _)
answer_ended number t Done = inr (reply_closed number t _)
answer_ended number t (Region card) = inr (reply_closed number t _)

pub event_ended : (event : Event) → IsEnded (text_of event)
event_ended (AnswerTo number t answer) = answer_ended number t answer
event_ended (StepEnded true) = inr (codes "STEP ENDED RC 8", refl)
event_ended (StepEnded false) = inr (codes "STEP ENDED RC 0", refl)
event_ended (Faulted number fault) = inr (closed_after (decimal number ++ codes " JS0" ++ decimal (fault_number fault)) (codes "\nJOB FAULT RC 12\n") (codes "\nJOB FAULT RC 12", refl))

pub printing_ended : (events : List Event) → IsEnded (printing events)
printing_ended events = ended_each text_of events event_ended

-- ---- the lines of such a text

-- the lines with a byte in front of the first
cut_more : (b : ℕ) (text : List ℕ) (lines : List (List ℕ)) → (feed : Bool) → (b == 10) ≡ feed → AllByRecursion IsUnended lines → text ++ 10 ∷ [] ≡ ended_text lines → (more : List (List ℕ)) × AllByRecursion IsUnended more × ((b ∷ text) ++ 10 ∷ [] ≡ ended_text more)
cut_more b text lines true is each e = ([] ∷ lines, (tt, each), (let f : b ≡ 10 = grind arith in ap (λ c. c ∷ text ++ 10 ∷ []) f ∙ ap (λ x. 10 ∷ x) e))
cut_more b [] [] false is each e = absurd (let no : 10 ∷ [] ≡ [] = e in cc)
cut_more b (c ∷ text) [] false is each e = absurd (let no : c ∷ (text ++ 10 ∷ []) ≡ [] = e in cc)
cut_more b text (l ∷ lines) false is each e = ((b ∷ l) ∷ lines, (((let f : b ≢ 10 = grind arith in f), each.0), each.1), ap (λ x. b ∷ x) e)

cut : (text : List ℕ) → (lines : List (List ℕ)) × AllByRecursion IsUnended lines × (text ++ 10 ∷ [] ≡ ended_text lines)
cut [] = ([] ∷ [], (tt, tt), refl)
cut (b ∷ text) = let c = cut text in cut_more b text c.0 (b == 10) refl c.1 c.2

lines_in : (text : List ℕ) → IsEnded text → (lines : List (List ℕ)) × AllByRecursion IsUnended lines × (text ≡ ended_text lines)
lines_in text (inl e) = ([], tt, e)
lines_in text (inr c) = let k = cut c.0 in (k.0, k.1, c.1 ∙ k.2)

text_both : (one other : List (List ℕ)) → ended_text (one ++ other) ≡ ended_text one ++ ended_text other
text_both [] other = refl
text_both (l ∷ one) other = ap (λ x. l ++ 10 ∷ x) (text_both one other) ∙ sym (append_assoc l (10 ∷ ended_text one) (ended_text other))

-- what is left of two texts one after the other
pub left_both : (one other : List ℕ) → IsEnded one → without_starred (one ++ other) ≡ without_starred one ++ without_starred other
left_both one other ended =
    let k = lines_in one ended in
    let kept : List ℕ → Bool = λ l. not (slice_index l 0 == 42) in
    let whole : lines_of (one ++ other) ≡ k.0 ++ lines_of other = ap (λ x. lines_of (x ++ other)) k.2 ∙ lines_cut k.0 other k.1 in
    let alone : lines_of one ≡ k.0 = ap lines_of (sym (append-nil one)) ∙ ap (λ x. lines_of (x ++ [])) k.2 ∙ lines_cut k.0 [] k.1 ∙ append-nil k.0 in
    ap (λ ls. ended_text (filter kept ls)) whole
    ∙ ap ended_text (filter-append kept k.0 (lines_of other))
    ∙ text_both (filter kept k.0) (filter kept (lines_of other))
    ∙ ap (λ ls. ended_text (filter kept ls) ++ without_starred other) (sym alone)

-- ---- what is left out

-- Of the text in front of another one nothing is left.
abbrev pub IsLeftOut : List ℕ → Type 0
IsLeftOut text = (more : List ℕ) → without_starred (text ++ more) ≡ without_starred more

pub none_left_out : (text : List ℕ) → text ≡ [] → IsLeftOut text
none_left_out text e more = ap (λ x. without_starred (x ++ more)) e

unended : (text : List ℕ) → IsUnended (before_first (λ b. b == 10) text)
unended text = all_before text (position_or_len (λ b. b == 10) text) (λ k inside. let no : (get_or text k 0 == 10) ≡ false = fails_before_first (λ b. b == 10) text k 0 inside in grind arith) (prefix_len-le-length _ text)

starred_out : (text : List ℕ) → IsUnended text → slice_index text 0 ≡ 42 → IsLeftOut (text ++ 10 ∷ [])
starred_out text none star more =
    ap (λ ls. ended_text (filter (λ l. not (slice_index l 0 == 42)) ls)) (ap lines_of (append_assoc text (10 ∷ []) more) ∙ lines_ended text more none)
    ∙ ap (λ b. ended_text (cond (not (b == 42)) (text ∷ filter (λ l. not (slice_index l 0 == 42)) (lines_of more)) (filter (λ l. not (slice_index l 0 == 42)) (lines_of more)))) star

begins_so : (text : List ℕ) → slice_index (before_first (λ b. b == 10) (42 ∷ text)) 0 ≡ 42
begins_so text =
    let more : 1 + position_or_len (λ b. b == 10) text ≡ suc (position_or_len (λ b. b == 10) text) = omega arith in
    ap (λ n. slice_index (take n (42 ∷ text)) 0) more

pub line_out : (the_line : List ℕ) → IsLeftOut (one_line (codes "* " ++ the_line))
line_out the_line = starred_out (before_first (λ b. b == 10) (codes "* " ++ the_line)) (unended (codes "* " ++ the_line)) (begins_so (codes " " ++ the_line))

reason_out : (t : Name) (request : Request) (reason : LineReason) → IsLeftOut (reason_line t request reason)
reason_out t request reason = line_out (why_text t request reason)

text_out : (job : JobValue) (l : Line) (r : Option LineReason) → IsLeftOut (reason_text job l r)
text_out job l None = none_left_out [] refl
text_out job line.Nothing (Some reason) = none_left_out [] refl
text_out job (line.Statement t (says.Request a)) (Some reason) = reason_out t (spoken (resolved job.names a)) reason
text_out job (line.Statement t (says.Region below above fill residence)) (Some reason) = reason_out t Return reason
text_out job (line.Statement t (says.Where name)) (Some reason) = reason_out t Return reason
text_out job (line.Statement t says.ReportSubpools) (Some reason) = reason_out t Return reason
text_out job (line.Statement t says.ReportMap) (Some reason) = reason_out t Return reason

explanation_out : (old : Option JobValue) (l : List ℕ) (events : List Event) (why : List ℕ) → IsExplanation old l events why → IsLeftOut why
explanation_out None l events why e = none_left_out why e
explanation_out (Some job) l events why (inl (the_line, is, (r, of, e))) = subst IsLeftOut (sym e) (text_out job the_line r)
explanation_out (Some job) l events why (inr (fault, is, e)) = none_left_out why e

pub out_both : (one other : List ℕ) → IsLeftOut one → IsLeftOut other → IsLeftOut (one ++ other)
out_both one other a b more = ap without_starred (append_assoc one other more) ∙ a (other ++ more) ∙ b more

subpool_out : (e : Name × List Name) (s : OwnedSubpool) → IsLeftOut (subpool_line e s)
subpool_out e s = at (fate e s) where
  at : (f : Fate) → IsLeftOut (fate_line e.0 s f)
  at Freed = line_out (freed_text_of s.number s.owner s.bytes s.pages)
  at Remains = line_out (stays_text s.number s.owner e.0)
  at Unaffected = none_left_out [] refl

pub each_out : {X : Type 0} (f : X → List ℕ) → ((x : X) → IsLeftOut (f x)) → (xs : List X) → IsLeftOut (flat_map f xs)
each_out f each [] = none_left_out [] refl
each_out f each (x ∷ xs) = out_both (f x) (flat_map f xs) (each x) (each_out f each xs)

lines_out : (job : JobValue) (ended : Option (Name × List Name)) → IsLeftOut (freed_text job ended)
lines_out job None = none_left_out [] refl
lines_out job (Some e) = each_out (subpool_line e) (subpool_out e) (owned_subpools job.state e.0)

freeing_out : (old : Option JobValue) (events : List Event) (freed : List ℕ) → IsFreeing old events freed → IsLeftOut freed
freeing_out None events freed e = none_left_out freed e
freeing_out (Some job) events freed e = subst IsLeftOut (sym e) (lines_out job (ended_by events))

granted_out : (b : Option Baseline) (l : Line) (events : List Event) (new : Option JobValue) → IsLeftOut (granted_text b l events new)
granted_out b l events new = each_out fact_line (λ f. line_out (fact_text f)) (granted_facts b l events new)

granting_out : (old : Option JobValue) (l : List ℕ) (events : List Event) (new : Option JobValue) (done : List ℕ) → IsGranting old l events new done → IsLeftOut done
granting_out old l events new done (inl (the_line, is, e)) = subst IsLeftOut (sym e) (granted_out (before_line old the_line) the_line events new)
granting_out old l events new done (inr (inl (none, e))) = none_left_out done e
granting_out old l events new done (inr (inr (fault, is, e))) = none_left_out done e

naming_out : (n : Option NamedAddress) → IsLeftOut (naming_text n)
naming_out None = none_left_out [] refl
naming_out (Some n) = line_out (naming_words n.addr n.name n.place n.number)

named_out : (old : Option JobValue) (set : NameOrigins) (l : List ℕ) (events : List Event) (named : List ℕ) → IsNamed old set l events named → IsLeftOut named
named_out None set l events named e = none_left_out named e
named_out (Some job) set l events named (a, tells, (n, is, e)) = subst IsLeftOut (sym e) (naming_out n)

after_out : (old : Option JobValue) (set : NameOrigins) (l : List ℕ) (events : List Event) (new : Option JobValue) (text : List ℕ) → IsExplanationText old set l events new text → IsLeftOut text
after_out old set l events new text (why, named, freed, done, is, names, frees, grants, e) =
    let end = out_both freed done (freeing_out old events freed frees) (granting_out old l events new done grants) in
    subst IsLeftOut (sym e) (out_both why (named ++ (freed ++ done)) (explanation_out old l events why is) (out_both named (freed ++ done) (named_out old set l events named names) end))

-- ---- a run

-- the text of an entry is the printing of its events, and what is left out
pub entry_out : (set : NameOrigins) (e : Entry) (kind : Kind) (text : List ℕ) → IsExplainedAs set e kind text → (why : List ℕ) × (text ≡ printing e.events ++ why) × IsLeftOut why
entry_out set e (Executed the_line) text (why, is, same) = (why, same, after_out e.before set e.bytes e.events e.after why is)
entry_out set e (Faulty fault) text same = ([], same ∙ sym (append-nil (printing e.events)), none_left_out [] refl)
entry_out set e Closed text same = ([], same ∙ sym (append-nil (printing e.events)), none_left_out [] refl)
entry_out set e (Exhausted the_line) text same = ([], same ∙ sym (append-nil (printing e.events)), none_left_out [] refl)

-- What a consumer writes for an entry is the printing of its events, and lines that begin with an asterisk.
abbrev pub IsStarred : Piece → Type 0
IsStarred piece = (history : List Entry) (e : Entry) (one more : List ℕ) → piece.may history e one → without_starred (one ++ more) ≡ without_starred (printing e.events) ++ without_starred more

-- the printing of the events, and lines that begin with an asterisk
pub printed_then : (events : List Event) (one why more : List ℕ) → one ≡ printing events ++ why → IsLeftOut why → without_starred (one ++ more) ≡ without_starred (printing events) ++ without_starred more
printed_then events one why more is out =
    ap (λ x. without_starred (x ++ more)) is ∙ ap without_starred (append_assoc (printing events) why more) ∙ left_both (printing events) (why ++ more) (printing_ended events) ∙ ap (λ x. without_starred (printing events) ++ x) (out more)

module _ (piece : Piece) (each : IsStarred piece) where
  left : (history entries : List Entry) (text : List ℕ) → WrittenAfter piece history entries text → without_starred text ≡ without_starred (printing (events_of entries))
  left history [] text is = ap without_starred is
  left history (e ∷ entries) text (one, rest, first, is, cut) =
      ap without_starred cut ∙ each history e one rest first
      ∙ ap (λ x. without_starred (printing e.events) ++ x) (left (history ++ e ∷ []) entries rest is)
      ∙ sym (left_both (printing e.events) (printing (events_of entries)) (printing_ended e.events))
      ∙ ap without_starred (sym (printed_both e.events (events_of entries)))

  -- Without its lines that begin with an asterisk what it writes for a run is the printing of that.
  pub starred_are : NoLineIsStarred → (script text : List ℕ) (outcome : Outcome) → WritesText piece script text (Ok outcome) → IsPrinting script (without_starred text) outcome
  starred_are none script text outcome w =
      let run = traces_are_runs script w.entries outcome w.trace in
      (events_of w.entries, run, left [] w.entries text w.is ∙ none script (printing (events_of w.entries)) outcome (events_of w.entries, run, refl))

-- Without its lines that begin with an asterisk the text of a run with explanations is the printing of a run.
pub explained_are : NoLineIsStarred → ExplainedArePrintings
explained_are none = starred_are explained (λ history e one more is. let w = entry_out (set_by_entries history) e e.kind one is in printed_then e.events one w.0 more w.1 w.2) none
