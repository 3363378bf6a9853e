-- Reports of leaks in the text of a run.
use Rattle.std.proofs.Common.{◌≡◌, ◌≢◌, ℕ, ◌+◌, ◌-◌, ◌==◌, inl, inr, List, [], ◌∷◌, ◌++◌, append_assoc, append-nil, length, take, drop, suc, ◌<◌, ◌≤◌, not, Bool, true, false, Option, Some, None, refl, sym, ap, subst, ◌∙◌, arith}
use Rattle.std.specs.Prelude.{◌⊎◌, ◌&&◌, nat_le, is_some, codes, if◌then◌else◌, Ok}
use Rattle.std.specs.List.{AllByRecursion, flat_map, position_or_len}
use Rattle.mvs_model.specs.declared.name.Name.{Name}
use Rattle.mvs_model.specs.declared.outcome.Outcome.{Outcome}
use Rattle.mvs_model.specs.Answers.{Answer, Event, AnswerTo, StepEnded, Faulted, Region}
use Rattle.mvs_model.specs.Answers as answer
use Rattle.mvs_model.specs.Lines.{IsUnended}
use Rattle.mvs_model.specs.Runs.{IsPrinting}
use Rattle.mvs_model.specs.Texts.{printing, text_of}
use Rattle.std.proofs.Math.Seq.{take-length, drop-length}
use Rattle.std.specs.Prelude.{Result}
use Rattle.line_text.specs.Writing.{Prints}
use Rattle.mvs_model.specs.Watched.{WatchedValue}
use Rattle.std.proofs.lemmas.List.{length-drop}
use Rattle.mvs_job.specs.Consuming.{Piece, WritesText}
use Rattle.mvs_job.specs.Explained.{explained, set_by_entries}
use Rattle.mvs_job.specs.Explaining.{NoLineIsStarred, without_starred}
use Rattle.mvs_job.specs.Printed.{printed}
use Rattle.mvs_job.specs.Trace.{Entry}
use Rattle.mvs_job.proofs.Starred.{IsClosed, IsEnded, IsLeftOut, IsStarred, closed_after, each_out, entry_out, event_ended, left_both, line_out, none_left_out, out_both, printed_then, printing_ended, reply_closed, starred_are}
use Rattle.area_history.specs.declared.account.Leftovers.{Leftovers}
use Rattle.area_history.specs.declared.largest.Leaks.{Leaks}
use Rattle.area_history.specs.declared.pools.PoolLeft.{PoolLeft}
use Rattle.area_history.specs.declared.totals.Total.{Total}
use Rattle.area_history.specs.Accounts.{summary_of}
use Rattle.area_history.specs.Ledgers.{Left as LeftInStep, begun, ends_step, leaks_at, some_leak}
use Rattle.area_history.specs.LeakTexts.{areas_report, heading_text, leak_line, leak_text, more_line, number_text, pool_line, pool_text, pools_heading, pools_report, report_text, starred, total_line, total_text, totals_text}
use Rattle.area_history.specs.declared.findings.AddressHistory.{AddressHistory}
use Rattle.area_history.specs.declared.findings.AreaFate.{AreaFate}
use Rattle.area_history.specs.declared.findings.Findings.{Findings}
use Rattle.area_history.specs.declared.grant.Selection.{Selection}
use Rattle.area_history.specs.Histories.{HistoriesArePrintings, findings_of, history_from, no_history, stays_at, with_history}
use Rattle.area_history.specs.HistoryTexts.{address_text, anywhere_text, anywhere_words, earlier, fate_text, findings_text, held_heading, held_text, some_fate_text, some_held, stay_line, stay_text, stays_text}
use Rattle.area_history.specs.Reporting.{ExplainedLeaksArePrintings, LeaksArePrintings, after_first_line, changes_step, reported, with_leaks, with_report}

-- ---- a report is of lines that begin with an asterisk

more_out : (n : ℕ) → IsLeftOut (more_line n)
more_out n = at (n == 0) where
  at : (b : Bool) → IsLeftOut (if b then [] else starred (codes "And " ++ number_text n ++ codes " more."))
  at true = none_left_out [] refl
  at false = line_out (codes "And " ++ number_text n ++ codes " more.")

totals_out : (totals : List Total) → IsLeftOut (totals_text totals)
totals_out totals = at (nat_le (length totals) 1) where
  at : (b : Bool) → IsLeftOut (if b then [] else flat_map total_line totals)
  at true = none_left_out [] refl
  at false = each_out total_line (λ t. line_out (total_text t)) totals

areas_out : (l : Leaks) → IsLeftOut (areas_report l)
areas_out l = at (l.count == 0) where
  at : (b : Bool) → IsLeftOut (if b then [] else starred (heading_text l.count l.bytes) ++ (flat_map leak_line l.largest ++ (more_line (l.count - 10) ++ (totals_text l.subpools ++ totals_text l.tasks))))
  at true = none_left_out [] refl
  at false =
      out_both (starred (heading_text l.count l.bytes)) (flat_map leak_line l.largest ++ (more_line (l.count - 10) ++ (totals_text l.subpools ++ totals_text l.tasks))) (line_out (heading_text l.count l.bytes))
      (out_both (flat_map leak_line l.largest) (more_line (l.count - 10) ++ (totals_text l.subpools ++ totals_text l.tasks)) (each_out leak_line (λ x. line_out (leak_text x)) l.largest)
      (out_both (more_line (l.count - 10)) (totals_text l.subpools ++ totals_text l.tasks) (more_out (l.count - 10)) (out_both (totals_text l.subpools) (totals_text l.tasks) (totals_out l.subpools) (totals_out l.tasks))))

pools_out : (pools : List PoolLeft) → IsLeftOut (pools_report pools)
pools_out pools = at (length pools == 0) where
  at : (b : Bool) → IsLeftOut (if b then [] else starred (pools_heading (length pools)) ++ flat_map pool_line pools)
  at true = none_left_out [] refl
  at false = out_both (starred (pools_heading (length pools))) (flat_map pool_line pools) (line_out (pools_heading (length pools))) (each_out pool_line (λ x. line_out (pool_text x)) pools)

report_out : (left : Leftovers) → IsLeftOut (report_text left)
report_out left = out_both (areas_report left.areas) (pools_report left.pools) (areas_out left.areas) (pools_out left.pools)

-- ---- so are the lines of a history

fate_out : (a : ℕ) (o : Option AreaFate) → IsLeftOut (some_fate_text a o)
fate_out a None = none_left_out [] refl
fate_out a (Some f) = line_out (fate_text a f)

address_out : (o : Option AddressHistory) → IsLeftOut (address_text o)
address_out None = none_left_out [] refl
address_out (Some h) = out_both (some_fate_text h.addr (earlier h)) (some_fate_text h.addr h.latest) (fate_out h.addr (earlier h)) (fate_out h.addr h.latest)

anywhere_out : (o : Option ℕ) → IsLeftOut (anywhere_text o)
anywhere_out None = none_left_out [] refl
anywhere_out (Some n) = line_out (anywhere_words n)

held_out : (side : Selection) (held : Leaks) → IsLeftOut (held_text side held)
held_out side held = at (held.count == 0) where
  at : (b : Bool) → IsLeftOut (if b then [] else some_held side held)
  at true = none_left_out [] refl
  at false = out_both (starred (held_heading side held)) (flat_map leak_line (take 3 held.largest) ++ totals_text held.subpools) (line_out (held_heading side held)) (out_both (flat_map leak_line (take 3 held.largest)) (totals_text held.subpools) (each_out leak_line (λ x. line_out (leak_text x)) (take 3 held.largest)) (totals_out held.subpools))

stays_out : (stays : Leaks) → IsLeftOut (stays_text stays)
stays_out stays = out_both (flat_map stay_line stays.largest) (more_line (stays.count - 10)) (each_out stay_line (λ x. line_out (stay_text x)) stays.largest) (more_out (stays.count - 10))

pub findings_out : (f : Findings) → IsLeftOut (findings_text f)
findings_out f =
    out_both (address_text f.address) (anywhere_text f.anywhere ++ (held_text f.side f.held ++ stays_text f.stays)) (address_out f.address)
    (out_both (anywhere_text f.anywhere) (held_text f.side f.held ++ stays_text f.stays) (anywhere_out f.anywhere) (out_both (held_text f.side f.held) (stays_text f.stays) (held_out f.side f.held) (stays_out f.stays)))

-- ---- the first line of a text

-- A text has a first line, or no line feed.
abbrev IsCut : List ℕ → List ℕ → Type 0
IsCut report text = ((front : List ℕ) × (rest : List ℕ) × IsClosed front × (text ≡ front ++ rest) × (after_first_line report text ≡ front ++ report ++ rest)) ⊎ IsUnended text

cut_first : (report text : List ℕ) → IsCut report text
cut_first report [] = inr tt
cut_first report (b ∷ text) = at (b == 10) refl (cut_first report text) where
  at : (feed : Bool) → (b == 10) ≡ feed → IsCut report text → ((front : List ℕ) × (rest : List ℕ) × IsClosed front × (b ∷ text ≡ front ++ rest) × ((if feed then b ∷ report ++ text else b ∷ after_first_line report text) ≡ front ++ report ++ rest)) ⊎ IsUnended (b ∷ text)
  at true is below = inl (b ∷ [], text, ([], (let f : b ≡ 10 = grind arith in ap (λ c. c ∷ []) f)), refl, refl)
  at false is (inl (front, rest, closed, same, after)) = inl (b ∷ front, rest, (b ∷ closed.0, ap (λ x. b ∷ x) closed.1), ap (λ x. b ∷ x) same, ap (λ x. b ∷ x) after)
  at false is (inr none) = inr ((let f : b ≢ 10 = grind arith in f), none)

-- where the first line ends
abbrev Ends : List ℕ → List ℕ → ℕ → List ℕ → Type 0
Ends more text k cut = ((k < length text) × (cut ≡ take (k + 1) text ++ more ++ drop (k + 1) text)) ⊎ ((k ≡ length text) × (cut ≡ text ++ more))

ends_in : (more text : List ℕ) → Ends more text (position_or_len (λ b. b == 10) text) (after_first_line more text)
ends_in more [] = inr (refl, refl)
ends_in more (b ∷ text) = at (b == 10) (ends_in more text) where
  at : (feed : Bool) → Ends more text (position_or_len (λ b. b == 10) text) (after_first_line more text)
      → Ends more (b ∷ text) (if not feed then 1 + position_or_len (λ b. b == 10) text else 0) (if feed then b ∷ more ++ text else b ∷ after_first_line more text)
  at true below = inl (omega arith, refl)
  at false (inl (less, is)) =
      let more_of : (k : ℕ) → k ≡ suc (position_or_len (λ b. b == 10) text) → b ∷ after_first_line more text ≡ take (k + 1) (b ∷ text) ++ more ++ drop (k + 1) (b ∷ text) = λ k same. ap (λ x. b ∷ x) is ∙ ap (λ n. take n (b ∷ text) ++ more ++ drop n (b ∷ text)) (let f : suc (position_or_len (λ b. b == 10) text + 1) ≡ k + 1 = omega (arith, same) in f) in
      inl (omega (arith, less), more_of (1 + position_or_len (λ b. b == 10) text) (omega arith))
  at false (inr (all, is)) = inr (omega (arith, all), ap (λ x. b ∷ x) is)

-- the length of the first line
pub first_line : (more text : List ℕ) (k : ℕ) → k ≡ position_or_len (λ b. b == 10) text → k < length text → after_first_line more text ≡ take (k + 1) text ++ more ++ drop (k + 1) text
first_line more text k is less = at (ends_in more text) where
  at : Ends more text (position_or_len (λ b. b == 10) text) (after_first_line more text) → after_first_line more text ≡ take (k + 1) text ++ more ++ drop (k + 1) text
  at (inl (some, cut)) = cut ∙ ap (λ k. take (k + 1) text ++ more ++ drop (k + 1) text) (sym is)
  at (inr (all, cut)) = absurd (omega (arith, all, is, less))

pub whole_line : (more text : List ℕ) (k : ℕ) → k ≡ position_or_len (λ b. b == 10) text → length text ≤ k → k ≤ length text → after_first_line more text ≡ take k text ++ more ++ drop k text
whole_line more text k is least most = at (ends_in more text) where
  all_taken : take k text ++ more ++ drop k text ≡ text ++ more
  all_taken = let e : k ≡ length text = omega (arith, least, most) in ap (λ k. take k text ++ more ++ drop k text) e ∙ ap (λ x. x ++ more ++ drop (length text) text) (take-length text) ∙ ap (λ x. text ++ more ++ x) (drop-length text) ∙ append-nil (text ++ more)

  at : Ends more text (position_or_len (λ b. b == 10) text) (after_first_line more text) → after_first_line more text ≡ take k text ++ more ++ drop k text
  at (inl (some, cut)) = absurd (omega (arith, some, is, least))
  at (inr (all, cut)) = cut ∙ sym all_taken

-- what is after a place of a text, as a slice has it
rest_is : (n : ℕ) (text : List ℕ) → n ≤ length text → take (length text - n) (drop n text) ≡ drop n text
rest_is n text h = ap (λ k. take k (drop n text)) (sym (length-drop n text)) ∙ take-length (drop n text)

pub rest_printed : {W X E : Type 0} (contents : W → Option (List ℕ)) (old new : WatchedValue W) (r : Result X E) (text : List ℕ) (n : ℕ) → n ≤ length text → Prints contents old new r (take (length text - n) (drop n text)) → Prints contents old new r (drop n text)
rest_printed contents old new r text n h p = subst (Prints contents old new r) (rest_is n text h) p

no_feed : (front rest : List ℕ) → IsUnended (front ++ 10 ∷ rest) → ⊥
no_feed [] rest h = h.0 refl
no_feed (b ∷ front) rest h = no_feed front rest h.1

closed_then : (one other : List ℕ) → IsClosed one → IsEnded other → IsClosed (one ++ other)
closed_then one other c (inl e) = subst IsClosed (sym (append-nil one) ∙ ap (λ x. one ++ x) (sym e)) c
closed_then one other c (inr d) = closed_after one other d

-- the printing of events that begin a step
begun_closed : (events : List Event) → is_some (begun events) ≡ true → IsClosed (printing events)
begun_closed [] h = absurd (let f : false ≡ true = h in cc)
begun_closed (AnswerTo number t (Region card) ∷ events) h = closed_then _ _ (region_closed (event_ended (AnswerTo number t (Region card)))) (printing_ended events) where
  region_closed : IsEnded (text_of (AnswerTo number t (Region card))) → IsClosed (text_of (AnswerTo number t (Region card)))
  region_closed x = reply_closed number t _
begun_closed (StepEnded abended ∷ events) h = closed_after _ _ (begun_closed events h)
begun_closed (Faulted number fault ∷ events) h = closed_after _ _ (begun_closed events h)
begun_closed (AnswerTo number t answer.NotRun ∷ events) h = closed_after _ _ (begun_closed events h)
begun_closed (AnswerTo number t answer.NoName ∷ events) h = closed_after _ _ (begun_closed events h)
begun_closed (AnswerTo number t (answer.At a) ∷ events) h = closed_after _ _ (begun_closed events h)
begun_closed (AnswerTo number t answer.Rc0 ∷ events) h = closed_after _ _ (begun_closed events h)
begun_closed (AnswerTo number t (answer.Granted n) ∷ events) h = closed_after _ _ (begun_closed events h)
begun_closed (AnswerTo number t answer.Rc4 ∷ events) h = closed_after _ _ (begun_closed events h)
begun_closed (AnswerTo number t answer.Cell ∷ events) h = closed_after _ _ (begun_closed events h)
begun_closed (AnswerTo number t answer.NoCell ∷ events) h = closed_after _ _ (begun_closed events h)
begun_closed (AnswerTo number t answer.Attached ∷ events) h = closed_after _ _ (begun_closed events h)
begun_closed (AnswerTo number t answer.Ended ∷ events) h = closed_after _ _ (begun_closed events h)
begun_closed (AnswerTo number t answer.Done ∷ events) h = closed_after _ _ (begun_closed events h)
begun_closed (AnswerTo number t (answer.Data bytes) ∷ events) h = closed_after _ _ (begun_closed events h)
begun_closed (AnswerTo number t (answer.Abended code fallen) ∷ events) h = closed_after _ _ (begun_closed events h)
begun_closed (AnswerTo number t (answer.Subpools lines) ∷ events) h = closed_after _ _ (begun_closed events h)
begun_closed (AnswerTo number t (answer.Map runs) ∷ events) h = closed_after _ _ (begun_closed events h)

-- ---- an entry with a report

module _ (e : Entry) (one why report more : List ℕ) (is : one ≡ printing e.events ++ why) (out : IsLeftOut why) (lines : IsLeftOut report) where
  abbrev Left : List ℕ → Type 0
  Left text = without_starred (text ++ more) ≡ without_starred (printing e.events) ++ without_starred more

  at_end : Left (one ++ report)
  at_end = printed_then e.events (one ++ report) (why ++ report) more (ap (λ x. x ++ report) is ∙ append_assoc (printing e.events) why report) (out_both why report out lines)

  between : IsCut report one → is_some (begun e.events) ≡ true → Left (after_first_line report one)
  between (inl (front, rest, closed, same, after)) begins =
      ap (λ x. without_starred (x ++ more)) after ∙ ap without_starred (append_assoc (front ++ report) rest more ∙ append_assoc front report (rest ++ more))
      ∙ left_both front (report ++ (rest ++ more)) (inr closed) ∙ ap (λ x. without_starred front ++ x) (lines (rest ++ more)) ∙ sym (left_both front (rest ++ more) (inr closed))
      ∙ ap without_starred (sym (append_assoc front rest more)) ∙ ap (λ x. without_starred (x ++ more)) (sym same) ∙ printed_then e.events one why more is out
  between (inr none) begins =
      let c = begun_closed e.events begins in
      absurd (no_feed c.0 why (subst IsUnended (is ∙ ap (λ x. x ++ why) c.1 ∙ append_assoc c.0 (10 ∷ []) why) none))

  left_with : Left (with_report report e one)
  left_with = at (changes_step e) refl where
    begins : changes_step e ≡ true → is_some (begun e.events) ≡ true
    begins h = both (ends_step e) (is_some (begun e.events)) h where
      both : (a b : Bool) → (a && b) ≡ true → b ≡ true
      both true b k = k
      both false b k = absurd (let f : false ≡ true = k in cc)

    at : (b : Bool) → changes_step e ≡ b → Left (if b then after_first_line report one else one ++ report)
    at true h = between (cut_first report one) (begins h)
    at false h = at_end

-- an entry with a report, or none
pub entry_left : (e : Entry) (one why more text : List ℕ) (ls : LeftInStep) → one ≡ printing e.events ++ why → IsLeftOut why → text ≡ reported report_text ls e one → without_starred (text ++ more) ≡ without_starred (printing e.events) ++ without_starred more
entry_left e one why more text ls is out same = at (some_leak ls) same where
  at : (b : Bool) → text ≡ (if b then with_report (report_text (summary_of ls)) e one else one) → without_starred (text ++ more) ≡ without_starred (printing e.events) ++ without_starred more
  at true t = subst (λ x. without_starred (x ++ more) ≡ without_starred (printing e.events) ++ without_starred more) (sym t) (left_with e one why (report_text (summary_of ls)) more is out (report_out (summary_of ls)))
  at false t = subst (λ x. without_starred (x ++ more) ≡ without_starred (printing e.events) ++ without_starred more) (sym t) (printed_then e.events one why more is out)

-- ---- runs

pub leaks_are : NoLineIsStarred → LeaksArePrintings
leaks_are none = starred_are (with_leaks report_text printed) (λ history e text more w. entry_left e w.0 [] more text (leaks_at history e) (w.1 ∙ sym (append-nil (printing e.events))) (none_left_out [] refl) w.2) none

pub explained_leaks_are : NoLineIsStarred → ExplainedLeaksArePrintings
explained_leaks_are none = starred_are (with_leaks report_text explained) (λ history e text more w. let x = entry_out (set_by_entries history) e e.kind w.0 w.1 in entry_left e w.0 x.0 more text (leaks_at history e) x.1 x.2 w.2) none

pub histories_are : NoLineIsStarred → HistoriesArePrintings
histories_are none =
    starred_are (with_history findings_text explained)
    (λ history e text more w.
    let h = history_from no_history history in
    let report = findings_text (findings_of w.1 (stays_at h e)) in
    let x = entry_out (set_by_entries history) e e.kind w.0 w.2 in
    subst (λ t. without_starred (t ++ more) ≡ without_starred (printing e.events) ++ without_starred more) (sym w.4) (at_end e w.0 x.0 report more x.1 x.2 (findings_out (findings_of w.1 (stays_at h e)))))
    none
