-- Traces go on, and are runs.
use Rattle.std.proofs.Common.{◌≡◌, ℕ, ◌+◌, inl, inr, List, [], ◌∷◌, ◌++◌, length, append-nil, Option, Some, None, arith, refl, sym, ap, ◌∙◌, subst}
use Rattle.mvs_model.specs.Answers.{Event}
use Rattle.mvs_model.specs.Job.{JobValue}
use Rattle.mvs_model.specs.Memory.{StopsForMemory, TakesMemory}
use Rattle.mvs_model.specs.Runs.{machine}
use Rattle.mvs_model.specs.Walk.{Closes, JobEnds, Leads, Stop, Walks}
use Rattle.mvs_model.specs.Walk as walk
use Rattle.mvs_laws.specs.Going.{Sized}
use Rattle.mvs_laws.proofs.Going.{running_keeps, start_sized}
use Rattle.mvs_laws.proofs.Sized.{sized_closed}
use Rattle.mvs_model.specs.WellFormed.{PoolsSized}
use Rattle.mvs_job.specs.Trace.{Arrives, Closed, Ending, Ends, Entry, Executed, Exhausts, RunsHaveTraces, Stops, Traces, TracesAreRuns, events_of, step_from}

-- a trace goes on where some lines arrive
pub traces_then : (how : Ending) (lines left : List (List ℕ)) (number next : ℕ) (old step : Option JobValue) (entries rest : List Entry) → next ≡ number + length lines
    → Traces (Arrives step) number old lines entries → Traces how next step left rest → Traces how number old (lines ++ left) (entries ++ rest)
traces_then how [] left number next old step entries rest e h t =
    let at : next ≡ number = omega (arith, e) in
    subst (λ x. Traces how number old left (x ++ rest)) (sym h.0) (subst (λ x. Traces how number x left rest) h.1 (subst (λ x. Traces how x step left rest) at t))
traces_then how (l ∷ lines) left number next old step entries rest e (inl h) t = absurd h
traces_then how (l ∷ lines) left number next old step entries rest e (inr (first, more, is, same, h)) t =
    inr (first, more ++ rest, is, ap (λ x. x ++ rest) same, traces_then how lines left (number + 1) next first.after step more rest (omega (arith, e)) h t)

-- where some lines arrive is the step after their entries
pub traces_arrive : (new : Option JobValue) (number : ℕ) (old : Option JobValue) (lines : List (List ℕ)) (entries : List Entry) → Traces (Arrives new) number old lines entries → new ≡ step_from old entries
traces_arrive new number old [] entries (same, to) = to ∙ sym (ap (step_from old) same)
traces_arrive new number old (l ∷ lines) entries (inl h) = absurd h
traces_arrive new number old (l ∷ lines) entries (inr (e, rest, is, same, t)) = traces_arrive new (number + 1) e.after lines rest t ∙ sym (ap (step_from old) same)

-- ---- runs

-- how a run stops with a trace
abbrev pub stop_of : Ending → Stop JobValue
stop_of (Ends outcome) = JobEnds machine outcome
stop_of Exhausts = StopsForMemory
stop_of (Arrives new) = walk.Arrives new

one_event : (entries : List Entry) (e : Entry) (events : List Event) → entries ≡ e ∷ [] → e.events ≡ events → events_of entries ≡ events
one_event entries e events same is = ap events_of same ∙ append-nil e.events ∙ is

pub stops_walk : (how : Ending) (number : ℕ) (old : Option JobValue) (lines : List (List ℕ)) (entries : List Entry) → Stops how number old lines entries → stop_of how number old lines (events_of entries)
stops_walk (Ends outcome) number old [] entries (e, (events, closes, is), same) = subst (λ x. Closes machine number old x outcome) (sym (one_event entries e events same (ap (λ e. e.events) is))) closes
stops_walk (Ends outcome) number old (l ∷ lines) entries (e, (fault, of, is), same, o) = ((fault, of, one_event entries e _ same (ap (λ e. e.events) is)), o)
stops_walk Exhausts number old [] entries h = absurd h
stops_walk Exhausts number old (l ∷ lines) entries (e, (said, events, of, takes, is), same) = (said, of, subst (TakesMemory old said) (sym (one_event entries e events same (ap (λ e. e.events) is))) takes)
stops_walk (Arrives new) number old [] entries (same, to) = (ap events_of same, to)
stops_walk (Arrives new) number old (l ∷ lines) entries h = absurd h

pub walk_of : (how : Ending) (number : ℕ) (old : Option JobValue) (lines : List (List ℕ)) (entries : List Entry) → Traces how number old lines entries → Walks machine (stop_of how) number old lines (events_of entries)
walk_of how number old [] entries t = stops_walk how number old [] entries t
walk_of how number old (l ∷ lines) entries (inl t) = inl (stops_walk how number old (l ∷ lines) entries t)
walk_of how number old (l ∷ lines) entries (inr (e, rest, (said, events, new, of, serves, is), same, t)) =
    inr (new, events, events_of rest, (said, of, serves), ap events_of same ∙ ap (λ e. e.events ++ events_of rest) is, subst (λ x. Walks machine (stop_of how) (number + 1) x lines (events_of rest)) (ap (λ e. e.after) is) (walk_of how (number + 1) e.after lines rest t))

stops_trace : (how : Ending) (number : ℕ) (old : Option JobValue) (lines : List (List ℕ)) (events : List Event) → stop_of how number old lines events → (entries : List Entry) × Stops how number old lines entries × (events ≡ events_of entries)
stops_trace (Ends outcome) number old [] events closes =
    let e : Entry = record { number = number; bytes = []; kind = Closed; events = events; before = old; after = None } in
    (e ∷ [], (e, (events, closes, refl), refl), sym (append-nil events))
stops_trace (Ends outcome) number old (l ∷ lines) events ((fault, of, is), o) = (_, (_, (fault, of, refl), refl, o), is)
stops_trace Exhausts number old [] events h = absurd h
stops_trace Exhausts number old (l ∷ lines) events (said, of, takes) = (_, (_, (said, events, of, takes, refl), refl), sym (append-nil events))
stops_trace (Arrives new) number old [] events (same, to) = ([], (refl, to), same)
stops_trace (Arrives new) number old (l ∷ lines) events h = absurd h

pub trace_of : (how : Ending) (number : ℕ) (old : Option JobValue) (lines : List (List ℕ)) (events : List Event) → Walks machine (stop_of how) number old lines events → (entries : List Entry) × Traces how number old lines entries × (events ≡ events_of entries)
trace_of how number old [] events w = stops_trace how number old [] events w
trace_of how number old (l ∷ lines) events (inl w) = let r = stops_trace how number old (l ∷ lines) events w in (r.0, inl r.1, r.2)
trace_of how number old (l ∷ lines) events (inr (mid, first, rest, (said, of, serves), is, w)) =
    let r = trace_of how (number + 1) mid lines rest w in
    let e : Entry = record { number = number; bytes = l; kind = Executed said; events = first; before = old; after = mid } in
    (e ∷ r.0, inr (e, r.0, (said, first, mid, of, serves, refl), refl, r.1), is ∙ ap (λ x. first ++ x) r.2)

-- ---- laws

pub traces_are_runs : TracesAreRuns
traces_are_runs script entries outcome t = walk_of (Ends outcome) 1 None _ entries t

pub runs_have_traces : RunsHaveTraces
runs_have_traces script events outcome r = trace_of (Ends outcome) 1 None _ events r

-- ---- states of a run

running_sized : (lines : List (List ℕ)) (events : List Event) (step : Option JobValue) → Leads machine 1 None lines events step → Sized step
running_sized lines events None leads = tt
running_sized lines events (Some job) leads = running_keeps PoolsSized sized_closed (λ card is. start_sized card) job (record { lines = lines; events = events; leads = leads })

pub trace_sized : (lines : List (List ℕ)) (entries : List Entry) (step : Option JobValue) → Traces (Arrives step) 1 None lines entries → Sized step
trace_sized lines entries step t = running_sized lines (events_of entries) step (walk_of (Arrives step) 1 None lines entries t)

-- ---- the last entries

-- a trace is the entries of some lines that are executed, and those with which it stops
pub record IsSplit (how : Ending) (number : ℕ) (old : Option JobValue) (lines : List (List ℕ)) (entries : List Entry) : Type 0 where
  pub served : List (List ℕ)
  pub left : List (List ℕ)
  pub before : List Entry
  pub last : List Entry
  pub next : ℕ
  pub step : Option JobValue
  pub lines_are : lines ≡ served ++ left
  pub entries_are : entries ≡ before ++ last
  pub counted : next ≡ number + length served
  pub trace : Traces (Arrives step) number old served before
  pub stops : Stops how next step left last

at_once : (how : Ending) (number : ℕ) (old : Option JobValue) (lines : List (List ℕ)) (entries : List Entry) → Stops how number old lines entries → IsSplit how number old lines entries
at_once how number old lines entries h =
    record { served = []; left = lines; before = []; last = entries; next = number; step = old; lines_are = refl; entries_are = refl; counted = omega arith; trace = (refl, refl); stops = h }

pub trace_split : (how : Ending) (number : ℕ) (old : Option JobValue) (lines : List (List ℕ)) (entries : List Entry) → Traces how number old lines entries → IsSplit how number old lines entries
trace_split how number old [] entries t = at_once how number old [] entries t
trace_split how number old (l ∷ lines) entries (inl t) = at_once how number old (l ∷ lines) entries t
trace_split how number old (l ∷ lines) entries (inr (e, rest, is, same, t)) =
    let r = trace_split how (number + 1) e.after lines rest t in
    record {
      served = l ∷ r.served;
      left = r.left;
      before = e ∷ r.before;
      last = r.last;
      next = r.next;
      step = r.step;
      lines_are = ap (λ x. l ∷ x) r.lines_are;
      entries_are = same ∙ ap (λ x. e ∷ x) r.entries_are;
      counted = let c = r.counted in omega (arith, c);
      trace = inr (e, r.before, is, refl, r.trace);
      stops = r.stops;
    }

-- the first entries of a trace, if they are not all, are of lines that are executed
pub record IsCut (number : ℕ) (old : Option JobValue) (lines : List (List ℕ)) (entries : List Entry) : Type 0 where
  pub served : List (List ℕ)
  pub left : List (List ℕ)
  pub step : Option JobValue
  pub lines_are : lines ≡ served ++ left
  pub trace : Traces (Arrives step) number old served entries

not_one : (e f next : Entry) (entries rest : List Entry) → e ∷ (entries ++ next ∷ rest) ≡ f ∷ [] → ⊥
not_one e f next [] rest same = absurd (let h : e ∷ (next ∷ rest) ≡ f ∷ [] = same in cc)
not_one e f next (x ∷ entries) rest same = absurd (let h : e ∷ (x ∷ (entries ++ next ∷ rest)) ≡ f ∷ [] = same in cc)

more_stop : (how : Ending) (number : ℕ) (old : Option JobValue) (lines : List (List ℕ)) (e next : Entry) (entries rest : List Entry) → Stops how number old lines (e ∷ (entries ++ next ∷ rest)) → ⊥
more_stop (Ends outcome) number old [] e next entries rest (f, is, same) = not_one e f next entries rest same
more_stop (Ends outcome) number old (l ∷ lines) e next entries rest (f, is, same, o) = not_one e f next entries rest same
more_stop Exhausts number old [] e next entries rest h = h
more_stop Exhausts number old (l ∷ lines) e next entries rest (f, is, same) = not_one e f next entries rest same
more_stop (Arrives new) number old [] e next entries rest (same, to) = absurd (let h : e ∷ (entries ++ next ∷ rest) ≡ [] = same in cc)
more_stop (Arrives new) number old (l ∷ lines) e next entries rest h = h

pub trace_cut : (how : Ending) (number : ℕ) (old : Option JobValue) (lines : List (List ℕ)) (entries : List Entry) (next : Entry) (rest : List Entry) → Traces how number old lines (entries ++ next ∷ rest) → IsCut number old lines entries
trace_cut how number old lines [] next rest t = record { served = []; left = lines; step = old; lines_are = refl; trace = (refl, refl) }
trace_cut how number old [] (e ∷ entries) next rest t = absurd (more_stop how number old [] e next entries rest t)
trace_cut how number old (l ∷ lines) (e ∷ entries) next rest (inl t) = absurd (more_stop how number old (l ∷ lines) e next entries rest t)
trace_cut how number old (l ∷ lines) (e ∷ entries) next rest (inr (f, more, is, same, t)) =
    let here : e ∷ (entries ++ next ∷ rest) ≡ f ∷ more = same in
    let one : e ≡ f = cc in
    let others : more ≡ entries ++ next ∷ rest = cc in
    let r = trace_cut how (number + 1) f.after lines entries next rest (subst (Traces how (number + 1) f.after lines) others t) in
    record { served = l ∷ r.served; left = r.left; step = r.step; lines_are = ap (λ x. l ∷ x) r.lines_are; trace = inr (f, entries, is, ap (λ x. x ∷ entries) one, r.trace) }
