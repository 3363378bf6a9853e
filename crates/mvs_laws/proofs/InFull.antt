-- A tidy script has a run that is granted in full.
use Rattle.std.proofs.Common.{◌≡◌, ℕ, ◌+◌, ◌≤◌, ◌⊎◌, inl, inr, Bool, true, false, List, [], ◌∷◌, ◌++◌, Option, Some, None, refl, ap, arith, ◌||◌, not, MatchBool, nat_cmp}
use Rattle.std.specs.FinMap.{FinMap, get-empty}
use Rattle.std.proofs.lemmas.Bool.Decides.{nat_tests}
use Rattle.mvs_laws.proofs.Types.{Name, Code, Statement, SourceRequest, Outcome, Request, Reply, NotRun, Done, Obtained, Abended}
use Rattle.mvs_model.proofs.StepCases.{step_cases}
use Rattle.mvs_model.specs.declared.code.Form.TheVariants as form
use Rattle.mvs_model.specs.declared.line.Line.TheVariants as line
use Rattle.mvs_model.specs.declared.line.Statement.TheVariants as says
use Rattle.mvs_model.specs.declared.line.SourceRequest.TheVariants as written
use Rattle.mvs_model.specs.declared.request.Request.TheVariants as request
use Rattle.mvs_model.specs.declared.want.Loc.TheVariants as loc
use Rattle.mvs_model.specs.declared.want.Residence.TheVariants.{Below}
use Rattle.mvs_model.specs.Name.{name_cmp}
use Rattle.mvs_model.specs.Place.{PlaceValue}
use Rattle.mvs_model.specs.Want.{IsAsk, WantValue, want_of}
use Rattle.mvs_model.specs.Storage.{Places}
use Rattle.mvs_model.specs.Owners.{is_active}
use Rattle.mvs_model.specs.State.{State, holder, subpool_in}
use Rattle.mvs_model.specs.Codes.{no_access}
use Rattle.mvs_model.specs.Requests.{IsRequest, side_for}
use Rattle.mvs_model.proofs.ByCase.{StepCase, ObtainStep}
use Rattle.mvs_model.specs.Consequences.{Refuses}
use Rattle.mvs_model.specs.Steps.{Step}
use Rattle.mvs_model.specs.WellFormed.{PoolsSized}
use Rattle.mvs_laws.specs.Going.{Sized}
use Rattle.mvs_model.specs.Answers.{Answer, Region, Event, AnswerTo}
use Rattle.mvs_model.specs.Answers as tells
use Rattle.mvs_model.specs.Job.{JobValue, job_at}
use Rattle.mvs_model.specs.Lines.{card_of, IsWritten}
use Rattle.mvs_model.specs.Resolving.{resolved, all_set, names_set, places_in}
use Rattle.mvs_model.specs.Replies.{is_abend}
use Rattle.mvs_model.specs.Walk.{Closes, ServesLine, Walks, JobEnds}
use Rattle.mvs_model.specs.Runs.{Makes, OnlyAnswers, Asks, AnswersTo, Does, job_machine}
use Rattle.mvs_laws.specs.Tidy.{IsInFull, InFull}
use Rattle.mvs_laws.specs.TidyExamples.{ReadsAs, area_x, fixed, job, moves, one_page, MovesInFull}
use Rattle.mvs_laws.proofs.Going.{line_keeps, start_sized}
use Rattle.mvs_laws.proofs.Sized.{sized_closed}
use Rattle.mvs_laws.proofs.OneLabels.{one_label_run}
use Rattle.mvs_model.proofs.Stuck.{step_some}
use Rattle.mvs_laws.proofs.TidyMoves.{moves_overlap, job_active}
use Rattle.mvs_laws.proofs.Requested.{is_request}
use Rattle.mvs_laws.proofs.TidySteps.{tidy_run}
use Rattle.mvs_model.proofs.Tests.{false_true}

-- ---- requests that touch bytes: none is refused for want of a place

abbrev Touches : Request → Type 0
Touches (request.Put a bytes) = Unit {0}
Touches (request.Move to from n) = Unit {0}
Touches (request.Show a n) = Unit {0}
Touches _ = ⊥

abbrev AsksTouch : SourceRequest → Type 0
AsksTouch (written.Put location bytes) = Unit {0}
AsksTouch (written.Move to from n) = Unit {0}
AsksTouch (written.Show location n) = Unit {0}
AsksTouch _ = ⊥

touch : (names : FinMap name_cmp PlaceValue) (a : SourceRequest) (r : Request) → AsksTouch a → resolved names a ≡ Some r → Touches r
touch names a r h1 h2 = grind (arith, nat_tests)

-- the code of a refused access is none of shortage
code_in : Reply → Option Code
code_in (Abended code fallen) = Some code
code_in _ = None

abbrev IsTouchReply : Reply → Type 0
IsTouchReply reply = (reply ≡ NotRun) ⊎ ((reply ≡ Done) ⊎ ((gone : List Name) × (reply ≡ Abended no_access gone)))

touch_reply : (old : State) (t : Name) (r : Request) (reply : Reply) (new : State) → Touches r → StepCase old t r reply new → IsTouchReply reply
touch_reply old t r reply new h step = grind (arith, nat_tests)

touch_full : (r : Request) (reply : Reply) → Touches r → IsTouchReply reply → IsInFull r reply
touch_full r reply h1 h2 = grind (arith, nat_tests)

-- ---- lines that make such requests

-- the request has a reply, granted in full
asks_full : (old : JobValue) (t : Name) (a : SourceRequest) (o : Option Request) → AsksTouch a → ((r : Request) → o ≡ Some r → Touches r × IsRequest r) → PoolsSized old.state → (answer : Answer) × (new : JobValue) × Asks InFull old t a o answer new
asks_full old t a None h r sized = (_, old, (refl, refl))
asks_full old t a (Some q) h r sized =
    let touches = (r q refl).0 in
    let s = step_some old.state t q sized (r q refl).1 in (
      _,
      record { state = s.1.0; names = all_set old.names (names_set a) (places_in s.0); abended = old.abended || is_abend s.0; former = old.former },
      record { reply = s.0; step = s.1.1; meets = touch_full q s.0 touches (touch_reply old.state t q s.0 s.1.0 touches (step_cases old.state t q s.0 s.1.0 s.1.1)); names = refl; abended = refl; former = refl; answer_is = refl },
    )

does_full : (old : JobValue) (t : Name) (a : SourceRequest) → AsksTouch a → IsWritten a → PoolsSized old.state → (answer : Answer) × (new : JobValue) × Does InFull old t (says.Request a) answer new
does_full old t a h r sized = at (not (is_active old.state.owners t)) where
  asked : (answer : Answer) × (new : JobValue) × Asks InFull old t a (resolved old.names a) answer new
  asked = asks_full old t a (resolved old.names a) h (λ q e. (touch old.names a q h e, is_request old.names a q r e)) sized

  at : (b : Bool) → (answer : Answer) × (new : JobValue) × MatchBool b (OnlyAnswers old tells.NotRun answer new) (Asks InFull old t a (resolved old.names a) answer new)
  at true = (_, old, (refl, refl))
  at false = asked

-- each of the statements makes such a request
abbrev AllTouch : List (Name × Statement) → Type 0
AllTouch [] = Unit {0}
AllTouch ((t, says.Request a) ∷ ss) = AsksTouch a × IsWritten a × AllTouch ss
AllTouch (s ∷ ss) = ⊥

-- the runs of some lines that are granted in full
abbrev WalksInFull : ℕ → Option JobValue → List (List ℕ) → List Event → Outcome → Type 0
WalksInFull number old lines events outcome = Walks (job_machine InFull) (JobEnds (job_machine InFull) outcome) number old lines events

line_sized : (number : ℕ) (old : Option JobValue) (l : List ℕ) (events : List Event) (new : Option JobValue) → ServesLine (job_machine InFull) number old l events new → Sized old → Sized new
line_sized = line_keeps PoolsSized sized_closed (λ card is. start_sized card) InFull

closes_some : (number : ℕ) (job : JobValue) → (events : List Event) × (outcome : Outcome) × Closes (job_machine InFull) number (Some job) events outcome
closes_some number old = (_, _, (refl, refl))

lines_full : (lines : List (List ℕ)) (ss : List (Name × Statement)) (number : ℕ) (old : JobValue) → ReadsAs false lines ss → AllTouch ss → Sized (Some old) → (events : List Event) × (outcome : Outcome) × WalksInFull number (Some old) lines events outcome
lines_full [] [] number old r all sized = closes_some number old
lines_full [] (s ∷ ss) number old r all sized = absurd r
lines_full (l ∷ lines) [] number old r all sized = absurd r
lines_full (l ∷ lines) ((t, says.Request a) ∷ ss) number old r all sized =
    let d = does_full old t a all.0 all.1 sized in
    let first = AnswerTo number t d.0 ∷ [] in
    let serves : ServesLine (job_machine InFull) number (Some old) l first (Some d.1) = (line.Statement t (says.Request a), r.0, (d.0, d.1, d.2, refl, refl)) in
    let more = lines_full lines ss (number + 1) d.1 r.1 all.2 (line_sized number (Some old) l first (Some d.1) serves sized) in
    (first ++ more.0, more.1, inr (Some d.1, first, more.0, serves, refl, more.2))
lines_full (l ∷ lines) ((t, says.Region below above fill residence) ∷ ss) number old r all sized = absurd all
lines_full (l ∷ lines) ((t, says.Where name) ∷ ss) number old r all sized = absurd all
lines_full (l ∷ lines) ((t, says.ReportSubpools) ∷ ss) number old r all sized = absurd all
lines_full (l ∷ lines) ((t, says.ReportMap) ∷ ss) number old r all sized = absurd all

-- ---- the obtain, in a step that has just begun

abbrev at_start : JobValue
at_start = job_at (card_of job 1 0 0 Below) false

abbrev asked : WantValue
asked = want_of (fixed 8) (side_for at_start.state job form.Ru loc.Res)

-- the first doubleword of the region is a place
nothing_held : (d : ℕ) → holder at_start.state d ≡ None
nothing_held d = ap subpool_in (get-empty nat_cmp d)

a_place : (s : ℕ) → Places at_start.state.regions (holder at_start.state) s asked 8 0x6000
a_place s = grind (arith, nat_tests, nothing_held)

-- so it is granted
grants : (reply : Reply) (new : State) → Step at_start.state job (request.Obtain form.Ru 0 (fixed 8)) reply new → (p : PlaceValue) × (reply ≡ Obtained p) × (p.len ≡ 8)
grants reply new step = at (is_active at_start.state.owners job) job_active (step_cases at_start.state job (request.Obtain form.Ru 0 (fixed 8)) reply new step) where
  obtained : ObtainStep at_start.state job form.Ru 0 asked reply new → (p : PlaceValue) × (reply ≡ Obtained p) × (p.len ≡ 8)
  obtained (inl f) = absurd (f.0.2 0x6000 (a_place f.0.0))
  obtained (inr g) = let low : 8 ≤ g.0.len = g.2.chosen.length.least in let high : g.0.len ≤ 8 = g.2.chosen.length.most in (g.0, g.1, omega (arith, low, high))

  at : (b : Bool) → b ≡ true → MatchBool (not b) (Refuses at_start.state NotRun reply new) (ObtainStep at_start.state job form.Ru 0 asked reply new) → (p : PlaceValue) × (reply ≡ Obtained p) × (p.len ≡ 8)
  at true e h = obtained h
  at false e h = false_true e

obtain_full : (reply : Reply) (p : PlaceValue) → reply ≡ Obtained p → p.len ≡ 8 → IsInFull (request.Obtain form.Ru 0 (fixed 8)) reply
unfolding code_in
obtain_full reply p e long = grind (arith, nat_tests)

-- ---- the script

abbrev obtain_x : SourceRequest
obtain_x = written.Obtain form.Ru 0 (fixed 8) false area_x

is_ask : IsAsk (fixed 8)
is_ask = record { some = omega arith; ordered = omega arith; short = omega arith; start = (omega arith, omega arith); within = tt }

obtain_does : (answer : Answer) × (new : JobValue) × Does InFull at_start job (says.Request obtain_x) answer new
obtain_does = at (is_active at_start.state.owners job) job_active where
  made : (answer : Answer) × (new : JobValue) × Makes InFull at_start job obtain_x (request.Obtain form.Ru 0 (fixed 8)) answer new
  made =
      let s = step_some at_start.state job (request.Obtain form.Ru 0 (fixed 8)) (start_sized (card_of job 1 0 0 Below)) is_ask in
      let g = grants s.0 s.1.0 s.1.1 in (
        _,
        record { state = s.1.0; names = all_set at_start.names (names_set obtain_x) (places_in s.0); abended = at_start.abended || is_abend s.0; former = at_start.former },
        record { reply = s.0; step = s.1.1; meets = obtain_full s.0 g.0 g.1 g.2; names = refl; abended = refl; former = refl; answer_is = refl },
      )

  at : (b : Bool) → b ≡ true → (answer : Answer) × (new : JobValue) × MatchBool (not b) (OnlyAnswers at_start tells.NotRun answer new) (AnswersTo InFull at_start job (says.Request obtain_x) answer new)
  at true e = made
  at false e = false_true e

full_from : (lines : List (List ℕ)) → ReadsAs true lines moves → (events : List Event) × (outcome : Outcome) × WalksInFull 1 None lines events outcome
full_from [] r = absurd r
full_from (l ∷ []) r = absurd r.1
full_from (l ∷ k ∷ lines) r =
    let d = obtain_does in
    let began = AnswerTo 1 job (Region (card_of job 1 0 0 Below)) ∷ [] in
    let first = AnswerTo 2 job d.0 ∷ [] in
    let serves : ServesLine (job_machine InFull) 2 (Some at_start) k first (Some d.1) = (line.Statement job (says.Request obtain_x), r.1.0, (d.0, d.1, d.2, refl, refl)) in
    let more = lines_full lines _ 3 d.1 r.1.1 (tt, tt, (tt, tt, (tt, tt, (tt, tt, (tt, tt, tt))))) (line_sized 2 (Some at_start) k first (Some d.1) serves (start_sized (card_of job 1 0 0 Below))) in (
      began ++ (first ++ more.0),
      more.1,
      inr (
        Some at_start,
        began,
        first ++ more.0,
        (line.Statement job one_page, r.0, (refl, refl)),
        refl,
        inr (Some d.1, first, more.0, serves, refl, more.2),
      ),
    )

-- what it prints is what the label machine prints
pub moves_in_full : MovesInFull
moves_in_full = grind (arith, nat_tests, full_from, moves_overlap, one_label_run, tidy_run)
