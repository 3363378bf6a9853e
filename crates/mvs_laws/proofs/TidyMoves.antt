-- Some scripts are tidy, and what the label machine prints for them is computed.
use Rattle.std.proofs.Common.{◌≡◌, ℕ, ◌+◌, Bool, true, false, cond, List, [], ◌∷◌, ◌++◌, Option, Some, None, inr, arith, refl, sym, ap, ◌∙◌, subst, is_some, not, ◌&&◌, ◌||◌, MatchOption, slice_get, nat_cmp, option_map}
use Rattle.std.specs.Fmt.{digits}
use Rattle.std.specs.FinMap.{FinMap, get, empty, insert, get-insert, get-empty}
use Rattle.std.specs.Cmp.{nat_cmp_total}
use Rattle.std.proofs.lemmas.Bool.Decides.{nat_tests}
use Rattle.mvs_laws.proofs.LabelCases as cases
use Rattle.mvs_laws.proofs.Types.{SourceRequest, Name, Statement, Named, Outcome, Clean, SomeAbend}
use Rattle.mvs_model.specs.declared.want.Residence.TheVariants.{Below}
use Rattle.mvs_model.specs.declared.line.Line.TheVariants as line
use Rattle.mvs_model.specs.declared.line.Statement.TheVariants as says
use Rattle.mvs_model.specs.declared.line.SourceRequest.TheVariants as written
use Rattle.mvs_model.specs.declared.code.Form.TheVariants as form
use Rattle.mvs_model.specs.Answers as tells
use Rattle.mvs_model.specs.Answers.{Answer, Region, Event, AnswerTo, StepEnded}
use Rattle.mvs_model.specs.Walk.{ServesLine, Walks, JobEnds}
use Rattle.mvs_model.specs.Name.{name_cmp}
use Rattle.mvs_model.specs.Finite.{all_below, has}
use Rattle.mvs_model.specs.Start.{first_owners}
use Rattle.mvs_model.specs.Owners.{Owners, entry_cmp, entry, is_active, IsSpare, SubpoolOf, Binds, Enters}
use Rattle.mvs_model.specs.Texts.{last_digits, data_lines, printing}
use Rattle.mvs_model.specs.Lines.{lines_of, card_of}
use Rattle.mvs_model.specs.Reading.{LineOf}
use Rattle.mvs_laws.specs.Labels.{Labels, spot, first_labels, with_area, with_bytes, bytes_in, AnswersWith, AnswersTo, Does, is_there, label_machine}
use Rattle.mvs_laws.specs.Tidy.{IsTidy, TidyLine, TidyLines, tidy_statement}
use Rattle.mvs_laws.specs.TidyExamples.{ReadsAs, ShowsTidy, job, area_x, fixed, one_page, MovesOverlap}
use Rattle.mvs_model.proofs.Orders.{name_cmp_total, entry_cmp_total, same_entry_is}
use Rattle.mvs_model.proofs.Tables.{eq_by_cmp_is}
use Rattle.mvs_laws.proofs.OneLabels.{line_one}
use Rattle.mvs_laws.proofs.Walking.{IsOfStep, steps_serve}
use Rattle.mvs_model.proofs.Tests.{match_false}

-- The statements of a step are tidy one after another, and the label machine answers them so.
abbrev pub Answers : Labels → List (Name × Statement) → List Answer → Labels → Type 0
Answers old [] [] new = new ≡ old
Answers old [] (a ∷ answers) new = ⊥
Answers old (s ∷ ss) [] new = ⊥
Answers old (s ∷ ss) (a ∷ answers) new = IsOfStep s.1 × IsTidy old s.0 s.1 × ((mid : Labels) × Does old s.0 s.1 a mid × Answers mid ss answers new)

-- what is known then, from a line on
abbrev pub hints : ℕ → List (Name × Statement) → List Answer → List Event
hints number [] answers = []
hints number (s ∷ ss) [] = []
hints number (s ∷ ss) (a ∷ answers) = AnswerTo number s.0 a ∷ hints (number + 1) ss answers

-- what a line says that is read so is tidy
line_tidy : (m : Labels) (l : List ℕ) (t : Name) (s : Statement) → LineOf false l (line.Statement t s) → IsTidy m t s → TidyLine (Some m) l
line_tidy m l t s is tidy = grind (arith, nat_tests)

abbrev pub outcome_of : Labels → Outcome
outcome_of m = cond (m.abended || m.former) SomeAbend Clean

walked : (lines : List (List ℕ)) (ss : List (Name × Statement)) (answers : List Answer) (number : ℕ) (old new : Labels) → ReadsAs false lines ss → Answers old ss answers new
    → TidyLines number (Some old) lines × Walks label_machine (JobEnds label_machine (outcome_of new)) number (Some old) lines (hints number ss answers ++ StepEnded new.abended ∷ [])
walked [] [] [] number old new r w = (tt, (ap (λ m. StepEnded m.abended ∷ []) w, ap outcome_of w))
walked [] [] (a ∷ answers) number old new r w = absurd w
walked [] (s ∷ ss) answers number old new r w = absurd r
walked (l ∷ lines) [] answers number old new r w = absurd r
walked (l ∷ lines) (s ∷ ss) [] number old new r w = absurd w
walked (l ∷ lines) (s ∷ ss) (a ∷ answers) number old new r w =
    let mid = w.2.0 in
    let serves : ServesLine label_machine number (Some old) l (AnswerTo number s.0 a ∷ []) (Some mid) = (line.Statement s.0 s.1, r.0, steps_serve label_machine number old s.0 s.1 (AnswerTo number s.0 a ∷ []) (Some mid) w.0 (a, mid, w.2.1, refl, refl)) in
    let rest = walked lines ss answers (number + 1) mid new r.1 w.2.2 in (
      (line_tidy old l s.0 s.1 r.0 w.1, λ events later h. subst (λ m. TidyLines (number + 1) m lines) (line_one number (Some old) l (AnswerTo number s.0 a ∷ []) events (Some mid) later serves h).1 rest.0),
      inr (Some mid, AnswerTo number s.0 a ∷ [], hints (number + 1) ss answers ++ StepEnded new.abended ∷ [], serves, refl, rest.1),
    )

-- the labels at the start of the examples
abbrev pub moves_start : Labels
moves_start = first_labels (card_of job 1 0 0 Below) false

-- all that is known of an example
abbrev pub all_events : List (Name × Statement) → List Answer → Bool → List Event
all_events ss answers abended = AnswerTo 1 job (Region (card_of job 1 0 0 Below)) ∷ hints 2 ss answers ++ StepEnded abended ∷ []

pub shows : (ss : List (Name × Statement)) (answers : List Answer) (new : Labels) (abended : Bool) → new.abended ≡ abended → Answers moves_start ss answers new
    → ShowsTidy ((job, one_page) ∷ ss) (printing (all_events ss answers abended))
shows ss answers new abended e w script r = at (lines_of script) r where
  at : (lines : List (List ℕ)) → ReadsAs true lines ((job, one_page) ∷ ss) → TidyLines 1 None lines × ((hints : List Event) × (outcome : Outcome) × Walks label_machine (JobEnds label_machine outcome) 1 None lines hints × (printing (all_events ss answers abended) ≡ printing hints))
  at [] r = absurd r
  at (l ∷ lines) r =
      let serves : ServesLine label_machine 1 None l (AnswerTo 1 job (Region (card_of job 1 0 0 Below)) ∷ []) (Some moves_start) = (line.Statement job one_page, r.0, (refl, refl)) in
      let rest = walked lines ss answers 2 moves_start new r.1 w in (
        (tt, λ hints later h. subst (λ m. TidyLines 2 m lines) (line_one 1 None l (AnswerTo 1 job (Region (card_of job 1 0 0 Below)) ∷ []) hints (Some moves_start) later serves h).1 rest.0),
        (all_events ss answers new.abended, outcome_of new, inr (Some moves_start, _, _, serves, refl, rest.1), ap (λ b. printing (all_events ss answers b)) (sym e)),
      )

-- a statement of the step, of a task that is active
pub active_does : (m later : Labels) (t : Name) (s : Statement) (answer : Answer) → is_active m.owners t ≡ true → AnswersTo m t s answer later → Does m t s answer later
active_does m later t s answer active h = match_false (AnswersWith tells.NotRun m answer later) (AnswersTo m t s answer later) (not (is_active m.owners t)) (ap not active) h

-- a request that is made, by the cases of what it does
pub ask_does : (m later : Labels) (t : Name) (a : SourceRequest) (answer : Answer) → is_active m.owners t ≡ true → cases.Asks m t a answer later → Does m t (says.Request a) answer later
ask_does m later t a answer active h = active_does m later t (says.Request a) answer active (cases.cases_ask m later t answer a h)

at_set : {X : Type 0} (v : Option X) (x : X) (N : Type 0) (P : X → Type 0) → v ≡ Some x → P x → MatchOption v N P
at_set v x N P e p = subst (λ v. MatchOption v N P) (sym e) p

-- the job step task alone, and then with subpool 0
abbrev pub alone : Owners
alone = first_owners job Below

pub job_active : is_active alone job ≡ true
job_active = ap is_some (get-insert name_cmp_total empty job (record { mother = None; residence = Below }) job)

abbrev pub zero_owned : Owners
zero_owned = record { tasks = alone.tasks; table = insert empty (job, 0) 0; owner = insert empty 0 job }

zero_active : is_active zero_owned job ≡ true
zero_active = ap is_some (get-insert name_cmp_total empty job (record { mother = None; residence = Below }) job)

pub no_entry : entry alone job 0 ≡ None
no_entry = get-empty entry_cmp (job, 0)

pub zero_spare : IsSpare alone 0
zero_spare = record { spare = get-empty nat_cmp 0; least = λ r l. absurd (omega (arith, l)) }

pub zero_subpool : SubpoolOf alone job 0 0
zero_subpool = subst (λ v. MatchOption v (IsSpare alone 0) (λ r. 0 ≡ r)) (sym no_entry) zero_spare

zero_binds : Binds alone job 0 0 zero_owned
zero_binds = record {
  tasks = refl;
  table = λ e. get-insert entry_cmp_total empty (job, 0) 0 e ∙ ap (λ b. cond b (Some 0) (get alone.table e)) (same_entry_is e (job, 0));
  owner = λ r. get-insert nat_cmp_total empty 0 job r ∙ ap (λ b. cond b (Some job) (get alone.owner r)) (eq_by_cmp_is r 0);
}

pub zero_enters : Enters alone job 0 0 zero_owned
zero_enters = subst (λ v. MatchOption v (Binds alone job 0 0 zero_owned) (λ _. zero_owned ≡ alone)) (sym no_entry) zero_binds

-- the labels of the script of moves
abbrev x_names : FinMap name_cmp ℕ
x_names = insert empty area_x 0

x_set : get x_names area_x ≡ Some 0
x_set = get-insert name_cmp_total empty area_x 0 area_x

abbrev moves_1 : Labels
moves_1 = record (with_area moves_start 0 8) { owners = zero_owned; names = x_names }

abbrev eight_bytes : List ℕ
eight_bytes = 1 ∷ 2 ∷ 3 ∷ 4 ∷ 5 ∷ 6 ∷ 7 ∷ 8 ∷ []

abbrev moves_2 : Labels
moves_2 = with_bytes moves_1 (spot 0 0 8) (slice_get eight_bytes)

abbrev moves_3 : Labels
moves_3 = with_bytes moves_2 (spot 0 1 7) (λ i. moves_2.byte 0 (0 + i))

abbrev moves_4 : Labels
moves_4 = with_bytes moves_3 (spot 0 0 6) (λ i. moves_3.byte 0 (2 + i))

-- a request of one place, and one of two, is tidy where the places are there
one_good : (f : ℕ → Bool) → f 0 ≡ true → (v : Option ℕ) → v ≡ Some 0 → (not (is_some v && true) || (has f v && true)) ≡ true
one_good f h v e = ap (λ v. not (is_some v && true) || (has f v && true)) e ∙ ap (λ b. b && true) h

two_good : (f g : ℕ → Bool) → f 0 ≡ true → g 0 ≡ true → (v : Option ℕ) → v ≡ Some 0 → (not (is_some v && (is_some v && true)) || (has f v && (has g v && true))) ≡ true
two_good f g h i v e = ap (λ v. not (is_some v && (is_some v && true)) || (has f v && (has g v && true))) e ∙ (λ x. h x && (i x && true))

obtain_does : Does moves_start job (says.Request (written.Obtain form.Ru 0 (fixed 8) false area_x)) tells.Rc0 moves_1
obtain_does = ask_does moves_start moves_1 job (written.Obtain form.Ru 0 (fixed 8) false area_x) _ job_active
    (record (with_area moves_start 0 8) { owners = zero_owned }, (record (with_area moves_start 0 8) { owners = zero_owned }, record { subpool = 0; owners = zero_owned; is_subpool = zero_subpool; enters = zero_enters; is = refl }, refl), (refl, refl))

put_does : Does moves_1 job (says.Request (written.Put (Named area_x 0) eight_bytes)) tells.Done moves_2
unfolding all_below
put_does = ask_does moves_1 moves_2 job (written.Put (Named area_x 0) eight_bytes) _ zero_active (at_set _ (spot 0 0 8) _ _ (ap (option_map (λ l. spot l 0 8)) x_set) (refl, refl))

first_move_does : Does moves_2 job (says.Request (written.Move (Named area_x 1) (Named area_x 0) 7)) tells.Done moves_3
unfolding all_below
first_move_does = grind (arith, nat_tests, ask_does, at_set, zero_active, x_set)

first_show_does : Does moves_3 job (says.Request (written.Show (Named area_x 0) 8)) (tells.Data (bytes_in moves_3 0 0 8)) moves_3
unfolding all_below
first_show_does = ask_does moves_3 moves_3 job (written.Show (Named area_x 0) 8) _ zero_active (at_set _ (spot 0 0 8) _ _ (ap (option_map (λ l. spot l 0 8)) x_set) (refl, refl))

second_move_does : Does moves_3 job (says.Request (written.Move (Named area_x 0) (Named area_x 2) 6)) tells.Done moves_4
unfolding all_below
second_move_does = grind (arith, nat_tests, ask_does, at_set, zero_active, x_set)

second_show_does : Does moves_4 job (says.Request (written.Show (Named area_x 0) 8)) (tells.Data (bytes_in moves_4 0 0 8)) moves_4
unfolding all_below
second_show_does = ask_does moves_4 moves_4 job (written.Show (Named area_x 0) 8) _ zero_active (at_set _ (spot 0 0 8) _ _ (ap (option_map (λ l. spot l 0 8)) x_set) (refl, refl))

put_tidy : tidy_statement moves_1 (says.Request (written.Put (Named area_x 0) eight_bytes)) ≡ true
unfolding all_below
put_tidy = one_good (λ l. is_there moves_1 (spot l 0 8)) refl (get x_names area_x) x_set

first_move_tidy : tidy_statement moves_2 (says.Request (written.Move (Named area_x 1) (Named area_x 0) 7)) ≡ true
unfolding all_below
first_move_tidy = two_good (λ l. is_there moves_2 (spot l 1 7)) (λ l. is_there moves_2 (spot l 0 7)) refl refl (get x_names area_x) x_set

first_show_tidy : tidy_statement moves_3 (says.Request (written.Show (Named area_x 0) 8)) ≡ true
unfolding all_below
first_show_tidy = one_good (λ l. is_there moves_3 (spot l 0 8)) refl (get x_names area_x) x_set

second_move_tidy : tidy_statement moves_3 (says.Request (written.Move (Named area_x 0) (Named area_x 2) 6)) ≡ true
unfolding all_below
second_move_tidy = two_good (λ l. is_there moves_3 (spot l 0 6)) (λ l. is_there moves_3 (spot l 2 6)) refl refl (get x_names area_x) x_set

second_show_tidy : tidy_statement moves_4 (says.Request (written.Show (Named area_x 0) 8)) ≡ true
unfolding all_below
second_show_tidy = one_good (λ l. is_there moves_4 (spot l 0 8)) refl (get x_names area_x) x_set

pub moves_overlap : MovesOverlap
unfolding digits last_digits data_lines bytes_in
moves_overlap = shows _
    (tells.Rc0 ∷ tells.Done ∷ tells.Done ∷ tells.Data (bytes_in moves_3 0 0 8) ∷ tells.Done ∷ tells.Data (bytes_in moves_4 0 0 8) ∷ [])
    moves_4
    false
    refl
    (tt, (λ _. refl), (moves_1, obtain_does, (tt, (λ _. put_tidy), (moves_2, put_does, (tt, (λ _. first_move_tidy), (moves_3, first_move_does, (tt, (λ _. first_show_tidy), (moves_3, first_show_does, (tt, (λ _. second_move_tidy), (moves_4, second_move_does, (tt, (λ _. second_show_tidy), (moves_4, second_show_does, refl))))))))))))
