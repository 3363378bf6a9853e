-- An output and the lines of a script, as long as each run that prints it differs from the job in nothing but places.
use Rattle.std.proofs.Common.{Decides as Tests, ◌≡◌, ℕ, ◌+◌, ◌≤◌, ◌<◌, ◌^◌, Bool, true, false, List, [], ◌∷◌, ◌++◌, length, drop, take, Option, Some, None, length-append, length-drop, arith, refl, sym, ap, ◌∙◌, subst}
use Rattle.std.proofs.lemmas.List.{drop_all, drop-drop, take-append-drop}
use Rattle.mvs_model.specs.declared.outcome.Outcome.{Outcome}
use Rattle.mvs_model.specs.declared.outcome.Outcome.TheVariants.{ScriptFault}
use Rattle.mvs_model.specs.Answers.{Event, StepEnded}
use Rattle.mvs_model.specs.Job.{JobValue}
use Rattle.mvs_model.specs.Lines.{lines_of}
use Rattle.mvs_model.specs.Numbers.{most_script_bytes}
use Rattle.mvs_model.specs.Runs.{IsPrinting, machine}
use Rattle.mvs_model.specs.Texts.{printing}
use Rattle.mvs_model.specs.Walk.{Closes}
use Rattle.std.specs.Prelude.{if◌then◌else◌}
use Rattle.mvs_laws.specs.Going.{Reaches}
use Rattle.mvs_model.proofs.Tests.{false_true}
use Rattle.mvs_job.specs.LineEvents.{WalkValue, closing, new_walk}
use Rattle.judge.specs.Deciding.{MayPrint, PrintsEnd, HasReached}
use Rattle.judge.specs.Excluding.{Alike, IsRuling, IsVerdict}
use Rattle.judge.specs.declared.exclusion.Ruling.TheVariants as ruling
use Rattle.judge.specs.declared.exclusion.LineVerdict.TheVariants as verdict
use Rattle.judge.proofs.Mapped.{few_lines}
use Rattle.judge.proofs.Decided.{stands_end, stands_fault, stands_served, taken_more}

-- Each run of the script that prints the output comes here, and differs from the job in nothing but places.
abbrev pub Every : List ℕ → List ℕ → ℕ → ℕ → WalkValue → Type 0
Every script output at done w =
    (outcome : Outcome) → IsPrinting script output outcome → (step : Option JobValue) × Alike w.step step × MayPrint w.number step (lines_of (drop at script)) (drop done output) outcome

-- With so much of it printed the job stands here.
pub record Follows (script output : List ℕ) (at done : ℕ) (w : WalkValue) : Type 0 where
  pub every : Every script output at done w
  pub stands : HasReached script (take done output) w (drop at script)

pub rules_first : (script output : List ℕ) (w : WalkValue) → w ≡ new_walk → Follows script output 0 0 w
rules_first script output w e = subst (λ w. Follows script output 0 0 w) (sym e) (record {
  every = λ outcome may. (None, tt, may);
  stands = ([], record { served = []; lines = refl; counted = refl; leads = (refl, refl) }, refl);
})

module _ (script output rest left bytes : List ℕ) (at done taken : ℕ) (w w' : WalkValue) (rest_is : rest ≡ drop at script) (left_is : left ≡ drop done output) (cut : lines_of rest ≡ bytes ∷ lines_of (drop taken rest)) (f : Follows script output at done w) where
  here : (outcome : Outcome) → IsPrinting script output outcome → (step : Option JobValue) × Alike w.step step × MayPrint w.number step (bytes ∷ lines_of (drop taken rest)) left outcome
  here outcome may =
      let x = f.every outcome may in
      (x.0, x.1, subst (λ lines. MayPrint w.number x.0 lines left outcome) (ap lines_of (sym rest_is) ∙ cut) (subst (λ text. MayPrint w.number x.0 (lines_of (drop at script)) text outcome) (sym left_is) x.2))

  trailing : drop taken rest ≡ drop (at + taken) script
  trailing = ap (drop taken) rest_is ∙ drop-drop taken at script

  stood : HasReached script (take done output) w rest
  stood = subst (HasReached script (take done output) w) (sym rest_is) f.stands

  few_left : w.number ≤ at + 1 → at < length script → length script ≤ most_script_bytes → w.number + length (lines_of (drop taken rest)) < 2 ^ 32
  few_left counted inside short =
      let lines = few_lines (drop taken rest) in
      let one = length-drop taken rest in
      let two = ap length rest_is ∙ length-drop at script in
      omega (arith, counted, inside, short, lines, one, two)

  pub rules_next : w.number ≤ at + 1 → at < length script → length script ≤ most_script_bytes → (n : ℕ) → IsVerdict w bytes left w' (verdict.Agrees n) → Follows script output (at + taken) (done + n) w' × (n ≤ length left)
  rules_next counted inside short n v = (record { every = every; stands = stands }, (let e = ap length v.2.0 ∙ length-append v.0 (drop (length v.0) left) in let m = v.1 in omega (arith, e, m))) where
    every : Every script output (at + taken) (done + n) w'
    every outcome may =
        let x = here outcome may in
        let y = v.2.1 x.0 (lines_of (drop taken rest)) outcome (few_left counted inside short) x.1 x.2 in (
          y.0,
          y.1,
          subst (λ lines. MayPrint w'.number y.0 lines (drop (done + n) output) outcome) (ap lines_of trailing)
              (subst (λ text. MayPrint w'.number y.0 (lines_of (drop taken rest)) text outcome) (ap (drop (length v.0)) left_is ∙ drop-drop (length v.0) done output ∙ ap (λ k. drop (done + k) output) (sym v.1)) y.2),
        )

    stands : HasReached script (take (done + n) output) w' (drop (at + taken) script)
    stands =
        subst (λ text. HasReached script text w' (drop (at + taken) script)) (sym (ap (λ k. take (done + k) output) v.1 ∙ taken_more output v.0 left done left_is v.2.0))
        (subst (HasReached script (take done output ++ v.0) w') trailing (stands_served script (take done output) v.0 rest (drop taken rest) w w' (bytes ∷ []) cut stood v.3))

  pub rules_excluded : IsVerdict w bytes left w' verdict.Excluded → IsRuling script output ruling.Excluded
  rules_excluded v outcome may = let x = here outcome may in v x.0 (lines_of (drop taken rest)) outcome x.1 x.2

  pub rules_ends : IsVerdict w bytes left w' verdict.Ends → IsRuling script output (ruling.Printed ScriptFault)
  rules_ends v =
      subst (λ text. IsPrinting script text ScriptFault) (ap (λ x. take done output ++ x) left_is ∙ take-append-drop done output)
      (stands_fault script (take done output) left rest taken w w' (bytes ∷ []) cut stood v)

  pub rules_undecided : IsVerdict w bytes left w' verdict.Undecided → IsRuling script output ruling.Undecided
  rules_undecided v = (
    f.stands.0,
    w.number,
    w.step,
    bytes,
    lines_of (drop taken rest),
    left,
    subst (Reaches (lines_of script) f.stands.0 w.number w.step) (ap lines_of (sym rest_is) ∙ cut) f.stands.1,
    sym (take-append-drop done output) ∙ (λ i. f.stands.2 i ++ sym left_is i),
    v,
  )

-- the end of a job, and of each run like it
closes_alike : (number : ℕ) (one other : Option JobValue) (a b : List Event) (o p : Outcome) → Alike one other → Closes machine number one a o → Closes machine number other b p → a ≡ b
closes_alike number None None a b o p like x y = x.0 ∙ sym y.0
closes_alike number None (Some other) a b o p like x y = absurd like
closes_alike number (Some one) None a b o p like x y = absurd like
closes_alike number (Some one) (Some other) a b o p like x y = x.0 ∙ ap (λ abended. StepEnded abended ∷ []) like.abended ∙ sym y.0

module _ (script output last : List ℕ) (at done : ℕ) (w : WalkValue) (outcome : Outcome) (all : length script ≤ at) (f : Follows script output at done w) (ends : PrintsEnd w last outcome) where
  pub rules_end : drop done output ≡ last → IsRuling script output (ruling.Printed outcome)
  rules_end same =
      subst (λ text. IsPrinting script text outcome) (ap (λ x. take done output ++ x) (sym same) ∙ take-append-drop done output) (stands_end script (take done output) last at w outcome all f.stands ends)

  pub rules_other : (drop done output ≡ last → ⊥) → IsRuling script output ruling.Excluded
  rules_other other o may =
      let x = f.every o may in
      let m : MayPrint w.number x.0 [] (drop done output) o = subst (λ lines. MayPrint w.number x.0 lines (drop done output) o) (ap lines_of (drop_all at script all)) x.2 in
      other (m.2 ∙ ap printing (sym (closes_alike w.number w.step x.0 (closing w.number ends.0) m.0 outcome o x.1 ends.1 m.1)) ∙ sym ends.2)

  pub rules_last : (b : Bool) → Tests b (drop done output ≡ last) → IsRuling script output (if b then ruling.Printed outcome else ruling.Excluded)
  rules_last true test = rules_end (test.0 refl)
  rules_last false test = rules_other (λ e. false_true (test.1 e))
