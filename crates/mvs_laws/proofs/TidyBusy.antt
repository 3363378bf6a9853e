-- A return with a subtask, on the label machine.
use Rattle.std.proofs.Common.{◌≡◌, ℕ, zero, suc, ◌+◌, ◌%◌, ◌^◌, ◌<◌, inl, inr, Bool, true, false, cond, ltb, [], ◌∷◌, Option, Some, None, arith, refl, sym, ap, ◌∙◌, subst, is_some, not, ◌&&◌, ◌||◌, ◌==◌, nat_le, Contains}
use Rattle.std.specs.List.Sorted.{IsStrictlySortedBy}
use Rattle.std.specs.Fmt.{digits}
use Rattle.std.proofs.Math.Nat.{zero-div}
use Rattle.std.proofs.lemmas.Bool.Decides.{nat_tests}
use Rattle.std.proofs.lemmas.Map.Views.{Contains-from_any}
use Rattle.std.specs.FinMap.{get, empty, insert, len, keys, contains_key-keys, get-insert, get-empty, len-insert, len-empty}
use Rattle.mvs_laws.proofs.LabelCases as cases
use Rattle.mvs_laws.proofs.Types.{Name, System, User}
use Rattle.mvs_model.specs.declared.want.Residence.TheVariants.{Below}
use Rattle.mvs_model.specs.declared.code.Form.TheVariants as form
use Rattle.mvs_model.specs.declared.line.Statement.TheVariants as says
use Rattle.mvs_model.specs.declared.line.SourceRequest.TheVariants as written
use Rattle.mvs_model.specs.Name.{name_cmp, same_name}
use Rattle.mvs_model.specs.Finite.{has, any_below, kept}
use Rattle.mvs_model.specs.Gifts.{has_bit, gives, shares}
use Rattle.mvs_model.specs.Owners.{Owners, Task, entry_cmp, entry, is_active, IsMother, has_subtask, owns, EntersBelow, none, passed, entered, handed, gives_shared, Attach, Descends, subtask, further, AreDescendants, is_among_ended, ends_with, Ends}
use Rattle.mvs_model.proofs.ByCase.{attach_refusal}
use Rattle.mvs_model.specs.Answers as tells
use Rattle.mvs_model.specs.Texts.{last_digits}
use Rattle.mvs_laws.specs.Labels.{Labels, without, AnswersWith, Does, Abends}
use Rattle.mvs_laws.specs.TidyExamples.{job, sub, area_x, zero_shared, fixed, BusyReturn}
use Rattle.mvs_model.proofs.Orders.{name_cmp_total, entry_cmp_total, same_entry_is, same_name_is, same_name_sym}
use Rattle.mvs_model.proofs.Elements.{any_from, first_or_later}
use Rattle.mvs_model.proofs.Owning.{ends_some}
use Rattle.mvs_laws.proofs.TidyMoves.{shows, ask_does, alone, zero_owned, moves_start, job_active, zero_subpool, zero_enters}
use Rattle.mvs_model.proofs.Tests.{match_true, false_true, none_some}

pub no_bit : (n : ℕ) → has_bit 0 n ≡ false
no_bit n = ap (λ x. x % 2 == 1) (zero-div (2 ^ n))

-- that a number is below 128 is no condition where that is known
pub guarded : (n : ℕ) (b : Bool) → (b ≡ true → n < 128) → (ltb n 128 && b) ≡ b
guarded n b h1 = grind (arith, nat_tests)

pub never : (n : ℕ) (f : ℕ → Bool) → ((k : ℕ) → f k ≡ false) → any_below f n ≡ false
unfolding any_below
never zero f h = refl
never (suc n) f h = (λ i. h n i || any_below f n) ∙ never n f h

shares_is : (n : ℕ) → shares zero_shared n ≡ (n == 0)
shares_is n = (λ i. ltb n 128 && (no_bit n i || (n == 0))) ∙ guarded n (n == 0) (λ e. grind (arith, nat_tests))

gives_none : (n : ℕ) → gives zero_shared n ≡ false
gives_none n = ap (λ b. ltb n 128 && b) (no_bit n) ∙ guarded n false (λ e. false_true e)

-- after number 0 no number is made
made : (n : ℕ) → EntersBelow alone job (shares zero_shared) (suc n) zero_owned
made zero = entered 0 none (shares_is 0) zero_subpool zero_enters
made (suc n) = passed (made n) (shares_is (suc n) ∙ (let e : (suc n == 0) ≡ false = grind (arith, nat_tests) in e))

with_sub : Owners
with_sub = record { tasks = insert alone.tasks sub (record { mother = Some job; residence = Below }); table = insert zero_owned.table (sub, 0) 0; owner = zero_owned.owner }

sub_has_none : (n : ℕ) → entry zero_owned sub n ≡ None
sub_has_none n = get-insert entry_cmp_total alone.table (job, 0) 0 (sub, n) ∙ ap (λ b. cond b (Some 0) (get alone.table (sub, n))) (same_entry_is (sub, n) (job, 0)) ∙ get-empty entry_cmp (sub, n)

job_has_zero : entry zero_owned job 0 ≡ Some 0
job_has_zero = get-insert entry_cmp_total alone.table (job, 0) 0 (job, 0)

is_table : (t : Name) (n : ℕ) → entry with_sub t n ≡ handed zero_owned job sub zero_shared t n
unfolding with_sub
is_table t n =
    get-insert entry_cmp_total zero_owned.table (sub, 0) 0 (t, n) ∙ ap (λ b. cond b (Some 0) (entry zero_owned t n)) (same_entry_is (t, n) (sub, 0))
    ∙ at (same_name t sub) (n == 0) refl (λ e. (let z : n ≡ 0 = grind (arith, nat_tests) in z))
    ∙ (λ i. cond (same_name t sub) (cond (sym (gives_none n) i || sym (shares_is n) i) (entry zero_owned job n) None) (cond (same_name t job && sym (gives_none n) i) None (entry zero_owned t n))) where
      gone : (b : Bool) (v : Option ℕ) → v ≡ cond (b && false) None v
      gone true v = refl
      gone false v = refl

      at : (b c : Bool) → same_name t sub ≡ b → (c ≡ true → n ≡ 0) → cond (b && c) (Some 0) (entry zero_owned t n) ≡ cond b (cond (false || c) (entry zero_owned job n) None) (cond (same_name t job && false) None (entry zero_owned t n))
      at true true e z = sym (ap (λ x. entry zero_owned job x) (z refl) ∙ job_has_zero)
      at true false e z = ap (λ x. entry zero_owned x n) (same_name_is t sub e) ∙ sub_has_none n
      at false c e z = gone (same_name t job) (entry zero_owned t n)

attached : Attach alone job sub zero_shared Below with_sub
unfolding with_sub
attached = record {
  ready = zero_owned;
  made = made 127;
  tasks = λ k. get-insert name_cmp_total alone.tasks sub (record { mother = Some job; residence = Below }) k ∙ ap (λ b. cond b (Some (record { mother = Some job; residence = Below })) (get alone.tasks k)) (same_name_sym k sub);
  table = is_table;
  owner = λ s. ap (λ b. cond b (Some sub) (get zero_owned.owner s)) (sym (never 128 _ (λ n. ap (λ b. b && has (λ r. r == s) (entry zero_owned job n)) (gives_none n))));
}

not_refused : attach_refusal alone job sub zero_shared ≡ None
not_refused =
    (λ i. cond (inactive i) (Some (User 4009)) (cond (nat_le 32 (few i)) (Some (User 4005)) (cond (given i) (Some (User 4003)) None))) where
      no_tasks : len (empty {X = Task} {R = name_cmp}) ≡ 0
      no_tasks = len-empty name_cmp Task

      no_job : is_some (get (empty {X = Task} {R = name_cmp}) job) ≡ false
      no_job = ap is_some (get-empty name_cmp job)

      inactive : is_active alone sub ≡ false
      inactive = ap is_some (get-insert name_cmp_total empty job (record { mother = None; residence = Below }) sub ∙ get-empty name_cmp sub)

      few : len alone.tasks ≡ 1
      few = len-insert name_cmp_total empty job (record { mother = None; residence = Below }) ∙ (λ i. cond (no_job i) (no_tasks i) (no_tasks i + 1))

      given : gives_shared alone job zero_shared ≡ false
      given = never 128 _ (λ n. ap (λ b. b && has (λ s. not (owns alone job s)) (entry alone job n)) (gives_none n))

busy : has_subtask with_sub job ≡ true
unfolding with_sub
busy = any_from _ (keys with_sub.tasks) sub (Contains-from_any same_name_is sub (keys with_sub.tasks) (sym (contains_key-keys with_sub.tasks sub) ∙ ap is_some there)) (ap (has _) there) where
  there : get with_sub.tasks sub ≡ Some (record { mother = Some job; residence = Below })
  there = get-insert name_cmp_total alone.tasks sub (record { mother = Some job; residence = Below }) sub

-- a task with a mother is SUB, and its mother is JOB
mothers : (m x : Name) → IsMother with_sub m x → (m ≡ job) × (x ≡ sub)
unfolding with_sub
mothers m x h = at (same_name x sub) refl (sym (get-insert name_cmp_total alone.tasks sub (record { mother = Some job; residence = Below }) x) ∙ h.1) where
  mother_of : Option Task → Option Name
  mother_of None = None
  mother_of (Some task) = task.mother

  other : (b : Bool) → cond b (Some (record { mother = None; residence = Below })) (get (empty {X = Task} {R = name_cmp}) x) ≡ Some h.0 → mother_of (cond b (Some (record { mother = None; residence = Below })) (get (empty {X = Task} {R = name_cmp}) x)) ≡ Some m
  other b e = ap mother_of e ∙ h.2

  none_there : (b : Bool) → mother_of (cond b (Some (record { mother = None; residence = Below })) (get (empty {X = Task} {R = name_cmp}) x)) ≡ None
  none_there true = refl
  none_there false = ap mother_of (get-empty name_cmp x)

  at : (b : Bool) → same_name x sub ≡ b → cond b (Some (record { mother = Some job; residence = Below })) (get alone.tasks x) ≡ Some h.0 → (m ≡ job) × (x ≡ sub)
  at true e f = let g : Some m ≡ Some job = sym h.2 ∙ sym (ap mother_of f) in (let z : m ≡ job = cc in z, same_name_is x sub e)
  at false e f =
      let was = sym (get-insert name_cmp_total empty job (record { mother = None; residence = Below }) x) ∙ f in
      none_some (sym (none_there (same_name x job)) ∙ other (same_name x job) was)

descends_is : (x : Name) → Descends with_sub job x → x ≡ sub
descends_is x (subtask h) = (mothers job x h).1
descends_is x (further {m} d h) = (mothers m x h).1

falls : AreDescendants with_sub job (sub ∷ [])
unfolding IsStrictlySortedBy with_sub
falls = record {
  sorted = (tt, tt);
  descendants = λ x. (
    (λ c. elim (first_or_later x sub [] c) [ inl e ↦ subst (λ x. Descends with_sub job x) e (subtask (record { mother = Some job; residence = Below }, get-insert name_cmp_total alone.tasks sub (record { mother = Some job; residence = Below }) sub, refl)) | inr l ↦ absurd (let z : l.0 < 0 = l.1 in omega (arith, z)) ]),
    (λ d. subst (λ x. Contains (sub ∷ []) x) (sym (descends_is x d)) (0, omega arith, refl)),
  );
}

busy_1 : Labels
busy_1 = record moves_start { owners = with_sub }

ended : (o : Owners) × Ends with_sub job (sub ∷ []) o
ended = ends_some with_sub job (sub ∷ [])

busy_mid : Labels
busy_mid = record (without busy_1 (λ l i. ends_with busy_1.owners job (sub ∷ []) (busy_1.subpool l))) { owners = ended.0 }

busy_2 : Labels
busy_2 = record busy_mid { abended = true }

attach_does : Does moves_start job (says.Request (written.Attach sub zero_shared Below)) tells.Attached busy_1
unfolding busy_1
attach_does = ask_does moves_start busy_1 job (written.Attach sub zero_shared Below) _ job_active
    (subst (λ r. cases.Attaches moves_start job sub zero_shared Below r tells.Attached busy_1) (sym not_refused) (with_sub, attached, (refl, refl)))

job_still : is_active with_sub job ≡ true
unfolding with_sub
job_still = ap is_some (get-insert name_cmp_total alone.tasks sub (record { mother = Some job; residence = Below }) job ∙ get-insert name_cmp_total empty job (record { mother = None; residence = Below }) job)

return_does : Does busy_1 job (says.Request written.Return) (tells.Abended (System 0xA03) (sub ∷ [])) busy_2
unfolding busy_1 busy_mid busy_2
return_does = ask_does busy_1 busy_2 job written.Return _ job_still
    (match_true (Abends busy_1 job (System 0xA03) (tells.Abended (System 0xA03) (sub ∷ [])) busy_2) _ (has_subtask with_sub job) busy
    ((sub ∷ []), busy_mid, record { owners = ended.0; is_fallen = falls; ends = ended.1; is = refl }, (refl, refl)))

sub_gone : is_active ended.0 sub ≡ false
unfolding with_sub
sub_gone = ap is_some (ended.1.tasks sub ∙ ap (kept (λ _. not (is_among_ended job (sub ∷ []) sub))) (get-insert name_cmp_total alone.tasks sub (record { mother = Some job; residence = Below }) sub))

not_run_does : Does busy_2 sub (says.Request (written.Obtain form.Ru 0 (fixed 8) false area_x)) tells.NotRun busy_2
unfolding busy_mid busy_2
not_run_does = match_true (AnswersWith tells.NotRun busy_2 tells.NotRun busy_2) _ (not (is_active ended.0 sub)) (ap not sub_gone) (refl, refl)

has_abended : busy_2.abended ≡ true
unfolding busy_mid busy_2
has_abended = refl

pub busy_return : BusyReturn
unfolding digits last_digits
busy_return = shows _ (tells.Attached ∷ tells.Abended (System 0xA03) (sub ∷ []) ∷ tells.NotRun ∷ []) busy_2 true has_abended
    (tt, (λ _. refl), (busy_1, attach_does, (tt, (λ _. refl), (busy_2, return_does, (tt, (λ _. refl), (busy_2, not_run_does, refl))))))
