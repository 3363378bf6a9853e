-- A given subpool that ends while a sibling shares it, on the label machine.
use Rattle.std.proofs.Common.{◌≡◌, ℕ, zero, suc, ◌+◌, ◌%◌, ◌^◌, ◌<◌, ◌≤◌, inl, inr, Bool, true, false, cond, List, [], ◌∷◌, Option, Some, None, ltb, arith, refl, sym, ap, ◌∙◌, subst, is_some, IsSome, not, ◌&&◌, ◌||◌, ◌==◌, MatchOption, nat_cmp}
use Rattle.std.specs.List.Sorted.{IsStrictlySortedBy}
use Rattle.std.specs.Fmt.{digits}
use Rattle.std.proofs.Math.Nat.{div-eq_of_lt}
use Rattle.std.proofs.Math.Pow.{pow-lt}
use Rattle.std.proofs.lemmas.Bool.{cases_lt}
use Rattle.std.proofs.lemmas.Bool.Decides.{nat_tests}
use Rattle.std.specs.FinMap.{get, empty, insert, len, keys, same_map, get-insert, get-empty, len-insert, len-empty}
use Rattle.std.specs.Cmp.{nat_cmp_total}
use Rattle.mvs_laws.proofs.LabelCases as cases
use Rattle.mvs_laws.proofs.Types.{Name, SubpoolLine}
use Rattle.mvs_model.specs.declared.want.Residence.TheVariants.{Below}
use Rattle.mvs_model.specs.declared.code.Form.TheVariants as form
use Rattle.mvs_model.specs.Name.{name_cmp, same_name}
use Rattle.mvs_model.specs.Finite.{has, any_below, count_below, kept, total_below}
use Rattle.mvs_model.specs.Gifts.{has_bit, gives, shares}
use Rattle.mvs_model.specs.Owners.{Owners, Task, entry_cmp, entry, is_active, IsMother, has_subtask, owns, IsSpare, SubpoolOf, Binds, Enters, EntersBelow, none, passed, entered, handed, is_given, Attach, Descends, subtask, further, AreDescendants, is_among_ended, ends_with, Ends}
use Rattle.mvs_model.proofs.ByCase.{attach_refusal}
use Rattle.mvs_model.specs.Answers as tells
use Rattle.mvs_model.specs.Answers.{Answer}
use Rattle.mvs_model.specs.Texts.{last_digits}
use Rattle.mvs_model.specs.Reports.{each_below, line_of_entry, subpool_lines}
use Rattle.mvs_laws.specs.Labels.{Labels, with_area, without, bytes_there, AnswersWith, Does, Leaves}
use Rattle.mvs_laws.specs.TidyExamples.{area_x, area_y, fixed, GivenEnds, job, task_a, task_b, five_shared, five_given}
use Rattle.mvs_model.proofs.Orders.{name_cmp_total, name_cmp-IsAntisymmetric, entry_cmp_total, same_entry_is, same_name_self, same_name_sym}
use Rattle.mvs_model.proofs.Tables.{eq_by_cmp_is}
use Rattle.mvs_model.proofs.Owning.{attach_some, ends_some}
use Rattle.mvs_model.proofs.OneOwners.{one_below}
use Rattle.mvs_model.proofs.Below.{count_none, count_all}
use Rattle.mvs_laws.proofs.TidyMoves.{shows, ask_does, active_does, alone, moves_start, job_active, zero_spare}
use Rattle.mvs_model.proofs.Tests.{match_false, false_true}
use Rattle.mvs_model.proofs.SeenStart.{all_names}
use Rattle.mvs_model.specs.declared.line.Statement.TheVariants as says
use Rattle.mvs_model.specs.declared.line.SourceRequest.TheVariants as written
use Rattle.mvs_laws.proofs.TidyBusy.{no_bit, never, guarded}

-- bit 5 alone is set in 32
five_bit : (n : ℕ) → has_bit 32 n ≡ (n == 5)
five_bit n = elim (cases_lt n 6) [ inl l ↦ low n l | inr h ↦ ap (λ x. x % 2 == 1) (div-eq_of_lt (high h)) ∙ (let z : false ≡ (n == 5) = grind (arith, nat_tests) in z) ] where
  high : 6 ≤ n → 32 < 2 ^ n
  high h = elim (cases_lt 5 n) [ inl l ↦ pow-lt {i = 5} l | inr g ↦ absurd (omega (arith, h, g)) ]

  low : (n : ℕ) → n < 6 → has_bit 32 n ≡ (n == 5)
  low zero l = refl
  low (suc zero) l = refl
  low (suc (suc zero)) l = refl
  low (suc (suc (suc zero))) l = refl
  low (suc (suc (suc (suc zero)))) l = refl
  low (suc (suc (suc (suc (suc zero))))) l = refl
  low (suc (suc (suc (suc (suc (suc n)))))) l = absurd (omega (arith, l))

-- subpool 0 under number 5, and then subpool 1 under number 0
owners_1 : Owners
owners_1 = record { tasks = alone.tasks; table = insert alone.table (job, 5) 0; owner = insert alone.owner 0 job }

ready_a : Owners
ready_a = record { tasks = alone.tasks; table = insert owners_1.table (job, 0) 1; owner = insert owners_1.owner 1 job }

entry_1 : (t : Name) (n : ℕ) → entry owners_1 t n ≡ cond (same_name t job && (n == 5)) (Some 0) None
unfolding owners_1
entry_1 t n = get-insert entry_cmp_total alone.table (job, 5) 0 (t, n) ∙ (λ i. cond (same_entry_is (t, n) (job, 5) i) (Some 0) (get-empty {X = ℕ} entry_cmp (t, n) i))

entry_ready : (t : Name) (n : ℕ) → entry ready_a t n ≡ cond (same_name t job && (n == 0)) (Some 1) (cond (same_name t job && (n == 5)) (Some 0) None)
unfolding ready_a
entry_ready t n = get-insert entry_cmp_total owners_1.table (job, 0) 1 (t, n) ∙ (λ i. cond (same_entry_is (t, n) (job, 0) i) (Some 1) (entry_1 t n i))

owner_1 : (s : ℕ) → get owners_1.owner s ≡ cond (s == 0) (Some job) None
unfolding owners_1
owner_1 s = get-insert nat_cmp_total alone.owner 0 job s ∙ (λ i. cond (eq_by_cmp_is s 0 i) (Some job) (get-empty {X = Name} nat_cmp s i))

owner_ready : (s : ℕ) → get ready_a.owner s ≡ cond (s == 1) (Some job) (cond (s == 0) (Some job) None)
unfolding ready_a
owner_ready s = get-insert nat_cmp_total owners_1.owner 1 job s ∙ (λ i. cond (eq_by_cmp_is s 1 i) (Some job) (owner_1 s i))

-- what JOB shares with A, and gives to B
shares_a : (n : ℕ) → shares five_shared n ≡ ((n == 5) || (n == 0))
shares_a n = (λ i. ltb n 128 && (five_bit n i || (n == 0))) ∙ guarded n ((n == 5) || (n == 0)) (λ e. grind (arith, nat_tests))

shares_b : (n : ℕ) → shares five_given n ≡ (n == 0)
shares_b n = (λ i. ltb n 128 && (no_bit n i || (n == 0))) ∙ guarded n (n == 0) (λ e. grind (arith, nat_tests))

gives_b : (n : ℕ) → gives five_given n ≡ (n == 5)
gives_b n = ap (λ b. ltb n 128 && b) (five_bit n) ∙ guarded n (n == 5) (λ e. grind (arith, nat_tests))

subpool_1 : SubpoolOf alone job 5 0
subpool_1 = subst (λ v. MatchOption v (IsSpare alone 0) (λ r. 0 ≡ r)) (sym (get-empty entry_cmp (job, 5))) zero_spare

enters_1 : Enters alone job 5 0 owners_1
unfolding owners_1
enters_1 = subst (λ v. MatchOption v (Binds alone job 5 0 owners_1) (λ _. owners_1 ≡ alone)) (sym (get-empty entry_cmp (job, 5))) (record {
  tasks = refl;
  table = λ e. get-insert entry_cmp_total alone.table (job, 5) 0 e ∙ ap (λ b. cond b (Some 0) (get alone.table e)) (same_entry_is e (job, 5));
  owner = λ r. get-insert nat_cmp_total alone.owner 0 job r ∙ ap (λ b. cond b (Some job) (get alone.owner r)) (eq_by_cmp_is r 0);
})

-- subpool 1 is made for number 0
spare_1 : IsSpare owners_1 1
spare_1 = grind (arith, nat_tests, owners_1, owner_1)

subpool_a : SubpoolOf owners_1 job 0 1
subpool_a = subst (λ v. MatchOption v (IsSpare owners_1 1) (λ r. 1 ≡ r)) (sym (entry_1 job 0)) spare_1

enters_a : Enters owners_1 job 0 1 ready_a
unfolding ready_a owners_1
enters_a = subst (λ v. MatchOption v (Binds owners_1 job 0 1 ready_a) (λ _. ready_a ≡ owners_1)) (sym (entry_1 job 0)) (record {
  tasks = refl;
  table = λ e. get-insert entry_cmp_total owners_1.table (job, 0) 1 e ∙ ap (λ b. cond b (Some 1) (get owners_1.table e)) (same_entry_is e (job, 0));
  owner = λ r. get-insert nat_cmp_total owners_1.owner 1 job r ∙ ap (λ b. cond b (Some job) (get owners_1.owner r)) (eq_by_cmp_is r 1);
})

-- nothing is made where the task has what is wanted
kept_below : (o : Owners) (t : Name) (wanted : ℕ → Bool) (n : ℕ) (now : Owners) → ((k : ℕ) → wanted k ≡ true → IsSome (entry now t k)) → EntersBelow o t wanted n now → EntersBelow o t wanted (suc n) now
kept_below o t wanted n now has_all below = at (wanted n) refl where
  at : (b : Bool) → wanted n ≡ b → EntersBelow o t wanted (suc n) now
  at false e = passed below e
  at true e = by (entry now t n) refl (has_all n e) where
    by : (v : Option ℕ) → entry now t n ≡ v → IsSome v → EntersBelow o t wanted (suc n) now
    by None f h = false_true h
    by (Some s) f h = entered s below e (subst (λ v. MatchOption v (IsSpare now s) (λ r. s ≡ r)) (sym f) refl) (subst (λ v. MatchOption v (Binds now t n s now) (λ _. now ≡ now)) (sym f) refl)

a_has : (k : ℕ) → shares five_shared k ≡ true → IsSome (entry ready_a job k)
a_has k e = grind (arith, nat_tests, entry_ready, shares_a)

made_a : (n : ℕ) → EntersBelow owners_1 job (shares five_shared) (suc n) ready_a
made_a zero = entered 1 none (shares_a 0) subpool_a enters_a
made_a (suc n) = kept_below owners_1 job (shares five_shared) (suc n) ready_a a_has (made_a n)

-- A is attached
attach_a : (o : Owners) × Attach owners_1 job task_a five_shared Below o
attach_a = attach_some owners_1 job task_a five_shared Below

owners_2 : Owners
owners_2 = attach_a.0

ready_a_is : attach_a.1.ready ≡ ready_a
ready_a_is = one_below owners_1 job (shares five_shared) 128 attach_a.1.ready ready_a attach_a.1.made (made_a 127)

gives_a : (n : ℕ) → gives five_shared n ≡ false
gives_a n = ap (λ b. ltb n 128 && b) (no_bit n) ∙ guarded n false (λ e. false_true e)

entry_2 : (t : Name) (n : ℕ) → entry owners_2 t n ≡ handed ready_a job task_a five_shared t n
unfolding owners_2
entry_2 t n = attach_a.1.table t n ∙ ap (λ o. handed o job task_a five_shared t n) ready_a_is

-- what a task that has both has
abbrev both_of : ℕ → Option ℕ
both_of n = cond (n == 0) (Some 1) (cond (n == 5) (Some 0) None)

entry_2_a : (n : ℕ) → entry owners_2 task_a n ≡ both_of n
entry_2_a n = grind (arith, nat_tests, entry_ready, shares_a, gives_a, entry_2)

entry_2_job : (n : ℕ) → entry owners_2 job n ≡ both_of n
entry_2_job n = entry_2 job n ∙ (λ i. cond (gives_a n i) None (entry_ready job n i))

owner_2 : (s : ℕ) → get owners_2.owner s ≡ cond (s == 1) (Some job) (cond (s == 0) (Some job) None)
unfolding owners_2
owner_2 s = grind (arith, nat_tests, ready_a, owner_ready, attach_a, ready_a_is, gives_a, never)

-- who is active
task_1 : (t : Name) → get owners_1.tasks t ≡ cond (same_name t job) (Some (record { mother = None; residence = Below })) None
unfolding owners_1
task_1 t = get-insert name_cmp_total empty job (record { mother = None; residence = Below }) t ∙ ap (cond (same_name t job) (Some (record { mother = None; residence = Below }))) (get-empty name_cmp t)

abbrev child : Task
child = record { mother = Some job; residence = Below }

task_2 : (t : Name) → get owners_2.tasks t ≡ cond (same_name task_a t) (Some child) (cond (same_name t job) (Some (record { mother = None; residence = Below })) None)
unfolding owners_2
task_2 t = attach_a.1.tasks t ∙ ap (cond (same_name task_a t) (Some child)) (task_1 t)

-- B is attached
made_b : (n : ℕ) → EntersBelow owners_2 job (shares five_given) n owners_2
made_b zero = none
made_b (suc n) = kept_below owners_2 job (shares five_given) n owners_2 b_has (made_b n) where
  b_has : (k : ℕ) → shares five_given k ≡ true → IsSome (entry owners_2 job k)
  b_has k e = ap is_some (entry_2_job k) ∙ at (k == 0) (sym (shares_b k) ∙ e) where
    pick : Bool → Option ℕ
    pick a = cond a (Some 1) (cond (k == 5) (Some 0) None)

    at : (a : Bool) → a ≡ true → is_some (pick a) ≡ true
    at true e = refl
    at false e = false_true e

attach_b : (o : Owners) × Attach owners_2 job task_b five_given Below o
attach_b = attach_some owners_2 job task_b five_given Below

owners_3 : Owners
owners_3 = attach_b.0

ready_b_is : attach_b.1.ready ≡ owners_2
ready_b_is = one_below owners_2 job (shares five_given) 128 attach_b.1.ready owners_2 attach_b.1.made (made_b 128)

entry_3 : (t : Name) (n : ℕ) → entry owners_3 t n ≡ handed owners_2 job task_b five_given t n
unfolding owners_3
entry_3 t n = attach_b.1.table t n ∙ ap (λ o. handed o job task_b five_given t n) ready_b_is

entry_3_a : (n : ℕ) → entry owners_3 task_a n ≡ both_of n
entry_3_a n = entry_3 task_a n ∙ entry_2_a n

-- what JOB gives is subpool 0
is_given_b : (s : ℕ) → is_given owners_2 job five_given s ≡ (s == 0)
unfolding any_below
is_given_b s = grind (arith, nat_tests, entry_2_job)

owner_3 : (s : ℕ) → get owners_3.owner s ≡ cond (s == 0) (Some task_b) (cond (s == 1) (Some job) (cond (s == 0) (Some job) None))
unfolding owners_3
owner_3 s = grind (arith, nat_tests, owner_2, attach_b, ready_b_is, is_given_b)

task_3 : (t : Name) → get owners_3.tasks t ≡ cond (same_name task_b t) (Some child) (cond (same_name task_a t) (Some child) (cond (same_name t job) (Some (record { mother = None; residence = Below })) None))
unfolding owners_3
task_3 t = attach_b.1.tasks t ∙ ap (cond (same_name task_b t) (Some child)) (task_2 t)

-- nobody is B's subtask
mother_3 : (x : Name) → IsMother owners_3 task_b x → ⊥
mother_3 x h = grind (arith, nat_tests, task_3, same_name_self)

no_descendant : (x : Name) → Descends owners_3 task_b x → ⊥
no_descendant x (subtask h) = mother_3 x h
no_descendant x (further {m} d h) = no_descendant m d

falls_alone : AreDescendants owners_3 task_b []
unfolding IsStrictlySortedBy
falls_alone = record { sorted = tt; descendants = λ x. ((λ c. absurd (let l : c.0 < 0 = c.1 in omega (arith, l))), (λ d. absurd (no_descendant x d))) }

-- B ends
end_b : (o : Owners) × Ends owners_3 task_b [] o
end_b = ends_some owners_3 task_b []

owners_4 : Owners
owners_4 = end_b.0

entry_4_a : (n : ℕ) → entry owners_4 task_a n ≡ cond (n == 0) (Some 1) None
unfolding owners_4
entry_4_a n = grind (arith, nat_tests, owners_3, entry_3_a, owner_3, end_b)

owner_4 : (s : ℕ) → get owners_4.owner s ≡ kept (λ x. not (is_among_ended task_b [] x)) (get owners_3.owner s)
unfolding owners_4
owner_4 s = end_b.1.owner s

-- A obtains from number 5 anew
spare_4 : IsSpare owners_4 0
spare_4 = record { spare = owner_4 0 ∙ ap (kept (λ x. not (is_among_ended task_b [] x))) (owner_3 0); least = λ r l. absurd (omega (arith, l)) }

subpool_4 : SubpoolOf owners_4 task_a 5 0
subpool_4 = subst (λ v. MatchOption v (IsSpare owners_4 0) (λ r. 0 ≡ r)) (sym (entry_4_a 5)) spare_4

owners_5 : Owners
owners_5 = record { tasks = owners_4.tasks; table = insert owners_4.table (task_a, 5) 0; owner = insert owners_4.owner 0 task_a }

enters_5 : Enters owners_4 task_a 5 0 owners_5
unfolding owners_5
enters_5 = subst (λ v. MatchOption v (Binds owners_4 task_a 5 0 owners_5) (λ _. owners_5 ≡ owners_4)) (sym (entry_4_a 5)) (record {
  tasks = refl;
  table = λ e. get-insert entry_cmp_total owners_4.table (task_a, 5) 0 e ∙ ap (λ b. cond b (Some 0) (get owners_4.table e)) (same_entry_is e (task_a, 5));
  owner = λ r. get-insert nat_cmp_total owners_4.owner 0 task_a r ∙ ap (λ b. cond b (Some task_a) (get owners_4.owner r)) (eq_by_cmp_is r 0);
})

entry_5_a : (n : ℕ) → entry owners_5 task_a n ≡ cond (n == 5) (Some 0) (cond (n == 0) (Some 1) None)
unfolding owners_5
entry_5_a n = get-insert entry_cmp_total owners_4.table (task_a, 5) 0 (task_a, n) ∙ (λ i. cond (same_entry_is (task_a, n) (task_a, 5) i) (Some 0) (entry_4_a n i))

-- the labels after each line
abbrev given_1 : Labels
given_1 = record (with_area moves_start 0 8) { owners = owners_1; names = insert empty area_x 0 }

abbrev given_2 : Labels
given_2 = record given_1 { owners = owners_2 }

abbrev given_3 : Labels
given_3 = record given_1 { owners = owners_3 }

abbrev given_4 : Labels
given_4 = record (without given_3 (λ l i. ends_with owners_3 task_b [] (given_3.subpool l))) { owners = owners_4 }

abbrev given_5 : Labels
given_5 = record (with_area given_4 0 4096) { owners = owners_5; names = insert given_4.names area_y 1 }

-- what is held
plain_3 : (s : ℕ) → bytes_there given_3 s ≡ cond (0 == s) 8 0 + 0
unfolding total_below count_below
plain_3 s = refl

gone_4 : (i : ℕ) → given_4.byte 0 i ≡ None
gone_4 i = ap (λ v. cond (has (is_among_ended task_b []) v) None (given_3.byte 0 i)) (owner_3 0)

plain_4 : (s : ℕ) → bytes_there given_4 s ≡ 0
unfolding total_below
plain_4 s = grind (arith, nat_tests, gone_4, count_none)

whole_5 : (i : ℕ) → i < 4096 → is_some (given_5.byte 1 i) ≡ true
whole_5 i l = ap (λ b. is_some (cond b (Some given_5.fill) None)) (let z : ltb i 4096 ≡ true = grind (arith, nat_tests) in z)

-- an area of which the first place is gone, and one that is whole
plain_5 : (s : ℕ) → bytes_there given_5 s ≡ cond (0 == s) 4096 0 + 0
unfolding total_below
plain_5 s = grind (arith, nat_tests, gone_4, whole_5, count_all, count_none)

-- a line of the report
abbrev report_line : ℕ → Bool → ℕ → List SubpoolLine
report_line n own held = record { number = n; owned = own; plain = held; pool = 0 } ∷ []

abbrev entry_line : Labels → ℕ → Option ℕ → List SubpoolLine
entry_line m n v = line_of_entry m.owners (bytes_there m) (λ s. 0) task_a n v

line_is : (m : Labels) (n s held : ℕ) (own : Bool) → owns m.owners task_a s ≡ own → bytes_there m s ≡ held → entry_line m n (Some s) ≡ report_line n own held
line_is m n s held own e f = λ i. report_line n (e i) (f i)

-- the lines of two numbers
abbrev two_lines : List SubpoolLine → List SubpoolLine → ℕ → List SubpoolLine
two_lines zero_line five_line n = cond (n == 0) zero_line (cond (n == 5) five_line [])

report_is : (m : Labels) (zero_line five_line : List SubpoolLine) → ((n : ℕ) → entry_line m n (entry m.owners task_a n) ≡ two_lines zero_line five_line n) → subpool_lines m.owners (bytes_there m) (λ s. 0) task_a ≡ each_below 133 (two_lines zero_line five_line)
report_is m zero_line five_line h = λ i. each_below 133 (λ n. h n i)

lines_3 : (n : ℕ) → entry_line given_3 n (entry owners_3 task_a n) ≡ two_lines (report_line 0 false 0) (report_line 5 false 8) n
lines_3 n = grind (arith, nat_tests, entry_3_a, owner_3, plain_3, line_is)

lines_4 : (n : ℕ) → entry_line given_4 n (entry owners_4 task_a n) ≡ two_lines (report_line 0 false 0) [] n
lines_4 n = grind (arith, nat_tests, owner_3, entry_4_a, owner_4, plain_4, line_is)

owner_5 : (s : ℕ) → get owners_5.owner s ≡ cond (s == 0) (Some task_a) (get owners_4.owner s)
unfolding owners_5
owner_5 s = get-insert nat_cmp_total owners_4.owner 0 task_a s ∙ ap (λ b. cond b (Some task_a) (get owners_4.owner s)) (eq_by_cmp_is s 0)

lines_5 : (n : ℕ) → entry_line given_5 n (entry owners_5 task_a n) ≡ two_lines (report_line 0 false 0) (report_line 5 true 4096) n
lines_5 n = grind (arith, nat_tests, owner_3, owner_4, entry_5_a, plain_5, line_is, owner_5)

-- who may attach, and who has no subtask
active_1 : is_active owners_1 job ≡ true
active_1 = ap is_some (task_1 job)

active_2 : is_active owners_2 job ≡ true
active_2 = ap is_some (task_2 job)

active_3_a : is_active owners_3 task_a ≡ true
active_3_a = ap is_some (task_3 task_a)

active_3_b : is_active owners_3 task_b ≡ true
active_3_b = ap is_some (task_3 task_b)

active_4_a : is_active owners_4 task_a ≡ true
unfolding owners_4
active_4_a = ap is_some (end_b.1.tasks task_a ∙ ap (kept (λ _. not (is_among_ended task_b [] task_a))) (task_3 task_a))

few_1 : len owners_1.tasks ≡ 1
unfolding owners_1
few_1 = len-insert name_cmp_total empty job (record { mother = None; residence = Below }) ∙ (λ i. cond (no_job i) (none_yet i) (none_yet i + 1)) where
  no_job : is_some (get (empty {X = Task} {R = name_cmp}) job) ≡ false
  no_job = ap is_some (get-empty name_cmp job)

  none_yet : len (empty {X = Task} {R = name_cmp}) ≡ 0
  none_yet = len-empty name_cmp Task

few_2 : len owners_2.tasks ≡ 2
unfolding owners_2
few_2 =
    ap len (same_map name_cmp_total name_cmp-IsAntisymmetric owners_2.tasks (insert owners_1.tasks task_a child) (λ t. attach_a.1.tasks t ∙ ap (λ b. cond b (Some child) (get owners_1.tasks t)) (same_name_sym task_a t) ∙ sym (get-insert name_cmp_total owners_1.tasks task_a child t)))
    ∙ len-insert name_cmp_total owners_1.tasks task_a child ∙ (λ i. cond (not_yet i) (few_1 i) (few_1 i + 1)) where
      not_yet : is_some (get owners_1.tasks task_a) ≡ false
      not_yet = ap is_some (task_1 task_a)

may_attach_a : attach_refusal owners_1 job task_a five_shared ≡ None
may_attach_a = grind (arith, nat_tests, owners_1, gives_a, task_1, few_1, never)

may_attach_b : attach_refusal owners_2 job task_b five_given ≡ None
may_attach_b = grind (arith, nat_tests, gives_b, owners_2, entry_2_job, owner_2, task_2, few_2, never)

lone_b : has_subtask owners_3 task_b ≡ false
lone_b = all_names _ (keys owners_3.tasks) (λ x. ap (has (λ (task : Task). has (same_name task_b) task.mother)) (task_3 x) ∙ at (same_name task_b x) (same_name task_a x) (same_name x job)) where
  at : (a b c : Bool) → has (λ (task : Task). has (same_name task_b) task.mother) (cond a (Some child) (cond b (Some child) (cond c (Some (record { mother = None; residence = Below })) None))) ≡ false
  at true b c = refl
  at false true c = refl
  at false false true = refl
  at false false false = refl

obtain_does : Does moves_start job (says.Request (written.Obtain form.Ru 5 (fixed 8) false area_x)) tells.Rc0 given_1
obtain_does = ask_does moves_start given_1 job (written.Obtain form.Ru 5 (fixed 8) false area_x) _ job_active
    (record (with_area moves_start 0 8) { owners = owners_1 }, (record (with_area moves_start 0 8) { owners = owners_1 }, record { subpool = 0; owners = owners_1; is_subpool = subpool_1; enters = enters_1; is = refl }, refl), (refl, refl))

attach_a_does : Does given_1 job (says.Request (written.Attach task_a five_shared Below)) tells.Attached given_2
unfolding owners_2
attach_a_does = ask_does given_1 given_2 job (written.Attach task_a five_shared Below) _ active_1
    (subst (λ r. cases.Attaches given_1 job task_a five_shared Below r tells.Attached given_2) (sym may_attach_a) (owners_2, attach_a.1, (refl, refl)))

attach_b_does : Does given_2 job (says.Request (written.Attach task_b five_given Below)) tells.Attached given_3
unfolding owners_3
attach_b_does = ask_does given_2 given_3 job (written.Attach task_b five_given Below) _ active_2
    (subst (λ r. cases.Attaches given_2 job task_b five_given Below r tells.Attached given_3) (sym may_attach_b) (owners_3, attach_b.1, (refl, refl)))

abbrev report_3 : Answer
report_3 = tells.Subpools (each_below 133 (two_lines (report_line 0 false 0) (report_line 5 false 8)))

abbrev report_4 : Answer
report_4 = tells.Subpools (each_below 133 (two_lines (report_line 0 false 0) []))

abbrev report_5 : Answer
report_5 = tells.Subpools (each_below 133 (two_lines (report_line 0 false 0) (report_line 5 true 4096)))

report_3_does : Does given_3 task_a says.ReportSubpools report_3 given_3
report_3_does = active_does given_3 given_3 task_a says.ReportSubpools report_3 active_3_a (ap tells.Subpools (sym (report_is given_3 _ _ lines_3)), refl)

return_does : Does given_3 task_b (says.Request written.Return) tells.Ended given_4
unfolding owners_4
return_does = ask_does given_3 given_4 task_b written.Return _ active_3_b
    (match_false _ ((fallen : List Name) × (mid : Labels) × Leaves given_3 task_b fallen mid × AnswersWith tells.Ended mid tells.Ended given_4) (has_subtask owners_3 task_b) lone_b
    ([], given_4, record { owners = owners_4; is_fallen = falls_alone; ends = end_b.1; is = refl }, (refl, refl)))

report_4_does : Does given_4 task_a says.ReportSubpools report_4 given_4
report_4_does = active_does given_4 given_4 task_a says.ReportSubpools report_4 active_4_a (ap tells.Subpools (sym (report_is given_4 _ _ lines_4)), refl)

obtain_again_does : Does given_4 task_a (says.Request (written.Obtain form.Rc 5 (fixed 4096) false area_y)) tells.Rc0 given_5
obtain_again_does = ask_does given_4 given_5 task_a (written.Obtain form.Rc 5 (fixed 4096) false area_y) _ active_4_a
    (record (with_area given_4 0 4096) { owners = owners_5 }, (record (with_area given_4 0 4096) { owners = owners_5 }, record { subpool = 0; owners = owners_5; is_subpool = subpool_4; enters = enters_5; is = refl }, refl), (refl, refl))

active_5_a : is_active owners_5 task_a ≡ true
unfolding owners_5
active_5_a = active_4_a

report_5_does : Does given_5 task_a says.ReportSubpools report_5 given_5
report_5_does = active_does given_5 given_5 task_a says.ReportSubpools report_5 active_5_a (ap tells.Subpools (sym (report_is given_5 _ _ lines_5)), refl)

pub given_ends : GivenEnds
unfolding digits last_digits each_below
given_ends = shows _
    (tells.Rc0 ∷ tells.Attached ∷ tells.Attached ∷ report_3 ∷ tells.Ended ∷ report_4 ∷ tells.Rc0 ∷ report_5 ∷ [])
    given_5
    false
    refl
    (tt, (λ _. refl), (given_1, obtain_does, (tt, (λ _. refl), (given_2, attach_a_does, (tt, (λ _. refl), (given_3, attach_b_does, (tt, (λ _. refl), (given_3, report_3_does, (tt, (λ _. refl), (given_4, return_does, (tt, (λ _. refl), (given_4, report_4_does, (tt, (λ _. refl), (given_5, obtain_again_does, (tt, (λ _. refl), (given_5, report_5_does, refl))))))))))))))))
