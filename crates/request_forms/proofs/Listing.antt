-- A list that is obtained from a store is obtained from the machine.
use Rattle.std.proofs.Common.{◌≡◌, ℕ, ◌≤◌, List, [], ◌∷◌, ◌++◌, length, Option, Some, None, Ok, Err, refl, sym, ap, ◌∙◌, subst, append_assoc, arith}
use Rattle.std.specs.Prelude.{IfOk, MatchOption, MatchResult, Result, suc, zero, ◌+◌}
use Rattle.std.specs.Option.{unwrap_or}
use Rattle.std.specs.FinMap.{FinMap}
use Rattle.mvs_model.specs.declared.name.Name.{Name}
use Rattle.mvs_model.specs.declared.want.Side.TheVariants.{Below}
use Rattle.mvs_model.specs.Name.{name_cmp}
use Rattle.mvs_model.specs.Place.{PlaceValue}
use Rattle.mvs_model.specs.Want.{WantValue, fixed_want}
use Rattle.mvs_model.specs.declared.reason.Shortfall.{Shortfall}
use Rattle.mvs_model.specs.declared.refusal.Refusal.{Refusal}
use Rattle.mvs_model.specs.declared.refusal.Refusal.TheVariants.{Member}
use Rattle.mvs_model.specs.State.{State}
use Rattle.mvs_model.specs.Storage.{Storage, holder, Chosen, IsStorage, Grant, Release}
use Rattle.mvs_model.specs.Owners.{Owners, entry, IsSpare, Binds, SubpoolOf}
use Rattle.mvs_model.specs.Reasons.{Lacks}
use Rattle.mvs_model.specs.Changes.{ListGrant, ShortOf}
use Rattle.mvs_model.specs.Determined.{ListFollowsHints}
use Rattle.mvs_model.specs.Causes.{AfterGrants}
use Rattle.mvs_model.proofs.Owning.{enters_some}
use Rattle.mvs_model.proofs.Reasons.{bound_entry}
use Rattle.cell_pool.specs.Agree.{Agree}
use Rattle.cell_pool.specs.Roots.{Root}
use Rattle.request_forms.specs.Machine.{machine_state}
use Rattle.request_forms.specs.declared.obtain_list.Lack.{Lack}
use Rattle.request_forms.proofs.Rooms.{room_lacks}
use Rattle.request_forms.proofs.Pooling.{granted, grant_agrees, grants_agree}
use Rattle.mvs_model.proofs.StorageLaws.{taken_back}
use Rattle.request_forms.specs.Lists.{GrantsEach, IsMemberShort, LacksAt, LacksAfter, LacksIn, TakesFirst, first_of, later_of, list_wants}
use Rattle.request_forms.proofs.Obtaining.{its_subpool, new_subpool, stays_entered, now_entered, takes_correct}

-- the first member granted, and then the others
pub first_granted : (st mid new : Storage) (s start n : ℕ) (rest lengths hints : List ℕ) (p : PlaceValue) (done ps : List PlaceValue) → lengths ≡ n ∷ rest → IsStorage mid → Grant st s (fixed_want n start Below) p mid → TakesFirst st s (fixed_want n start Below) (first_of hints) p
    → (more : List PlaceValue) × (ps ≡ (done ++ p ∷ []) ++ more) × GrantsEach mid s (list_wants rest start) (later_of hints) more new
    → (more : List PlaceValue) × (ps ≡ done ++ more) × GrantsEach st s (list_wants lengths start) hints more new
first_granted st mid new s start n rest lengths hints p done ps e is g takes h =
    subst (λ l. (more : List PlaceValue) × (ps ≡ done ++ more) × GrantsEach st s (list_wants l start) hints more new) (sym e)
    (p ∷ h.0, h.1 ∙ append_assoc done (p ∷ []) h.0, (mid, is, g, takes, h.2))

-- a member takes the hinted address, where its store does
pub takes_first : (st : Storage) (s : ℕ) (want other : WantValue) (first : Option ℕ) (hints : List ℕ) (p : PlaceValue) → want ≡ other → first ≡ first_of hints → ((q : PlaceValue) → first ≡ Some q.addr → Chosen st.regions (holder st) s want q → Some p ≡ Some q) → TakesFirst st s other (first_of hints) p
takes_first st s want other first hints p same is takes q e chosen = ap (λ r. unwrap_or r p) (takes q (is ∙ e) (subst (λ w. Chosen st.regions (holder st) s w q) (sym same) chosen))

-- the first member has no place
pub first_short : (st : Storage) (s start n : ℕ) (rest lengths : List ℕ) (short : Shortfall) → lengths ≡ n ∷ rest → LacksIn st s (fixed_want n start Below) short → LacksAt st s (list_wants lengths start) 1 short
first_short st s start n rest lengths short e lacks = subst (λ l. LacksAt st s (list_wants l start) 1 short) (sym e) (zero, refl, lacks)

-- the first member granted, and taken back where a later one is short
pub first_taken_back : (st mid new : Storage) (s start n : ℕ) (rest lengths : List ℕ) (p : PlaceValue) (k : ℕ) (short : Shortfall) → lengths ≡ n ∷ rest → IsStorage st → IsStorage mid → Grant st s (fixed_want n start Below) p mid
    → LacksAt mid s (list_wants rest start) k short → Release mid s p new → LacksAt st s (list_wants lengths start) (k + 1) short × (new ≡ st)
first_taken_back st mid new s start n rest lengths p k short e is after g h r =
    let later : k + 1 ≡ suc h.0 + 1 = (let f = h.1 in omega (arith, f)) in
    (subst (λ l. LacksAt st s (list_wants l start) (k + 1) short) (sym e) (suc h.0, later, (p, mid, after, g, h.2)), taken_back st mid new s _ p is g r)

-- the subpool that a task would have
pub bound_some : (o : Owners) (t : Name) (number s : ℕ) → entry o t number ≡ None → (after : Owners) × Binds o t number s after
bound_some o t number s e = let h = enters_some o t number s in (h.0, subst (λ v. MatchOption v (Binds o t number s h.0) (λ _. h.0 ≡ o)) e h.1)

-- as many things are wanted as lengths
wants_length : (xs : List ℕ) (start : ℕ) → length (list_wants xs start) ≡ length xs
wants_length [] start = refl
wants_length (x ∷ xs) start = ap suc (wants_length xs start)

some_wants : (xs : List ℕ) (start : ℕ) → 1 ≤ length xs → 1 ≤ length (list_wants xs start)
some_wants xs start l = let e = wants_length xs start in omega (arith, e, l)

as_many : (hints items lengths : List ℕ) (start : ℕ) → items ≡ lengths → length hints ≡ length lengths → length hints ≡ length (list_wants items start)
as_many hints items lengths start same l = l ∙ ap length (sym same) ∙ sym (wants_length items start)

-- the member that a list is refused for
pub member_is : (m k : ℕ) → ◌≡◌ {A = Result (List PlaceValue) Refusal} (Err (Member m)) (Err (Member k)) → m ≡ k
member_is m k e = cc

-- a member that lacks something is short
pub lacks_short : (st : State) (u : Name) (n : ℕ) (short : Shortfall) (t : Name) (number : ℕ) (wants : List WantValue) (j : ℕ) → AfterGrants (Lacks u n short) st t number wants j → AfterGrants (λ now want. ShortOf now u n want) st t number wants j
lacks_short st u n short t number [] j h = absurd h
lacks_short st u n short t number (want ∷ wants) zero h = h.0
lacks_short st u n short t number (want ∷ wants) (suc j) h = (h.0, h.1, h.2, lacks_short h.1 u n short t number wants j h.3)

module _ (roots : FinMap name_cmp Root) where
  -- grants of a subpool that the task has
  each_granted : (st new : Storage) (o : Owners) (t : Name) (number s : ℕ) (wants : List WantValue) (hints : List ℕ) (ps : List PlaceValue) → Agree roots st → entry o t number ≡ Some s → GrantsEach st s wants hints ps new
      → ListGrant (machine_state roots st o) t number wants ps (machine_state roots new o)
  each_granted st new o t number s [] hints [] agree e h = ap (λ x. machine_state roots x o) h
  each_granted st new o t number s [] hints (p ∷ ps) agree e h = h
  each_granted st new o t number s (want ∷ wants) hints [] agree e h = h
  each_granted st new o t number s (want ∷ wants) hints (p ∷ ps) agree e h = (
    machine_state roots h.0 o,
    granted roots st h.0 o o t number s want p agree h.1 (its_subpool o t number s e) (stays_entered o t number s e) h.2,
    each_granted h.0 new o t number s wants (later_of hints) ps (grant_agrees roots st h.0 s want p agree h.1 h.2).0 e h.4,
  )

  each_takes : (st new : Storage) (o : Owners) (t : Name) (number s : ℕ) (wants : List WantValue) (hints : List ℕ) (ps : List PlaceValue) → Agree roots st → entry o t number ≡ Some s → length hints ≡ length wants → GrantsEach st s wants hints ps new
      → ListFollowsHints (machine_state roots st o) t number wants hints ps (machine_state roots new o)
  each_takes st new o t number s [] hints [] agree e l h = ap (λ x. machine_state roots x o) h
  each_takes st new o t number s [] hints (p ∷ ps) agree e l h = h
  each_takes st new o t number s (want ∷ wants) hints [] agree e l h = h
  each_takes st new o t number s (want ∷ wants) [] (p ∷ ps) agree e l h = absurd (let f : 0 ≡ suc (length wants) = l in omega (arith, f))
  each_takes st new o t number s (want ∷ wants) (a ∷ hints) (p ∷ ps) agree e l h = (
    machine_state roots h.0 o,
    granted roots st h.0 o o t number s want p agree h.1 (its_subpool o t number s e) (stays_entered o t number s e) h.2,
    takes_correct roots st o t number s want (Some a) p agree (its_subpool o t number s e) (λ q i c. ap (λ x. Some x) (h.3 q i c)) a refl,
    each_takes h.0 new o t number s wants hints ps (grant_agrees roots st h.0 s want p agree h.1 h.2).0 e (let f : suc (length hints) ≡ suc (length wants) = l in omega (arith, f)) h.4,
  )

  lacks_seen : (st : Storage) (o : Owners) (t : Name) (number s : ℕ) (want : WantValue) (short : Shortfall) → Agree roots st → SubpoolOf o t number s → LacksIn st s want short → Lacks t number short (machine_state roots st o) want
  lacks_seen st o t number s want short agree is h = let lacks = room_lacks roots st o s want short.room agree h.0 in ((s, is, lacks.0), h.1, (s, is, lacks.1))

  each_short : (st : Storage) (o : Owners) (t : Name) (number s : ℕ) (wants : List WantValue) (short : Shortfall) (j : ℕ) → Agree roots st → entry o t number ≡ Some s → LacksAfter st s wants short j → AfterGrants (Lacks t number short) (machine_state roots st o) t number wants j
  each_short st o t number s [] short j agree e h = absurd h
  each_short st o t number s (want ∷ wants) short zero agree e h = lacks_seen st o t number s want short agree (its_subpool o t number s e) h
  each_short st o t number s (want ∷ wants) short (suc j) agree e h = (
    h.0,
    machine_state roots h.1 o,
    granted roots st h.1 o o t number s want h.0 agree h.2 (its_subpool o t number s e) (stays_entered o t number s e) h.3,
    each_short h.1 o t number s wants short j (grant_agrees roots st h.1 s want h.0 agree h.2 h.3).0 e h.4,
  )

  -- grants of a subpool that the task has from the first one on
  areas_of_new : (st new : Storage) (o after : Owners) (t : Name) (number s : ℕ) (wants : List WantValue) (hints : List ℕ) (ps : List PlaceValue) → Agree roots st → 1 ≤ length wants → entry o t number ≡ None → IsSpare o s → Binds o t number s after
      → GrantsEach st s wants hints ps new → ListGrant (machine_state roots st o) t number wants ps (machine_state roots new after)
  areas_of_new st new o after t number s [] hints ps agree some e spare b h = absurd (omega arith)
  areas_of_new st new o after t number s (want ∷ wants) hints [] agree some e spare b h = h
  areas_of_new st new o after t number s (want ∷ wants) hints (p ∷ ps) agree some e spare b h = (
    machine_state roots h.0 after,
    granted roots st h.0 o after t number s want p agree h.1 (new_subpool o t number s e spare) (now_entered o t number s after e b) h.2,
    each_granted h.0 new after t number s wants (later_of hints) ps (grant_agrees roots st h.0 s want p agree h.1 h.2).0 (bound_entry o after t number s b) h.4,
  )

  new_takes : (st new : Storage) (o after : Owners) (t : Name) (number s : ℕ) (wants : List WantValue) (hints : List ℕ) (ps : List PlaceValue) → Agree roots st → 1 ≤ length wants → entry o t number ≡ None → IsSpare o s → Binds o t number s after → length hints ≡ length wants
      → GrantsEach st s wants hints ps new → ListFollowsHints (machine_state roots st o) t number wants hints ps (machine_state roots new after)
  new_takes st new o after t number s [] hints ps agree some e spare b l h = absurd (omega arith)
  new_takes st new o after t number s (want ∷ wants) hints [] agree some e spare b l h = h
  new_takes st new o after t number s (want ∷ wants) [] (p ∷ ps) agree some e spare b l h = absurd (let f : 0 ≡ suc (length wants) = l in omega (arith, f))
  new_takes st new o after t number s (want ∷ wants) (a ∷ hints) (p ∷ ps) agree some e spare b l h = (
    machine_state roots h.0 after,
    granted roots st h.0 o after t number s want p agree h.1 (new_subpool o t number s e spare) (now_entered o t number s after e b) h.2,
    takes_correct roots st o t number s want (Some a) p agree (new_subpool o t number s e spare) (λ q i c. ap (λ x. Some x) (h.3 q i c)) a refl,
    each_takes h.0 new after t number s wants hints ps (grant_agrees roots st h.0 s want p agree h.1 h.2).0 (bound_entry o after t number s b) (let f : suc (length hints) ≡ suc (length wants) = l in omega (arith, f)) h.4,
  )

  areas_short_of_new : (st : Storage) (o : Owners) (t : Name) (number s : ℕ) (wants : List WantValue) (short : Shortfall) (j : ℕ) → Agree roots st → entry o t number ≡ None → IsSpare o s → LacksAfter st s wants short j
      → AfterGrants (Lacks t number short) (machine_state roots st o) t number wants j
  areas_short_of_new st o t number s [] short j agree e spare h = absurd h
  areas_short_of_new st o t number s (want ∷ wants) short zero agree e spare h = lacks_seen st o t number s want short agree (new_subpool o t number s e spare) h
  areas_short_of_new st o t number s (want ∷ wants) short (suc j) agree e spare h =
      let b = bound_some o t number s e in (
        h.0,
        machine_state roots h.1 b.0,
        granted roots st h.1 o b.0 t number s want h.0 agree h.2 (new_subpool o t number s e spare) (now_entered o t number s b.0 e b.1) h.3,
        each_short h.1 b.0 t number s wants short j (grant_agrees roots st h.1 s want h.0 agree h.2 h.3).0 (bound_entry o b.0 t number s b.1) h.4,
      )

  -- areas of a subpool that the task has
  pub areas_of : (st new : Storage) (o : Owners) (t : Name) (number s start : ℕ) (items lengths hints : List ℕ) (r : Result (List PlaceValue) Lack) → Agree roots st → items ≡ lengths → entry o t number ≡ Some s
      → MatchResult r (λ ps. (more : List PlaceValue) × (ps ≡ [] ++ more) × GrantsEach st s (list_wants items start) hints more new) (λ lack. LacksAt st s (list_wants items start) lack.member lack.short × (new ≡ st))
      → MatchResult r (λ ps. ListGrant (machine_state roots st o) t number (list_wants lengths start) ps (machine_state roots new o)) (λ lack. IsMemberShort (machine_state roots st o) t number (list_wants lengths start) lack.member lack.short × (machine_state roots new o ≡ machine_state roots st o))
  areas_of st new o t number s start items lengths hints r agree same e h =
      subst (λ l. MatchResult r (λ ps. ListGrant (machine_state roots st o) t number (list_wants l start) ps (machine_state roots new o)) (λ lack. IsMemberShort (machine_state roots st o) t number (list_wants l start) lack.member lack.short × (machine_state roots new o ≡ machine_state roots st o))) same (at r h) where
        at : (r : Result (List PlaceValue) Lack) → MatchResult r (λ ps. (more : List PlaceValue) × (ps ≡ [] ++ more) × GrantsEach st s (list_wants items start) hints more new) (λ lack. LacksAt st s (list_wants items start) lack.member lack.short × (new ≡ st))
            → MatchResult r (λ ps. ListGrant (machine_state roots st o) t number (list_wants items start) ps (machine_state roots new o)) (λ lack. IsMemberShort (machine_state roots st o) t number (list_wants items start) lack.member lack.short × (machine_state roots new o ≡ machine_state roots st o))
        at (Err k) g = ((g.0.0, g.0.1, each_short st o t number s (list_wants items start) k.short g.0.0 agree e g.0.2), ap (λ x. machine_state roots x o) g.1)
        at (Ok ps) g = subst (λ l. ListGrant (machine_state roots st o) t number (list_wants items start) l (machine_state roots new o)) (sym g.1) (each_granted st new o t number s (list_wants items start) hints g.0 agree e g.2)

  -- then the pools are as they were
  pub areas_agree : (st new : Storage) (s start : ℕ) (items hints : List ℕ) (r : Result (List PlaceValue) Lack) → Agree roots st
      → MatchResult r (λ ps. (more : List PlaceValue) × (ps ≡ [] ++ more) × GrantsEach st s (list_wants items start) hints more new) (λ lack. LacksAt st s (list_wants items start) lack.member lack.short × (new ≡ st)) → Agree roots new
  areas_agree st new s start items hints (Err k) agree h = subst (Agree roots) (sym h.1) agree
  areas_agree st new s start items hints (Ok ps) agree h = grants_agree roots st new s (list_wants items start) hints h.0 agree h.2

  -- and they take the hinted addresses
  pub areas_take : (st new : Storage) (o : Owners) (t : Name) (number s start : ℕ) (items lengths hints : List ℕ) (r : Result (List PlaceValue) Lack) → Agree roots st → items ≡ lengths → entry o t number ≡ Some s
      → MatchResult r (λ ps. (more : List PlaceValue) × (ps ≡ [] ++ more) × GrantsEach st s (list_wants items start) hints more new) (λ lack. LacksAt st s (list_wants items start) lack.member lack.short × (new ≡ st))
      → IfOk r (λ ps. length hints ≡ length lengths → ListFollowsHints (machine_state roots st o) t number (list_wants lengths start) hints ps (machine_state roots new o))
  areas_take st new o t number s start items lengths hints (Err k) agree same e h = tt
  areas_take st new o t number s start items lengths hints (Ok ps) agree same e h = λ l.
      subst (λ x. ListFollowsHints (machine_state roots st o) t number (list_wants x start) hints ps (machine_state roots new o)) same
      (subst (λ x. ListFollowsHints (machine_state roots st o) t number (list_wants items start) hints x (machine_state roots new o)) (sym h.1)
      (each_takes st new o t number s (list_wants items start) hints h.0 agree e (as_many hints items lengths start same l) h.2))

  pub new_areas_take : (st new : Storage) (o after : Owners) (t : Name) (number s start : ℕ) (items lengths hints : List ℕ) (ps : List PlaceValue) → Agree roots st → items ≡ lengths → 1 ≤ length items → entry o t number ≡ None → IsSpare o s → Binds o t number s after
      → (more : List PlaceValue) × (ps ≡ [] ++ more) × GrantsEach st s (list_wants items start) hints more new
      → length hints ≡ length lengths → ListFollowsHints (machine_state roots st o) t number (list_wants lengths start) hints ps (machine_state roots new after)
  new_areas_take st new o after t number s start items lengths hints ps agree same some e spare b h l =
      subst (λ x. ListFollowsHints (machine_state roots st o) t number (list_wants x start) hints ps (machine_state roots new after)) same
      (subst (λ x. ListFollowsHints (machine_state roots st o) t number (list_wants items start) hints x (machine_state roots new after)) (sym h.1)
      (new_takes st new o after t number s (list_wants items start) hints h.0 agree (some_wants items start some) e spare b (as_many hints items lengths start same l) h.2))

  -- areas of a subpool that the task would have
  pub new_areas : (st new : Storage) (o after : Owners) (t : Name) (number s start : ℕ) (items lengths hints : List ℕ) (ps : List PlaceValue) → Agree roots st → items ≡ lengths → 1 ≤ length items → entry o t number ≡ None → IsSpare o s → Binds o t number s after
      → (more : List PlaceValue) × (ps ≡ [] ++ more) × GrantsEach st s (list_wants items start) hints more new → ListGrant (machine_state roots st o) t number (list_wants lengths start) ps (machine_state roots new after)
  new_areas st new o after t number s start items lengths hints ps agree same some e spare b h =
      subst (λ l. ListGrant (machine_state roots st o) t number (list_wants l start) ps (machine_state roots new after)) same
      (subst (λ l. ListGrant (machine_state roots st o) t number (list_wants items start) l (machine_state roots new after)) (sym h.1)
      (areas_of_new st new o after t number s (list_wants items start) hints h.0 agree (some_wants items start some) e spare b h.2))

  -- shortage in a subpool that the task would get
  pub new_short : (st : Storage) (o : Owners) (t : Name) (number s start : ℕ) (items lengths : List ℕ) (k : ℕ) (short : Shortfall) → Agree roots st → items ≡ lengths → entry o t number ≡ None → IsSpare o s → LacksAt st s (list_wants items start) k short
      → IsMemberShort (machine_state roots st o) t number (list_wants lengths start) k short
  new_short st o t number s start items lengths k short agree same e spare h =
      subst (λ l. IsMemberShort (machine_state roots st o) t number (list_wants l start) k short) same (h.0, h.1, areas_short_of_new st o t number s (list_wants items start) short h.0 agree e spare h.2)
