-- What a statement does, case by case, in the order in which its refusals are looked for.
use Rattle.std.specs.Prelude.{ℕ, ◌+◌, Bool, true, false, not, ◌&&◌, ◌==◌, List, [], ◌∷◌, length, map, Option, Some, None, slice_get, MatchOption}
use Rattle.std.specs.List.{list_all, list_any}
use Rattle.std.proofs.Common.{inl, inr, refl, sym, subst, cond, MatchBool, MatchOption}
use Rattle.std.specs.Prelude.{is_some, ◌⊎◌, ◌≡◌, nat_le}
use Rattle.std.specs.FinMap.{len}
use Rattle.mvs_model.specs.Causes.{Cause, ◌when◌, ◌unless◌, Passed, Refused, abend_causes}
use Rattle.mvs_model.specs.Consequences.{by_form}
use Rattle.mvs_model.specs.Numbers.{most_tasks}
use Rattle.mvs_model.specs.declared.refusal.Refusal.{Refusal}
use Rattle.mvs_model.specs.declared.refusal.Refusal.TheVariants.{ActiveSubtask, Asked, InvalidNumber, NoAccess, NoSubpool, NotHeld, NotOwned, OffDoubleword, Overlap, TaskInUse, TooManyTasks, WholeOfZero}
use Rattle.mvs_model.specs.declared.refusal.Consequence.TheVariants as consequence
use Rattle.mvs_model.specs.declared.code.Form.TheVariants.{Storage}
use Rattle.mvs_model.specs.Owners.{gives_shared, is_active}
use Rattle.mvs_model.specs.Codes.{not_owned, task_in_use, too_many_tasks}
use Rattle.mvs_model.proofs.Tests.{true_false, false_true}
use Rattle.mvs_model.specs.declared.name.Name.{Name}
use Rattle.mvs_model.specs.declared.code.Form.{Form}
use Rattle.mvs_model.specs.declared.code.Code.{Code}
use Rattle.mvs_model.specs.declared.code.Code.TheVariants.{User}
use Rattle.mvs_model.specs.declared.want.Residence.{Residence}
use Rattle.mvs_model.specs.declared.line.SourceRequest.{SourceRequest}
use Rattle.mvs_model.specs.declared.line.SourceRequest.TheVariants as written
use Rattle.mvs_model.specs.Place.{place_at, round8}
use Rattle.mvs_model.specs.Gifts.{GiftsValue}
use Rattle.mvs_model.specs.Finite.{has}
use Rattle.mvs_model.specs.Owners.{Owners, effective_task, subpool_meant, Attach, has_subtask}
use Rattle.mvs_model.proofs.ByCase.{attach_refusal}
use Rattle.mvs_model.specs.Codes.{family, is_conditional, bad_subpool, bad_address, not_held, whole_of_zero, active_subtask, no_access}
use Rattle.mvs_model.specs.Requests.{is_invalid, on_doubleword}
use Rattle.mvs_model.specs.Answers.{Answer, NoName, Rc0, Rc4, Attached, Ended, Done, Data}
use Rattle.mvs_model.specs.Replies.{grant_answer}
use Rattle.mvs_laws.specs.Labels as now
use Rattle.mvs_laws.specs.Labels.{Labels, Spot, AnswersWith, Abends, Leaves, GrantsEach, all_named, without, rounded, some_meet, is_held, has_offset, is_there, spot_of, spots_of, area_of, with_bytes, bytes_in}

-- A conditional request is answered 4, and an unconditional one abends.
abbrev pub Fails : Bool → Labels → Name → Code → Answer → Labels → Type 0
Fails true old t code answer new = AnswersWith Rc4 old answer new
Fails false old t code answer new = Abends old t code answer new

-- An invalid subpool number abends; else all is granted, and the names are set.
abbrev pub Obtains : Labels → Name → Form → ℕ → List ℕ → List Name → Answer → Answer → Labels → Type 0
Obtains old t form n lengths areas hints answer new =
    MatchBool (is_invalid n)
    (Abends old t (bad_subpool (family form) true) answer new)
    ((mid : Labels) × GrantsEach old (effective_task old.owners t n) n lengths mid
    × AnswersWith hints (record mid { names = all_named mid.names areas lengths old.count }) answer new)

-- whether the places may be released from what the task has under a number
abbrev pub may_free : Labels → Option ℕ → List Spot → Bool
may_free m s qs = has (λ s. list_all (is_held m s) qs) s && not (some_meet qs)

-- An invalid subpool number abends, then an offset that is not on a doubleword; places that are not all held are a failure;
-- else all are gone.
abbrev pub Releases : Labels → Name → Form → ℕ → List Spot → Answer → Labels → Type 0
Releases old t form n qs answer new =
    MatchBool (is_invalid n)
    (Abends old t (bad_subpool (family form) false) answer new)
    (MatchBool (not (list_all (λ q. on_doubleword q.place) qs))
    (Abends old t (bad_address (family form)) answer new)
    (MatchBool (not (may_free old (subpool_meant old.owners t n) (map rounded qs)))
    (Fails (is_conditional form) old t (not_held (family form)) answer new)
    (AnswersWith Rc0 (without old (λ l i. list_any (λ q. has_offset q l i) (map rounded qs))) answer new)))

-- All of a subpool is gone; subpool 0 may not be released so.
abbrev pub Empties : Labels → Name → Form → ℕ → Answer → Labels → Type 0
Empties old t form n answer new =
    MatchBool (is_invalid n)
    (Abends old t (bad_subpool (family form) false) answer new)
    (MatchBool (n == 0)
    (Abends old t whole_of_zero answer new)
    (AnswersWith Rc0 (without old (λ l i. has (λ s. old.subpool l == s) (subpool_meant old.owners t n))) answer new))

-- what becomes of ATTACH, by the code that refuses it
abbrev pub Attaches : Labels → Name → Name → GiftsValue → Residence → Option Code → Answer → Labels → Type 0
Attaches old t name gifts residence (Some code) answer new = Abends old t code answer new
Attaches old t name gifts residence None answer new = (o : Owners) × Attach old.owners t name gifts residence o × AnswersWith Attached (record old { owners = o }) answer new

-- A return ends the task; with an active subtask it abends.
abbrev pub Returns : Labels → Name → Answer → Labels → Type 0
Returns old t answer new =
    MatchBool (has_subtask old.owners t)
    (Abends old t active_subtask answer new)
    ((fallen : List Name) × (mid : Labels) × Leaves old t fallen mid × AnswersWith Ended mid answer new)

-- An access abends where an offset is gone or outside of its area.
abbrev pub Accesses : Labels → Name → Bool → Type 0 → Answer → Labels → Type 0
Accesses old t allowed done answer new = MatchBool (not allowed) (Abends old t no_access answer new) done

-- what a request may do: where a name in it is not set, it says so
abbrev pub Asks : Labels → Name → SourceRequest → Answer → Labels → Type 0
Asks old t (written.Obtain form n ask variable area) answer new =
    Obtains old t form n (ask.most ∷ []) (area ∷ []) (grant_answer (written.Obtain form n ask variable area) (place_at 0 (round8 ask.most))) answer new
Asks old t (written.ObtainList form n lengths start areas) answer new = Obtains old t form n lengths areas Rc0 answer new
Asks old t (written.Release form n location len) answer new =
    MatchOption (spots_of old (location ∷ []) (len ∷ [])) (AnswersWith NoName old answer new) (λ qs. Releases old t form n qs answer new)
Asks old t (written.ReleaseArea form n area) answer new =
    MatchOption (area_of old area) (AnswersWith NoName old answer new) (λ q. Releases old t form n (q ∷ []) answer new)
Asks old t (written.ReleaseList form n locations lengths) answer new =
    MatchOption (spots_of old locations lengths) (AnswersWith NoName old answer new) (λ qs. Releases old t form n qs answer new)
Asks old t (written.ReleaseWhole form n) answer new = Empties old t form n answer new
Asks old t (written.Build pool n size primary secondary loc) answer new = ⊥
Asks old t (written.Get pool conditional cell) answer new = ⊥
Asks old t (written.Free pool cell) answer new = ⊥
Asks old t (written.Delete pool) answer new = ⊥
Asks old t (written.Attach name gifts residence) answer new = Attaches old t name gifts residence (attach_refusal old.owners t name gifts) answer new
Asks old t written.Return answer new = Returns old t answer new
Asks old t (written.Abend n) answer new = Abends old t (User n) answer new
Asks old t (written.Show location n) answer new =
    MatchOption (spot_of old location n) (AnswersWith NoName old answer new)
    (λ q. Accesses old t (is_there old q) (AnswersWith (Data (bytes_in old q.label q.place.addr n)) old answer new) answer new)
Asks old t (written.Put location bytes) answer new =
    MatchOption (spot_of old location (length bytes)) (AnswersWith NoName old answer new)
    (λ q. Accesses old t (is_there old q) (AnswersWith Done (with_bytes old q (slice_get bytes)) answer new) answer new)
Asks old t (written.Move to from n) answer new =
    MatchOption (spot_of old to n) (AnswersWith NoName old answer new)
    (λ q. MatchOption (spot_of old from n) (AnswersWith NoName old answer new)
    (λ r. Accesses old t (is_there old q && is_there old r) (AnswersWith Done (with_bytes old q (λ i. old.byte r.label (r.place.addr + i))) answer new) answer new))

-- ---- both ways

-- what becomes of anything that may be refused, by what it may still be refused for, and where it passes
module _ (Settled : Refusal → Type 0) (Done : Type 0) where
  abbrev Goes : (Refusal → Type 0) → Type 0 → Type 0
  Goes R D = ((refusal : Refusal) × R refusal × Settled refusal) ⊎ (D × Done)

  by_when : {P Q D : Type 0} {R : Refusal → Type 0} (refusal : Refusal) (b : Bool) → (Settled refusal → P) → (Goes R D → Q) → Goes (λ r. ((b ≡ true) × (r ≡ refusal)) ⊎ ((b ≡ false) × R r)) ((b ≡ false) × D) → MatchBool b P Q
  by_when refusal true p q (inl (r, inl h, s)) = p (subst Settled h.1 s)
  by_when refusal true p q (inl (r, inr h, s)) = true_false h.0
  by_when refusal true p q (inr h) = true_false h.0.0
  by_when refusal false p q (inl (r, inl h, s)) = false_true h.0
  by_when refusal false p q (inl (r, inr h, s)) = q (inl (r, h.1, s))
  by_when refusal false p q (inr h) = q (inr (h.0.1, h.1))

  when_by : {P Q D : Type 0} {R : Refusal → Type 0} (refusal : Refusal) (b : Bool) → (P → Settled refusal) → (Q → Goes R D) → MatchBool b P Q → Goes (λ r. ((b ≡ true) × (r ≡ refusal)) ⊎ ((b ≡ false) × R r)) ((b ≡ false) × D)
  when_by refusal true p q h = inl (refusal, inl (refl, refl), p h)
  when_by {D = D} {R = R} refusal false p q h = at (q h) where
    at : Goes R D → Goes (λ r. ((false ≡ true) × (r ≡ refusal)) ⊎ ((false ≡ false) × R r)) ((false ≡ false) × D)
    at (inl x) = inl (x.0, inr (refl, x.1), x.2)
    at (inr x) = inr ((refl, x.0), x.1)

  last : Goes (Refused []) (Passed []) → Done
  last (inl h) = absurd h.1
  last (inr h) = h.1

  first : Done → Goes (Refused []) (Passed [])
  first d = inr (tt, d)

  -- what is held by a subpool, if there is one, and apart
  abbrev held_so : (ℕ → Bool) → Option ℕ → Bool → List Cause
  held_so f v b = NoSubpool when not (is_some v) ∷ NotHeld unless (has f v ≡ true) ∷ Overlap unless (b ≡ true) ∷ []

  module _ {F : Type 0} (out : (r : Refusal) → (r ≡ NoSubpool) ⊎ ((r ≡ NotHeld) ⊎ (r ≡ Overlap)) → Settled r → F) (back : (r : Refusal) → (r ≡ NoSubpool) ⊎ ((r ≡ NotHeld) ⊎ (r ≡ Overlap)) → F → Settled r) where
    held_is : (f : ℕ → Bool) (v : Option ℕ) (b : Bool) → Goes (Refused (held_so f v b)) (Passed (held_so f v b)) → MatchBool (not (has f v && b)) F Done
    held_is f None b (inl (r, inl h, s)) = out r (inl h.1) s
    held_is f None b (inl (r, inr h, s)) = true_false h.0
    held_is f None b (inr h) = true_false h.0.0
    held_is f (Some u) b h = at (f u) b h where
      at : (c b : Bool) → Goes (Refused (NoSubpool when false ∷ NotHeld unless (c ≡ true) ∷ Overlap unless (b ≡ true) ∷ [])) (Passed (NoSubpool when false ∷ NotHeld unless (c ≡ true) ∷ Overlap unless (b ≡ true) ∷ [])) → MatchBool (not (c && b)) F Done
      at c b (inl (r, inl h, s)) = false_true h.0
      at true b (inl (r, inr (x, inl h), s)) = absurd (h.0 refl)
      at true true (inl (r, inr (x, inr (y, inl h)), s)) = absurd (h.0 refl)
      at true true (inl (r, inr (x, inr (y, inr h)), s)) = absurd h.1
      at true true (inr h) = h.1
      at true false (inl (r, inr (x, inr (y, inl h)), s)) = out r (inr (inr h.1)) s
      at true false (inl (r, inr (x, inr (y, inr h)), s)) = absurd h.1
      at true false (inr ((x, (y, (z, e))), d)) = false_true z
      at false b (inl (r, inr (x, inl h), s)) = out r (inr (inl h.1)) s
      at false b (inl (r, inr (x, inr h), s)) = false_true h.0
      at false b (inr ((x, (y, z)), d)) = false_true y

    is_held_so : (f : ℕ → Bool) (v : Option ℕ) (b : Bool) → MatchBool (not (has f v && b)) F Done → Goes (Refused (held_so f v b)) (Passed (held_so f v b))
    is_held_so f None b h = inl (NoSubpool, inl (refl, refl), back NoSubpool (inl refl) h)
    is_held_so f (Some u) b h = at (f u) b h where
      at : (c b : Bool) → MatchBool (not (c && b)) F Done → Goes (Refused (NoSubpool when false ∷ NotHeld unless (c ≡ true) ∷ Overlap unless (b ≡ true) ∷ [])) (Passed (NoSubpool when false ∷ NotHeld unless (c ≡ true) ∷ Overlap unless (b ≡ true) ∷ []))
      at true true h = inr ((refl, (refl, (refl, tt))), h)
      at true false h = inl (Overlap, inr (refl, inr (refl, inl ((λ e. false_true e), refl))), back Overlap (inr (inr refl)) h)
      at false b h = inl (NotHeld, inr (refl, inl ((λ e. false_true e), refl)), back NotHeld (inr (inl refl)) h)

module _ (old new : Labels) (t : Name) (answer : Answer) where
  module _ (form : Form) (obtaining : Bool) where
    abbrev Settled : Refusal → Type 0
    Settled refusal = now.Settles old t (by_form form obtaining refusal) answer new

  fails : (b : Bool) (code : Code) → now.Settles old t (cond b consequence.Rc4 (consequence.Abend code)) answer new → Fails b old t code answer new
  fails true code s = s
  fails false code s = s

  settled : (b : Bool) (code : Code) → Fails b old t code answer new → now.Settles old t (cond b consequence.Rc4 (consequence.Abend code)) answer new
  settled true code s = s
  settled false code s = s

  obtain_cases : (form : Form) (n : ℕ) (lengths : List ℕ) (areas : List Name) (hints : Answer) → now.Obtains old t form n lengths areas hints answer new → Obtains old t form n lengths areas hints answer new
  obtain_cases form n lengths areas hints = by_when (Settled form true) _ InvalidNumber (is_invalid n) (λ s. s) (last (Settled form true) _)

  cases_obtain : (form : Form) (n : ℕ) (lengths : List ℕ) (areas : List Name) (hints : Answer) → Obtains old t form n lengths areas hints answer new → now.Obtains old t form n lengths areas hints answer new
  cases_obtain form n lengths areas hints = when_by (Settled form true) _ InvalidNumber (is_invalid n) (λ s. s) (first (Settled form true) _)

  module _ (form : Form) where
    out : (r : Refusal) → (r ≡ NoSubpool) ⊎ ((r ≡ NotHeld) ⊎ (r ≡ Overlap)) → Settled form false r → Fails (is_conditional form) old t (not_held (family form)) answer new
    out r (inl e) s = fails (is_conditional form) _ (subst (Settled form false) e s)
    out r (inr (inl e)) s = fails (is_conditional form) _ (subst (Settled form false) e s)
    out r (inr (inr e)) s = fails (is_conditional form) _ (subst (Settled form false) e s)

    back : (r : Refusal) → (r ≡ NoSubpool) ⊎ ((r ≡ NotHeld) ⊎ (r ≡ Overlap)) → Fails (is_conditional form) old t (not_held (family form)) answer new → Settled form false r
    back r (inl e) f = subst (Settled form false) (sym e) (settled (is_conditional form) _ f)
    back r (inr (inl e)) f = subst (Settled form false) (sym e) (settled (is_conditional form) _ f)
    back r (inr (inr e)) f = subst (Settled form false) (sym e) (settled (is_conditional form) _ f)

    release_cases : (n : ℕ) (qs : List Spot) → now.Releases old t form n qs answer new → Releases old t form n qs answer new
    release_cases n qs =
        by_when (Settled form false) _ InvalidNumber (is_invalid n) (λ s. s)
        (by_when (Settled form false) _ OffDoubleword (not (list_all (λ q. on_doubleword q.place) qs)) (λ s. s)
        (held_is (Settled form false) _ out back (λ s. list_all (is_held old s) (map rounded qs)) (subpool_meant old.owners t n) (not (some_meet (map rounded qs)))))

    cases_release : (n : ℕ) (qs : List Spot) → Releases old t form n qs answer new → now.Releases old t form n qs answer new
    cases_release n qs =
        when_by (Settled form false) _ InvalidNumber (is_invalid n) (λ s. s)
        (when_by (Settled form false) _ OffDoubleword (not (list_all (λ q. on_doubleword q.place) qs)) (λ s. s)
        (is_held_so (Settled form false) _ out back (λ s. list_all (is_held old s) (map rounded qs)) (subpool_meant old.owners t n) (not (some_meet (map rounded qs)))))

    empty_cases : (n : ℕ) → now.Empties old t form n answer new → Empties old t form n answer new
    empty_cases n = by_when (Settled form false) _ InvalidNumber (is_invalid n) (λ s. s) (by_when (Settled form false) _ WholeOfZero (n == 0) (λ s. s) (last (Settled form false) _))

    cases_empty : (n : ℕ) → Empties old t form n answer new → now.Empties old t form n answer new
    cases_empty n = when_by (Settled form false) _ InvalidNumber (is_invalid n) (λ s. s) (when_by (Settled form false) _ WholeOfZero (n == 0) (λ s. s) (first (Settled form false) _))

  module _ (name : Name) (gifts : GiftsValue) (residence : Residence) where
    by_code : (b : Bool) (code : Code) (more : Option Code) → MatchBool b (Abends old t code answer new) (Attaches old t name gifts residence more answer new) → Attaches old t name gifts residence (cond b (Some code) more) answer new
    by_code true code more h = h
    by_code false code more h = h

    code_by : (b : Bool) (code : Code) (more : Option Code) → Attaches old t name gifts residence (cond b (Some code) more) answer new → MatchBool b (Abends old t code answer new) (Attaches old t name gifts residence more answer new)
    code_by true code more h = h
    code_by false code more h = h

    attach_cases : now.Attaches old t name gifts residence answer new → Attaches old t name gifts residence (attach_refusal old.owners t name gifts) answer new
    attach_cases g =
        by_code (is_active old.owners name) task_in_use _ (by_when (Settled Storage false) _ TaskInUse (is_active old.owners name) (λ s. s)
        (λ g. by_code (nat_le most_tasks (len old.owners.tasks)) too_many_tasks _ (by_when (Settled Storage false) _ TooManyTasks (nat_le most_tasks (len old.owners.tasks)) (λ s. s)
        (λ g. by_code (gives_shared old.owners t gifts) not_owned None (by_when (Settled Storage false) _ NotOwned (gives_shared old.owners t gifts) (λ s. s) (last (Settled Storage false) _) g)) g)) g)

    cases_attach : Attaches old t name gifts residence (attach_refusal old.owners t name gifts) answer new → now.Attaches old t name gifts residence answer new
    cases_attach h =
        when_by (Settled Storage false) _ TaskInUse (is_active old.owners name) (λ s. s)
        (λ h. when_by (Settled Storage false) _ TooManyTasks (nat_le most_tasks (len old.owners.tasks)) (λ s. s)
        (λ h. when_by (Settled Storage false) _ NotOwned (gives_shared old.owners t gifts) (λ s. s) (first (Settled Storage false) _) (code_by (gives_shared old.owners t gifts) not_owned None h))
        (code_by (nat_le most_tasks (len old.owners.tasks)) too_many_tasks _ h))
        (code_by (is_active old.owners name) task_in_use _ h)

  return_cases : now.Returns old t answer new → Returns old t answer new
  return_cases = by_when (Settled Storage false) _ ActiveSubtask (has_subtask old.owners t) (λ s. s) (last (Settled Storage false) _)

  cases_return : Returns old t answer new → now.Returns old t answer new
  cases_return = when_by (Settled Storage false) _ ActiveSubtask (has_subtask old.owners t) (λ s. s) (first (Settled Storage false) _)

  access_cases : (allowed : Bool) (done : Type 0) → now.Accesses old t allowed done answer new → Accesses old t allowed done answer new
  access_cases allowed done = by_when (Settled Storage false) done NoAccess (not allowed) (λ s. s) (last (Settled Storage false) done)

  cases_access : (allowed : Bool) (done : Type 0) → Accesses old t allowed done answer new → now.Accesses old t allowed done answer new
  cases_access allowed done = when_by (Settled Storage false) done NoAccess (not allowed) (λ s. s) (first (Settled Storage false) done)

  abend_cases : (n : ℕ) → now.Tries old t Storage false (abend_causes n) ⊥ answer new → Abends old t (User n) answer new
  abend_cases n (inl (r, inl h, s)) = subst (Settled Storage false) h.1 s
  abend_cases n (inl (r, inr h, s)) = true_false h.0
  abend_cases n (inr h) = absurd h.1

  cases_abend : (n : ℕ) → Abends old t (User n) answer new → now.Tries old t Storage false (abend_causes n) ⊥ answer new
  cases_abend n a = inl (Asked n, inl (refl, refl), a)

  named : {X : Type 0} (v : Option X) (P : Type 0) (Q R : X → Type 0) → ((x : X) → Q x → R x) → MatchOption v P Q → MatchOption v P R
  named None P Q R f h = h
  named (Some x) P Q R f h = f x h

  pub ask_cases : (a : SourceRequest) → now.Asks old t a answer new → Asks old t a answer new
  ask_cases (written.Obtain form n ask variable area) h = obtain_cases form n (ask.most ∷ []) (area ∷ []) (grant_answer (written.Obtain form n ask variable area) (place_at 0 (round8 ask.most))) h
  ask_cases (written.ObtainList form n lengths start areas) h = obtain_cases form n lengths areas Rc0 h
  ask_cases (written.Release form n location len) h = named (spots_of old (location ∷ []) (len ∷ [])) _ _ _ (λ qs. release_cases form n qs) h
  ask_cases (written.ReleaseArea form n area) h = named (area_of old area) _ _ _ (λ q. release_cases form n (q ∷ [])) h
  ask_cases (written.ReleaseList form n locations lengths) h = named (spots_of old locations lengths) _ _ _ (λ qs. release_cases form n qs) h
  ask_cases (written.ReleaseWhole form n) h = empty_cases form n h
  ask_cases (written.Build pool n size primary secondary loc) h = h
  ask_cases (written.Get pool conditional cell) h = h
  ask_cases (written.Free pool cell) h = h
  ask_cases (written.Delete pool) h = h
  ask_cases (written.Attach name gifts residence) h = attach_cases name gifts residence h
  ask_cases written.Return h = return_cases h
  ask_cases (written.Abend n) h = abend_cases n h
  ask_cases (written.Show location n) h = named (spot_of old location n) _ _ _ (λ q. access_cases _ _) h
  ask_cases (written.Put location bytes) h = named (spot_of old location (length bytes)) _ _ _ (λ q. access_cases _ _) h
  ask_cases (written.Move to from n) h = named (spot_of old to n) _ _ _ (λ q. named (spot_of old from n) _ _ _ (λ r. access_cases _ _)) h

  pub cases_ask : (a : SourceRequest) → Asks old t a answer new → now.Asks old t a answer new
  cases_ask (written.Obtain form n ask variable area) h = cases_obtain form n (ask.most ∷ []) (area ∷ []) (grant_answer (written.Obtain form n ask variable area) (place_at 0 (round8 ask.most))) h
  cases_ask (written.ObtainList form n lengths start areas) h = cases_obtain form n lengths areas Rc0 h
  cases_ask (written.Release form n location len) h = named (spots_of old (location ∷ []) (len ∷ [])) _ _ _ (λ qs. cases_release form n qs) h
  cases_ask (written.ReleaseArea form n area) h = named (area_of old area) _ _ _ (λ q. cases_release form n (q ∷ [])) h
  cases_ask (written.ReleaseList form n locations lengths) h = named (spots_of old locations lengths) _ _ _ (λ qs. cases_release form n qs) h
  cases_ask (written.ReleaseWhole form n) h = cases_empty form n h
  cases_ask (written.Build pool n size primary secondary loc) h = h
  cases_ask (written.Get pool conditional cell) h = h
  cases_ask (written.Free pool cell) h = h
  cases_ask (written.Delete pool) h = h
  cases_ask (written.Attach name gifts residence) h = cases_attach name gifts residence h
  cases_ask written.Return h = cases_return h
  cases_ask (written.Abend n) h = cases_abend n h
  cases_ask (written.Show location n) h = named (spot_of old location n) _ _ _ (λ q. cases_access _ _) h
  cases_ask (written.Put location bytes) h = named (spot_of old location (length bytes)) _ _ _ (λ q. cases_access _ _) h
  cases_ask (written.Move to from n) h = named (spot_of old to n) _ _ _ (λ q. named (spot_of old from n) _ _ _ (λ r. cases_access _ _)) h
