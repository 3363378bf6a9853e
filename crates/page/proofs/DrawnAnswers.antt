-- The picture where a request is made: what all requests have in common, and the requests for storage.
use Rattle.std.proofs.Common.{◌≡◌, ℕ, suc, ◌==◌, ◌&&◌, inl, inr, not, Bool, true, false, cond, List, [], ◌∷◌, length, map, Option, Some, None, is_some, option_map, refl, sym, ap, ◌∙◌, subst, arith}
use Rattle.std.specs.List.{list_all, list_any}
use Rattle.std.specs.FinMap.{FinMap, contains_key, contains_key-keys, get, keys}
use Rattle.std.proofs.lemmas.Bool.{false_from_ne_true, not-false, not-true}
use Rattle.std.proofs.lemmas.Map.Views.{Contains-from_any}
use Rattle.mvs_model.proofs.StepCases.{step_cases}
use Rattle.mvs_model.specs.declared.code.Code.{Code}
use Rattle.mvs_model.specs.declared.code.Code.TheVariants.{User}
use Rattle.mvs_model.specs.declared.code.Form.{Form}
use Rattle.mvs_model.specs.declared.line.SourceRequest.{SourceRequest}
use Rattle.mvs_model.specs.declared.name.Name.{Name}
use Rattle.mvs_model.specs.declared.request.Reply.{Reply}
use Rattle.mvs_model.specs.declared.request.Request.{Request}
use Rattle.mvs_model.specs.declared.want.Residence.{Residence}
use Rattle.mvs_model.specs.declared.want.Side.TheVariants.{Below}
use Rattle.mvs_model.specs.declared.request.Reply.TheVariants.{Attached, Ended, Listed, Obtained, Rc0, Rc4}
use Rattle.mvs_model.specs.declared.line.SourceRequest.TheVariants as written
use Rattle.mvs_model.specs.declared.request.Request.TheVariants as request
use Rattle.mvs_model.specs.Answers.{Answer}
use Rattle.mvs_model.specs.Changes.{End, Frees, GrantTo, ListGrant}
use Rattle.mvs_model.specs.Codes.{active_subtask, bad_address, bad_subpool, family, is_conditional, not_held, short, whole_of_zero}
use Rattle.mvs_model.specs.Finite.{has}
use Rattle.mvs_model.specs.Gifts.{GiftsValue}
use Rattle.mvs_model.specs.Job.{JobValue}
use Rattle.mvs_model.specs.Name.{name_cmp, same_name}
use Rattle.mvs_model.specs.Owners.{Descends, Owners, entry, further, has_subtask, is_active, effective_task, subpool_meant, subtask}
use Rattle.mvs_model.proofs.ByCase.{attach_refusal}
use Rattle.mvs_model.specs.Place.{PlaceValue}
use Rattle.mvs_model.specs.Reading.{is_twice}
use Rattle.mvs_model.specs.Replies.{answer_of, grant_answer}
use Rattle.mvs_model.specs.Reports.{label_of}
use Rattle.mvs_model.specs.Resolving.{all_set, names_set, places_in}
use Rattle.mvs_model.specs.Runs.{Any, Makes}
use Rattle.mvs_model.specs.State.{State}
use Rattle.mvs_model.specs.Consequences.{Abends, Refuses}
use Rattle.mvs_model.proofs.ByCase.{Acts, AttachCase, Fails, MayRelease, ReleaseStep}
use Rattle.mvs_model.specs.Requests.{EmptiesEntry, is_invalid, on_doubleword, side_for, whole}
use Rattle.mvs_model.specs.Subpool.{is_subpool_number}
use Rattle.mvs_model.specs.Want.{AskValue, WantValue, fixed_want, want_of}
use Rattle.mvs_model.specs.WellFormed.{WellFormed}
use Rattle.mvs_model.proofs.Elements.{any_from}
use Rattle.mvs_laws.proofs.Kept.{enters_tasks}
use Rattle.mvs_model.proofs.Orders.{same_name_is, same_name_self}
use Rattle.mvs_model.proofs.Tests.{by_test, true_false}
use Rattle.request_forms.specs.Facts.{listed}
use Rattle.request_forms.specs.SubpoolLabels.{resolved_owner}
use Rattle.page.specs.declared.change.Change.{Change}
use Rattle.page.specs.declared.change.Change.TheVariants as change
use Rattle.page.specs.Changes.{answer_changes, area_change, area_changes, free_changes}
use Rattle.page.specs.Picture.{Label, Means, Picture, ShowsBy, replayed_all}
use Rattle.page.proofs.Drawing.{same_shown}
use Rattle.page.proofs.DrawnEnds.{abend_left, ends_shown, return_left}
use Rattle.page.proofs.DrawnGifts.{attach_shown}
use Rattle.page.proofs.DrawnGrants.{area_of_grant, areas_shown, grant_shown, owners_same, set_here}
use Rattle.page.proofs.DrawnReleases.{empties_shown, frees_shown}
use Rattle.page.proofs.Labels.{entered, keeper_same, meant}
use Rattle.page.proofs.Numbered.{Numbered}

-- What every state of a run keeps.
pub record IsKept (st : State) : Type 0 where
  pub well : WellFormed st
  pub numbered : Numbered st.owners

-- no name is set where there is no place
pub set_none : (names : FinMap name_cmp PlaceValue) (xs : List Name) → all_set names xs [] ≡ names
set_none names [] = refl
set_none names (x ∷ xs) = refl

either_none : {X : Type 0} (b : Bool) (o : Option X) → o ≡ None → cond b o None ≡ None
either_none true o e = e
either_none false o e = refl

-- a task with a descendant has a subtask
descends_child : (o : Owners) (t x : Name) → Descends o t x → has_subtask o t ≡ true
descends_child o t x (subtask h) =
    any_from (λ y. has (λ task. has (same_name t) task.mother) (get o.tasks y)) (keys o.tasks) x (Contains-from_any same_name_is x (keys o.tasks) (sym (contains_key-keys o.tasks x) ∙ ap is_some h.1))
    (ap (has (λ task. has (same_name t) task.mother)) h.1 ∙ ap (has (same_name t)) h.2 ∙ same_name_self t)
descends_child o t x (further {m} d h) = descends_child o t m d

-- with one that has none no other ends
alone : (st new : State) (t : Name) (e : End st t new) → has_subtask st.owners t ≡ false → (x : Name) → list_any (same_name x) e.fallen ≡ false
alone st new t e none x = false_from_ne_true (list_any (same_name x) e.fallen) (λ h.
    true_false (sym (descends_child st.owners t x ((e.is_fallen.descendants x).0 (Contains-from_any same_name_is x e.fallen h))) ∙ none))

module _ (carries : Change → List ℕ) (old new : JobValue) (t : Name) (said : Answer) (p : Picture) (shows : ShowsBy (Means old.state.owners) p old) where
  -- the picture after a request that is answered so shows the step
  abbrev pub Shown : SourceRequest → Answer → Type 0
  Shown a x = ShowsBy (Means new.state.owners) (replayed_all carries p (answer_changes t a x new)) new

  module _ (a : SourceRequest) (r : Request) (m : Makes Any old t a r said new) where
    pub names_same : places_in m.reply ≡ [] → new.names ≡ old.names
    names_same e = m.names ∙ ap (all_set old.names (names_set a)) e ∙ set_none old.names (names_set a)

    pub abends_shown : (code : Code) → Abends old.state t code m.reply new.state → Shown a said
    abends_shown code h = subst (Shown a) (sym (m.answer_is ∙ ap (answer_of old.state a r) h.1)) (ends_shown old new t h.0 (names_same (ap places_in h.1)) p _ (abend_left carries t h.0.fallen p) shows)

    pub refuses_shown : (reply : Reply) → places_in reply ≡ [] → answer_changes t a (answer_of old.state a r reply) new ≡ [] → Refuses old.state reply m.reply new.state → Shown a said
    refuses_shown reply none nothing h =
        subst (Shown a) (sym (m.answer_is ∙ ap (answer_of old.state a r) h.0)) (subst (λ cs. ShowsBy (Means new.state.owners) (replayed_all carries p cs) new) (sym nothing) (same_shown old new p h.1 (names_same (ap places_in h.0 ∙ none)) shows))

    pub fails_shown : (c : Bool) (code : Code) → Fails c old.state t code m.reply new.state → Shown a said
    fails_shown true code h = refuses_shown Rc4 refl refl h
    fails_shown false code h = abends_shown code h

    -- a reply that says that it was done
    pub done_shown : (reply : Reply) (cs : List Change) → m.reply ≡ reply → answer_changes t a (answer_of old.state a r reply) new ≡ cs → ShowsBy (Means new.state.owners) (replayed_all carries p cs) new → Shown a said
    done_shown reply cs is changes_are s = subst (Shown a) (sym (m.answer_is ∙ ap (answer_of old.state a r) is)) (subst (λ cs. ShowsBy (Means new.state.owners) (replayed_all carries p cs) new) (sym changes_are) s)

    -- what an active task does
    pub act_shown : is_active old.state.owners t ≡ true → (Acts old.state t r m.reply new.state → Shown a said) → Shown a said
    act_shown active f = by_test (not (is_active old.state.owners t)) (step_cases old.state t r m.reply new.state m.step) (λ e _. true_false (sym active ∙ not-true (is_active old.state.owners t) e)) (λ _ k. f k)

  module _ (active : is_active old.state.owners t ≡ true) (before : IsKept old.state) (trailing : IsKept new.state) where
    -- the label of the subpool that a task means by a number
    pub label_of_effective : (number s : ℕ) → new.state.owners.tasks ≡ old.state.owners.tasks → is_invalid number ≡ false → entry new.state.owners (effective_task old.state.owners t number) number ≡ Some s
        → (l : Label) × (resolved_owner new.state.owners t number ≡ Some (l.number, l.owner)) × Means new.state.owners l s
    label_of_effective number s tasks valid is =
        let l = meant new.state.owners t number s trailing.well.owners.owned trailing.numbered (ap (λ m. contains_key m t) tasks ∙ active) (not-false (is_subpool_number number) valid) ((λ i. entry new.state.owners (keeper_same old.state.owners new.state.owners t number tasks i) number) ∙ is) in
        (record { number = l.0.0; owner = l.0.1 }, l.1, l.2)

    -- one area
    module _ (form : Form) (number : ℕ) (ask : AskValue) (variable : Bool) (area : Name) (m : Makes Any old t (written.Obtain form number ask variable area) (request.Obtain form number ask) said new) where
      abbrev obtain : SourceRequest
      obtain = written.Obtain form number ask variable area

      changes_of_grant : (v : Bool) (q : PlaceValue) → answer_changes t obtain (grant_answer (written.Obtain form number ask v area) q) new ≡ listed (area_change new t number area)
      changes_of_grant true q = refl
      changes_of_grant false q = refl

      granted : is_invalid number ≡ false → (q : PlaceValue) → m.reply ≡ Obtained q → GrantTo old.state (effective_task old.state.owners t number) number (want_of ask (side_for old.state t form ask.loc)) q new.state → Shown obtain said
      granted valid q is g =
          let k = effective_task old.state.owners t number in
          let names : new.names ≡ all_set old.names (area ∷ []) (q ∷ []) = m.names ∙ ap (λ x. all_set old.names (area ∷ []) (places_in x)) is in
          let l = label_of_effective number g.subpool (enters_tasks old.state.owners k number g.subpool new.state.owners g.owners) valid (entered old.state.owners k number g.subpool new.state.owners g.is_subpool g.owners) in
          let place : get new.names area ≡ Some q = ap (λ f. get f area) names ∙ set_here old.names area q in
          done_shown obtain (request.Obtain form number ask) m (Obtained q) (listed (Some (change.Take q l.0.number l.0.owner area))) is (changes_of_grant variable q ∙ ap listed (area_of_grant new t area number l.0 q l.1 place))
          (grant_shown old new k area number (want_of ask (side_for old.state t form ask.loc)) q g l.0 p trailing.numbered l.2 names shows)

      pub obtain_shown : Shown obtain said
      obtain_shown = act_shown obtain (request.Obtain form number ask) m active (λ k.
          by_test (is_invalid number) k (λ _ x. abends_shown obtain (request.Obtain form number ask) m (bad_subpool (family form) true) x) (λ valid x. elim x [
            | inl f ↦ fails_shown obtain (request.Obtain form number ask) m (is_conditional form) (short (family form)) f.1
            | inr g ↦ granted valid g.0 g.1 g.2
          ]))

    -- a list
    module _ (form : Form) (number : ℕ) (lengths : List ℕ) (start : ℕ) (areas : List Name) (m : Makes Any old t (written.ObtainList form number lengths start areas) (request.ObtainList form number lengths start) said new)
        (size : length areas ≡ length lengths) (once : is_twice same_name areas ≡ false) where
      abbrev list : SourceRequest
      list = written.ObtainList form number lengths start areas

      abbrev asked : Request
      asked = request.ObtainList form number lengths start

      want : ℕ → WantValue
      want n = fixed_want n start Below

      -- there is a place for each length
      places : (t : Name) (ns : List ℕ) (ps : List PlaceValue) (st last : State) → ListGrant st t number (map want ns) ps last → length ps ≡ length ns
      places t [] [] st last h = refl
      places t [] (q ∷ ps) st last h = absurd h
      places t (n ∷ ns) [] st last h = absurd h
      places t (n ∷ ns) (q ∷ ps) st last h = ap suc (places t ns ps h.0 last h.2)

      areas_granted : is_invalid number ≡ false → (ns : List ℕ) (ps : List PlaceValue) → length areas ≡ length ps → new.names ≡ all_set old.names areas ps → ListGrant old.state (effective_task old.state.owners t number) number (map want ns) ps new.state
          → ShowsBy (Means new.state.owners) (replayed_all carries p (area_changes new t number areas)) new
      areas_granted valid [] [] same names h = none areas same names where
        none : (xs : List Name) → length xs ≡ 0 → new.names ≡ all_set old.names xs [] → ShowsBy (Means new.state.owners) (replayed_all carries p (area_changes new t number xs)) new
        none [] e n = same_shown old new p h n shows
        none (x ∷ xs) e n = absurd (omega (arith, e))
      areas_granted valid [] (q ∷ ps) same names h = absurd h
      areas_granted valid (n ∷ ns) [] same names h = absurd h
      areas_granted valid (n ∷ ns) (q ∷ ps) same names h =
          let k = effective_task old.state.owners t number in
          let g = h.1 in
          let here = entered old.state.owners k number g.subpool h.0.owners g.is_subpool g.owners in
          let owners : new.state.owners ≡ h.0.owners = owners_same k number g.subpool (map want ns) ps h.0 new.state here h.2 in
          let now : entry new.state.owners k number ≡ Some g.subpool = ap (λ o. entry o k number) owners ∙ here in
          let l = label_of_effective number g.subpool (ap (λ o. o.tasks) owners ∙ enters_tasks old.state.owners k number g.subpool h.0.owners g.owners) valid now in
          areas_shown carries new k t number g.subpool l.0 trailing.numbered l.2 now l.1 (want n ∷ map want ns) (q ∷ ps) areas old p h same once names shows

      granted_list : is_invalid number ≡ false → (ps : List PlaceValue) → m.reply ≡ Listed ps → ListGrant old.state (effective_task old.state.owners t number) number (map want lengths) ps new.state → Shown list said
      granted_list valid ps is g =
          let same : length areas ≡ length ps = size ∙ sym (places (effective_task old.state.owners t number) lengths ps old.state new.state g) in
          done_shown list asked m (Listed ps) (area_changes new t number areas) is refl (areas_granted valid lengths ps same (m.names ∙ ap (λ x. all_set old.names areas (places_in x)) is) g)

      pub obtain_list_shown : Shown list said
      unfolding want
      obtain_list_shown = act_shown list asked m active (λ k.
          by_test (is_invalid number) k (λ _ x. abends_shown list asked m (bad_subpool (family form) true) x) (λ valid x. elim x [
            | inl f ↦ fails_shown list asked m (is_conditional form) (short (family form)) f.1
            | inr g ↦ granted_list valid g.0 g.1 g.2
          ]))

    -- places that are released
    module _ (a : SourceRequest) (r : Request) (m : Makes Any old t a r said new) (form : Form) (number : ℕ) (ps : List PlaceValue) (changes_are : new.names ≡ old.names → answer_changes t a (answer_of old.state a r Rc0) new ≡ free_changes ps) where
      freed : (o : Option ℕ) → MayRelease old.state o (map whole ps) × (m.reply ≡ Rc0) × Frees old.state (map whole ps) new.state → list_all on_doubleword ps ≡ true → Shown a said
      freed o h whole =
          let names = names_same a r m (ap places_in h.1) in
          done_shown a r m Rc0 (free_changes ps) h.1 (changes_are names) (frees_shown carries old new ps p whole h.2 names shows)

      pub release_shown : (Acts old.state t r m.reply new.state → ReleaseStep old.state t form number ps m.reply new.state) → Shown a said
      release_shown step = act_shown a r m active (λ k.
          by_test (is_invalid number) (step k) (λ _ x. abends_shown a r m (bad_subpool (family form) false) x)
          (λ _ x. by_test (not (list_all on_doubleword ps)) x (λ _ y. abends_shown a r m (bad_address (family form)) y) (λ e y. elim y [
            | inl f ↦ fails_shown a r m (is_conditional form) (not_held (family form)) f.1
            | inr g ↦ freed (subpool_meant old.state.owners t number) g (not-false (list_all on_doubleword ps) e)
          ])))

    -- a whole subpool
    module _ (form : Form) (number : ℕ) (m : Makes Any old t (written.ReleaseWhole form number) (request.ReleaseWhole form number) said new) where
      abbrev all : SourceRequest
      all = written.ReleaseWhole form number

      abbrev all_asked : Request
      all_asked = request.ReleaseWhole form number

      emptied : is_invalid number ≡ false → (o : Option ℕ) → subpool_meant old.state.owners t number ≡ o → m.reply ≡ Rc0 → EmptiesEntry old.state o new.state → Shown all said
      emptied valid None none is h =
          let label : resolved_owner new.state.owners t number ≡ None = ap (λ st. resolved_owner st.owners t number) h ∙ ap (λ v. cond (is_subpool_number number && is_active old.state.owners t) (label_of old.state.owners v) None) none ∙ either_none (is_subpool_number number && is_active old.state.owners t) (label_of old.state.owners None) refl in
          done_shown all all_asked m Rc0 [] is (ap (λ v. listed (option_map (λ l. change.Empty l.0 l.1) v)) label) (same_shown old new p h (names_same all all_asked m (ap places_in is)) shows)
      emptied valid (Some s) some is h =
          let l = label_of_effective number s (ap (λ o. o.tasks) h.owners) valid (ap (λ o. entry o (effective_task old.state.owners t number) number) h.owners ∙ some) in
          done_shown all all_asked m Rc0 (change.Empty l.0.number l.0.owner ∷ []) is (ap (λ v. listed (option_map (λ l. change.Empty l.0 l.1) v)) l.1)
          (empties_shown old new l.0 s p before.numbered (subst (λ o. Means o l.0 s) h.owners l.2) h (names_same all all_asked m (ap places_in is)) shows)

      pub release_whole_shown : Shown all said
      release_whole_shown = act_shown all all_asked m active (λ k.
          by_test (is_invalid number) k (λ _ x. abends_shown all all_asked m (bad_subpool (family form) false) x)
          (λ valid x. by_test (number == 0) x (λ _ y. abends_shown all all_asked m whole_of_zero y) (λ _ y. emptied valid (subpool_meant old.state.owners t number) refl y.0 y.1)))

    -- a subtask
    module _ (name : Name) (gifts : GiftsValue) (residence : Residence) (m : Makes Any old t (written.Attach name gifts residence) (request.Attach name gifts residence) said new) where
      attached : (refusal : Option Code) → attach_refusal old.state.owners t name gifts ≡ refusal → AttachCase old.state t name gifts residence refusal m.reply new.state → Shown (written.Attach name gifts residence) said
      attached (Some code) e h = abends_shown (written.Attach name gifts residence) (request.Attach name gifts residence) m code h
      attached None e h =
          done_shown (written.Attach name gifts residence) (request.Attach name gifts residence) m Attached _ h.0 refl
          (attach_shown carries old new t name gifts residence h.1 before.well.owners.owned before.numbered active e trailing.well.owners.owned trailing.numbered (names_same (written.Attach name gifts residence) (request.Attach name gifts residence) m (ap places_in h.0)) p shows)

      pub attach_step_shown : Shown (written.Attach name gifts residence) said
      attach_step_shown = act_shown (written.Attach name gifts residence) (request.Attach name gifts residence) m active (λ k. attached (attach_refusal old.state.owners t name gifts) refl k)

    -- the task ends
    pub return_shown : Makes Any old t written.Return request.Return said new → Shown written.Return said
    return_shown m = act_shown written.Return request.Return m active (λ k.
        by_test (has_subtask old.state.owners t) k (λ _ x. abends_shown written.Return request.Return m active_subtask x)
        (λ none x. done_shown written.Return request.Return m Ended (change.Return t ∷ []) x.0 refl (ends_shown old new t x.1 (names_same written.Return request.Return m (ap places_in x.0)) p _ (return_left carries t x.1.fallen p (alone old.state new.state t x.1 none)) shows)))

    pub abend_shown : (n : ℕ) → Makes Any old t (written.Abend n) (request.Abend n) said new → Shown (written.Abend n) said
    abend_shown n m = act_shown (written.Abend n) (request.Abend n) m active (λ k. abends_shown (written.Abend n) (request.Abend n) m (User n) k)
