-- The picture where areas are granted.
use Rattle.std.proofs.Common.{◌≡◌, ℕ, ◌==◌, ◌&&◌, Bool, true, false, cond, List, [], ◌∷◌, ◌++◌, length, Option, Some, option_map, refl, sym, ap, ◌∙◌, subst, arith}
use Rattle.std.specs.List.{list_any}
use Rattle.std.specs.Option.{option_and_then}
use Rattle.std.specs.FinMap.{FinMap, get, insert, get-insert}
use Rattle.std.proofs.lemmas.Bool.{or_parts}
use Rattle.mvs_model.specs.declared.name.Name.{Name}
use Rattle.mvs_model.specs.Changes.{GrantTo, ListGrant}
use Rattle.mvs_model.specs.Job.{JobValue}
use Rattle.mvs_model.specs.Name.{name_cmp, same_name}
use Rattle.mvs_model.specs.Owners.{Enters, Owners, SubpoolOf, entry}
use Rattle.mvs_model.specs.Place.{PlaceValue}
use Rattle.mvs_model.specs.Reading.{is_twice}
use Rattle.mvs_model.specs.Resolving.{all_set}
use Rattle.mvs_model.specs.State.{State}
use Rattle.mvs_model.specs.Storage.{covers, has_address}
use Rattle.mvs_model.specs.Want.{WantValue}
use Rattle.mvs_laws.proofs.Kept.{enters_tasks}
use Rattle.mvs_model.proofs.Orders.{name_cmp_total, same_name_self}
use Rattle.request_forms.specs.Facts.{listed}
use Rattle.request_forms.specs.SubpoolLabels.{resolved_owner}
use Rattle.page.specs.declared.change.Change.{Change}
use Rattle.page.specs.declared.change.Change.TheVariants as change
use Rattle.page.specs.Changes.{area_change, area_changes}
use Rattle.page.specs.Picture.{Both, IsDrawn, IsMark, Label, Means, Picture, ShowsBy, changed, replayed_all, with_area, with_name}
use Rattle.page.proofs.Drawing.{both_changed, both_weaker, bytes_set, marks_stay, pools_stay, same_shown}
use Rattle.page.proofs.Labels.{enters_stay, entered, enters_had, entered_table}
use Rattle.page.proofs.Numbered.{Numbered}

-- the tasks and what they have where one enters a subpool
module _ (old new : Owners) (t : Name) (number s : ℕ) (of : SubpoolOf old t number s) (enters : Enters old t number s new) (k : Numbered new) (l : Label) (m : Means new l s) where
  pub entries_shown : (f : Name → ℕ → Option Label) → ((u : Name) (n : ℕ) → Both (Means old) (f u n) (entry old u n)) → (u : Name) (n : ℕ) → Both (Means new) (cond (same_name u l.owner && (n == l.number)) (Some l) (f u n)) (entry new u n)
  entries_shown f all u n = subst (Both (Means new) _) (sym (entered_table old t number s new of enters k l m u n)) (at (same_name u l.owner && (n == l.number))) where
    at : (c : Bool) → Both (Means new) (cond c (Some l) (f u n)) (cond c (Some s) (entry old u n))
    at true = m
    at false = both_weaker (Means old) (Means new) (enters_stay old t number s new of enters) (f u n) (entry old u n) (all u n)

-- a name that is set
pub set_shown : (f : Name → Option PlaceValue) (names : FinMap name_cmp PlaceValue) (name : Name) (place : PlaceValue) → ((n : Name) → f n ≡ get names n) → (n : Name) → changed f (λ n. same_name n name) (Some place) n ≡ get (insert names name place) n
set_shown f names name place all n = ap (cond (same_name n name) (Some place)) (all n) ∙ sym (get-insert name_cmp_total names name place n)

-- one area
pub grant_shown : (old new : JobValue) (t area : Name) (number : ℕ) (want : WantValue) (place : PlaceValue) (g : GrantTo old.state t number want place new.state) (l : Label) (p : Picture)
    → Numbered new.state.owners → Means new.state.owners l g.subpool → new.names ≡ insert old.names area place
    → ShowsBy (Means old.state.owners) p old → ShowsBy (Means new.state.owners) (with_name area place (with_area place l p)) new
grant_shown old new t area number want place g l p k m names shows = record {
  regions = shows.regions ∙ sym g.regions;
  held = both_changed (IsMark (Means new.state.owners)) p.held (get old.state.held) (get new.state.held) (covers place) _ _ (record { label = m; pooled = refl }) g.held
      (λ d. marks_stay (Means old.state.owners) (Means new.state.owners) stay (p.held d) (get old.state.held d) (shows.held d));
  bytes = bytes_set p.bytes (get old.state.bytes) (get new.state.bytes) shows.bytes (has_address place) (λ a. p.regions.fill) (λ a. Some old.state.regions.fill) g.bytes filled;
  tasks = λ x. shows.tasks x ∙ sym (ap (λ f. get f x) (enters_tasks old.state.owners t number g.subpool new.state.owners g.owners));
  subpools = entries_shown old.state.owners new.state.owners t number g.subpool g.is_subpool g.owners k l m p.subpools shows.subpools;
  names = λ n. set_shown p.names old.names area place shows.names n ∙ sym (ap (λ f. get f n) names);
  pools = λ n. subst (Both (IsDrawn (Means new.state.owners)) (p.pools n)) (sym (ap (λ f. get f n) g.pools)) (pools_stay (Means old.state.owners) (Means new.state.owners) stay (p.pools n) (get old.state.pools n) (shows.pools n));
} where
  stay : (l : Label) (s : ℕ) → Means old.state.owners l s → Means new.state.owners l s
  stay = enters_stay old.state.owners t number g.subpool new.state.owners g.is_subpool g.owners

  -- each byte of the area is the fill byte
  filled : (a b : ℕ) → has_address place a ≡ true → get new.state.bytes a ≡ Some b → p.regions.fill ≡ b
  filled a b here is =
      let fill : Some old.state.regions.fill ≡ Some b = sym (g.bytes a ∙ ap (λ c. cond c (Some old.state.regions.fill) (get old.state.bytes a)) here) ∙ is in
      ap (λ r. r.fill) shows.regions ∙ (let same : old.state.regions.fill ≡ b = cc in same)

-- ---- areas of a list

-- a name that is not among them is as before
set_else : (areas : List Name) (ps : List PlaceValue) (names : FinMap name_cmp PlaceValue) (x : Name) → list_any (same_name x) areas ≡ false → get (all_set names areas ps) x ≡ get names x
set_else [] ps names x e = refl
set_else (area ∷ areas) [] names x e = refl
set_else (area ∷ areas) (p ∷ ps) names x e =
    let k = or_parts (same_name x area) (list_any (same_name x) areas) e in
    set_else areas ps (insert names area p) x k.1 ∙ get-insert name_cmp_total names area p x ∙ ap (λ b. cond b (Some p) (get names x)) k.0

-- a name has the place that it is set to
pub set_here : (names : FinMap name_cmp PlaceValue) (area : Name) (p : PlaceValue) → get (all_set names (area ∷ []) (p ∷ [])) area ≡ Some p
set_here names area p = get-insert name_cmp_total names area p area ∙ ap (λ b. cond b (Some p) (get names area)) (same_name_self area)

set_first : (area : Name) (areas : List Name) (p : PlaceValue) (ps : List PlaceValue) (names : FinMap name_cmp PlaceValue) → list_any (same_name area) areas ≡ false → get (all_set names (area ∷ areas) (p ∷ ps)) area ≡ Some p
set_first area areas p ps names e = set_else areas ps (insert names area p) area e ∙ set_here names area p

-- the change of an area
pub area_of_grant : (new : JobValue) (t area : Name) (number : ℕ) (l : Label) (p : PlaceValue) → resolved_owner new.state.owners t number ≡ Some (l.number, l.owner) → get new.names area ≡ Some p → area_change new t number area ≡ Some (change.Take p l.number l.owner area)
area_of_grant new t area number l p label place =
    ap (option_and_then (λ p. option_map (λ l. change.Take p l.0 l.1 area) (resolved_owner new.state.owners t number))) place
    ∙ ap (option_map (λ l. change.Take p l.0 l.1 area)) label

-- no grant after one makes a subpool
pub owners_same : (t : Name) (number s : ℕ) (wants : List WantValue) (ps : List PlaceValue) (mid new : State) → entry mid.owners t number ≡ Some s → ListGrant mid t number wants ps new → new.owners ≡ mid.owners
owners_same t number s [] [] mid new is h = ap (λ st. st.owners) h
owners_same t number s [] (p ∷ ps) mid new is h = absurd h
owners_same t number s (want ∷ wants) [] mid new is h = absurd h
owners_same t number s (want ∷ wants) (p ∷ ps) mid new is h =
    let same : h.0.owners ≡ mid.owners = enters_had mid.owners t number h.1.subpool h.0.owners s is h.1.owners in
    owners_same t number s wants ps h.0 new (ap (λ o. entry o t number) same ∙ is) h.2 ∙ same

module _ (carries : Change → List ℕ) (new : JobValue) (t u : Name) (number s : ℕ) (l : Label) (k : Numbered new.state.owners) (m : Means new.state.owners l s) (here : entry new.state.owners t number ≡ Some s) (changes_are : resolved_owner new.state.owners u number ≡ Some (l.number, l.owner)) where
  pub areas_shown : (wants : List WantValue) (ps : List PlaceValue) (areas : List Name) (old : JobValue) (p : Picture) → ListGrant old.state t number wants ps new.state → length areas ≡ length ps → is_twice same_name areas ≡ false
      → new.names ≡ all_set old.names areas ps → ShowsBy (Means old.state.owners) p old → ShowsBy (Means new.state.owners) (replayed_all carries p (area_changes new u number areas)) new
  areas_shown [] [] [] old p h size once names shows = same_shown old new p h names shows
  areas_shown [] [] (area ∷ areas) old p h size once names shows = absurd (omega (arith, size))
  areas_shown [] (q ∷ ps) areas old p h size once names shows = absurd h
  areas_shown (want ∷ wants) [] areas old p h size once names shows = absurd h
  areas_shown (want ∷ wants) (q ∷ ps) [] old p h size once names shows = absurd (omega (arith, size))
  areas_shown (want ∷ wants) (q ∷ ps) (area ∷ areas) old p h size once names shows =
      let apart = or_parts (list_any (same_name area) areas) (is_twice same_name areas) once in
      let g = h.1 in
      let entry_is = entered old.state.owners t number g.subpool h.0.owners g.is_subpool g.owners in
      let owners : new.state.owners ≡ h.0.owners = owners_same t number g.subpool wants ps h.0 new.state entry_is h.2 in
      let subpool : Some s ≡ Some g.subpool = sym here ∙ ap (λ o. entry o t number) owners ∙ entry_is in
      let subpool_is : s ≡ g.subpool = cc in
      let mid : JobValue = record { state = h.0; names = insert old.names area q; abended = old.abended; former = old.former } in
      let place : get new.names area ≡ Some q = ap (λ f. get f area) names ∙ set_first area areas q ps old.names apart.0 in
      let one = grant_shown old mid t area number want q g l p (subst Numbered owners k) (subst (λ r. Means h.0.owners l r) subpool_is (subst (λ o. Means o l s) owners m)) refl shows in
      subst (λ o. ShowsBy (Means new.state.owners) (replayed_all carries p (listed o ++ area_changes new u number areas)) new) (sym (area_of_grant new u area number l q changes_are place))
      (areas_shown wants ps areas mid (with_name area q (with_area q l p)) h.2 (omega (arith, size)) apart.1 names one)
