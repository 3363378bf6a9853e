-- The picture where requests for cell pools are made.
use Rattle.std.proofs.Common.{◌≡◌, ℕ, ◌-◌, inl, inr, not, Bool, true, false, cond, List, [], ◌∷◌, ◌++◌, length, Option, Some, None, option_map, refl, sym, ap, ◌∙◌, subst, nat_cmp, nat_le}
use Rattle.std.specs.List.{slice_get}
use Rattle.std.specs.Option.{option_and_then}
use Rattle.std.specs.FinMap.{contains_key, get, get-insert, insert, len}
use Rattle.std.specs.FinSet as set
use Rattle.mvs_model.specs.declared.line.SourceRequest.{SourceRequest}
use Rattle.mvs_model.specs.declared.line.SourceRequest.TheVariants as written
use Rattle.mvs_model.specs.declared.name.Name.{Name}
use Rattle.mvs_model.specs.declared.request.Reply.TheVariants.{Cell, NoCell, Rc0}
use Rattle.mvs_model.specs.declared.request.Request.{Request}
use Rattle.mvs_model.specs.declared.request.Request.TheVariants as request
use Rattle.mvs_model.specs.declared.code.Family.TheVariants.{Located}
use Rattle.mvs_model.specs.declared.want.Loc.{Loc}
use Rattle.mvs_model.specs.Answers.{Answer}
use Rattle.mvs_model.specs.Changes.{Extends, TakesCell}
use Rattle.mvs_model.specs.Changes as model
use Rattle.mvs_model.specs.Codes.{bad_subpool, no_such_cell, no_such_pool, pool_in_use, short, too_many_pools}
use Rattle.mvs_model.specs.Finite.{Changes}
use Rattle.mvs_model.specs.Job.{JobValue}
use Rattle.mvs_model.specs.Name.{same_name}
use Rattle.mvs_model.specs.Owners.{Enters, Owners, SubpoolOf, entry, is_active, effective_task}
use Rattle.mvs_model.specs.Place.{PlaceValue}
use Rattle.mvs_model.specs.Pools.{Part, Pool, cell_at}
use Rattle.mvs_model.specs.Replies.{answer_of}
use Rattle.mvs_model.specs.Resolving.{all_set, places_in}
use Rattle.mvs_model.specs.Runs.{Any, Makes}
use Rattle.mvs_model.specs.State.{State}
use Rattle.mvs_model.proofs.ByCase.{DeleteStep, FreeStep, GetStep}
use Rattle.mvs_model.specs.Requests.{GetsMore, Plan, is_invalid, new_pool, residence_of}
use Rattle.mvs_model.specs.Want.{side_of}
use Rattle.mvs_laws.proofs.Kept.{enters_tasks}
use Rattle.mvs_model.proofs.Orders.{name_cmp_total, same_name_self}
use Rattle.mvs_model.proofs.Tests.{by_test}
use Rattle.request_forms.specs.Facts.{listed}
use Rattle.page.specs.declared.change.Change.{Change}
use Rattle.page.specs.declared.change.Change.TheVariants as change
use Rattle.page.specs.Changes.{answer_changes, last_part, part_change}
use Rattle.page.specs.Picture.{Both, IsDrawn, IsMark, Label, Means, Picture, ShowsBy, filled, replayed, replayed_all, with_cell, with_name, with_new_pool, with_pool}
use Rattle.page.proofs.Drawing.{bytes_same, marks_stay, pools_stay}
use Rattle.page.proofs.DrawnAnswers.{IsKept, Shown, abends_shown, act_shown, done_shown, label_of_effective, names_same, refuses_shown}
use Rattle.page.proofs.DrawnGifts.{replayed_both}
use Rattle.page.proofs.DrawnGrants.{entries_shown, set_here, set_shown}
use Rattle.page.proofs.DrawnPools.{drawn_there, dropped_shown, given_shown, last_of, no_part_there, part_drawn, part_shown, put_shown, taken_shown}
use Rattle.page.proofs.Labels.{entered, enters_stay}
use Rattle.page.proofs.Numbered.{Numbered}

-- ---- a pool is built

module _ (old mid : JobValue) (t name : Name) (number s : ℕ) (plan : Plan) (of : SubpoolOf old.state.owners t number s) (enters : Enters old.state.owners t number s mid.state.owners) (k : Numbered mid.state.owners) (l : Label) (m : Means mid.state.owners l s)
    (regions : mid.state.regions ≡ old.state.regions) (bytes : mid.state.bytes ≡ old.state.bytes) (held : mid.state.held ≡ old.state.held) (pools : mid.state.pools ≡ insert old.state.pools name (new_pool s plan)) (names : mid.names ≡ old.names) where
  -- a pool that has no part yet
  pub new_pool_shown : (p : Picture) → ShowsBy (Means old.state.owners) p old → ShowsBy (Means mid.state.owners) (with_new_pool name l plan.cell_size p) mid
  new_pool_shown p shows = record {
    regions = shows.regions ∙ sym regions;
    held = λ d. subst (λ h. Both (IsMark (Means mid.state.owners)) (p.held d) (get h d)) (sym held) (marks_stay (Means old.state.owners) (Means mid.state.owners) stay (p.held d) (get old.state.held d) (shows.held d));
    bytes = bytes_same p.bytes (get old.state.bytes) (get mid.state.bytes) shows.bytes (λ a. ap (λ m. get m a) bytes);
    tasks = λ x. shows.tasks x ∙ sym (ap (λ f. get f x) (enters_tasks old.state.owners t number s mid.state.owners enters));
    subpools = entries_shown old.state.owners mid.state.owners t number s of enters k l m p.subpools shows.subpools;
    names = λ n. shows.names n ∙ sym (ap (λ f. get f n) names);
    pools = put_shown (Means mid.state.owners) p.pools (get old.state.pools) (get mid.state.pools) name _ _
        (record { label = m; cell_size = refl; parts = refl; taken = λ c. sym (set.contains-empty nat_cmp c) })
        (λ n. ap (λ f. get f n) pools ∙ get-insert name_cmp_total old.state.pools name (new_pool s plan) n)
        (λ n. pools_stay (Means old.state.owners) (Means mid.state.owners) stay (p.pools n) (get old.state.pools n) (shows.pools n));
  } where
    stay : (l : Label) (s : ℕ) → Means old.state.owners l s → Means mid.state.owners l s
    stay = enters_stay old.state.owners t number s mid.state.owners of enters

-- the change of the last part of a pool
part_at_hint : (new : JobValue) (name : Name) (pool : Pool) (v : Option Part) → get new.state.pools name ≡ Some pool → slice_get pool.parts (length pool.parts - 1) ≡ v → part_change new name ≡ option_map (λ part. change.Part name part.place part.count) v
part_at_hint new name pool v is last = ap (option_and_then (last_part name)) is ∙ ap (option_map (λ part. change.Part name part.place part.count)) last

-- the pools where one is put in the place of another that was put there
put_over : (old : State) (name : Name) (pool : Pool) (v : Option Pool) (new : Name → Option Pool) → Changes (get old.pools) (λ n. same_name n name) v new → Changes (get (insert old.pools name pool)) (λ n. same_name n name) v new
put_over old name pool v new changes n = changes n ∙ at (same_name n name) refl where
  at : (b : Bool) → same_name n name ≡ b → cond b v (get old.pools n) ≡ cond b v (get (insert old.pools name pool) n)
  at true e = refl
  at false e = sym (get-insert name_cmp_total old.pools name pool n ∙ ap (λ b. cond b (Some pool) (get old.pools n)) e)

put_there : (old new : State) (name : Name) (pool : Pool) → Changes (get old.pools) (λ n. same_name n name) (Some pool) (get new.pools) → get new.pools name ≡ Some pool
put_there old new name pool changes = changes name ∙ ap (λ b. cond b (Some pool) (get old.pools name)) (same_name_self name)

-- a name that is set
named_shown : (old new : JobValue) (name : Name) (place : PlaceValue) (p : Picture) → new.state ≡ old.state → new.names ≡ insert old.names name place → ShowsBy (Means old.state.owners) p old → ShowsBy (Means new.state.owners) (with_name name place p) new
named_shown old new name place p e names shows = record {
  regions = shows.regions ∙ sym (ap (λ s. s.regions) e);
  held = λ d. subst (λ (s : State). Both (IsMark (Means s.owners)) (p.held d) (get s.held d)) (sym e) (shows.held d);
  bytes = bytes_same p.bytes (get old.state.bytes) (get new.state.bytes) shows.bytes (λ a. ap (λ s. get s.bytes a) e);
  tasks = λ t. shows.tasks t ∙ sym (ap (λ s. get s.owners.tasks t) e);
  subpools = λ t n. subst (λ (s : State). Both (Means s.owners) (p.subpools t n) (entry s.owners t n)) (sym e) (shows.subpools t n);
  names = λ n. set_shown p.names old.names name place shows.names n ∙ sym (ap (λ f. get f n) names);
  pools = λ n. subst (λ (s : State). Both (IsDrawn (Means s.owners)) (p.pools n) (get s.pools n)) (sym e) (shows.pools n);
}

module _ (carries : Change → List ℕ) (old new : JobValue) (t : Name) (said : Answer) (p : Picture) (shows : ShowsBy (Means old.state.owners) p old) (active : is_active old.state.owners t ≡ true) (before : IsKept old.state) (trailing : IsKept new.state) where
  abbrev S : SourceRequest → Answer → Type 0
  S a x = Shown carries old new t said p shows a x

  -- ---- BUILD

  module _ (name : Name) (number size primary secondary : ℕ) (loc : Loc) (m : Makes Any old t (written.Build name number size primary secondary loc) (request.Build name number size primary secondary loc) said new) where
    abbrev build : SourceRequest
    build = written.Build name number size primary secondary loc

    abbrev asked : Request
    asked = request.Build name number size primary secondary loc

    abbrev plan : Plan
    plan = record { cell_size = size; primary = primary; secondary = secondary; side = side_of loc (residence_of old.state.owners t) }

    built : is_invalid number ≡ false → m.reply ≡ Rc0 → (s : ℕ) → SubpoolOf old.state.owners (effective_task old.state.owners t number) number s
        → (q : PlaceValue) (o : Owners) → Enters old.state.owners (effective_task old.state.owners t number) number s o → Extends old.state name (new_pool s plan) primary q o new.state → S build said
    built valid is s of q o enters x =
        let k = effective_task old.state.owners t number in
        let mid : JobValue = record old { state = record old.state { owners = o; pools = insert old.state.pools name (new_pool s plan) } } in
        let l = label_of_effective carries old new t said p shows active before trailing number s (ap (λ o. o.tasks) x.owners_are ∙ enters_tasks old.state.owners k number s o enters) valid (ap (λ o. entry o k number) x.owners_are ∙ entered old.state.owners k number s o of enters) in
        let means : Means o l.0 s = subst (λ o. Means o l.0 s) x.owners_are l.2 in
        let begun = new_pool_shown old mid k name number s plan of enters (subst Numbered x.owners_are trailing.numbered) l.0 means refl refl refl refl refl p shows in
        let part : Part = record { place = q; count = primary } in
        let done : ShowsBy (Means new.state.owners) (replayed carries (with_new_pool name l.0 size p) (change.Part name q primary)) new =
        part_shown mid new name (new_pool s plan) primary q (with_new_pool name l.0 size p) x.regions x.bytes x.owners_are (names_same carries old new t said p shows build asked m (ap places_in is)) (record { label = l.0; cell_size = size; parts = []; taken = λ c. false })
        (ap (λ b. cond b (Some (record { label = l.0; cell_size = size; parts = []; taken = λ c. false })) (p.pools name)) (same_name_self name))
        (record { label = means; cell_size = refl; parts = refl; taken = λ c. sym (set.contains-empty nat_cmp c) }) refl x.held (put_over old.state name (new_pool s plan) _ (get new.state.pools) x.pools) begun in
        done_shown carries old new t said p shows build asked m Rc0 (change.Pool name l.0.number l.0.owner size ∷ change.Part name q primary ∷ []) is
        ((λ i. listed (option_map (λ l. change.Pool name l.0 l.1 size) (l.1 i)) ++ listed (part_at_hint new name (model.with_part (new_pool s plan) primary q) (Some part) (put_there old.state new.state name _ x.pools) refl i)))
        done

    pub build_shown : S build said
    build_shown = act_shown carries old new t said p shows build asked m active (λ h.
        by_test (is_invalid number) h (λ _ x. abends_shown carries old new t said p shows build asked m (bad_subpool Located true) x)
        (λ valid x. by_test (contains_key old.state.pools name) x (λ _ y. abends_shown carries old new t said p shows build asked m pool_in_use y)
        (λ _ y. by_test (nat_le 64 (len old.state.pools)) y (λ _ z. abends_shown carries old new t said p shows build asked m too_many_pools z) (λ _ z. elim z [
          | inl f ↦ abends_shown carries old new t said p shows build asked m (short Located) f.1
          | inr g ↦ let b = g.0 in built valid g.1 b.0 b.1 b.2.0 b.2.1 b.2.2 b.2.3
        ]))))

  -- ---- GET

  module _ (name : Name) (conditional : Bool) (cell : Name) (m : Makes Any old t (written.Get name conditional cell) (request.Get name conditional) said new) where
    abbrev get_cell : SourceRequest
    get_cell = written.Get name conditional cell

    abbrev wanted : Request
    wanted = request.Get name conditional

    -- the cell is taken, after a picture that shows the step with the part
    taken : (pool : Pool) (c : ℕ) (mid : State) (q : Picture) → m.reply ≡ Cell (cell_at pool c) → get mid.pools name ≡ Some pool → TakesCell mid name pool c new.state → ShowsBy (Means mid.owners) q (record old { state = mid })
        → replayed_all carries p (listed (part_change new name)) ≡ q → S get_cell said
    taken pool c mid q is there g drawn part =
        let names : new.names ≡ all_set old.names (cell ∷ []) (cell_at pool c ∷ []) = m.names ∙ ap (λ x. all_set old.names (cell ∷ []) (places_in x)) is in
        let place : get new.names cell ≡ Some (cell_at pool c) = ap (λ f. get f cell) names ∙ set_here old.names cell (cell_at pool c) in
        let one = taken_shown (record old { state = mid }) (record old { state = new.state }) name pool c q there g refl drawn in
        let two = named_shown (record old { state = new.state }) new cell (cell_at pool c) (filled (cell_at pool c) (with_pool name (option_map (with_cell c true) (q.pools name)) q)) refl names one in
        done_shown carries old new t said p shows get_cell wanted m (Cell (cell_at pool c)) (listed (part_change new name) ++ change.Cell name (cell_at pool c) cell ∷ []) is
        (ap (λ v. listed (part_change new name) ++ listed (option_map (λ p. change.Cell name p cell) v)) place)
        (subst (λ x. ShowsBy (Means new.state.owners) x new) (sym (replayed_both carries (listed (part_change new name)) (change.Cell name (cell_at pool c) cell ∷ []) p ∙ ap (λ x. replayed carries x (change.Cell name (cell_at pool c) cell)) part)) two)

    -- a part that is there
    old_part : (pool : Pool) (c : ℕ) → get old.state.pools name ≡ Some pool → get new.state.pools name ≡ Some (record pool { taken = set.insert pool.taken c }) → replayed_all carries p (listed (part_change new name)) ≡ p
    old_part pool c is now = at (slice_get pool.parts (length pool.parts - 1)) refl where
      at : (v : Option Part) → slice_get pool.parts (length pool.parts - 1) ≡ v → replayed_all carries p (listed (part_change new name)) ≡ p
      at None e = ap (λ v. replayed_all carries p (listed v)) (part_at_hint new name (record pool { taken = set.insert pool.taken c }) None now e)
      at (Some part) e =
          let d = drawn_there (Means old.state.owners) (p.pools name) (get old.state.pools name) pool is (shows.pools name) in
          ap (λ v. replayed_all carries p (listed v)) (part_at_hint new name (record pool { taken = set.insert pool.taken c }) (Some part) now e)
          ∙ part_drawn (Means old.state.owners) name pool part.place part.count p d.0 d.1 d.2 (length pool.parts - 1) e

    -- a part more
    more : (pool : Pool) → get old.state.pools name ≡ Some pool → GetsMore old.state name pool m.reply new.state → S get_cell said
    more pool is g =
        let x = g.2 in
        let c = g.3.0 in
        let with_it : Pool = model.with_part pool pool.secondary g.0 in
        let there = put_there old.state g.1 name with_it x.pools in
        let d = drawn_there (Means old.state.owners) (p.pools name) (get old.state.pools name) pool is (shows.pools name) in
        let fresh = no_part_there old.state name pool pool.secondary g.0 d.0 (Means old.state.owners) before.well.apart is x.chosen d.2 in
        let grown = part_shown old (record old { state = g.1 }) name pool pool.secondary g.0 p x.regions x.bytes x.owners_are refl d.0 d.1 d.2 fresh x.held x.pools shows in
        taken with_it c g.1 (replayed carries p (change.Part name g.0 pool.secondary)) g.3.2.1 there g.3.2.0 grown
        (ap (λ v. replayed_all carries p (listed v)) (part_at_hint new name (record with_it { taken = set.insert pool.taken c }) (Some (record { place = g.0; count = pool.secondary })) (put_there g.1 new.state name _ g.3.2.0.pools) (last_of pool.parts (record { place = g.0; count = pool.secondary }))))

    got : (o : Option Pool) → get old.state.pools name ≡ o → GetStep old.state t name conditional o m.reply new.state → S get_cell said
    got None e h = abends_shown carries old new t said p shows get_cell wanted m no_such_pool h
    got (Some pool) e (inl g) = taken pool g.0 old.state p g.2.1 e g.2.0 shows (old_part pool g.0 e (put_there old.state new.state name _ g.2.0.pools))
    got (Some pool) e (inr f) = by_test conditional f.1 (λ _ x. refuses_shown carries old new t said p shows get_cell wanted m NoCell refl refl x) (λ _ x. elim x [
      | inl h ↦ abends_shown carries old new t said p shows get_cell wanted m (short Located) h.1
      | inr h ↦ more pool e h
    ])

    pub get_shown : S get_cell said
    get_shown = act_shown carries old new t said p shows get_cell wanted m active (λ h. got (get old.state.pools name) refl h)

  -- ---- FREE and DELETE

  module _ (a : SourceRequest) (name : Name) (c : ℕ) (m : Makes Any old t a (request.Free name c) said new) (changes_are : new.names ≡ old.names → answer_changes t a (answer_of old.state a (request.Free name c) Rc0) new ≡ change.Back name c ∷ []) where
    freed : (o : Option Pool) → get old.state.pools name ≡ o → FreeStep old.state t name c o m.reply new.state → S a said
    freed None e h = abends_shown carries old new t said p shows a (request.Free name c) m no_such_pool h
    freed (Some pool) e h = by_test (not (set.contains pool.taken c)) h (λ _ x. abends_shown carries old new t said p shows a (request.Free name c) m no_such_cell x) (λ _ x.
        let names = names_same carries old new t said p shows a (request.Free name c) m (ap places_in x.0) in
        done_shown carries old new t said p shows a (request.Free name c) m Rc0 (change.Back name c ∷ []) x.0 (changes_are names) (given_shown old new name pool c p e x.1 names shows))

    pub free_shown : S a said
    free_shown = act_shown carries old new t said p shows a (request.Free name c) m active (λ h. freed (get old.state.pools name) refl h)

  module _ (name : Name) (m : Makes Any old t (written.Delete name) (request.Delete name) said new) where
    deleted : (o : Option Pool) → get old.state.pools name ≡ o → DeleteStep old.state t name o m.reply new.state → S (written.Delete name) said
    deleted None e h = abends_shown carries old new t said p shows (written.Delete name) (request.Delete name) m no_such_pool h
    deleted (Some pool) e h =
        done_shown carries old new t said p shows (written.Delete name) (request.Delete name) m Rc0 (change.Delete name ∷ []) h.0 refl (dropped_shown old new name pool p e h.1 (names_same carries old new t said p shows (written.Delete name) (request.Delete name) m (ap places_in h.0)) shows)

    pub delete_shown : S (written.Delete name) said
    delete_shown = act_shown carries old new t said p shows (written.Delete name) (request.Delete name) m active (λ h. deleted (get old.state.pools name) refl h)
