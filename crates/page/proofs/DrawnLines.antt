-- The picture after a line, and after all lines of a run.
use Rattle.std.proofs.Common.{◌≡◌, ℕ, zero, suc, ◌+◌, ◌-◌, ◌<◌, ◌≤◌, nat_le, nat_lt, arith, not, Bool, true, cond, List, [], ◌∷◌, length, Option, Some, None, option_map, unwrap_or, refl, sym, ap, ◌∙◌, subst}
use Rattle.std.specs.List.{slice_get}
use Rattle.std.specs.Option.{option_and_then}
use Rattle.std.specs.FinMap.{get}
use Rattle.std.proofs.lemmas.Bool.{and_parts, not-false}
use Rattle.std.proofs.lemmas.Bool.Decides.{nat_tests}
use Rattle.mvs_model.specs.declared.line.Statement.{Statement}
use Rattle.mvs_model.specs.declared.line.Statement.TheVariants as says
use Rattle.mvs_model.specs.declared.line.SourceRequest.{SourceRequest}
use Rattle.mvs_model.specs.declared.line.SourceRequest.TheVariants as written
use Rattle.mvs_model.specs.declared.name.Name.{Name}
use Rattle.mvs_model.specs.declared.request.Reply.TheVariants as reply
use Rattle.mvs_model.specs.declared.request.Request.{Request}
use Rattle.mvs_model.specs.declared.request.Request.TheVariants as request
use Rattle.mvs_model.specs.Answers.{Answer, Event, StepEnded, AnswerTo}
use Rattle.mvs_model.specs.Answers as answer
use Rattle.mvs_model.specs.Changes.{Writes}
use Rattle.mvs_model.specs.Codes.{no_access}
use Rattle.mvs_model.specs.Job.{JobValue}
use Rattle.mvs_model.specs.Owners.{entry, is_active}
use Rattle.mvs_model.specs.Place.{PlaceValue, place_at}
use Rattle.mvs_model.specs.Replies.{answer_of, bytes_at, where_answer}
use Rattle.mvs_model.specs.Requests.{all_granted}
use Rattle.mvs_model.specs.Resolving.{address_of, places_in, places_of, resolved}
use Rattle.mvs_model.specs.State.{State}
use Rattle.mvs_model.specs.Storage.{has_address}
use Rattle.mvs_model.specs.Runs.{Any, Asks, Does, Makes, AnswersTo, OnlyAnswers}
use Rattle.mvs_model.proofs.ByCase.{Accesses}
use Rattle.mvs_model.proofs.Tests.{by_test}
use Rattle.request_forms.specs.Facts.{listed}
use Rattle.page.specs.declared.change.Change.{Change}
use Rattle.page.specs.declared.change.Change.TheVariants as change
use Rattle.page.specs.Changes.{answer_changes, request_changes, statement_changes, where_changes}
use Rattle.page.specs.Lines.{carried, read_bytes}
use Rattle.page.specs.Picture.{Both, IsDrawn, IsMark, Means, Picture, ShowsBy, replayed_all}
use Rattle.page.specs.Picture as picture
use Rattle.page.proofs.AreasRead.{AreasFit}
use Rattle.page.proofs.Drawing.{bytes_set, same_shown}
use Rattle.page.proofs.DrawnAnswers.{IsKept, Shown, abend_shown, abends_shown, act_shown, attach_step_shown, done_shown, names_same, obtain_list_shown, obtain_shown, release_shown, release_whole_shown, return_shown}
use Rattle.page.proofs.DrawnPoolAnswers.{build_shown, delete_shown, free_shown, get_shown}

-- the bytes of a place, one by one
each_read : (st : State) (a n i : ℕ) → i < n → slice_get (bytes_at st a n) i ≡ Some (unwrap_or (get st.bytes (a + i)) 0)
unfolding bytes_at
each_read st a zero i l = absurd (omega (arith, l))
each_read st a (suc n) zero l = ap (λ x. Some (unwrap_or (get st.bytes x) 0)) (let e : a ≡ a + 0 = omega arith in e)
each_read st a (suc n) (suc i) l = each_read st (a + 1) n i (omega (arith, l)) ∙ ap (λ x. Some (unwrap_or (get st.bytes x) 0)) (let e : a + 1 + i ≡ a + suc i = omega arith in e)

-- bytes are written
writes_shown : (old new : JobValue) (q : PlaceValue) (value : ℕ → Option ℕ) (p : Picture) → all_granted old.state q ≡ true → Writes old.state q value new.state → new.names ≡ old.names
    → ShowsBy (Means old.state.owners) p old → ShowsBy (Means new.state.owners) (picture.written q (read_bytes new q) p) new
writes_shown old new q value p may w names shows = record {
  regions = shows.regions ∙ sym w.regions;
  held = λ d. subst (λ o. Both (IsMark (Means o)) (p.held d) (get new.state.held d)) (sym w.owners) (subst (λ m. Both (IsMark (Means old.state.owners)) (p.held d) (get m d)) (sym w.held) (shows.held d));
  bytes = bytes_set p.bytes (get old.state.bytes) (get new.state.bytes) shows.bytes (has_address q) (λ a. unwrap_or (slice_get (read_bytes new q) (a - q.addr)) 0) value w.bytes known;
  tasks = λ t. shows.tasks t ∙ sym (ap (λ o. get o.tasks t) w.owners);
  subpools = λ t n. subst (λ o. Both (Means o) (p.subpools t n) (entry o t n)) (sym w.owners) (shows.subpools t n);
  names = λ n. shows.names n ∙ sym (ap (λ m. get m n) names);
  pools = λ n. subst (λ o. Both (IsDrawn (Means o)) (p.pools n) (get new.state.pools n)) (sym w.owners) (subst (λ m. Both (IsDrawn (Means old.state.owners)) (p.pools n) (get m n)) (sym w.pools) (shows.pools n));
} where
  -- the line carries the bytes of the place
  all_there : read_bytes new q ≡ bytes_at new.state q.addr q.len
  all_there =
      let same : all_granted new.state q ≡ all_granted old.state q = λ i. all_granted (record new.state { held = w.held i; pools = w.pools i }) q in
      ap (λ c. cond c (bytes_at new.state q.addr q.len) []) (same ∙ may)

  known : (a b : ℕ) → has_address q a ≡ true → get new.state.bytes a ≡ Some b → unwrap_or (slice_get (read_bytes new q) (a - q.addr)) 0 ≡ b
  known a b here is =
      let parts = and_parts (nat_le q.addr a) (nat_lt a (q.addr + q.len)) here in
      let low : q.addr ≤ a = grind (arith, nat_tests) in
      let high : a < q.addr + q.len = grind (arith, nat_tests) in
      let at : q.addr + (a - q.addr) ≡ a = omega arith in
      ap (λ xs. unwrap_or (slice_get xs (a - q.addr)) 0) all_there
      ∙ ap (λ v. unwrap_or v 0) (each_read new.state q.addr q.len (a - q.addr) (omega arith))
      ∙ ap (λ v. unwrap_or v 0) (ap (get new.state.bytes) at ∙ is)

module _ (old new : JobValue) (t : Name) (said : Answer) (p : Picture) (shows : ShowsBy (Means old.state.owners) p old) where
  -- the bytes that the lines of change carry
  abbrev carries : Change → List ℕ
  carries = carried (Some new)

  -- nothing changes
  tells_shown : (cs : List Change) → new ≡ old → replayed_all carries p cs ≡ p → ShowsBy (Means new.state.owners) (replayed_all carries p cs) new
  tells_shown cs e same = subst (λ q. ShowsBy (Means new.state.owners) q new) (sym same) (same_shown old new p (ap (λ j. j.state) e) (ap (λ j. j.names) e) shows)

  -- a name is not set
  no_name : (a : SourceRequest) → OnlyAnswers old answer.NoName said new → Shown carries old new t said p shows a said
  no_name a h = subst (λ x. Shown carries old new t said p shows a x) (sym h.0) (tells_shown [] h.1 refl)

  module _ (active : is_active old.state.owners t ≡ true) (before : IsKept old.state) (trailing : IsKept new.state) where
    -- a request reads or writes bytes
    accesses_shown : (a : SourceRequest) (r : Request) (m : Makes Any old t a r said new) (allowed : Bool) (done : Type 0) (cs : List Change)
        → (new.names ≡ old.names → answer_changes t a (answer_of old.state a r reply.Done) new ≡ cs) → (allowed ≡ true → done → new.names ≡ old.names → ShowsBy (Means new.state.owners) (replayed_all carries p cs) new)
        → Accesses old.state t allowed done m.reply new.state → Shown carries old new t said p shows a said
    accesses_shown a r m allowed done cs changes_are shown h =
        by_test (not allowed) h (λ _ x. abends_shown carries old new t said p shows a r m no_access x) (λ e x.
        let names = names_same carries old new t said p shows a r m (ap places_in x.0) in
        done_shown carries old new t said p shows a r m reply.Done cs x.0 (changes_are names) (shown (not-false allowed e) x.1 names))

    asks_shown : (a : SourceRequest) → AreasFit (says.Request a) → Asks Any old t a (resolved old.names a) said new → Shown carries old new t said p shows a said
    asks_shown (written.Obtain form number ask variable area) fit m = obtain_shown carries old new t said p shows active before trailing form number ask variable area m
    asks_shown (written.ObtainList form number lengths start areas) fit m = obtain_list_shown carries old new t said p shows active before trailing form number lengths start areas m fit.0 fit.1
    asks_shown (written.Release form number location n) fit h = at (address_of old.names location) refl h where
      at : (v : Option ℕ) → address_of old.names location ≡ v → Asks Any old t (written.Release form number location n) (option_map (λ a. request.Release form number (place_at a n)) v) said new → Shown carries old new t said p shows (written.Release form number location n) said
      at None e h = no_name (written.Release form number location n) h
      at (Some x) e m = release_shown carries old new t said p shows active before trailing (written.Release form number location n) (request.Release form number (place_at x n)) m form number (place_at x n ∷ [])
          (λ names. ap (λ v. request_changes (option_map (λ a. request.Release form number (place_at a n)) v)) (ap (λ f. address_of f location) names ∙ e)) (λ k. k)
    asks_shown (written.ReleaseArea form number area) fit h = at (get old.names area) refl h where
      at : (v : Option PlaceValue) → get old.names area ≡ v → Asks Any old t (written.ReleaseArea form number area) (option_map (λ p. request.Release form number p) v) said new → Shown carries old new t said p shows (written.ReleaseArea form number area) said
      at None e h = no_name (written.ReleaseArea form number area) h
      at (Some x) e m = release_shown carries old new t said p shows active before trailing (written.ReleaseArea form number area) (request.Release form number x) m form number (x ∷ [])
          (λ names. ap (λ v. request_changes (option_map (λ p. request.Release form number p) v)) (ap (λ f. get f area) names ∙ e)) (λ k. k)
    asks_shown (written.ReleaseList form number locations lengths) fit h = at (places_of old.names locations lengths) refl h where
      at : (v : Option (List PlaceValue)) → places_of old.names locations lengths ≡ v → Asks Any old t (written.ReleaseList form number locations lengths) (option_map (λ ps. request.ReleaseList form number ps) v) said new → Shown carries old new t said p shows (written.ReleaseList form number locations lengths) said
      at None e h = no_name (written.ReleaseList form number locations lengths) h
      at (Some ps) e m = release_shown carries old new t said p shows active before trailing (written.ReleaseList form number locations lengths) (request.ReleaseList form number ps) m form number ps
          (λ names. ap (λ v. request_changes (option_map (λ ps. request.ReleaseList form number ps) v)) (ap (λ f. places_of f locations lengths) names ∙ e)) (λ k. k)
    asks_shown (written.ReleaseWhole form number) fit m = release_whole_shown carries old new t said p shows active before trailing form number m
    asks_shown (written.Build pool number size primary secondary loc) fit m = build_shown carries old new t said p shows active before trailing pool number size primary secondary loc m
    asks_shown (written.Get pool conditional cell) fit m = get_shown carries old new t said p shows active before trailing pool conditional cell m
    asks_shown (written.Free pool cell) fit h = at (address_of old.names cell) refl h where
      at : (v : Option ℕ) → address_of old.names cell ≡ v → Asks Any old t (written.Free pool cell) (option_map (λ a. request.Free pool a) v) said new → Shown carries old new t said p shows (written.Free pool cell) said
      at None e h = no_name (written.Free pool cell) h
      at (Some c) e m = free_shown carries old new t said p shows active before trailing (written.Free pool cell) pool c m (λ names. ap (λ v. request_changes (option_map (λ a. request.Free pool a) v)) (ap (λ f. address_of f cell) names ∙ e))
    asks_shown (written.Delete pool) fit m = delete_shown carries old new t said p shows active before trailing pool m
    asks_shown (written.Attach name gifts residence) fit m = attach_step_shown carries old new t said p shows active before trailing name gifts residence m
    asks_shown written.Return fit m = return_shown carries old new t said p shows active before trailing m
    asks_shown (written.Abend n) fit m = abend_shown carries old new t said p shows active before trailing n m
    asks_shown (written.Show location n) fit h = at (address_of old.names location) refl h where
      at : (v : Option ℕ) → address_of old.names location ≡ v → Asks Any old t (written.Show location n) (option_map (λ a. request.Show a n) v) said new → Shown carries old new t said p shows (written.Show location n) said
      at None e h = no_name (written.Show location n) h
      at (Some x) e m = act_shown carries old new t said p shows (written.Show location n) (request.Show x n) m active (λ k.
          accesses_shown (written.Show location n) (request.Show x n) m _ _ (change.Read (place_at x n) ∷ [])
          (λ names. ap (λ v. request_changes (option_map (λ a. request.Show a n) v)) (ap (λ f. address_of f location) names ∙ e)) (λ _ s names. same_shown old new p s names shows) k)
    asks_shown (written.Put location bytes) fit h = at (address_of old.names location) refl h where
      at : (v : Option ℕ) → address_of old.names location ≡ v → Asks Any old t (written.Put location bytes) (option_map (λ a. request.Put a bytes) v) said new → Shown carries old new t said p shows (written.Put location bytes) said
      at None e h = no_name (written.Put location bytes) h
      at (Some x) e m = act_shown carries old new t said p shows (written.Put location bytes) (request.Put x bytes) m active (λ k.
          accesses_shown (written.Put location bytes) (request.Put x bytes) m _ _ (change.Write (place_at x (length bytes)) ∷ [])
          (λ names. ap (λ v. request_changes (option_map (λ a. request.Put a bytes) v)) (ap (λ f. address_of f location) names ∙ e)) (λ may w names. writes_shown old new (place_at x (length bytes)) _ p may w names shows) k)
    asks_shown (written.Move to from n) fit h = at (address_of old.names to) refl (address_of old.names from) refl h where
      at : (v : Option ℕ) → address_of old.names to ≡ v → (u : Option ℕ) → address_of old.names from ≡ u → Asks Any old t (written.Move to from n) (option_and_then (λ a. option_map (λ b. request.Move a b n) u) v) said new → Shown carries old new t said p shows (written.Move to from n) said
      at None e u f h = no_name (written.Move to from n) h
      at (Some x) e None f h = no_name (written.Move to from n) h
      at (Some x) e (Some y) f m = act_shown carries old new t said p shows (written.Move to from n) (request.Move x y n) m active (λ k.
          accesses_shown (written.Move to from n) (request.Move x y n) m _ _ (change.Read (place_at y n) ∷ change.Write (place_at x n) ∷ [])
          (λ names i. request_changes (option_and_then (λ a. option_map (λ b. request.Move a b n) ((ap (λ g. address_of g from) names ∙ f) i)) ((ap (λ g. address_of g to) names ∙ e) i)))
          (λ may w names. writes_shown old new (place_at x n) _ p (and_parts (all_granted old.state (place_at x n)) (all_granted old.state (place_at y n)) may).0 w names shows) k)

    says_shown : (s : Statement) → AreasFit s → AnswersTo Any old t s said new → ShowsBy (Means new.state.owners) (replayed_all carries p (statement_changes t s said new)) new
    says_shown (says.Region below above fill residence) fit h = absurd h
    says_shown (says.Request a) fit h = asks_shown a fit h
    says_shown (says.Where name) fit h = subst (λ x. ShowsBy (Means new.state.owners) (replayed_all carries p (where_changes name x new)) new) (sym h.0) (tells_shown (where_changes name (where_answer (get old.names name)) new) h.1 (at (get old.names name))) where
      look : (v : Option PlaceValue) → replayed_all carries p (listed (option_map (λ p. change.Look p) v)) ≡ p
      look None = refl
      look (Some x) = refl

      at : (v : Option PlaceValue) → replayed_all carries p (where_changes name (where_answer v) new) ≡ p
      at None = refl
      at (Some x) = look (get new.names name)
    says_shown says.ReportSubpools fit h = tells_shown [] h.1 refl
    says_shown says.ReportMap fit h = tells_shown [] h.1 refl

  -- a task that is not active does nothing
  not_run : (s : Statement) → OnlyAnswers old answer.NotRun said new → ShowsBy (Means new.state.owners) (replayed_all carries p (statement_changes t s said new)) new
  not_run s h = subst (λ x. ShowsBy (Means new.state.owners) (replayed_all carries p (statement_changes t s x new)) new) (sym h.0) (tells_shown (statement_changes t s answer.NotRun new) h.1 (at s)) where
    at : (s : Statement) → replayed_all carries p (statement_changes t s answer.NotRun new) ≡ p
    at (says.Region below above fill residence) = refl
    at (says.Request a) = refl
    at (says.Where name) = refl
    at says.ReportSubpools = refl
    at says.ReportMap = refl

  pub does_shown : (s : Statement) → AreasFit s → IsKept old.state → IsKept new.state → Does Any old t s said new → ShowsBy (Means new.state.owners) (replayed_all carries p (statement_changes t s said new)) new
  does_shown s fit before trailing h = by_test (not (is_active old.state.owners t)) h (λ _ x. not_run s x) (λ e x. says_shown (not-false (is_active old.state.owners t) e) before trailing s fit x)
