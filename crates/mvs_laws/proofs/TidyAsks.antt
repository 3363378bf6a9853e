-- Each tidy request does the same on both machines.
use Rattle.std.proofs.Common.{◌≡◌, ℕ, ◌+◌, ◌-◌, ◌<◌, Bool, true, false, List, [], ◌∷◌, map, length, Option, Some, None, arith, refl, sym, ap, ◌∙◌, subst, IsSome, is_some, not, ◌||◌, ◌&&◌, slice_get, MatchOption, zip, option_map, option_and_then, unwrap_or}
use Rattle.std.specs.List.{list_all}
use Rattle.std.proofs.lemmas.Option.{slice_get-get_or}
use Rattle.std.specs.FinMap.{get}
use Rattle.std.proofs.lemmas.Bool.{and_from, not-true}
use Rattle.std.specs.Cmp.{first_so}
use Rattle.std.proofs.lemmas.Bool.Decides.{nat_tests}
use Rattle.std.proofs.lemmas.Grind.{common_steps}
use Rattle.mvs_laws.proofs.Types.{Name, Form, System, User, SourceRequest, Location, Request, Reply, Done, Residence, Below}
use Rattle.mvs_model.proofs.StepCases.{step_cases}
use Rattle.mvs_model.specs.declared.line.SourceRequest.TheVariants as written
use Rattle.mvs_model.specs.declared.request.Request.TheVariants as request
use Rattle.mvs_model.specs.Place.{PlaceValue, place_at, round8}
use Rattle.mvs_model.specs.Want.{AskValue, want_of, fixed_want}
use Rattle.mvs_model.specs.Gifts.{GiftsValue}
use Rattle.mvs_model.specs.Finite.{has}
use Rattle.mvs_model.specs.Owners.{is_active}
use Rattle.mvs_model.proofs.ByCase.{attach_refusal}
use Rattle.mvs_model.specs.Changes.{Writes}
use Rattle.mvs_model.proofs.ByCase.{Acts, Accesses, AttachCase}
use Rattle.mvs_model.specs.Steps.{Step}
use Rattle.mvs_model.specs.Requests.{all_granted, bytes_from, moved_from, side_for}
use Rattle.mvs_model.specs.Answers as tells
use Rattle.mvs_model.specs.Answers.{Answer, NoName, Data}
use Rattle.mvs_model.specs.Job.{JobValue}
use Rattle.mvs_model.specs.Replies.{grant_answer}
use Rattle.mvs_model.specs.Resolving.{address_of, resolved}
use Rattle.mvs_model.specs.Runs.{OnlyAnswers, Makes, Asks}
use Rattle.mvs_laws.specs.Labels as labels
use Rattle.mvs_laws.proofs.LabelCases as cases
use Rattle.mvs_laws.specs.Labels.{Labels, Spot, spot, rounded, is_there, spot_of, with_bytes, bytes_in}
use Rattle.mvs_laws.specs.Tidy.{Link, InFull, is_set, is_good, tidy_written}
use Rattle.mvs_laws.proofs.LinkNames.{fixed_all}
use Rattle.mvs_laws.proofs.LinkWrite.{link_write}
use Rattle.mvs_laws.proofs.Spots.{span_of, there_at}
use Rattle.mvs_laws.proofs.TidyCases.{made_of, Linked, Replied, turned, same_names, link_same, abends, obtains, obtains_list}
use Rattle.mvs_laws.proofs.TidyReleases.{releases, releases_whole, attaches, returns}
use Rattle.mvs_laws.proofs.TidyAccess.{there_granted, shown_same, Found, unset, nameless, found, look, FoundAll, some_unset, some_nameless, all_found, look_all}
use Rattle.mvs_model.proofs.Tests.{match_false, by_test, false_true, true_false}

grant_same : (form : Form) (n : ℕ) (ask : AskValue) (variable : Bool) (area : Name) (p q : PlaceValue) → p.len ≡ q.len → grant_answer (written.Obtain form n ask variable area) p ≡ grant_answer (written.Obtain form n ask variable area) q
grant_same form n ask variable area p q h1 = grind (arith, common_steps)

good_one : (s g : Bool) → (not (s && true) || (g && true)) ≡ true → s ≡ true → g ≡ true
good_one s g h1 h2 = grind (arith, nat_tests)

good_all : (s g : Bool) → (not s || g) ≡ true → s ≡ true → g ≡ true
good_all s g h1 h2 = grind (arith, nat_tests)

no_way : {P : Type 0} → (b : Bool) → b ≡ true → b ≡ false → P
no_way b h1 h2 = grind (arith, nat_tests, false_true, true_false)

-- in the bytes of a list an index below its length finds one
byte_some : (bytes : List ℕ) (j : ℕ) → j < length bytes → IsSome (slice_get bytes j)
byte_some bytes j l = ap is_some (slice_get-get_or bytes j 0 l)

module _ (job new : JobValue) (m : Labels) (k : Link job m) (t : Name) (a : SourceRequest) (answer : Answer) where
  -- a task that is active acts
  acts : (r : Request) (reply : Reply) → is_active job.state.owners t ≡ true → Step job.state t r reply new.state → Acts job.state t r reply new.state
  acts r reply active h = by_test (not (is_active job.state.owners t)) (step_cases job.state t r reply new.state h) (λ e x. no_way (is_active job.state.owners t) active (not-true (is_active job.state.owners t) e)) (λ e x. x)

  no_name : OnlyAnswers job NoName answer new → Linked new (labels.AnswersWith NoName m answer)
  no_name h = (m, (h.0, refl), subst (λ j. Link j m) (sym h.1) k)

  -- the answer of a request that is granted in full
  made : (r : Request) → (h : Makes InFull job t a r answer new) → Replied job new m k t a r answer h.reply
  made r h = made_of job new t a r answer h

  -- a request that uses one place: where its name is not set, it says so
  module _ (r : ℕ → Request) where
    one : (location : Location) (n : ℕ) (x : ℕ) (P : Spot → Labels → Type 0) → (not (is_set m location && true) || (is_good m location x && true)) ≡ true
        → Asks InFull job t a (option_map r (address_of job.names location)) answer new
        → ((q : Spot) → q.place.len ≡ n → is_there m (spot q.label q.place.addr x) ≡ true → (h : Makes InFull job t a (r (k.base q.label + q.place.addr)) answer new) → address_of job.names location ≡ Some (k.base q.label + q.place.addr) → Linked new (P q))
        → Linked new (λ later. MatchOption (spot_of m location n) (labels.AnswersWith NoName m answer later) (λ q. P q later))
    one location n x P tidy h f = at (look job m k location n) where
      at : Found job m k location n → Linked new (λ later. MatchOption (spot_of m location n) (labels.AnswersWith NoName m answer later) (λ q. P q later))
      at (unset u v w) = let l = no_name (subst (λ v. Asks InFull job t a (option_map r v) answer new) v h) in (l.0, subst (λ v. MatchOption v (labels.AnswersWith NoName m answer l.0) (λ q. P q l.0)) (sym u) l.1, l.2)
      at (nameless u v w) = no_way (is_good m location x) (good_one (is_set m location) (is_good m location x) tidy v) (w x)
      at (found q u v len w g) =
          let made_it = subst (λ v. Asks InFull job t a (option_map r v) answer new) v h in
          let l = f q len (sym (g x) ∙ good_one (is_set m location) (is_good m location x) tidy w) made_it v in
          (l.0, subst (λ v. MatchOption v (labels.AnswersWith NoName m answer l.0) (λ q. P q l.0)) (sym u) l.1, l.2)

  -- an access that is allowed is done
  accesses : (r : Request) (h : Makes InFull job t a r answer new) (allowed : Bool) (done : Type 0) → allowed ≡ true → Accesses job.state t allowed done h.reply new.state → Replied job new m k t a r answer Done × done
  accesses r h allowed done h1 h2 = grind (arith, nat_tests, made, turned)

  done_same : (r : Request) → Replied job new m k t a r answer Done → (new.names ≡ job.names) × (new.abended ≡ job.abended) × (new.former ≡ job.former)
  done_same r h = same_names job new m k t a r answer Done (refl, refl) h

module _ (job new : JobValue) (m : Labels) (k : Link job m) (t : Name) (active : is_active job.state.owners t ≡ true) (answer : Answer) where
  abbrev Same : SourceRequest → Type 0
  Same a = tidy_written m a ≡ true → Asks InFull job t a (resolved job.names a) answer new → Linked new (cases.Asks m t a answer)

  -- what is there may be accessed
  allowed : (later : Labels) {n : ℕ} (q : Spot) → q.place.len ≡ n → is_there m (spot q.label q.place.addr n) ≡ true → (done : Type 0) → done → cases.Accesses m t (is_there m q) done answer later
  allowed later q size there done x = match_false (labels.Abends m t (System 0x0C4) answer later) done (not (is_there m q)) (ap not (subst (λ y. is_there m (spot q.label q.place.addr y) ≡ true) (sym size) there)) x

  case_obtain : (form : Form) (n : ℕ) (ask : AskValue) (variable : Bool) (area : Name) → Same (written.Obtain form n ask variable area)
  case_obtain form n ask variable area tidy h =
      let a = written.Obtain form n ask variable area in
      let r = request.Obtain form n ask in
      obtains job new m k t a r answer form n ask.most (want_of ask (side_for job.state t form ask.loc)) area (grant_answer a (place_at 0 (round8 ask.most))) h.reply refl
      (λ p e. grant_same form n ask variable area p (place_at 0 (round8 ask.most)) e) h.meets (h.meets.answered refl) h.meets.largest (made job new m k t a answer r h) (acts job new m k t a answer r h.reply active h.step)

  case_release : (form : Form) (n : ℕ) (location : Location) (len : ℕ) → Same (written.Release form n location len)
  case_release form n location len tidy h =
      let a = written.Release form n location len in
      let l = one job new m k t a answer (λ x. request.Release form n (place_at x len)) location len (round8 len) (λ q later. cases.Releases m t form n (q ∷ []) answer later) tidy h (λ q size there x e.
      releases job new m k t a (request.Release form n (place_at (k.base q.label + q.place.addr) len)) answer form n (q ∷ []) x.reply (and_from (is_there m (rounded q)) true (ap (λ y. is_there m (spot q.label q.place.addr (round8 y))) size ∙ there) refl) (made job new m k t a answer (request.Release form n (place_at (k.base q.label + q.place.addr) len)) x)
      (subst (λ y. Acts job.state t (request.Release form n (place_at (k.base q.label + q.place.addr) y)) x.reply new.state) (sym size) (acts job new m k t a answer (request.Release form n (place_at (k.base q.label + q.place.addr) len)) x.reply active x.step))) in
      (l.0, listed l.0 (spot_of m location len) l.1, l.2) where
        listed : (later : Labels) (v : Option Spot) → MatchOption v (labels.AnswersWith NoName m answer later) (λ q. cases.Releases m t form n (q ∷ []) answer later)
            → MatchOption (option_and_then (λ q. option_map (λ qs. q ∷ qs) (Some [])) v) (labels.AnswersWith NoName m answer later) (λ qs. cases.Releases m t form n qs answer later)
        listed later None x = x
        listed later (Some q) x = x

  case_show : (location : Location) (n : ℕ) → Same (written.Show location n)
  case_show location n tidy h =
      let a = written.Show location n in
      one job new m k t a answer (λ x. request.Show x n) location n n (λ q later. cases.Accesses m t (is_there m q) (labels.AnswersWith (Data (bytes_in m q.label q.place.addr n)) m answer later) answer later) tidy h (λ q size there x e.
      let d = accesses job new m k t a answer (request.Show (k.base q.label + q.place.addr) n) x (all_granted job.state (place_at (k.base q.label + q.place.addr) n)) (new.state ≡ job.state) (there_granted job m k (spot q.label q.place.addr n) there) (acts job new m k t a answer (request.Show (k.base q.label + q.place.addr) n) x.reply active x.step) in
      let s = done_same job new m k t a answer (request.Show (k.base q.label + q.place.addr) n) d.0 in
      (m, allowed m q size there (labels.AnswersWith (Data (bytes_in m q.label q.place.addr n)) m answer m) (d.0.answer_is ∙ ap Data (shown_same job m k (spot q.label q.place.addr n) there), refl), link_same job new m k t a (request.Show (k.base q.label + q.place.addr) n) answer d.1 s.0 s.1 s.2))

  case_put : (location : Location) (bytes : List ℕ) → Same (written.Put location bytes)
  case_put location bytes tidy h =
      let a = written.Put location bytes in
      one job new m k t a answer (λ x. request.Put x bytes) location (length bytes) (length bytes) (λ q later. cases.Accesses m t (is_there m q) (labels.AnswersWith tells.Done (with_bytes m q (slice_get bytes)) answer later) answer later) tidy h (λ q size there x e.
      let d = accesses job new m k t a answer (request.Put (k.base q.label + q.place.addr) bytes) x (all_granted job.state (place_at (k.base q.label + q.place.addr) (length bytes))) (Writes job.state (place_at (k.base q.label + q.place.addr) (length bytes)) (bytes_from (k.base q.label + q.place.addr) bytes) new.state)
      (there_granted job m k (spot q.label q.place.addr (length bytes)) there) (acts job new m k t a answer (request.Put (k.base q.label + q.place.addr) bytes) x.reply active x.step) in
      let s = done_same job new m k t a answer (request.Put (k.base q.label + q.place.addr) bytes) d.0 in (
        with_bytes m q (slice_get bytes),
        allowed (with_bytes m q (slice_get bytes)) q size there (labels.AnswersWith tells.Done (with_bytes m q (slice_get bytes)) answer (with_bytes m q (slice_get bytes))) (d.0.answer_is, refl),
        link_write job new m k q (subst (λ y. is_there m (spot q.label q.place.addr y) ≡ true) (sym size) there) (slice_get bytes) (bytes_from (k.base q.label + q.place.addr) bytes)
            (λ j less. ap (slice_get bytes) (let z : k.base q.label + q.place.addr + j - (k.base q.label + q.place.addr) ≡ j = omega arith in z))
            (λ j less. byte_some bytes j (subst (λ y. j < y) size less))
            (subst (λ y. Writes job.state (place_at (k.base q.label + q.place.addr) y) (bytes_from (k.base q.label + q.place.addr) bytes) new.state) (sym size) d.1) s.0 s.1 s.2,
      ))

  case_area : (form : Form) (n : ℕ) (area : Name) → Same (written.ReleaseArea form n area)
  case_area form n area tidy h = at (get m.names area) refl where
    a : SourceRequest
    a = written.ReleaseArea form n area

    place_is : get job.names area ≡ option_map (λ l. place_at (k.base l + 0) (m.len l)) (get m.names area)
    place_is = k.names area ∙ by (get m.names area) where
      by : (v : Option ℕ) → option_map (λ l. place_at (k.base l) (m.len l)) v ≡ option_map (λ l. place_at (k.base l + 0) (m.len l)) v
      by None = refl
      by (Some l) = ap (λ b. Some (place_at b (m.len l))) (let z : k.base l ≡ k.base l + 0 = omega arith in z)

    at : (v : Option ℕ) → get m.names area ≡ v → Linked new (cases.Asks m t a answer)
    at None e =
        let l = no_name job new m k t a answer (subst (λ v. Asks InFull job t a (option_map (λ p. request.Release form n p) v) answer new) (place_is ∙ ap (option_map (λ l. place_at (k.base l + 0) (m.len l))) e) h) in
        (l.0, subst (λ v. MatchOption (option_map (λ l. spot l 0 (m.len l)) v) (labels.AnswersWith NoName m answer l.0) (λ q. cases.Releases m t form n (q ∷ []) answer l.0)) (sym e) l.1, l.2)
    at (Some l) e =
        let x = subst (λ v. Asks InFull job t a (option_map (λ p. request.Release form n p) v) answer new) (place_is ∙ ap (option_map (λ l. place_at (k.base l + 0) (m.len l))) e) h in
        let there = subst (λ v. (not (is_some v && true) || (has (λ l. is_there m (spot l 0 (unwrap_or (option_map (λ l. round8 (m.len l)) v) 0))) v && true)) ≡ true) e tidy in
        let done = releases job new m k t a (request.Release form n (place_at (k.base l + 0) (m.len l))) answer form n (spot l 0 (m.len l) ∷ []) x.reply (and_from (is_there m (rounded (spot l 0 (m.len l)))) true (first_so (is_there m (rounded (spot l 0 (m.len l)))) true there) refl) (made job new m k t a answer (request.Release form n (place_at (k.base l + 0) (m.len l))) x)
        (acts job new m k t a answer (request.Release form n (place_at (k.base l + 0) (m.len l))) x.reply active x.step) in
        (done.0, subst (λ v. MatchOption (option_map (λ l. spot l 0 (m.len l)) v) (labels.AnswersWith NoName m answer done.0) (λ q. cases.Releases m t form n (q ∷ []) answer done.0)) (sym e) done.1, done.2)

  case_list : (form : Form) (n : ℕ) (ls : List Location) (ns : List ℕ) → Same (written.ReleaseList form n ls ns)
  case_list form n ls ns tidy h = at (look_all job m k ls ns) where
    a : SourceRequest
    a = written.ReleaseList form n ls ns

    on : (later : Labels) → Option (List Spot) → Type 0
    on later v = MatchOption v (labels.AnswersWith NoName m answer later) (λ qs. cases.Releases m t form n qs answer later)

    at : FoundAll job m k ls ns → Linked new (cases.Asks m t a answer)
    at (some_unset u v w) =
        let l = no_name job new m k t a answer (subst (λ v. Asks InFull job t a (option_map (λ ps. request.ReleaseList form n ps) v) answer new) v h) in
        (l.0, subst (on l.0) (sym u) l.1, l.2)
    at (some_nameless u v) = no_way (list_all (λ (p : Location × ℕ). is_good m p.0 p.1) (zip ls (map round8 ns))) (good_all _ _ tidy u) v
    at (all_found qs u v w x) =
        let y = subst (λ v. Asks InFull job t a (option_map (λ ps. request.ReleaseList form n ps) v) answer new) v h in
        let l = releases job new m k t a (request.ReleaseList form n (map (span_of job m k) qs)) answer form n qs y.reply (sym x ∙ good_all _ _ tidy w) (made job new m k t a answer (request.ReleaseList form n (map (span_of job m k) qs)) y)
        (acts job new m k t a answer (request.ReleaseList form n (map (span_of job m k) qs)) y.reply active y.step) in
        (l.0, subst (on l.0) (sym u) l.1, l.2)

  case_move : (to from : Location) (n : ℕ) → Same (written.Move to from n)
  case_move to from n tidy h = at (look job m k to n) (look job m k from n) where
    a : SourceRequest
    a = written.Move to from n

    Moves : Spot → Spot → Labels → Type 0
    Moves q r later = cases.Accesses m t (is_there m q && is_there m r) (labels.AnswersWith tells.Done (with_bytes m q (λ i. m.byte r.label (r.place.addr + i))) answer later) answer later

    on : (later : Labels) → Option Spot → Option Spot → Type 0
    on later v w = MatchOption v (labels.AnswersWith NoName m answer later) (λ q. MatchOption w (labels.AnswersWith NoName m answer later) (λ r. Moves q r later))

    asks : Option ℕ → Option ℕ → Type 0
    asks v w = Asks InFull job t a (option_and_then (λ x. option_map (λ y. request.Move x y n) w) v) answer new

    no_from : (v : Option ℕ) → asks v None → OnlyAnswers job NoName answer new
    no_from None x = x
    no_from (Some y) x = x

    both_good : (s u g w : Bool) → (not (s && (u && true)) || (g && (w && true))) ≡ true → s ≡ true → u ≡ true → (g ≡ true) × (w ≡ true)
    both_good true true true true e s u = (refl, refl)
    both_good true true true false e s u = false_true e
    both_good true true false w e s u = false_true e
    both_good true false g w e s u = false_true u
    both_good false u g w e s t = false_true s

    goods : is_set m to ≡ true → is_set m from ≡ true → (is_good m to n ≡ true) × (is_good m from n ≡ true)
    goods s u = both_good (is_set m to) (is_set m from) (is_good m to n) (is_good m from n) tidy s u

    unset_to : spot_of m to n ≡ None → OnlyAnswers job NoName answer new → Linked new (cases.Asks m t a answer)
    unset_to u x = let l = no_name job new m k t a answer x in (l.0, subst (λ v. on l.0 v (spot_of m from n)) (sym u) l.1, l.2)

    at : Found job m k to n → Found job m k from n → Linked new (cases.Asks m t a answer)
    at (unset u v w) other = unset_to u (subst (λ v. asks v (address_of job.names from)) v h)
    at (nameless u w g) (unset x y z) = unset_to u (no_from (address_of job.names to) (subst (λ w. asks (address_of job.names to) w) y h))
    at (nameless u w g) (nameless x y z) = no_way (is_good m to n) (goods w y).0 (g n)
    at (nameless u w g) (found r x y len z f) = no_way (is_good m to n) (goods w z).0 (g n)
    at (found q u v len w g) (unset x y z) =
        let l = no_name job new m k t a answer (no_from (address_of job.names to) (subst (λ w. asks (address_of job.names to) w) y h)) in
        (l.0, subst (λ v. on l.0 v (spot_of m from n)) (sym u) (subst (λ w. on l.0 (Some q) w) (sym x) l.1), l.2)
    at (found q u v len w g) (nameless x y z) = no_way (is_good m from n) (goods w y).1 (z n)
    at (found q u v len w g) (found r x y size z f) =
        let req = request.Move (k.base q.label + q.place.addr) (k.base r.label + r.place.addr) n in
        let made_it = subst (λ v. asks v (Some (k.base r.label + r.place.addr))) v (subst (λ w. asks (address_of job.names to) w) y h) in
        let good = goods w z in
        let to_there = sym (g n) ∙ good.0 in
        let from_there = sym (f n) ∙ good.1 in
        let d = accesses job new m k t a answer req made_it (all_granted job.state (place_at (k.base q.label + q.place.addr) n) && all_granted job.state (place_at (k.base r.label + r.place.addr) n))
        (Writes job.state (place_at (k.base q.label + q.place.addr) n) (moved_from job.state (k.base q.label + q.place.addr) (k.base r.label + r.place.addr)) new.state)
        (and_from (all_granted job.state (place_at (k.base q.label + q.place.addr) n)) _ (there_granted job m k (spot q.label q.place.addr n) to_there) (there_granted job m k (spot r.label r.place.addr n) from_there))
        (acts job new m k t a answer req made_it.reply active made_it.step) in
        let s = done_same job new m k t a answer req d.0 in
        let later = with_bytes m q (λ i. m.byte r.label (r.place.addr + i)) in (
          later,
          subst (λ v. on later v (spot_of m from n)) (sym u) (subst (λ w. on later (Some q) w) (sym x) (match_false (labels.Abends m t (System 0x0C4) answer later) (labels.AnswersWith tells.Done later answer later) (not (is_there m q && is_there m r)) (ap not (and_from (is_there m q) (is_there m r) (subst (λ y. is_there m (spot q.label q.place.addr y) ≡ true) (sym len) to_there) (subst (λ y. is_there m (spot r.label r.place.addr y) ≡ true) (sym size) from_there))) (d.0.answer_is, refl))),
          link_write job new m k q (subst (λ y. is_there m (spot q.label q.place.addr y) ≡ true) (sym len) to_there) (λ i. m.byte r.label (r.place.addr + i)) (moved_from job.state (k.base q.label + q.place.addr) (k.base r.label + r.place.addr))
              (λ j less. byte_from r (subst (λ y. j < y) len less) from_there) (λ j less. there_from r (subst (λ y. j < y) len less) from_there)
              (subst (λ y. Writes job.state (place_at (k.base q.label + q.place.addr) y) (moved_from job.state (k.base q.label + q.place.addr) (k.base r.label + r.place.addr)) new.state) (sym len) d.1) s.0 s.1 s.2,
        ) where
          byte_from : (r : Spot) {j : ℕ} → j < n → is_there m (spot r.label r.place.addr n) ≡ true → get job.state.bytes (k.base r.label + r.place.addr + (k.base q.label + q.place.addr + j - (k.base q.label + q.place.addr))) ≡ m.byte r.label (r.place.addr + j)
          byte_from r {j} less there =
              let b = there_at m (spot r.label r.place.addr n) there (r.place.addr + j) (omega arith) (omega (arith, less)) in
              ap (get job.state.bytes) (let e : k.base r.label + r.place.addr + (k.base q.label + q.place.addr + j - (k.base q.label + q.place.addr)) ≡ k.base r.label + (r.place.addr + j) = omega arith in e) ∙ k.bytes r.label (r.place.addr + j) b.0 b.1 ∙ sym b.1

          there_from : (r : Spot) {j : ℕ} → j < n → is_there m (spot r.label r.place.addr n) ≡ true → IsSome (m.byte r.label (r.place.addr + j))
          there_from r {j} less there = let b = there_at m (spot r.label r.place.addr n) there (r.place.addr + j) (omega arith) (omega (arith, less)) in ap is_some b.1

  case_attach : (name : Name) (gifts : GiftsValue) (residence : Residence) → Same (written.Attach name gifts residence)
  case_attach name gifts residence tidy h =
      let a = written.Attach name gifts residence in
      attaches job new m k t a (request.Attach name gifts residence) answer name gifts residence (attach_refusal m.owners t name gifts) h.reply (made job new m k t a answer (request.Attach name gifts residence) h)
      (subst (λ o. AttachCase job.state t name gifts residence (attach_refusal o t name gifts) h.reply new.state) k.owners (acts job new m k t a answer (request.Attach name gifts residence) h.reply active h.step))

  pub asks_same : (a : SourceRequest) → Same a
  asks_same (written.Obtain form n ask variable area) tidy h = case_obtain form n ask variable area tidy h
  asks_same (written.ObtainList form n lengths start areas) tidy h =
      obtains_list job new m k t (written.ObtainList form n lengths start areas) (request.ObtainList form n lengths start) answer form n lengths (map (λ n. fixed_want n start Below) lengths) areas h.reply refl (fixed_all start lengths) (λ ps. refl) h.meets (h.meets.answered refl)
      (made job new m k t (written.ObtainList form n lengths start areas) answer (request.ObtainList form n lengths start) h) (acts job new m k t (written.ObtainList form n lengths start areas) answer (request.ObtainList form n lengths start) h.reply active h.step)
  asks_same (written.Release form n location len) tidy h = case_release form n location len tidy h
  asks_same (written.ReleaseArea form n area) tidy h = case_area form n area tidy h
  asks_same (written.ReleaseList form n ls ns) tidy h = case_list form n ls ns tidy h
  asks_same (written.ReleaseWhole form n) tidy h =
      releases_whole job new m k t (written.ReleaseWhole form n) (request.ReleaseWhole form n) answer form n h.reply (made job new m k t (written.ReleaseWhole form n) answer (request.ReleaseWhole form n) h) (acts job new m k t (written.ReleaseWhole form n) answer (request.ReleaseWhole form n) h.reply active h.step)
  asks_same (written.Build pool n size primary secondary loc) tidy h = false_true tidy
  asks_same (written.Get pool conditional cell) tidy h = false_true tidy
  asks_same (written.Free pool cell) tidy h = false_true tidy
  asks_same (written.Delete pool) tidy h = false_true tidy
  asks_same (written.Attach name gifts residence) tidy h = case_attach name gifts residence tidy h
  asks_same written.Return tidy h = returns job new m k t written.Return request.Return answer h.reply (made job new m k t written.Return answer request.Return h) (acts job new m k t written.Return answer request.Return h.reply active h.step)
  asks_same (written.Abend n) tidy h = abends job new m k t (written.Abend n) (request.Abend n) answer (User n) h.reply (made job new m k t (written.Abend n) answer (request.Abend n) h) (acts job new m k t (written.Abend n) answer (request.Abend n) h.reply active h.step)
  asks_same (written.Show location n) tidy h = case_show location n tidy h
  asks_same (written.Put location bytes) tidy h = case_put location bytes tidy h
  asks_same (written.Move to from n) tidy h = case_move to from n tidy h
