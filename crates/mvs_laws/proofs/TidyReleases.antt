-- Releases, attaching and returns on both machines.
use Rattle.std.proofs.Common.{◌≡◌, ℕ, ◌+◌, ◌%◌, ◌⊎◌, inl, inr, Bool, true, false, List, [], ◌∷◌, map, Option, Some, None, arith, refl, sym, ap, ◌∙◌, subst, not, ◌&&◌, ◌==◌, MatchBool}
use Rattle.std.specs.List.{list_any, list_all, AllByRecursion}
use Rattle.std.proofs.lemmas.Bool.{not-false}
use Rattle.mvs_laws.proofs.Types.{Name, Residence, Form, Code, System, User, SourceRequest, Reply, Rc0, Attached, Ended, Request}
use Rattle.mvs_model.specs.Place.{PlaceValue, place_at, round8}
use Rattle.mvs_model.specs.Gifts.{GiftsValue}
use Rattle.mvs_model.specs.Finite.{has}
use Rattle.mvs_model.specs.Storage.{IsWhole}
use Rattle.mvs_model.specs.Owners.{Owners, subpool_meant, has_subtask, Attach}
use Rattle.mvs_model.specs.Codes.{family, is_conditional, bad_subpool, bad_address, not_held}
use Rattle.mvs_model.specs.Changes.{Frees}
use Rattle.mvs_model.proofs.ByCase.{Fails, MayRelease, ReleaseStep, ReleaseWholeStep, AttachCase, ReturnStep}
use Rattle.mvs_model.specs.Requests.{is_invalid, whole, on_doubleword, EmptiesEntry}
use Rattle.mvs_model.specs.Answers as tells
use Rattle.mvs_model.specs.Answers.{Answer}
use Rattle.mvs_model.specs.Job.{JobValue}
use Rattle.mvs_laws.specs.Labels as labels
use Rattle.mvs_laws.proofs.LabelCases as cases
use Rattle.mvs_laws.specs.Labels.{Labels, Spot, rounded, has_offset, is_there, without, Leaves}
use Rattle.mvs_laws.proofs.LabelCases.{may_free}
use Rattle.mvs_laws.specs.Tidy.{Link}
use Rattle.mvs_model.proofs.Operands.{whole_places}
use Rattle.mvs_laws.proofs.LinkLess.{link_less}
use Rattle.mvs_laws.proofs.LinkGone.{goes_freed, goes_dropped}
use Rattle.mvs_laws.proofs.LinkNames.{link_owners}
use Rattle.mvs_laws.proofs.LinkFree.{free_may, may_be_free}
use Rattle.mvs_laws.proofs.Spots.{span_of}
use Rattle.mvs_laws.proofs.TidyCases.{Linked, Replied, turned, abends, fails, same_names, ends}
use Rattle.mvs_model.proofs.Tests.{match_true, match_false, by_test}

module _ (job new : JobValue) (m : Labels) (k : Link job m) (t : Name) (a : SourceRequest) (r : Request) (answer : Answer) where
  rounded_all : (qs : List Spot) → map whole (map (span_of job m k) qs) ≡ map (span_of job m k) (map rounded qs)
  rounded_all [] = refl
  rounded_all (q ∷ qs) = ap (λ ps. place_at (k.base q.label + q.place.addr) (round8 q.place.len) ∷ ps) (rounded_all qs)

  aligned_all : (qs : List Spot) → list_all on_doubleword (map (span_of job m k) qs) ≡ list_all (λ q. on_doubleword q.place) qs
  aligned_all [] = refl
  aligned_all (q ∷ qs) = λ i. (one i == 0) && aligned_all qs i where
    one : (k.base q.label + q.place.addr) % 8 ≡ q.place.addr % 8
    one = let e : k.base q.label % 8 ≡ 0 = k.on_doubleword q.label in at (k.base q.label) q.place.addr e where
      at : (b x : ℕ) → b % 8 ≡ 0 → (b + x) % 8 ≡ x % 8
      at b x e = omega (arith, e)

  pub releases : (form : Form) (n : ℕ) (qs : List Spot) (reply : Reply) → list_all (is_there m) (map rounded qs) ≡ true
      → Replied job new m k t a r answer reply → ReleaseStep job.state t form n (map (span_of job m k) qs) reply new.state → Linked new (cases.Releases m t form n qs answer)
  releases form n qs reply there made h =
      by_test (is_invalid n) h
      (λ invalid x. let l = abends job new m k t a r answer _ reply made x in (l.0, match_true (labels.Abends m t (bad_subpool (family form) false) answer l.0) _ (is_invalid n) invalid l.1, l.2))
      (λ valid x. by_test (not (list_all on_doubleword (map (span_of job m k) qs))) x
      (λ odd y. let l = abends job new m k t a r answer _ reply made y in
      (l.0, match_false _ (Aligned l.0) (is_invalid n) valid (match_true (labels.Abends m t (bad_address (family form)) answer l.0) (Held l.0) (not (list_all (λ q. on_doubleword q.place) qs)) (ap not (sym (aligned_all qs)) ∙ odd) l.1), l.2))
      (λ even y. let l = held (whole_places (map (span_of job m k) qs) (not-false (list_all on_doubleword (map (span_of job m k) qs)) even)) y in
      (l.0, match_false _ (Aligned l.0) (is_invalid n) valid (match_false (labels.Abends m t (bad_address (family form)) answer l.0) (Held l.0) (not (list_all (λ q. on_doubleword q.place) qs)) (ap not (sym (aligned_all qs)) ∙ even) l.1), l.2))) where
        Freed : Labels → Type 0
        Freed later = labels.AnswersWith tells.Rc0 (without m (λ l i. list_any (λ q. has_offset q l i) (map rounded qs))) answer later

        Held : Labels → Type 0
        Held later = MatchBool (not (may_free m (subpool_meant m.owners t n) (map rounded qs))) (cases.Fails (is_conditional form) m t (not_held (family form)) answer later) (Freed later)

        Aligned : Labels → Type 0
        Aligned later = MatchBool (not (list_all (λ q. on_doubleword q.place) qs)) (labels.Abends m t (bad_address (family form)) answer later) (Held later)

        May : Owners → List PlaceValue → Type 0
        May o ps = MayRelease job.state (subpool_meant o t n) ps

        held : AllByRecursion IsWhole (map whole (map (span_of job m k) qs))
            → (((MayRelease job.state (subpool_meant job.state.owners t n) (map whole (map (span_of job m k) qs)) → ⊥) × Fails (is_conditional form) job.state t (not_held (family form)) reply new.state)
            ⊎ (MayRelease job.state (subpool_meant job.state.owners t n) (map whole (map (span_of job m k) qs)) × (reply ≡ Rc0) × Frees job.state (map whole (map (span_of job m k) qs)) new.state))
            → Linked new Held
        held w (inl f) =
            let l = fails job new m k t a r answer (is_conditional form) (not_held (family form)) reply made f.1 in
            (l.0, match_true (cases.Fails (is_conditional form) m t (not_held (family form)) answer l.0) (Freed l.0) (not (may_free m (subpool_meant m.owners t n) (map rounded qs))) (refused (may_free m (subpool_meant m.owners t n) (map rounded qs)) refl) l.1, l.2) where
              refused : (b : Bool) → may_free m (subpool_meant m.owners t n) (map rounded qs) ≡ b → not b ≡ true
              refused true e = absurd (f.0 (subst (λ o. May o (map whole (map (span_of job m k) qs))) (sym k.owners) (subst (λ ps. May m.owners ps) (sym (rounded_all qs)) (free_may job m k (subpool_meant m.owners t n) (map rounded qs) there (subst (AllByRecursion IsWhole) (rounded_all qs) w) e))))
              refused false e = refl
        held w (inr f) =
            let may = may_be_free job m k (subpool_meant m.owners t n) (map rounded qs) there (subst (λ ps. May m.owners ps) (rounded_all qs) (subst (λ o. May o (map whole (map (span_of job m k) qs))) k.owners f.0)) in
            let now = turned job new m k t a r answer reply Rc0 f.1 made in
            let s = same_names job new m k t a r answer Rc0 (refl, refl) now in
            let frees = subst (λ ps. Frees job.state ps new.state) (rounded_all qs) f.2 in
            let w2 = subst (AllByRecursion IsWhole) (rounded_all qs) w in (
              without m (λ l i. list_any (λ q. has_offset q l i) (map rounded qs)),
              match_false _ (Freed (without m (λ l i. list_any (λ q. has_offset q l i) (map rounded qs)))) (not (may_free m (subpool_meant m.owners t n) (map rounded qs))) (ap not may) (now.answer_is, refl),
              link_less job new m k (λ l i. list_any (λ q. has_offset q l i) (map rounded qs)) (goes_freed job m k (map rounded qs) new.state there w2 frees) s.0 m.owners (frees.owners ∙ k.owners) m.abended (s.1 ∙ k.abended) s.2,
            )

  -- the whole of a subpool
  emptied : (o : Option ℕ) → EmptiesEntry job.state o new.state → new.names ≡ job.names → new.abended ≡ job.abended → new.former ≡ job.former → Link new (without m (λ l i. has (λ s. m.subpool l == s) o))
  emptied None h names abended former = subst (λ j. Link j m) (λ i. record { state = sym h i; names = sym names i; abended = sym abended i; former = sym former i }) k
  emptied (Some s) h names abended former = link_less job new m k (λ l i. m.subpool l == s) (goes_dropped job m k (λ u. u == s) new.state h.drops) names m.owners (h.owners ∙ k.owners) m.abended (abended ∙ k.abended) former

  pub releases_whole : (form : Form) (n : ℕ) (reply : Reply) → Replied job new m k t a r answer reply → ReleaseWholeStep job.state t form n reply new.state → Linked new (cases.Empties m t form n answer)
  releases_whole form n reply made h =
      by_test (is_invalid n) h
      (λ invalid x. let l = abends job new m k t a r answer _ reply made x in (l.0, match_true (labels.Abends m t (bad_subpool (family form) false) answer l.0) _ (is_invalid n) invalid l.1, l.2))
      (λ valid x. by_test (n == 0) x
      (λ zero y. let l = abends job new m k t a r answer _ reply made y in (l.0, match_false _ (Zero l.0) (is_invalid n) valid (match_true (labels.Abends m t (User 4006) answer l.0) (Gone l.0) (n == 0) zero l.1), l.2))
      (λ other y.
      let now = turned job new m k t a r answer reply Rc0 y.0 made in
      let s = same_names job new m k t a r answer Rc0 (refl, refl) now in (
        empty_now,
        match_false _ (Zero empty_now) (is_invalid n) valid (match_false (labels.Abends m t (User 4006) answer empty_now) (Gone empty_now) (n == 0) other (now.answer_is, refl)),
        emptied (subpool_meant m.owners t n) (subst (λ o. EmptiesEntry job.state (subpool_meant o t n) new.state) k.owners y.1) s.0 s.1 s.2,
      ))) where
        empty_now : Labels
        empty_now = without m (λ l i. has (λ s. m.subpool l == s) (subpool_meant m.owners t n))

        Gone : Labels → Type 0
        Gone later = labels.AnswersWith tells.Rc0 (without m (λ l i. has (λ s. m.subpool l == s) (subpool_meant m.owners t n))) answer later

        Zero : Labels → Type 0
        Zero later = MatchBool (n == 0) (labels.Abends m t (User 4006) answer later) (Gone later)

  pub attaches : (name : Name) (gifts : GiftsValue) (residence : Residence) (refusal : Option Code) (reply : Reply) → Replied job new m k t a r answer reply → AttachCase job.state t name gifts residence refusal reply new.state → Linked new (cases.Attaches m t name gifts residence refusal answer)
  attaches name gifts residence (Some code) reply made h = abends job new m k t a r answer code reply made h
  attaches name gifts residence None reply made h =
      let now = turned job new m k t a r answer reply Attached h.0 made in
      let s = same_names job new m k t a r answer Attached (refl, refl) now in (
        record m { owners = new.state.owners },
        (new.state.owners, subst (λ o. Attach o t name gifts residence new.state.owners) k.owners h.1.owners, (now.answer_is, refl)),
        link_owners job new m k new.state.owners m.abended h.1.held h.1.bytes h.1.pools h.1.regions refl s.0 (s.1 ∙ k.abended) s.2,
      )

  pub returns : (reply : Reply) → Replied job new m k t a r answer reply → ReturnStep job.state t reply new.state → Linked new (cases.Returns m t answer)
  returns reply made h =
      by_test (has_subtask job.state.owners t) h
      (λ busy x. let l = abends job new m k t a r answer _ reply made x in (l.0, match_true (labels.Abends m t (System 0xA03) answer l.0) _ (has_subtask m.owners t) (ap (λ o. has_subtask o t) (sym k.owners) ∙ busy) l.1, l.2))
      (λ alone x.
      let now = turned job new m k t a r answer reply Ended x.0 made in
      let s = same_names job new m k t a r answer Ended (refl, refl) now in
      let e = ends job new m k t a r answer true x.1 s.0 m.abended (s.1 ∙ k.abended) s.2 x.1 in
      (_, match_false _ ((fallen : List Name) × (mid : Labels) × Leaves m t fallen mid × labels.AnswersWith tells.Ended mid answer _) (has_subtask m.owners t) (ap (λ o. has_subtask o t) (sym k.owners) ∙ alone) (x.1.fallen, _, e.0, (now.answer_is, refl)), e.1))
