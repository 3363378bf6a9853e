-- One request on both machines, from what is linked.
use Rattle.std.proofs.Common.{◌≡◌, ℕ, ◌+◌, inl, inr, Bool, true, false, List, [], ◌∷◌, arith, refl, sym, ap, ◌∙◌, subst, ◌||◌}
use Rattle.std.proofs.Math.Bool.{or-false, or-true}
use Rattle.std.proofs.lemmas.Grind.{common_steps}
use Rattle.mvs_laws.proofs.Types.{Name, Form, Code, SourceRequest, Request, Reply, Rc4, Obtained, Listed, Abended}
use Rattle.mvs_model.specs.Place.{PlaceValue, round8}
use Rattle.mvs_model.specs.Want.{WantValue}
use Rattle.mvs_model.specs.Owners.{effective_task, AreDescendants, Ends, ends_with}
use Rattle.mvs_model.specs.Codes.{family, is_conditional, short, bad_subpool}
use Rattle.mvs_model.specs.Changes.{GrantTo, ListGrant, Drops, End}
use Rattle.mvs_model.specs.Consequences.{Abends, Refuses}
use Rattle.mvs_model.proofs.ByCase.{Fails, ObtainStep, ObtainListStep}
use Rattle.mvs_model.specs.Requests.{is_invalid}
use Rattle.mvs_model.specs.Answers as tells
use Rattle.mvs_model.specs.Answers.{Answer}
use Rattle.mvs_model.specs.Job.{JobValue}
use Rattle.mvs_model.specs.Replies.{is_abend, answer_of}
use Rattle.mvs_model.specs.Resolving.{all_set, names_set, places_in}
use Rattle.mvs_model.specs.Runs.{Makes}
use Rattle.mvs_laws.specs.Labels as labels
use Rattle.mvs_laws.proofs.LabelCases as cases
use Rattle.mvs_laws.specs.Labels.{Labels, without, GrantsEach, all_named, Leaves}
use Rattle.mvs_laws.specs.Tidy.{Link, IsInFull, InFull}
use Rattle.mvs_laws.proofs.LinkLess.{link_less}
use Rattle.mvs_laws.proofs.LinkGone.{goes_dropped}
use Rattle.mvs_laws.proofs.LinkNames.{at_state, grant_one, grant_each, AllFixed, Placed, Agrees, agrees_all, link_named}
use Rattle.mvs_model.proofs.Tests.{match_true, match_false, by_test}

pub none_set : (job : JobValue) (names : List Name) → all_set job.names names [] ≡ job.names
none_set job [] = refl
none_set job (name ∷ names) = refl

-- What is answered and what else becomes of the job, for a reply.
pub record Made (job new : JobValue) (a : SourceRequest) (r : Request) (reply : Reply) (answer : Answer) : Type 0 where
  pub names : new.names ≡ all_set job.names (names_set a) (places_in reply)
  pub abended : new.abended ≡ (job.abended || is_abend reply)
  pub former : new.former ≡ job.former
  pub answer_is : answer ≡ answer_of job.state a r reply

pub made_of : (job new : JobValue) (t : Name) (a : SourceRequest) (r : Request) (answer : Answer) (k : Makes InFull job t a r answer new) → Made job new a r k.reply answer
made_of job new t a r answer k = record { names = k.names; abended = k.abended; former = k.former; answer_is = k.answer_is }

-- the labels that a relation allows, linked with the job
abbrev pub Linked : JobValue → (Labels → Type 0) → Type 0
Linked new P = (later : Labels) × P later × Link new later

module _ (job new : JobValue) (m : Labels) (k : Link job m) (t : Name) (a : SourceRequest) (r : Request) (answer : Answer) where
  abbrev pub Replied : Reply → Type 0
  Replied reply = Made job new a r reply answer

  pub turned : (one other : Reply) → one ≡ other → Replied one → Replied other
  turned one other e h = subst Replied e h

  -- nothing changes
  pub link_same : new.state ≡ job.state → new.names ≡ job.names → new.abended ≡ job.abended → new.former ≡ job.former → Link new m
  link_same st names abended former = subst (λ j. Link j m) (λ i. record { state = sym st i; names = sym names i; abended = sym abended i; former = sym former i }) k

  -- a task ends, by an abend or by its return
  pub ends : (code : Bool) → End job.state t new.state → new.names ≡ job.names → (a : Bool) → new.abended ≡ a → new.former ≡ job.former → (e : End job.state t new.state)
      → Leaves m t e.fallen (record (without m (λ l i. ends_with m.owners t e.fallen (m.subpool l))) { owners = new.state.owners })
      × Link new (record (without m (λ l i. ends_with m.owners t e.fallen (m.subpool l))) { owners = new.state.owners; abended = a })
  ends code unused names a abended former e = (
    record {
      owners = new.state.owners;
      is_fallen = subst (λ o. AreDescendants o t e.fallen) k.owners e.is_fallen;
      ends = subst (λ o. Ends o t e.fallen new.state.owners) k.owners e.owners;
      is = refl;
    },
    link_less job new m k (λ l i. ends_with m.owners t e.fallen (m.subpool l)) (goes_dropped job m k (ends_with m.owners t e.fallen) new.state (subst (λ o. Drops job.state (ends_with o t e.fallen) new.state) k.owners e.drops)) names new.state.owners refl a abended former,
  )

  pub abends : (code : Code) (reply : Reply) → Replied reply → Abends job.state t code reply new.state → Linked new (labels.Abends m t code answer)
  abends code reply made h =
      let now = turned reply (Abended code h.0.fallen) h.1 made in
      let e = ends true h.0 (now.names ∙ none_set job (names_set a)) true (now.abended ∙ or-true job.abended) now.former h.0 in (
        record (without m (λ l i. ends_with m.owners t h.0.fallen (m.subpool l))) { owners = new.state.owners; abended = true },
        (h.0.fallen, record (without m (λ l i. ends_with m.owners t h.0.fallen (m.subpool l))) { owners = new.state.owners }, e.0, (now.answer_is, refl)),
        e.1,
      )

  -- an answer that sets no name and is no abend
  abbrev pub Plain : Reply → Type 0
  Plain reply = (places_in reply ≡ []) × (is_abend reply ≡ false)

  pub same_names : (reply : Reply) → Plain reply → Replied reply → (new.names ≡ job.names) × (new.abended ≡ job.abended) × (new.former ≡ job.former)
  same_names reply p h = (h.names ∙ ap (all_set job.names (names_set a)) p.0 ∙ none_set job (names_set a), h.abended ∙ ap (λ b. job.abended || b) p.1 ∙ or-false job.abended, h.former)

  pub refuses : (wanted reply : Reply) (hints : Answer) → Plain wanted → answer_of job.state a r wanted ≡ hints → Replied reply → Refuses job.state wanted reply new.state → Linked new (labels.AnswersWith hints m answer)
  refuses wanted reply hints p said made h =
      let now = turned reply wanted h.0 made in
      let s = same_names wanted p now in
      (m, (now.answer_is ∙ said, refl), link_same h.1 s.0 s.1 s.2)

  pub fails : (conditional : Bool) (code : Code) (reply : Reply) → Replied reply → Fails conditional job.state t code reply new.state → Linked new (cases.Fails conditional m t code answer)
  fails true code reply made h = refuses Rc4 reply tells.Rc4 (refl, refl) refl made h
  fails false code reply made h = abends code reply made h

  -- a request that was not refused for want of a place did not fail so
  not_short : (conditional : Bool) (form : Form) (reply : Reply) → IsInFull r reply → (reply ≡ Rc4 → ⊥) → Fails conditional job.state t (short (family form)) reply new.state → ⊥
  not_short conditional form reply h1 h2 h3 = grind (arith, common_steps)

  -- all that is granted is named
  obtained : (number_of : ℕ) (form : Form) (ns : List ℕ) (areas : List Name) (ps : List PlaceValue) (hints : Answer) → is_invalid number_of ≡ false → new.names ≡ all_set job.names areas ps → new.abended ≡ job.abended → new.former ≡ job.former → answer ≡ hints
      → (mid : Labels) (later : Link (at_state job new.state) mid) → GrantsEach m (effective_task m.owners t number_of) number_of ns mid → Placed later.base mid.len mid.count ns ps m.count → Linked new (cases.Obtains m t form number_of ns areas hints answer)
  obtained n form ns areas ps hints valid names abended former said mid later grants placed = (
    record mid { names = all_named mid.names areas ns m.count },
    match_false _ ((x : Labels) × GrantsEach m (effective_task m.owners t n) n ns x × labels.AnswersWith hints (record x { names = all_named x.names areas ns m.count }) answer (record mid { names = all_named mid.names areas ns m.count })) (is_invalid n) valid (mid, grants, (said, refl)),
    link_named (at_state job new.state) new mid later (all_named mid.names areas ns m.count) refl abended former
        (subst (λ x. Agrees later.base mid.len mid.count x (all_named mid.names areas ns m.count)) (sym names)
        (agrees_all later.base mid.len mid.count areas ns ps m.count job.names mid.names (record { place = later.names; low = later.labels.named }) placed)),
  )

  bad : (form : Form) (n : ℕ) (ns : List ℕ) (areas : List Name) (hints : Answer) → is_invalid n ≡ true → Linked new (labels.Abends m t (bad_subpool (family form) true) answer) → Linked new (cases.Obtains m t form n ns areas hints answer)
  bad form n ns areas hints invalid l = (l.0, match_true (labels.Abends m t (bad_subpool (family form) true) answer l.0) _ (is_invalid n) invalid l.1, l.2)

  pub obtains : (form : Form) (n most : ℕ) (want : WantValue) (area : Name) (hints : Answer) (reply : Reply) → names_set a ≡ area ∷ []
      → ((p : PlaceValue) → p.len ≡ round8 most → answer_of job.state a r (Obtained p) ≡ hints) → IsInFull r reply → (reply ≡ Rc4 → ⊥) → ((p : PlaceValue) → reply ≡ Obtained p → p.len ≡ round8 most)
      → Replied reply → ObtainStep job.state t form n want reply new.state → Linked new (cases.Obtains m t form n (most ∷ []) (area ∷ []) hints answer)
  obtains form n most want area hints reply sets said full answered largest made h =
      by_test (is_invalid n) h
      (λ invalid x. bad form n (most ∷ []) (area ∷ []) hints invalid (abends _ reply made x))
      (λ valid x. elim x [
        | inl s ↦ absurd (not_short (is_conditional form) form reply full answered s.1)
        | inr g ↦
            let now = turned reply (Obtained g.0) g.1 made in
            let size = largest g.0 g.1 in
            let one = grant_one job m k (effective_task m.owners t n) n (round8 most) want g.0 new.state (subst (λ o. GrantTo job.state (effective_task o t n) n want g.0 new.state) k.owners g.2) size in
            obtained n form (most ∷ []) (area ∷ []) (g.0 ∷ []) hints valid (now.names ∙ ap (λ names. all_set job.names names (g.0 ∷ [])) sets) (now.abended ∙ or-false job.abended) now.former (now.answer_is ∙ said g.0 size)
            one.0 one.1 (one.0, one.2, refl) (one.4, (let c : one.0.count ≡ m.count + 1 = one.5 in omega (arith, c)), tt)
      ])

  pub obtains_list : (form : Form) (n : ℕ) (ns : List ℕ) (wants : List WantValue) (areas : List Name) (reply : Reply) → names_set a ≡ areas → AllFixed ns wants
      → ((ps : List PlaceValue) → answer_of job.state a r (Listed ps) ≡ tells.Rc0) → IsInFull r reply → (reply ≡ Rc4 → ⊥)
      → Replied reply → ObtainListStep job.state t form n wants reply new.state → Linked new (cases.Obtains m t form n ns areas tells.Rc0 answer)
  obtains_list form n ns wants areas reply sets fixed said full answered made h =
      by_test (is_invalid n) h
      (λ invalid x. bad form n ns areas tells.Rc0 invalid (abends _ reply made x))
      (λ valid x. elim x [
        | inl s ↦ absurd (not_short (is_conditional form) form reply full answered s.1)
        | inr g ↦
            let now = turned reply (Listed g.0) g.1 made in
            let all = grant_each (effective_task m.owners t n) n ns wants g.0 new.state job m k fixed (subst (λ o. ListGrant job.state (effective_task o t n) n wants g.0 new.state) k.owners g.2) in
            obtained n form ns areas g.0 tells.Rc0 valid (now.names ∙ ap (λ names. all_set job.names names g.0) sets) (now.abended ∙ or-false job.abended) now.former (now.answer_is ∙ said g.0)
            all.0 all.1 all.2 all.4
      ])
