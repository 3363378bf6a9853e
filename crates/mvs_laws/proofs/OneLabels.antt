-- The label machine answers a script in one way.
use Rattle.std.proofs.Common.{◌≡◌, ℕ, Bool, true, false, List, [], ◌∷◌, map, length, Option, Some, None, sym, ap, ◌∙◌, subst, not, ◌&&◌, MatchOption, ◌==◌, MatchBool, arith}
use Rattle.std.specs.List.{list_all}
use Rattle.std.proofs.lemmas.Bool.Decides.{nat_tests}
use Rattle.std.proofs.lemmas.Grind.{common_steps}
use Rattle.mvs_laws.proofs.Types.{Name, Residence, Form, Code, System, User, Statement, SourceRequest}
use Rattle.mvs_model.specs.declared.line.SourceRequest.TheVariants as written
use Rattle.mvs_model.specs.Gifts.{GiftsValue}
use Rattle.mvs_model.specs.Place.{round8}
use Rattle.mvs_model.specs.Owners.{Owners, is_active, effective_task, subpool_meant, has_subtask, Ends, ends_with}
use Rattle.mvs_model.proofs.ByCase.{attach_refusal}
use Rattle.mvs_model.specs.Codes.{is_conditional}
use Rattle.mvs_model.specs.Requests.{is_invalid, on_doubleword}
use Rattle.mvs_model.specs.Answers as tells
use Rattle.mvs_model.specs.Answers.{Answer, Abended, Event}
use Rattle.mvs_model.specs.Texts.{printing}
use Rattle.mvs_model.specs.Lines.{lines_of}
use Rattle.mvs_model.specs.Walk.{ServesLine}
use Rattle.mvs_laws.specs.Labels as labels
use Rattle.mvs_laws.specs.Labels.{Labels, first_labels, Spot, rounded, is_there, without, all_named, spot_of, spots_of, area_of, Leaves, AnswersWith, Abends, Grants, GrantsEach, AnswersTo, Does, label_machine}
use Rattle.mvs_laws.proofs.LabelCases.{ask_cases, may_free, Fails, Obtains, Releases, Empties, Attaches, Returns, Asks}
use Rattle.mvs_laws.specs.Tidy.{OneLabelRun, PlacesDoNotMatter, PlacesAreNotPrinted}
use Rattle.mvs_laws.proofs.TidySteps.{tidy_run}
use Rattle.mvs_laws.proofs.OneWalk as walk
use Rattle.mvs_model.proofs.OneOwners.{one_subpool, one_enters, one_attach, one_fallen, one_ends}

by_two : {P Q S U R : Type 0} (b : Bool) → MatchBool b P Q → MatchBool b S U → (P → S → R) → (Q → U → R) → R
by_two b h1 h2 h3 h4 = grind (arith, common_steps)

leaves_one : (old : Labels) (t : Name) (f g : List Name) (a b : Labels) → Leaves old t f a → Leaves old t g b → (f ≡ g) × (a ≡ b)
leaves_one old t f g a b x y =
    let same = one_fallen old.owners t f g x.is_fallen y.is_fallen in
    let owners = one_ends old.owners t g x.owners y.owners (subst (λ h. Ends old.owners t h x.owners) same x.ends) y.ends in
    (same, x.is ∙ (λ i. record (without old (λ l j. ends_with old.owners t (same i) (old.subpool l))) { owners = owners i }) ∙ sym y.is)

grants_one : (old : Labels) (t : Name) (number n : ℕ) (a b : Labels) → Grants old t number n a → Grants old t number n b → a ≡ b
grants_one old t number n a b h1 h2 = grind (arith, nat_tests, one_enters, one_subpool)

grants_each_one : (t : Name) (number : ℕ) (ns : List ℕ) (old a b : Labels) → GrantsEach old t number ns a → GrantsEach old t number ns b → a ≡ b
grants_each_one t number [] old a b x y = x ∙ sym y
grants_each_one t number (n ∷ ns) old a b x y = grants_each_one t number ns y.0 a b (subst (λ m. GrantsEach m t number ns a) (grants_one old t number (round8 n) x.0 y.0 x.1 y.1) x.2) y.2

module _ (old : Labels) (t : Name) (answer other : Answer) (a b : Labels) where
  abbrev pub One : Type 0
  One = (answer ≡ other) × (a ≡ b)

  tells_one : (hints : Answer) (after : Labels) → AnswersWith hints after answer a → AnswersWith hints after other b → One
  tells_one hints after x y = (x.0 ∙ sym y.0, x.1 ∙ sym y.1)

  tells_two : (hints : Answer) (after later : Labels) → after ≡ later → AnswersWith hints after answer a → AnswersWith hints later other b → One
  tells_two hints after later e x y = (x.0 ∙ sym y.0, x.1 ∙ e ∙ sym y.1)

  abends_one : (code : Code) → Abends old t code answer a → Abends old t code other b → One
  abends_one code x y =
      let l = leaves_one old t x.0 y.0 x.1 y.1 x.2 y.2 in
      (x.3.0 ∙ ap (Abended code) l.0 ∙ sym y.3.0, x.3.1 ∙ ended x.1 y.1 l.1 ∙ sym y.3.1) where
        ended : (m n : Labels) → m ≡ n → (let x : Labels = record m { abended = true } in x) ≡ record n { abended = true }
        ended m n e = λ i. record (e i) { abended = true }

  fails_one : (c : Bool) (code : Code) → Fails c old t code answer a → Fails c old t code other b → One
  fails_one true code x y = tells_one tells.Rc4 old x y
  fails_one false code x y = abends_one code x y

  obtains_one : (form : Form) (n : ℕ) (ns : List ℕ) (areas : List Name) (hints : Answer) → Obtains old t form n ns areas hints answer a → Obtains old t form n ns areas hints other b → One
  obtains_one form n ns areas hints x y = by_two (is_invalid n) x y (λ p q. abends_one _ p q) (λ p q.
      tells_two hints _ _ (ap named (grants_each_one (effective_task old.owners t n) n ns old p.0 q.0 p.1 q.1)) p.2 q.2) where
        named : Labels → Labels
        named m = record m { names = all_named m.names areas ns old.count }

  releases_one : (form : Form) (n : ℕ) (qs : List Spot) → Releases old t form n qs answer a → Releases old t form n qs other b → One
  releases_one form n qs x y = by_two (is_invalid n) x y (λ p q. abends_one _ p q) (λ p q.
      by_two (not (list_all (λ q. on_doubleword q.place) qs)) p q (λ p q. abends_one _ p q) (λ p q.
      by_two (not (may_free old (subpool_meant old.owners t n) (map rounded qs))) p q (λ p q. fails_one (is_conditional form) _ p q) (λ p q. tells_one tells.Rc0 _ p q)))

  empties_one : (form : Form) (n : ℕ) → Empties old t form n answer a → Empties old t form n other b → One
  empties_one form n x y = by_two (is_invalid n) x y (λ p q. abends_one _ p q) (λ p q. by_two (n == 0) p q (λ p q. abends_one (User 4006) p q) (λ p q. tells_one tells.Rc0 _ p q))

  attaches_one : (name : Name) (gifts : GiftsValue) (residence : Residence) (refusal : Option Code) → Attaches old t name gifts residence refusal answer a → Attaches old t name gifts residence refusal other b → One
  attaches_one name gifts residence (Some code) x y = abends_one code x y
  attaches_one name gifts residence None x y = tells_two tells.Attached _ _ (ap with_owners (one_attach old.owners t name gifts residence x.0 y.0 x.1 y.1)) x.2 y.2 where
    with_owners : Owners → Labels
    with_owners o = record old { owners = o }

  returns_one : Returns old t answer a → Returns old t other b → One
  returns_one x y = by_two (has_subtask old.owners t) x y (λ p q. abends_one (System 0xA03) p q) (λ p q. tells_two tells.Ended _ _ (leaves_one old t p.0 q.0 p.1 q.1 p.2 q.2).1 p.3 q.3)

  -- what names no label says so, and the rest has one result
  set_one : {X : Type 0} (v : Option X) (P Q : X → Type 0) → ((x : X) → P x → Q x → One) → MatchOption v (AnswersWith tells.NoName old answer a) P → MatchOption v (AnswersWith tells.NoName old other b) Q → One
  set_one v P Q h1 h2 h3 = grind (arith, nat_tests, tells_one)

  cases_one : (k : SourceRequest) → Asks old t k answer a → Asks old t k other b → One
  cases_one (written.Obtain form n ask variable area) x y = obtains_one form n (ask.most ∷ []) (area ∷ []) _ x y
  cases_one (written.ObtainList form n lengths start areas) x y = obtains_one form n lengths areas tells.Rc0 x y
  cases_one (written.Release form n location len) x y = set_one (spots_of old (location ∷ []) (len ∷ [])) _ _ (λ qs p q. releases_one form n qs p q) x y
  cases_one (written.ReleaseArea form n area) x y = set_one (area_of old area) _ _ (λ q p r. releases_one form n (q ∷ []) p r) x y
  cases_one (written.ReleaseList form n locations lengths) x y = set_one (spots_of old locations lengths) _ _ (λ qs p q. releases_one form n qs p q) x y
  cases_one (written.ReleaseWhole form n) x y = empties_one form n x y
  cases_one (written.Build pool n size primary secondary loc) x y = absurd x
  cases_one (written.Get pool conditional cell) x y = absurd x
  cases_one (written.Free pool cell) x y = absurd x
  cases_one (written.Delete pool) x y = absurd x
  cases_one (written.Attach name gifts residence) x y = attaches_one name gifts residence (attach_refusal old.owners t name gifts) x y
  cases_one written.Return x y = returns_one x y
  cases_one (written.Abend n) x y = abends_one (User n) x y
  cases_one (written.Show location n) x y = set_one (spot_of old location n) _ _ (λ q p r. by_two (not (is_there old q)) p r (λ u v. abends_one (System 0x0C4) u v) (λ u v. (u.0 ∙ sym v.0, u.1 ∙ sym v.1))) x y
  cases_one (written.Put location bytes) x y = set_one (spot_of old location (length bytes)) _ _ (λ q p r. by_two (not (is_there old q)) p r (λ u v. abends_one (System 0x0C4) u v) (λ u v. tells_one tells.Done _ u v)) x y
  cases_one (written.Move to from n) x y = set_one (spot_of old to n) _ _ (λ q p r. set_one (spot_of old from n) _ _ (λ s u v. by_two (not (is_there old q && is_there old s)) u v (λ u v. abends_one (System 0x0C4) u v) (λ u v. tells_one tells.Done _ u v)) p r) x y

  asks_one : (k : SourceRequest) → labels.Asks old t k answer a → labels.Asks old t k other b → One
  asks_one k x y = cases_one k (ask_cases old a t answer k x) (ask_cases old b t other k y)

  says_one : (s : Statement) → AnswersTo old t s answer a → AnswersTo old t s other b → One
  says_one s h1 h2 = grind (arith, nat_tests, set_one, asks_one)

  does_one : (s : Statement) → Does old t s answer a → Does old t s other b → One
  does_one s x y = by_two (not (is_active old.owners t)) x y (λ p q. tells_one tells.NotRun old p q) (λ p q. says_one s p q)

labels_alike : (number : ℕ) (old : Labels) (t : Name) (s : Statement) (answer other : Answer) (a b : Labels) → Does old t s answer a → Does old t s other b → (answer ≡ other) × (a ≡ b)
labels_alike number old t s answer other a b x y = does_one old t answer other a b s x y

-- a line says one thing or has one fault
pub line_one : (number : ℕ) (old : Option Labels) (l : List ℕ) (events other : List Event) (a b : Option Labels) → ServesLine label_machine number old l events a → ServesLine label_machine number old l other b → (events ≡ other) × (a ≡ b)
line_one = walk.line_one first_labels (λ m. m.abended) (λ m. m.former) (λ number. Does) (λ number. Does) labels_alike

pub one_label_run : OneLabelRun
one_label_run script one other o p x y =
    walk.walks_one first_labels (λ m. m.abended) (λ m. m.former) (λ number. Does) (λ number. Does) labels_alike o p (lines_of script) 1 None one other x y

pub places_do_not_matter : PlacesDoNotMatter
places_do_not_matter script one other o p tidy x y = one_label_run script one other o p (tidy_run script one o tidy x) (tidy_run script other p tidy y)

pub places_are_not_printed : PlacesAreNotPrinted
places_are_not_printed script one other o p tidy x y = x.2 ∙ ap printing (places_do_not_matter script x.0 y.0 o p tidy x.1 y.1).0 ∙ sym y.2
