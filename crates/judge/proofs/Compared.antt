-- Two steps that differ in nothing but places, and a statement whose answers one text shows.
use Rattle.std.proofs.Common.{◌≡◌, ℕ, inl, inr, Bool, true, false, List, [], ◌∷◌, ◌++◌, Option, Some, None, append_assoc, codes, refl, sym, ap, ◌∙◌, subst}
use Rattle.std.specs.Prelude.{not}
use Rattle.std.specs.Bool.{MatchBool}
use Rattle.std.specs.List.{flat_map}
use Rattle.std.specs.FinMap.{get}
use Rattle.mvs_laws.proofs.Types.{Name, SourceRequest, Request, Statement, SubpoolLine}
use Rattle.mvs_model.specs.declared.line.Statement.TheVariants as statement
use Rattle.mvs_model.specs.Place.{PlaceValue}
use Rattle.mvs_model.specs.Owners.{is_active}
use Rattle.mvs_model.specs.Resolving.{resolved}
use Rattle.mvs_model.specs.Replies.{where_answer}
use Rattle.mvs_model.specs.Reports.{page_map, subpool_lines_of}
use Rattle.mvs_model.specs.Answers.{Answer, Map, NotRun, NoName, Subpools}
use Rattle.mvs_model.specs.Texts.{answer_text, reply_line, subpool_text}
use Rattle.mvs_model.specs.Job.{JobValue}
use Rattle.mvs_model.specs.Runs.{Any, Asks, Does, AnswersTo, OnlyAnswers}
use Rattle.mvs_model.proofs.Tests.{false_true, true_false}
use Rattle.judge.proofs.Alike.{alike_law}
use Rattle.judge.proofs.SettledBy.{acted, settled_law}
use Rattle.judge.proofs.Opening.{Measured, line_head, one_text, rest_at}
use Rattle.mvs_model.specs.View.{IsBounded}
use Rattle.judge.proofs.Reported.{report_cut, report_undigited}
use Rattle.judge.proofs.Opened.{Found, opened, shown}
use Rattle.judge.proofs.Mapped.{map_cut}
use Rattle.judge.proofs.Shaped.{unlike}
use Rattle.judge.specs.Shapes.{AreUnlike}
use Rattle.judge.specs.Excluding.{BeginsWord, IsPast, ShowsSome}
use Rattle.judge.specs.Reporting.{undigited}
use Rattle.judge.specs.Outline.{AreAlike, BeginsOneOf, BeginsOpen, head, is_settled, openings, request_settled, way}

-- ---- what is answered

-- a request or WHERE: one answer follows from a text that begins with it
abbrev pub is_followed : Statement → Bool
is_followed (statement.Request k) = true
is_followed (statement.Where name) = true
is_followed _ = false

unsettled : (k : SourceRequest) (x : Answer) → is_settled (statement.Request k) x ≡ false → request_settled k x ≡ false
unsettled k NotRun e = true_false e
unsettled k NoName e = true_false e
unsettled k _ e = e

module _ (old : JobValue) (t : Name) (x : Answer) (new : JobValue) (number : ℕ) where
  asks_found : is_active old.state.owners t ≡ true → (k : SourceRequest) (o : Option Request) → resolved old.names k ≡ o → ShowsSome (statement.Request k) → is_settled (statement.Request k) x ≡ false → Asks Any old t k o x new → Found old.state.owners number t (statement.Request k) x
  asks_found active k None e some u m = true_false (sym (ap (is_settled (statement.Request k)) m.0) ∙ u)
  asks_found active k (Some r) e some u m =
      subst (Found old.state.owners number t (statement.Request k)) (sym m.answer_is)
      (opened old.names old.state t new.state m.reply number k r e some (ap (request_settled k) (sym m.answer_is) ∙ unsettled k x u) (acted old.state t r m.reply new.state active m.step))

  where_found : (name : Name) (o : Option PlaceValue) → x ≡ where_answer o → is_settled (statement.Where name) x ≡ false → Found old.state.owners number t (statement.Where name) x
  where_found name None e u = true_false (sym (ap (is_settled (statement.Where name)) e) ∙ u)
  where_found name (Some p) e u =
      let r = rest_at number t p.addr in
      subst (Found old.state.owners number t (statement.Where name)) (sym e) (tt, (codes "AT " ++ r.more, r.is, inl (r.more, refl)))

  says_found : is_active old.state.owners t ≡ true → (s : Statement) → is_followed s ≡ true → ShowsSome s → is_settled s x ≡ false → AnswersTo Any old t s x new → Found old.state.owners number t s x
  says_found active (statement.Region below above fill residence) f some u m = absurd m
  says_found active (statement.Request k) f some u m = asks_found active k (resolved old.names k) refl some u m
  says_found active (statement.Where name) f some u m = where_found name (get old.names name) m.0 u
  says_found active statement.ReportSubpools f some u m = false_true f
  says_found active statement.ReportMap f some u m = false_true f

  by_activity : (P Q R : Type 0) (active : Bool) → MatchBool (not active) P Q → (P → R) → (active ≡ true → Q → R) → R
  by_activity P Q R true m f g = g refl m
  by_activity P Q R false m f g = f m

  pub does_found : (s : Statement) → is_followed s ≡ true → ShowsSome s → is_settled s x ≡ false → Does Any old t s x new → Found old.state.owners number t s x
  does_found s f some u m = by_activity _ _ _ (is_active old.state.owners t) m (λ m. true_false (sym (ap (is_settled s) m.0) ∙ u)) (λ active m. says_found active s f some u m)

  -- ---- how a text goes on

  subpools_begin : (lines : List SubpoolLine) → (rest : List ℕ) × (answer_text number t (Subpools lines) ≡ head number t ++ rest) × BeginsOneOf (codes "SP " ∷ []) rest
  subpools_begin [] = (codes "SP NONE\n", line_head number t (codes "SP NONE"), inl (_, refl))
  subpools_begin (l ∷ lines) =
      let more = flat_map (λ l. reply_line number t (subpool_text l)) lines in
      ((subpool_text l ++ codes "\n") ++ more, ap (λ x. x ++ more) (line_head number t (subpool_text l)) ∙ append_assoc (head number t) (subpool_text l ++ codes "\n") more, inl (_, refl))

  one_more : (fronts : List (List ℕ)) (rest more : List ℕ) → BeginsOneOf fronts rest → BeginsOneOf fronts (rest ++ more)
  one_more [] rest more b = absurd b
  one_more (f ∷ fronts) rest more (inl x) = inl (x.0 ++ more, ap (λ r. r ++ more) x.1 ∙ append_assoc f x.0 more)
  one_more (f ∷ fronts) rest more (inr x) = inr (one_more fronts rest more x)

  begins : (fronts : List (List ℕ)) (text v : List ℕ) → ((rest : List ℕ) × (text ≡ head number t ++ rest) × BeginsOneOf fronts rest) → (rest : List ℕ) × (text ++ v ≡ head number t ++ rest) × BeginsOneOf fronts rest
  begins fronts text v x = (x.0 ++ v, ap (λ z. z ++ v) x.1 ∙ append_assoc (head number t) x.0 v, one_more fronts x.0 v x.2)

  says_begins : is_active old.state.owners t ≡ true → (s : Statement) → ShowsSome s → is_settled s x ≡ false → AnswersTo Any old t s x new → (v : List ℕ) → BeginsOpen number t s (answer_text number t x ++ v)
  says_begins active (statement.Region below above fill residence) some u m v = absurd m
  says_begins active (statement.Request k) some u m v = begins (openings (statement.Request k)) (answer_text number t x) v (says_found active (statement.Request k) refl some u m).1
  says_begins active (statement.Where name) some u m v = begins (openings (statement.Where name)) (answer_text number t x) v (says_found active (statement.Where name) refl some u m).1
  says_begins active statement.ReportSubpools some u m v =
      subst (λ x. BeginsOpen number t statement.ReportSubpools (answer_text number t x ++ v)) (sym m.0) (begins (codes "SP " ∷ []) (answer_text number t (Subpools (subpool_lines_of old.state t))) v (subpools_begin (subpool_lines_of old.state t)))
  says_begins active statement.ReportMap some u m v = tt

  pub does_begins : (s : Statement) → ShowsSome s → is_settled s x ≡ false → Does Any old t s x new → (v : List ℕ) → BeginsOpen number t s (answer_text number t x ++ v)
  does_begins s some u m v = by_activity _ _ _ (is_active old.state.owners t) m (λ m. true_false (sym (ap (is_settled s) m.0) ∙ u)) (λ active m. says_begins active s some u m v)

-- REPORT SP of an active task
reported : (old : JobValue) (t : Name) (x : Answer) (new : JobValue) → Does Any old t statement.ReportSubpools x new → is_settled statement.ReportSubpools x ≡ false → (x ≡ Subpools (subpool_lines_of old.state t)) × (new ≡ old)
reported old t x new m f = at (is_active old.state.owners t) m where
  at : (active : Bool) → MatchBool (not active) (OnlyAnswers old NotRun x new) (OnlyAnswers old (Subpools (subpool_lines_of old.state t)) x new) → (x ≡ Subpools (subpool_lines_of old.state t)) × (new ≡ old)
  at true m = m
  at false m = true_false (sym (ap (is_settled statement.ReportSubpools) m.0) ∙ f)

-- REPORT MAP of an active task
mapped : (old : JobValue) (t : Name) (x : Answer) (new : JobValue) → Does Any old t statement.ReportMap x new → is_settled statement.ReportMap x ≡ false → (x ≡ Map (page_map old.state)) × (new ≡ old)
mapped old t x new m f = at (is_active old.state.owners t) m where
  at : (active : Bool) → MatchBool (not active) (OnlyAnswers old NotRun x new) (OnlyAnswers old (Map (page_map old.state)) x new) → (x ≡ Map (page_map old.state)) × (new ≡ old)
  at true m = m
  at false m = true_false (sym (ap (is_settled statement.ReportMap) m.0) ∙ f)

-- ---- two steps

symmetric : (one other : JobValue) → AreAlike one other → AreAlike other one
symmetric one other like = record { regions = sym like.regions; owners = sym like.owners; named = λ name. sym (like.named name); pools = λ name. sym (like.pools name); abended = sym like.abended; former = sym like.former }

module _ (one other : JobValue) (t : Name) (s : Statement) (x y : Answer) (a b : JobValue) (like : AreAlike one other) (d : Does Any one t s x a) (e : Does Any other t s y b) where
  -- an answer that places do not decide
  pub settled_alike : is_settled s x ≡ true → (x ≡ y) × AreAlike a b
  settled_alike f = let same = settled_law one other t s x y a b like d e f in (same, alike_law one other t s x y a b like d e (ap way same))

  -- then it is so in both
  both_open : is_settled s x ≡ false → is_settled s y ≡ false
  both_open f = at (is_settled s y) refl where
    at : (b : Bool) → is_settled s y ≡ b → is_settled s y ≡ false
    at true g = true_false (sym g ∙ ap (is_settled s) (settled_law other one t s y x b a (symmetric one other like) e d g) ∙ f)
    at false g = g

  -- one that places decide, and that a text shows
  pub shown_alike : (number : ℕ) (u v : List ℕ) → is_followed s ≡ true → ShowsSome s → is_settled s x ≡ false → answer_text number t x ++ u ≡ answer_text number t y ++ v → AreAlike a b × (u ≡ v)
  shown_alike number u v followed some f g =
      let m = (does_found one t x a number s followed some f d).0 in
      let n = (does_found other t y b number s followed some (both_open f) e).0 in
      let both = one_text one.state.owners number t (shown s) x y u v m (subst (λ o. Measured o t (shown s) y) (sym like.owners) n) g in
      (alike_law one other t s x y a b like d e both.0, both.1)

  -- the same answer in another shape
  pub unlike_alike : (number : ℕ) (v front text : List ℕ) → is_followed s ≡ true → ShowsSome s → is_settled s x ≡ false → answer_text number t x ≡ head number t ++ front → answer_text number t y ++ v ≡ head number t ++ text → AreUnlike front text → ⊥
  unlike_alike number v front text followed some f g h differs =
      let m = (does_found one t x a number s followed some f d).0 in
      let n = (does_found other t y b number s followed some (both_open f) e).0 in
      unlike one.state.owners number t (shown s) x y m (subst (λ o. Measured o t (shown s) y) (sym like.owners) n) v front text g h differs

  pub begins_alike : (number : ℕ) (v : List ℕ) → ShowsSome s → is_settled s x ≡ false → BeginsOpen number t s (answer_text number t y ++ v)
  begins_alike number v some f = does_begins other t y b number s some (both_open f) e v

  -- REPORT SP
  pub report_alike : s ≡ statement.ReportSubpools → IsBounded one.state.regions → is_settled s x ≡ false → (number : ℕ) (u v : List ℕ) → answer_text number t x ++ u ≡ answer_text number t y ++ v → AreAlike a b × (u ≡ v)
  report_alike is bounded f number u v g =
      let m = reported one t x a (subst (λ s. Does Any one t s x a) is d) (ap (λ s. is_settled s x) (sym is) ∙ f) in
      let n = reported other t y b (subst (λ s. Does Any other t s y b) is e) (ap (λ s. is_settled s y) (sym is) ∙ both_open f) in (
        subst (λ a. AreAlike a b) (sym m.1) (subst (λ b. AreAlike one b) (sym n.1) like),
        report_cut number t one.state other.state u v like.owners bounded (subst IsBounded like.regions bounded) (ap (λ x. answer_text number t x ++ u) (sym m.0) ∙ g ∙ ap (λ y. answer_text number t y ++ v) n.0),
      )

  -- REPORT MAP
  pub map_alike : s ≡ statement.ReportMap → is_settled s x ≡ false → (number : ℕ) (u v : List ℕ) → BeginsWord u → BeginsWord v → IsPast number t u → IsPast number t v → answer_text number t x ++ u ≡ answer_text number t y ++ v → AreAlike a b × (u ≡ v)
  map_alike is f number u v word other_word past other_past g =
      let m = mapped one t x a (subst (λ s. Does Any one t s x a) is d) (ap (λ s. is_settled s x) (sym is) ∙ f) in
      let n = mapped other t y b (subst (λ s. Does Any other t s y b) is e) (ap (λ s. is_settled s y) (sym is) ∙ both_open f) in (
        subst (λ a. AreAlike a b) (sym m.1) (subst (λ b. AreAlike one b) (sym n.1) like),
        map_cut number t (page_map one.state) (page_map other.state) u v word other_word past other_past (ap (λ x. answer_text number t x ++ u) (sym m.0) ∙ g ∙ ap (λ y. answer_text number t y ++ v) n.0),
      )

  -- REPORT SP but for digits
  pub report_same : s ≡ statement.ReportSubpools → IsBounded one.state.regions → is_settled s x ≡ false → (number : ℕ) → undigited (answer_text number t x) ≡ undigited (answer_text number t y)
  report_same is bounded f number =
      let m = reported one t x a (subst (λ s. Does Any one t s x a) is d) (ap (λ s. is_settled s x) (sym is) ∙ f) in
      let n = reported other t y b (subst (λ s. Does Any other t s y b) is e) (ap (λ s. is_settled s y) (sym is) ∙ both_open f) in
      ap (λ x. undigited (answer_text number t x)) m.0 ∙ report_undigited number t one.state other.state like.owners bounded (subst IsBounded like.regions bounded) ∙ sym (ap (λ y. undigited (answer_text number t y)) n.0)
