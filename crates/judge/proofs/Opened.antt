-- An answer that places decide is one of those that its statement can have.
use Rattle.std.proofs.Common.{◌≡◌, ℕ, zero, suc, ◌+◌, ◌<◌, ◌⊎◌, inl, inr, Bool, true, false, List, [], ◌∷◌, ◌++◌, map, length, Option, Some, None, codes, arith, refl, sym, ap, ◌∙◌, subst}
use Rattle.std.specs.Prelude.{not, if◌then◌else◌}
use Rattle.std.specs.Bool.{MatchBool}
use Rattle.std.specs.List.{list_all}
use Rattle.std.specs.FinMap.{FinMap, get, contains_key}
use Rattle.std.specs.FinSet as set
use Rattle.mvs_laws.proofs.Types.{Name, Code, User, System, Form, SourceRequest, Request, Reply, Statement}
use Rattle.mvs_model.specs.declared.code.Family.TheVariants.{Located}
use Rattle.mvs_model.specs.declared.line.SourceRequest.TheVariants as written
use Rattle.mvs_model.specs.declared.line.Statement.TheVariants as statement
use Rattle.mvs_model.specs.declared.request.Reply.TheVariants as reply
use Rattle.mvs_model.specs.declared.request.Request.TheVariants as request
use Rattle.mvs_model.specs.Name.{name_cmp}
use Rattle.mvs_model.specs.Place.{PlaceValue, place_at}
use Rattle.mvs_model.specs.Owners.{Owners, subpool_meant}
use Rattle.mvs_model.specs.Pools.{Pool}
use Rattle.mvs_model.specs.State.{State}
use Rattle.mvs_model.specs.Codes.{family, is_conditional, short, bad_address, not_held, no_access, no_such_cell, too_many_pools}
use Rattle.mvs_model.specs.Changes.{Frees}
use Rattle.mvs_model.specs.Consequences.{Abends}
use Rattle.mvs_model.specs.Requests.{is_invalid, on_doubleword, whole}
use Rattle.mvs_model.specs.Resolving.{resolved, address_of, places_of}
use Rattle.mvs_model.specs.Replies.{answer_of, bytes_at}
use Rattle.mvs_model.specs.Answers.{Answer}
use Rattle.mvs_model.specs.Texts.{answer_text}
use Rattle.mvs_model.proofs.ByCase.{Acts, Fails, FreeStep, GetStep, MayRelease, ReleaseStep}
use Rattle.mvs_model.proofs.Tests.{true_false}
use Rattle.judge.proofs.Effects.{map_is, two_is, some_one}
use Rattle.judge.proofs.Opening.{Measured, Rest, rest_abend, rest_cell, rest_data, rest_done, rest_granted, rest_no_cell, rest_rc0, rest_rc4}
use Rattle.judge.specs.Excluding.{ShowsSome}
use Rattle.judge.specs.Outline.{BeginsOneOf, abend_opening, failed, head, is_user, openings, request_openings, request_settled}

-- how many bytes a statement shows
abbrev pub shown : Statement → ℕ
shown (statement.Request (written.Show location n)) = n
shown _ = 0

-- An answer begins with one of these after its task.
abbrev pub Opens : ℕ → Name → List (List ℕ) → Answer → Type 0
Opens number t fronts x = (rest : List ℕ) × (answer_text number t x ≡ head number t ++ rest) × BeginsOneOf fronts rest

abbrev Is : Owners → ℕ → Name → ℕ → List ℕ → Answer → Type 0
Is o number t n front x = Measured o t n x × Rest number t x front

abbrev pub Found : Owners → ℕ → Name → Statement → Answer → Type 0
Found o number t s x = Measured o t (shown s) x × Opens number t (openings s) x

first : (o : Owners) (number : ℕ) (t : Name) (n : ℕ) (x : Answer) (front : List ℕ) (fronts : List (List ℕ)) → Is o number t n front x → Measured o t n x × Opens number t (front ∷ fronts) x
first o number t n x front fronts (m, r) = (m, (front ++ r.more, r.is, inl (r.more, refl)))

next : (o : Owners) (number : ℕ) (t : Name) (n : ℕ) (x : Answer) (front : List ℕ) (fronts : List (List ℕ)) → Measured o t n x × Opens number t fronts x → Measured o t n x × Opens number t (front ∷ fronts) x
next o number t n x front fronts (m, r) = (m, (r.0, r.1, inr r.2))

length_shown : (st : State) (a n : ℕ) → length (bytes_at st a n) ≡ n
unfolding bytes_at
length_shown st a zero = refl
length_shown st a (suc n) = let e = length_shown st (a + 1) n in omega (arith, e)

module _ (names : FinMap name_cmp PlaceValue) (old : State) (t : Name) (new : State) (answered : Reply) (number : ℕ) where
  abbrev In : SourceRequest → Request → List ℕ → Type 0
  In k r front = Is old.owners number t (shown (statement.Request k)) front (answer_of old k r answered)

  by : (k : SourceRequest) (r : Request) (front : List ℕ) (c : Reply) → answered ≡ c → Is old.owners number t (shown (statement.Request k)) front (answer_of old k r c) → In k r front
  by k r front c e x = subst (λ c. Is old.owners number t (shown (statement.Request k)) front (answer_of old k r c)) (sym e) x

  abends : (k : SourceRequest) (r : Request) (code : Code) → Abends old t code answered new → In k r (abend_opening code)
  abends k r code x = by k r (abend_opening code) _ x.1 (x.0.is_fallen, rest_abend number t code x.0.fallen)

  fails : (k : SourceRequest) (r : Request) (b : Bool) (code : Code) → Fails b old t code answered new → In k r (if b then codes "RC 4\n" else abend_opening code)
  fails k r true code x = by k r (codes "RC 4\n") reply.Rc4 x.0 (tt, rest_rc4 number t)
  fails k r false code x = abends k r code x

  rc0 : (k : SourceRequest) (r : Request) → answered ≡ reply.Rc0 → In k r (codes "RC 0\n")
  rc0 k r e = by k r (codes "RC 0\n") reply.Rc0 e (tt, rest_rc0 number t)

  -- the answer of a request that is not settled
  abbrev pub OpenedBy : SourceRequest → Request → Type 0
  OpenedBy k r = ShowsSome (statement.Request k) → request_settled k (answer_of old k r answered) ≡ false → Acts old t r answered new → Found old.owners number t (statement.Request k) (answer_of old k r answered)

  -- two fronts
  two : (k : SourceRequest) (r : Request) (f g : List ℕ) → In k r f ⊎ In k r g → Measured old.owners t (shown (statement.Request k)) (answer_of old k r answered) × Opens number t (f ∷ g ∷ []) (answer_of old k r answered)
  two k r f g (inl x) = first _ _ _ _ _ f (g ∷ []) x
  two k r f g (inr x) = next _ _ _ _ _ f (g ∷ []) (first _ _ _ _ _ g [] x)

  three : (k : SourceRequest) (r : Request) (f g h : List ℕ) → In k r f ⊎ (In k r g ⊎ In k r h) → Measured old.owners t (shown (statement.Request k)) (answer_of old k r answered) × Opens number t (f ∷ g ∷ h ∷ []) (answer_of old k r answered)
  three k r f g h (inl x) = first _ _ _ _ _ f (g ∷ h ∷ []) x
  three k r f g h (inr x) = next _ _ _ _ _ f (g ∷ h ∷ []) (two k r g h x)

  unless : (P Q R : Type 0) (b : Bool) → b ≡ false → MatchBool b P Q → (Q → R) → R
  unless P Q R true e x f = true_false e
  unless P Q R false e x f = f x

  -- the answer is measured, and begins with one of these
  abbrev Starts : SourceRequest → Request → List (List ℕ) → Type 0
  Starts k r fronts = Measured old.owners t (shown (statement.Request k)) (answer_of old k r answered) × Opens number t fronts (answer_of old k r answered)

  ok : List ℕ
  ok = codes "RC 0\n"

  unheld : Form → List ℕ
  unheld form = failed form (not_held (family form))

  off : Form → List ℕ
  off form = abend_opening (bad_address (family form))

  released : (k : SourceRequest) (r : Request) (form : Form) (n : ℕ) (ps : List PlaceValue) → is_invalid n ≡ false → ReleaseStep old t form n ps answered new → Starts k r (ok ∷ unheld form ∷ off form ∷ [])
  unfolding ok unheld off
  released k r form n ps e x = unless _ _ (Starts k r (ok ∷ unheld form ∷ off form ∷ [])) (is_invalid n) e x (λ x. at (not (list_all on_doubleword ps)) x) where
    held : ((MayRelease old (subpool_meant old.owners t n) (map whole ps) → ⊥) × Fails (is_conditional form) old t (not_held (family form)) answered new) ⊎ (MayRelease old (subpool_meant old.owners t n) (map whole ps) × (answered ≡ reply.Rc0) × Frees old (map whole ps) new)
        → Starts k r (ok ∷ unheld form ∷ off form ∷ [])
    held (inl x) = three k r ok (unheld form) (off form) (inr (inl (fails k r (is_conditional form) (not_held (family form)) x.1)))
    held (inr x) = three k r ok (unheld form) (off form) (inl (rc0 k r x.1))

    at : (b : Bool) → MatchBool b (Abends old t (bad_address (family form)) answered new) (((MayRelease old (subpool_meant old.owners t n) (map whole ps) → ⊥) × Fails (is_conditional form) old t (not_held (family form)) answered new) ⊎ (MayRelease old (subpool_meant old.owners t n) (map whole ps) × (answered ≡ reply.Rc0) × Frees old (map whole ps) new))
        → Starts k r (ok ∷ unheld form ∷ off form ∷ [])
    at true x = three k r ok (unheld form) (off form) (inr (inr (abends k r (bad_address (family form)) x)))
    at false x = held x

  full : List ℕ
  full = abend_opening (short Located)

  too_many : List ℕ
  too_many = abend_opening too_many_pools

  built : (k : SourceRequest) (r : Request) (P Q : Type 0) (b c d : Bool) → (if b then true else is_user 4008 (answer_of old k r answered)) ≡ false
      → MatchBool b (Abends old t (System 0xB78) answered new) (MatchBool c (Abends old t (User 4008) answered new) (MatchBool d (Abends old t too_many_pools answered new) ((P × Abends old t (short Located) answered new) ⊎ (Q × (answered ≡ reply.Rc0)))))
      → Starts k r (ok ∷ full ∷ too_many ∷ [])
  unfolding ok full too_many
  built k r P Q true c d e x = true_false e
  built k r P Q false true d e x = true_false (sym (ap (λ c. is_user 4008 (answer_of old k r c)) x.1) ∙ e)
  built k r P Q false false true e x = three k r ok full too_many (inr (inr (abends k r too_many_pools x)))
  built k r P Q false false false e (inl x) = three k r ok full too_many (inr (inl (abends k r (short Located) x.1)))
  built k r P Q false false false e (inr x) = three k r ok full too_many (inl (rc0 k r x.1))

  a_cell : (k : SourceRequest) (r : Request) (p : PlaceValue) → answered ≡ reply.Cell p → In k r (codes "CELL\n")
  a_cell k r p e = by k r (codes "CELL\n") (reply.Cell p) e (tt, rest_cell number t)

  gets : (pool cell : Name) (conditional : Bool) (o : Option Pool) → is_user 4002 (answer_of old (written.Get pool conditional cell) (request.Get pool conditional) answered) ≡ false → GetStep old t pool conditional o answered new
      → Starts (written.Get pool conditional cell) (request.Get pool conditional) (request_openings (written.Get pool conditional cell))
  unfolding full
  gets pool cell conditional None e x = true_false (sym (ap (λ c. is_user 4002 (answer_of old (written.Get pool conditional cell) (request.Get pool conditional) c)) x.1) ∙ e)
  gets pool cell true (Some p) e (inl x) = two (written.Get pool true cell) (request.Get pool true) (codes "CELL\n") (codes "NO CELL\n") (inl (a_cell (written.Get pool true cell) (request.Get pool true) _ x.2.1))
  gets pool cell false (Some p) e (inl x) = two (written.Get pool false cell) (request.Get pool false) (codes "CELL\n") full (inl (a_cell (written.Get pool false cell) (request.Get pool false) _ x.2.1))
  gets pool cell true (Some p) e (inr x) =
      two (written.Get pool true cell) (request.Get pool true) (codes "CELL\n") (codes "NO CELL\n") (inr (by (written.Get pool true cell) (request.Get pool true) (codes "NO CELL\n") reply.NoCell x.1.0 (tt, rest_no_cell number t)))
  gets pool cell false (Some p) e (inr (n, inl x)) = two (written.Get pool false cell) (request.Get pool false) (codes "CELL\n") full (inr (abends (written.Get pool false cell) (request.Get pool false) (short Located) x.1))
  gets pool cell false (Some p) e (inr (n, inr x)) = two (written.Get pool false cell) (request.Get pool false) (codes "CELL\n") full (inl (a_cell (written.Get pool false cell) (request.Get pool false) _ x.3.2.1))

  not_taken : List ℕ
  not_taken = abend_opening no_such_cell

  frees : (k : SourceRequest) (r : Request) (pool : Name) (a : ℕ) (o : Option Pool) → is_user 4002 (answer_of old k r answered) ≡ false → FreeStep old t pool a o answered new → Starts k r (ok ∷ not_taken ∷ [])
  unfolding ok not_taken
  frees k r pool a None e x = true_false (sym (ap (λ c. is_user 4002 (answer_of old k r c)) x.1) ∙ e)
  frees k r pool a (Some p) e x = at _ (not (set.contains p.taken a)) x where
    at : (Q : Type 0) (b : Bool) → MatchBool b (Abends old t no_such_cell answered new) ((answered ≡ reply.Rc0) × Q) → Starts k r (ok ∷ not_taken ∷ [])
    at Q true x = two k r ok not_taken (inr (abends k r no_such_cell x))
    at Q false x = two k r ok not_taken (inl (rc0 k r x.0))

  denied : List ℕ
  denied = abend_opening no_access

  accessed : (k : SourceRequest) (r : Request) (Q : Type 0) (b : Bool) (front : List ℕ) → (answered ≡ reply.Done → In k r front) → MatchBool b (Abends old t no_access answered new) ((answered ≡ reply.Done) × Q) → Starts k r (front ∷ denied ∷ [])
  unfolding denied
  accessed k r Q true front f x = two k r front denied (inr (abends k r no_access x))
  accessed k r Q false front f x = two k r front denied (inl (f x.0))

  data_of : (k : SourceRequest) (a n : ℕ) → shown (statement.Request k) ≡ n → 0 < n → answered ≡ reply.Done → In k (request.Show a n) (codes "DATA +0000 ")
  data_of k a n is some e = by k (request.Show a n) (codes "DATA +0000 ") reply.Done e ((length_shown old a n ∙ sym is, (let s = is in omega (arith, s, some))), rest_data number t (bytes_at old a n) (let l = length_shown old a n in omega (arith, l, some)))

  short_of : Form → List ℕ
  short_of form = failed form (short (family form))

  obtained : (k : SourceRequest) (r : Request) (b : Bool) (form : Form) (P S : Type 0) (Q : PlaceValue → Type 0) (front : List ℕ) → ((p : PlaceValue) → answered ≡ reply.Obtained p → In k r front) → b ≡ false
      → MatchBool b P ((S × Fails (is_conditional form) old t (short (family form)) answered new) ⊎ ((p : PlaceValue) × (answered ≡ reply.Obtained p) × Q p)) → Starts k r (front ∷ short_of form ∷ [])
  unfolding short_of
  obtained k r true form P S Q front f e x = true_false e
  obtained k r false form P S Q front f e (inl x) = two k r front (short_of form) (inr (fails k r (is_conditional form) (short (family form)) x.1))
  obtained k r false form P S Q front f e (inr x) = two k r front (short_of form) (inl (f x.0 x.1))

  listed : (k : SourceRequest) (r : Request) (b : Bool) (form : Form) (P S : Type 0) (Q : List PlaceValue → Type 0) → b ≡ false
      → MatchBool b P ((S × Fails (is_conditional form) old t (short (family form)) answered new) ⊎ ((ps : List PlaceValue) × (answered ≡ reply.Listed ps) × Q ps)) → Starts k r (ok ∷ short_of form ∷ [])
  unfolding ok short_of
  listed k r true form P S Q e x = true_false e
  listed k r false form P S Q e (inl x) = two k r ok (short_of form) (inr (fails k r (is_conditional form) (short (family form)) x.1))
  listed k r false form P S Q e (inr x) = two k r ok (short_of form) (inl (by k r ok (reply.Listed x.0) x.1 (tt, rest_rc0 number t)))

  pub opened : (k : SourceRequest) (r : Request) → resolved names k ≡ Some r → OpenedBy k r
  unfolding ok unheld off full too_many not_taken denied short_of
  opened (written.Obtain form n ask true area) r e = subst (OpenedBy (written.Obtain form n ask true area)) (some_one _ r e)
      (λ some s x. obtained (written.Obtain form n ask true area) (request.Obtain form n ask) (is_invalid n) form _ _ _ (codes "RC 0 LENGTH ") (λ p e. by (written.Obtain form n ask true area) (request.Obtain form n ask) (codes "RC 0 LENGTH ") (reply.Obtained p) e (tt, rest_granted number t p.len)) s x)
  opened (written.Obtain form n ask false area) r e = subst (OpenedBy (written.Obtain form n ask false area)) (some_one _ r e)
      (λ some s x. obtained (written.Obtain form n ask false area) (request.Obtain form n ask) (is_invalid n) form _ _ _ ok (λ p e. by (written.Obtain form n ask false area) (request.Obtain form n ask) ok (reply.Obtained p) e (tt, rest_rc0 number t)) s x)
  opened (written.ObtainList form n lengths start areas) r e = subst (OpenedBy (written.ObtainList form n lengths start areas)) (some_one _ r e)
      (λ some s x. listed (written.ObtainList form n lengths start areas) (request.ObtainList form n lengths start) (is_invalid n) form _ _ _ s x)
  opened (written.Release form n location len) r e = map_is (address_of names location) _ r (OpenedBy (written.Release form n location len)) e (λ a some s x. released (written.Release form n location len) (request.Release form n (place_at a len)) form n (place_at a len ∷ []) s x)
  opened (written.ReleaseArea form n area) r e = map_is (get names area) _ r (OpenedBy (written.ReleaseArea form n area)) e (λ p some s x. released (written.ReleaseArea form n area) (request.Release form n p) form n (p ∷ []) s x)
  opened (written.ReleaseList form n locations lengths) r e = map_is (places_of names locations lengths) _ r (OpenedBy (written.ReleaseList form n locations lengths)) e (λ ps some s x. released (written.ReleaseList form n locations lengths) (request.ReleaseList form n ps) form n ps s x)
  opened (written.ReleaseWhole form n) r e = λ some s x. true_false s
  opened (written.Build pool n size primary secondary loc) r e = subst (OpenedBy (written.Build pool n size primary secondary loc)) (some_one _ r e)
      (λ some s x. built (written.Build pool n size primary secondary loc) (request.Build pool n size primary secondary loc) _ _ (is_invalid n) (contains_key old.pools pool) _ s x)
  opened (written.Get pool conditional cell) r e = subst (OpenedBy (written.Get pool conditional cell)) (some_one _ r e) (λ some s x. gets pool cell conditional (get old.pools pool) s x)
  opened (written.Free pool cell) r e = map_is (address_of names cell) _ r (OpenedBy (written.Free pool cell)) e (λ a some s x. frees (written.Free pool cell) (request.Free pool a) pool a (get old.pools pool) s x)
  opened (written.Delete pool) r e = λ some s x. true_false s
  opened (written.Attach name gifts residence) r e = λ some s x. true_false s
  opened written.Return r e = λ some s x. true_false s
  opened (written.Abend n) r e = λ some s x. true_false s
  opened (written.Show location n) r e = map_is (address_of names location) _ r (OpenedBy (written.Show location n)) e
      (λ a some s x. accessed (written.Show location n) (request.Show a n) _ _ (codes "DATA +0000 ") (λ d. data_of (written.Show location n) a n refl some d) x)
  opened (written.Put location bytes) r e = map_is (address_of names location) _ r (OpenedBy (written.Put location bytes)) e
      (λ a some s x. accessed (written.Put location bytes) (request.Put a bytes) _ _ (codes "OK\n") (λ d. by (written.Put location bytes) (request.Put a bytes) (codes "OK\n") reply.Done d (tt, rest_done number t)) x)
  opened (written.Move to from n) r e = two_is (address_of names to) (address_of names from) _ r (OpenedBy (written.Move to from n)) e
      (λ a b some s x. accessed (written.Move to from n) (request.Move a b n) _ _ (codes "OK\n") (λ d. by (written.Move to from n) (request.Move a b n) (codes "OK\n") reply.Done d (tt, rest_done number t)) x)
