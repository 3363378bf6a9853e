-- What a statement that is done does to tasks, subpools and pools, wherever places are.
use Rattle.std.proofs.Common.{◌≡◌, ℕ, inl, inr, Bool, true, false, List, [], ◌∷◌, map, length, Option, Some, None, arith, refl, sym, ap, ◌∙◌, subst}
use Rattle.std.specs.Prelude.{not, ◌==◌, if◌then◌else◌}
use Rattle.std.specs.Option.{option_map, option_and_then}
use Rattle.std.specs.FinMap.{FinMap, get}
use Rattle.mvs_laws.proofs.Types.{Name, SourceRequest, Request, Reply, Cell}
use Rattle.mvs_laws.proofs.Types.{Below}
use Rattle.mvs_model.specs.declared.line.SourceRequest.TheVariants as written
use Rattle.mvs_model.specs.Finite.{Changes, Keeps, kept}
use Rattle.mvs_model.specs.Name.{name_cmp, same_name}
use Rattle.mvs_model.specs.Place.{PlaceValue}
use Rattle.mvs_model.specs.Want.{fixed_want}
use Rattle.mvs_model.specs.Owners as owners
use Rattle.mvs_model.specs.Owners.{Owners, SubpoolOf, Enters, AreDescendants, Ends, ends_with, effective_task, subpool_meant}
use Rattle.mvs_model.specs.Pools.{Pool}
use Rattle.mvs_model.specs.State.{State}
use Rattle.mvs_model.specs.Changes.{End, ListGrant}
use Rattle.mvs_model.specs.Requests.{EmptiesEntry, Gets, GetsMore}
use Rattle.mvs_model.specs.Resolving.{resolved, address_of, places_of, places_in}
use Rattle.mvs_model.specs.Replies.{answer_of, is_abend, grant_answer}
use Rattle.mvs_model.specs.Steps.{Does, TakesSome, GivesBack, Deletes}
use Rattle.mvs_model.proofs.Tests.{none_some}
use Rattle.mvs_model.proofs.Orders.{same_name_is}
use Rattle.mvs_model.proofs.OneOwners.{one_subpool, one_enters, one_attach, one_fallen, one_ends}
use Rattle.judge.specs.Outline.{pool_at, Goes, way}

-- ---- what happens to pools

abbrev pub Pools : Type 0
Pools = Name → Option ℕ

abbrev pub SamePools : Pools → Pools → Type 0
SamePools p q = (name : Name) → p name ≡ q name

-- the pool of a name is now in this subpool, or gone
abbrev pub Puts : Pools → Name → Option ℕ → Pools → Type 0
Puts p name v q = (n : Name) → q n ≡ (if same_name n name then v else p n)

-- the pools of subpools that fail a test are gone
abbrev pub Filters : Pools → (ℕ → Bool) → Pools → Type 0
Filters p test q = (n : Name) → q n ≡ kept test (p n)

-- ---- the effect of a statement

-- Areas are obtained one after another under a number.
abbrev pub EntersEach : Owners → Name → ℕ → List ℕ → Owners → Type 0
EntersEach o t number [] new = new ≡ o
EntersEach o t number (n ∷ lengths) new = (s : ℕ) × SubpoolOf o t number s × ((mid : Owners) × Enters o t number s mid × EntersEach mid t number lengths new)

-- The task ends.
pub record Goes_away (o : Owners) (t : Name) (p : Pools) (new : Owners) (q : Pools) : Type 0 where
  pub fallen : List Name
  pub is_fallen : AreDescendants o t fallen
  pub ends : Ends o t fallen new
  pub pools : Filters p (λ s. not (ends_with o t fallen s)) q

-- how a test on the subpool that a task means is passed by another one
abbrev pub is_other : Option ℕ → ℕ → Bool
is_other None s = true
is_other (Some r) s = not (s == r)

abbrev pub Effect : SourceRequest → Name → Owners → Pools → Owners → Pools → Type 0
Effect (written.Obtain form n ask variable area) t o p new q = (s : ℕ) × SubpoolOf o (effective_task o t n) n s × Enters o (effective_task o t n) n s new × SamePools p q
Effect (written.ObtainList form n lengths start areas) t o p new q = EntersEach o (effective_task o t n) n lengths new × SamePools p q
Effect (written.Release form n location len) t o p new q = (new ≡ o) × SamePools p q
Effect (written.ReleaseArea form n area) t o p new q = (new ≡ o) × SamePools p q
Effect (written.ReleaseList form n locations lengths) t o p new q = (new ≡ o) × SamePools p q
Effect (written.ReleaseWhole form n) t o p new q = (new ≡ o) × Filters p (is_other (subpool_meant o t n)) q
Effect (written.Build pool n size primary secondary loc) t o p new q = (s : ℕ) × SubpoolOf o (effective_task o t n) n s × Enters o (effective_task o t n) n s new × Puts p pool (Some s) q
Effect (written.Get pool conditional cell) t o p new q = (new ≡ o) × SamePools p q
Effect (written.Free pool cell) t o p new q = (new ≡ o) × SamePools p q
Effect (written.Delete pool) t o p new q = (new ≡ o) × Puts p pool None q
Effect (written.Attach name gifts residence) t o p new q = owners.Attach o t name gifts residence new × SamePools p q
Effect written.Return t o p new q = Goes_away o t p new q
Effect (written.Abend n) t o p new q = ⊥
Effect (written.Show location n) t o p new q = (new ≡ o) × SamePools p q
Effect (written.Put location bytes) t o p new q = (new ≡ o) × SamePools p q
Effect (written.Move to from n) t o p new q = (new ≡ o) × SamePools p q

-- how many places it is granted
abbrev pub many : SourceRequest → ℕ
many (written.Obtain form n ask variable area) = 1
many (written.ObtainList form n lengths start areas) = length lengths
many (written.Get pool conditional cell) = 1
many _ = 0

-- ---- one effect

module _ (t : Name) (o : Owners) (p p' : Pools) (a b : Owners) (q q' : Pools) (same : SamePools p p') where
  abbrev One : Type 0
  One = (a ≡ b) × SamePools q q'

  pools_one : SamePools p q → SamePools p' q' → SamePools q q'
  pools_one x y name = sym (x name) ∙ same name ∙ y name

  puts_one : (name : Name) (v w : Option ℕ) → v ≡ w → Puts p name v q → Puts p' name w q' → SamePools q q'
  puts_one name v w e x y n = x n ∙ (λ i. if same_name n name then e i else same n i) ∙ sym (y n)

  filters_one : (f g : ℕ → Bool) → f ≡ g → Filters p f q → Filters p' g q' → SamePools q q'
  filters_one f g e x y n = x n ∙ (λ i. kept (e i) (same n i)) ∙ sym (y n)

  pub away_one : Goes_away o t p a q → Goes_away o t p' b q' → One
  away_one x y =
      let f = one_fallen o t x.fallen y.fallen x.is_fallen y.is_fallen in (
        one_ends o t y.fallen a b (subst (λ h. Ends o t h a) f x.ends) y.ends,
        filters_one (λ s. not (ends_with o t x.fallen s)) (λ s. not (ends_with o t y.fallen s)) (λ i. λ s. not (ends_with o t (f i) s)) x.pools y.pools,
      )

enters_each_one : (t : Name) (number : ℕ) (lengths : List ℕ) (o a b : Owners) → EntersEach o t number lengths a → EntersEach o t number lengths b → a ≡ b
enters_each_one t number [] o a b x y = x ∙ sym y
enters_each_one t number (n ∷ lengths) o a b x y =
    let s = one_subpool o t number x.0 y.0 x.1 y.1 in
    let m = one_enters o t number y.0 x.2.0 y.2.0 (subst (λ s. Enters o t number s x.2.0) s x.2.1) y.2.1 in
    enters_each_one t number lengths y.2.0 a b (subst (λ m. EntersEach m t number lengths a) m x.2.2) y.2.2

module _ (t : Name) (o : Owners) (p p' : Pools) (a b : Owners) (q q' : Pools) (same : SamePools p p') where
  pub one_effect : (k : SourceRequest) → Effect k t o p a q → Effect k t o p' b q' → (a ≡ b) × SamePools q q'
  one_effect (written.Obtain form n ask variable area) x y =
      let s = one_subpool o (effective_task o t n) n x.0 y.0 x.1 y.1 in
      (one_enters o (effective_task o t n) n y.0 a b (subst (λ s. Enters o (effective_task o t n) n s a) s x.2) y.2, pools_one t o p p' a b q q' same x.3 y.3)
  one_effect (written.ObtainList form n lengths start areas) x y = (enters_each_one (effective_task o t n) n lengths o a b x.0 y.0, pools_one t o p p' a b q q' same x.1 y.1)
  one_effect (written.Release form n location len) x y = (x.0 ∙ sym y.0, pools_one t o p p' a b q q' same x.1 y.1)
  one_effect (written.ReleaseArea form n area) x y = (x.0 ∙ sym y.0, pools_one t o p p' a b q q' same x.1 y.1)
  one_effect (written.ReleaseList form n locations lengths) x y = (x.0 ∙ sym y.0, pools_one t o p p' a b q q' same x.1 y.1)
  one_effect (written.ReleaseWhole form n) x y = (x.0 ∙ sym y.0, filters_one t o p p' a b q q' same (is_other (subpool_meant o t n)) (is_other (subpool_meant o t n)) refl x.1 y.1)
  one_effect (written.Build pool n size primary secondary loc) x y =
      let s = one_subpool o (effective_task o t n) n x.0 y.0 x.1 y.1 in
      (one_enters o (effective_task o t n) n y.0 a b (subst (λ s. Enters o (effective_task o t n) n s a) s x.2) y.2, puts_one t o p p' a b q q' same pool (Some x.0) (Some y.0) (ap Some s) x.3 y.3)
  one_effect (written.Get pool conditional cell) x y = (x.0 ∙ sym y.0, pools_one t o p p' a b q q' same x.1 y.1)
  one_effect (written.Free pool cell) x y = (x.0 ∙ sym y.0, pools_one t o p p' a b q q' same x.1 y.1)
  one_effect (written.Delete pool) x y = (x.0 ∙ sym y.0, puts_one t o p p' a b q q' same pool None None refl x.1 y.1)
  one_effect (written.Attach name gifts residence) x y = (one_attach o t name gifts residence a b x.0 y.0, pools_one t o p p' a b q q' same x.1 y.1)
  one_effect written.Return x y = away_one t o p p' a b q q' same x y
  one_effect (written.Abend n) x y = absurd x
  one_effect (written.Show location n) x y = (x.0 ∙ sym y.0, pools_one t o p p' a b q q' same x.1 y.1)
  one_effect (written.Put location bytes) x y = (x.0 ∙ sym y.0, pools_one t o p p' a b q q' same x.1 y.1)
  one_effect (written.Move to from n) x y = (x.0 ∙ sym y.0, pools_one t o p p' a b q q' same x.1 y.1)

-- ---- the effect of a request that is done

subpool_kept : (f : ℕ → Bool) (o : Option Pool) → option_map (λ pool. pool.subpool) (kept (λ pool. f pool.subpool) o) ≡ kept f (option_map (λ pool. pool.subpool) o)
subpool_kept f None = refl
subpool_kept f (Some pool) = by (f pool.subpool) where
  by : (b : Bool) → option_map (λ pool. pool.subpool) (if b then Some pool else None) ≡ (if b then Some pool.subpool else None)
  by true = refl
  by false = refl

module _ (old : State) (t : Name) (new : State) where
  abbrev Are : SourceRequest → Type 0
  Are k = Effect k t old.owners (pool_at old) new.owners (pool_at new)

  same_pools : new.pools ≡ old.pools → SamePools (pool_at old) (pool_at new)
  same_pools e name = ap (λ pools. option_map (λ pool. pool.subpool) (get pools name)) (sym e)

  put_pools : (name : Name) (v : Option Pool) → Changes (get old.pools) (λ n. same_name n name) v (get new.pools) → Puts (pool_at old) name (option_map (λ pool. pool.subpool) v) (pool_at new)
  put_pools name v x n = ap (option_map (λ pool. pool.subpool)) (x n) ∙ by (same_name n name) where
    by : (b : Bool) → option_map (λ pool. pool.subpool) (if b then v else get old.pools n) ≡ (if b then option_map (λ pool. pool.subpool) v else pool_at old n)
    by true = refl
    by false = refl

  filter_pools : (f : ℕ → Bool) → Keeps (get old.pools) (λ _ pool. f pool.subpool) (get new.pools) → Filters (pool_at old) f (pool_at new)
  filter_pools f x n = ap (option_map (λ pool. pool.subpool)) (x n) ∙ subpool_kept f (get old.pools n)

  pub end_away : End old t new → Goes_away old.owners t (pool_at old) new.owners (pool_at new)
  end_away e = record { fallen = e.fallen; is_fallen = e.is_fallen; ends = e.owners; pools = filter_pools (λ s. not (ends_with old.owners t e.fallen s)) e.drops.pools }

-- ---- what a request that is done leaves

put_same : (p q : Pools) (name : Name) (v : Option ℕ) → p name ≡ v → Puts p name v q → SamePools p q
put_same p q name v is x n = by (same_name n name) refl where
  by : (b : Bool) → same_name n name ≡ b → p n ≡ q n
  by true e = ap p (same_name_is n name e) ∙ is ∙ (λ i. if sym e i then v else p n) ∙ sym (x n)
  by false e = (λ i. if sym e i then v else p n) ∙ sym (x n)

-- A request is done: its effect, how many places it is granted, and that it is answered so.
pub record Doing (old : State) (t : Name) (new : State) (reply : Reply) (k : SourceRequest) (r : Request) : Type 0 where
  pub effect : Effect k t old.owners (pool_at old) new.owners (pool_at new)
  pub count : length (places_in reply) ≡ many k
  pub goes : way (answer_of old k r reply) ≡ Goes
  pub whole : is_abend reply ≡ false
  pub regions : new.regions ≡ old.regions

list_effect : (h : Name) (number start : ℕ) (lengths : List ℕ) (ps : List PlaceValue) (old new : State) → ListGrant old h number (map (λ n. fixed_want n start Below) lengths) ps new → EntersEach old.owners h number lengths new.owners × (new.pools ≡ old.pools) × (length ps ≡ length lengths) × (new.regions ≡ old.regions)
list_effect h number start [] [] old new x = (ap (λ st. st.owners) x, ap (λ st. st.pools) x, refl, ap (λ st. st.regions) x)
list_effect h number start [] (p ∷ ps) old new x = absurd x
list_effect h number start (n ∷ lengths) [] old new x = absurd x
list_effect h number start (n ∷ lengths) (p ∷ ps) old new x =
    let rest = list_effect h number start lengths ps x.0 new x.2 in
    ((x.1.subpool, x.1.is_subpool, (x.0.owners, x.1.owners, rest.0)), rest.1 ∙ x.1.pools, (let e = rest.2 in omega (arith, e)), rest.3 ∙ x.1.regions)

gets_effect : (old : State) (name : Name) (pool : Pool) (c : ℕ) (reply : Reply) (new : State) → pool_at old name ≡ Some pool.subpool → Gets old name pool c reply new → (new.owners ≡ old.owners) × SamePools (pool_at old) (pool_at new) × (length (places_in reply) ≡ 1) × (new.regions ≡ old.regions)
gets_effect old name pool c reply new is x = (x.0.owners, put_same (pool_at old) (pool_at new) name (Some pool.subpool) is (put_pools old t new name _ x.0.pools), ap (λ reply. length (places_in reply)) x.1, x.0.regions) where
  t : Name
  t = name

get_effect : (old : State) (name : Name) (o : Option Pool) (reply : Reply) (new : State) → get old.pools name ≡ o → TakesSome old name o reply new → (new.owners ≡ old.owners) × SamePools (pool_at old) (pool_at new) × (length (places_in reply) ≡ 1) × (new.regions ≡ old.regions)
get_effect old name None reply new e x = absurd x
get_effect old name (Some pool) reply new e (inl x) = gets_effect old name pool x.0 reply new (ap (option_map (λ pool. pool.subpool)) e) x.2
get_effect old name (Some pool) reply new e (inr x) =
    let more : GetsMore old name pool reply new = x.1 in
    let first = put_same (pool_at old) (pool_at more.1) name (Some pool.subpool) (ap (option_map (λ pool. pool.subpool)) e) (put_pools old name more.1 name _ more.2.pools) in
    let last = gets_effect more.1 name _ more.3.0 reply new (sym (first name) ∙ ap (option_map (λ pool. pool.subpool)) e) more.3.2 in
    (last.0 ∙ more.2.owners_are, (λ n. first n ∙ last.1 n), last.2, last.3 ∙ more.2.regions)

get_cell : (old : State) (name : Name) (o : Option Pool) (reply : Reply) (new : State) → TakesSome old name o reply new → (p : PlaceValue) × (reply ≡ Cell p)
get_cell old name None reply new x = absurd x
get_cell old name (Some pool) reply new (inl x) = (_, x.2.1)
get_cell old name (Some pool) reply new (inr x) = (_, x.1.3.2.1)

pub some_one : (a b : Request) → Some a ≡ Some b → a ≡ b
some_one a b e = let k : a ≡ b = cc in k

pub map_is : {A : Type 0} (o : Option A) (f : A → Request) (r : Request) (P : Request → Type 0) → option_map f o ≡ Some r → ((a : A) → P (f a)) → P r
map_is None f r P e h = none_some e
map_is (Some a) f r P e h = subst P (some_one (f a) r e) (h a)

pub two_is : {A B : Type 0} (o : Option A) (p : Option B) (f : A → B → Request) (r : Request) (P : Request → Type 0) → option_and_then (λ a. option_map (f a) p) o ≡ Some r → ((a : A) (b : B) → P (f a b)) → P r
two_is None p f r P e h = none_some e
two_is (Some a) p f r P e h = map_is p (f a) r P e (h a)

grant_goes : (k : SourceRequest) (p : PlaceValue) → way (grant_answer k p) ≡ Goes
grant_goes (written.Obtain form n ask true area) p = refl
grant_goes (written.Obtain form n ask false area) p = refl
grant_goes _ p = refl

module _ (names : FinMap name_cmp PlaceValue) (old : State) (t : Name) (new : State) (reply : Reply) where
  abbrev pub May : SourceRequest → Request → Type 0
  May k r = Does old t r reply new → Doing old t new reply k r

  abbrev pub Is : SourceRequest → Type 0
  Is k = (r : Request) → resolved names k ≡ Some r → May k r

  made : (k : SourceRequest) (r : Request) (c : Reply) → reply ≡ c → Effect k t old.owners (pool_at old) new.owners (pool_at new) → length (places_in c) ≡ many k → way (answer_of old k r c) ≡ Goes → is_abend c ≡ false → new.regions ≡ old.regions → Doing old t new reply k r
  made k r c e effect count goes whole regions = record {
    effect = effect;
    count = ap (λ c. length (places_in c)) e ∙ count;
    goes = ap (λ c. way (answer_of old k r c)) e ∙ goes;
    whole = ap is_abend e ∙ whole;
    regions = regions;
  }

  emptied : (o : Option ℕ) → EmptiesEntry old o new → (new.owners ≡ old.owners) × Filters (pool_at old) (is_other o) (pool_at new) × (new.regions ≡ old.regions)
  emptied None x = (ap (λ st. st.owners) x, λ n. ap (λ st. pool_at st n) x ∙ sym (all (pool_at old n)), ap (λ st. st.regions) x) where
    all : (v : Option ℕ) → kept (λ s. true) v ≡ v
    all None = refl
    all (Some s) = refl
  emptied (Some s) x = (x.owners, filter_pools old t new (λ u. not (u == s)) x.drops.pools, x.drops.regions)

  given_back : (name : Name) (c : ℕ) (o : Option Pool) → get old.pools name ≡ o → GivesBack old name c o new → (new.owners ≡ old.owners) × SamePools (pool_at old) (pool_at new) × (new.regions ≡ old.regions)
  given_back name c None e x = absurd x
  given_back name c (Some pool) e x = (x.owners, put_same (pool_at old) (pool_at new) name (Some pool.subpool) (ap (option_map (λ pool. pool.subpool)) e) (put_pools old t new name _ x.pools), x.regions)

  deleted : (name : Name) (o : Option Pool) → Deletes old name o new → (new.owners ≡ old.owners) × Puts (pool_at old) name None (pool_at new) × (new.regions ≡ old.regions)
  deleted name None x = absurd x
  deleted name (Some pool) x = (x.owners, put_pools old t new name None x.pools, x.regions)

  pub does_effect : (k : SourceRequest) → Is k
  does_effect (written.Obtain form n ask variable area) r e = subst (May (written.Obtain form n ask variable area)) (some_one _ r e)
      (λ x. made _ _ _ x.1 (x.2.subpool, x.2.is_subpool, x.2.owners, same_pools old t new x.2.pools) refl (grant_goes (written.Obtain form n ask variable area) x.0) refl x.2.regions)
  does_effect (written.ObtainList form n lengths start areas) r e = subst (May (written.ObtainList form n lengths start areas)) (some_one _ r e)
      (λ x. let g = list_effect (effective_task old.owners t n) n start lengths x.0 old new x.2 in made _ _ _ x.1 (g.0, same_pools old t new g.1) g.2 refl refl g.3)
  does_effect (written.Release form n location len) r e = map_is (address_of names location) _ r (May (written.Release form n location len)) e (λ a x. made _ _ _ x.0 (x.1.owners, same_pools old t new x.1.pools) refl refl refl x.1.regions)
  does_effect (written.ReleaseArea form n area) r e = map_is (get names area) _ r (May (written.ReleaseArea form n area)) e (λ a x. made _ _ _ x.0 (x.1.owners, same_pools old t new x.1.pools) refl refl refl x.1.regions)
  does_effect (written.ReleaseList form n locations lengths) r e = map_is (places_of names locations lengths) _ r (May (written.ReleaseList form n locations lengths)) e (λ a x. made _ _ _ x.0 (x.1.owners, same_pools old t new x.1.pools) refl refl refl x.1.regions)
  does_effect (written.ReleaseWhole form n) r e = subst (May (written.ReleaseWhole form n)) (some_one _ r e)
      (λ x. let y = emptied (subpool_meant old.owners t n) x.1 in made _ _ _ x.0 (y.0, y.1) refl refl refl y.2)
  does_effect (written.Build pool n size primary secondary loc) r e = subst (May (written.Build pool n size primary secondary loc)) (some_one _ r e)
      (λ x. let b = x.1 in made _ _ _ x.0 (b.0, b.1, subst (Enters old.owners (effective_task old.owners t n) n b.0) (sym b.2.3.owners_are) b.2.2, put_pools old t new pool _ b.2.3.pools) refl refl refl b.2.3.regions)
  does_effect (written.Get pool conditional cell) r e = subst (May (written.Get pool conditional cell)) (some_one _ r e)
      (λ x. let g = get_effect old pool (get old.pools pool) reply new refl x in let c = get_cell old pool (get old.pools pool) reply new x in made _ _ _ c.1 (g.0, g.1) refl refl refl g.3)
  does_effect (written.Free pool cell) r e = map_is (address_of names cell) _ r (May (written.Free pool cell)) e (λ a x. let y = given_back pool a (get old.pools pool) refl x.1 in made _ _ _ x.0 (y.0, y.1) refl refl refl y.2)
  does_effect (written.Delete pool) r e = subst (May (written.Delete pool)) (some_one _ r e)
      (λ x. let y = deleted pool (get old.pools pool) x.1 in made _ _ _ x.0 (y.0, y.1) refl refl refl y.2)
  does_effect (written.Attach name gifts residence) r e = subst (May (written.Attach name gifts residence)) (some_one _ r e)
      (λ x. made _ _ _ x.0 (x.1.owners, same_pools old t new x.1.pools) refl refl refl x.1.regions)
  does_effect written.Return r e = subst (May written.Return) (some_one _ r e)
      (λ x. made _ _ _ x.0 (end_away old t new x.1) refl refl refl x.1.drops.regions)
  does_effect (written.Abend n) r e = subst (May (written.Abend n)) (some_one _ r e) (λ x. absurd x)
  does_effect (written.Show location n) r e = map_is (address_of names location) _ r (May (written.Show location n)) e (λ a x. made _ _ _ x.0 (ap (λ st. st.owners) x.1, same_pools old t new (ap (λ st. st.pools) x.1)) refl refl refl (ap (λ st. st.regions) x.1))
  does_effect (written.Put location bytes) r e = map_is (address_of names location) _ r (May (written.Put location bytes)) e (λ a x. made _ _ _ x.0 (x.1.owners, same_pools old t new x.1.pools) refl refl refl x.1.regions)
  does_effect (written.Move to from n) r e = two_is (address_of names to) (address_of names from) _ r (May (written.Move to from n)) e (λ a b x. made _ _ _ x.0 (x.1.owners, same_pools old t new x.1.pools) refl refl refl x.1.regions)
