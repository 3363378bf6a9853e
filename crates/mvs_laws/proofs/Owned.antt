-- In every state of a run what is held has an owner.
use Rattle.std.proofs.Common.{◌≡◌, ℕ, zero, suc, ◌<◌, ◌≤◌, ◌⊎◌, inl, inr, Bool, true, false, cond, List, Option, Some, None, refl, sym, ap, ◌∙◌, subst, arith, nat_lt, MatchOption, IsSome, is_some, not, ◌&&◌, ◌||◌, ◌==◌, nat_cmp, MatchBool, eqb-true, ltb-true}
use Rattle.std.proofs.lemmas.Bool.Decides.{nat_tests}
use Rattle.std.specs.FinMap.{get, get-empty, contains_key}
use Rattle.std.specs.FinSet as set
use Rattle.std.proofs.lemmas.Bool.{and_parts, or_right, not-true}
use Rattle.std.proofs.lemmas.Grind.{common_steps}
use Rattle.mvs_laws.proofs.Types.{Code, Name, Obtain, Abended, NotRun, Obtained, Rc4}
use Rattle.mvs_model.proofs.StepCases.{step_cases}
use Rattle.mvs_model.specs.Card.{CardValue}
use Rattle.mvs_model.specs.Finite.{Changes, has}
use Rattle.mvs_model.specs.Gifts.{GiftsValue, gives, has_bit, shares}
use Rattle.mvs_model.specs.Name.{name_cmp, same_name}
use Rattle.mvs_model.specs.Owners.{Binds, Ends, Enters, EntersBelow, IsSpare, Owners, SubpoolOf, Task, ends_with, entered, entry, entry_cmp, handed, is_active, is_given, effective_task, none, passed}
use Rattle.mvs_model.proofs.ByCase.{attach_refusal}
use Rattle.mvs_model.specs.Changes.{Drops, Extends, GrantTo, ShortOf, with_part}
use Rattle.mvs_model.specs.Codes.{bad_subpool, family, is_conditional, short}
use Rattle.mvs_model.specs.Place.{PlaceValue}
use Rattle.mvs_model.specs.Pools.{Pool}
use Rattle.mvs_laws.specs.LeavesUntouched.{GrantsSpare, OwnerStays, LeavesUntouched}
use Rattle.mvs_model.specs.Consequences.{Abends, Refuses}
use Rattle.mvs_model.proofs.ByCase.{Acts, Fails}
use Rattle.mvs_model.specs.Requests.{is_invalid, new_pool, side_for}
use Rattle.mvs_model.specs.Want.{want_of}
use Rattle.mvs_model.specs.Storage.{covers}
use Rattle.mvs_model.specs.Start.{start}
use Rattle.mvs_model.specs.State.{State, Holding, plain}
use Rattle.mvs_model.specs.Subpool.{is_subpool_number}
use Rattle.mvs_model.specs.WellFormed.{HasOwners, Owned}
use Rattle.mvs_laws.specs.Laws.{StaysWellFormed}
use Rattle.mvs_laws.proofs.Going.{pages_kept, running_keeps, start_sized}
use Rattle.mvs_laws.proofs.Kept.{Closed, IsAsker, enters_tasks}
use Rattle.mvs_model.proofs.Orders.{same_name_is, same_name_self}
use Rattle.mvs_laws.proofs.PartsApart.{StaysApart, apart_closed, start_apart}
use Rattle.mvs_model.proofs.PoolPut.{put_here}
use Rattle.mvs_model.proofs.Below.{below_some, some_below}
use Rattle.mvs_model.proofs.Tests.{kept_is, none_some, some_none, true_false, same_self}

-- ---- a change at keys that pass a test

cases : {X : Type 0} (b : Bool) (v o : Option X) (x : X) → cond b v o ≡ Some x → ((b ≡ true) × (v ≡ Some x)) ⊎ ((b ≡ false) × (o ≡ Some x))
cases b v o x h1 = grind (arith, common_steps)

some_is : {X : Type 0} (o : Option X) (x : X) → o ≡ Some x → IsSome o
some_is o x e = ap is_some e

changed_some : {X : Type 0} (b : Bool) (x : X) (o : Option X) → IsSome o → IsSome (cond b (Some x) o)
changed_some b x o h1 = grind (arith, common_steps)

-- ---- a task enters a subpool

-- What is so after it: all are owned, and what had an owner has one.
record Entered (o : Owners) (s : ℕ) (new : Owners) : Type 0 where
  owned : Owned new
  tasks : new.tasks ≡ o.tasks
  owner : IsSome (get new.owner s)
  still : (r : ℕ) → IsSome (get o.owner r) → IsSome (get new.owner r)

module _ (o : Owners) (t : Name) (number s : ℕ) (new : Owners) (asks : IsAsker o t number) (own : Owned o) where
  new_entry : Binds o t number s new → (u : Name) (n r : ℕ) → entry new u n ≡ Some r → ((u ≡ t) × (n ≡ number) × (r ≡ s)) ⊎ (entry o u n ≡ Some r)
  new_entry b u n r e = grind (arith, nat_tests, cases, same_name_is)

  bound : entry o t number ≡ None → Binds o t number s new → Entered o s new
  bound fresh b = record {
    owned = record {
      owned = owned;
      has_owner = λ u n r e. elim (new_entry b u n r e) [ inl h ↦ subst (λ x. IsSome (get new.owner x)) (sym h.2) owner | inr h ↦ still r (own.has_owner u n r h) ];
      active = λ u n r e. ap (λ m. contains_key m u) b.tasks ∙ (elim (new_entry b u n r e) [ inl h ↦ ap (is_active o) h.0 ∙ asks.active | inr h ↦ own.active u n r h ]);
      numbers = λ u n r e. elim (new_entry b u n r e) [ inl h ↦ ap is_subpool_number h.1 ∙ asks.valid | inr h ↦ own.numbers u n r h ];
    };
    tasks = b.tasks;
    owner = owner;
    still = still;
  } where
    owner : IsSome (get new.owner s)
    owner = some_is (get new.owner s) t (b.owner s ∙ ap (λ c. cond c (Some t) (get o.owner s)) (same_self s))

    still : (r : ℕ) → IsSome (get o.owner r) → IsSome (get new.owner r)
    still r h = ap is_some (b.owner r) ∙ changed_some (r == s) t (get o.owner r) h

    owned : (u : Name) (r : ℕ) → get new.owner r ≡ Some u → (n : ℕ) × (entry new u n ≡ Some r)
    owned u r e = elim (cases (r == s) (Some t) (get o.owner r) u (sym (b.owner r) ∙ e)) [
      | inl h ↦
          let is_t : t ≡ u = (let f : Some t ≡ Some u = h.1 in cc) in
          (number, ap (λ x. entry new x number) (sym is_t) ∙ b.table (t, number) ∙ (λ i. cond (same_name_self t i && same_self number i) (Some s) (entry o t number)) ∙ ap (λ x. Some x) (sym (eqb-true r s h.0)))
      | inr h ↦ let n = own.owned u r h.1 in (n.0, b.table (u, n.0) ∙ other u r n.0 n.1 (same_name u t && (n.0 == number)) refl)
    ] where
      other : (u : Name) (r n : ℕ) → entry o u n ≡ Some r → (c : Bool) → (same_name u t && (n == number)) ≡ c → cond c (Some s) (entry o u n) ≡ Some r
      other u r n f false c = f
      other u r n f true c =
          let k = and_parts (same_name u t) (n == number) c in
          let is_none : entry o u n ≡ None = (λ i. entry o (same_name_is u t k.0 i) (eqb-true n number k.1 i)) ∙ fresh in
          some_none (sym f ∙ is_none)

  enters_owned : SubpoolOf o t number s → Enters o t number s new → Entered o s new
  enters_owned of enters = at (entry o t number) refl of enters where
    at : (e : Option ℕ) → entry o t number ≡ e → MatchOption e (IsSpare o s) (λ r. s ≡ r) → MatchOption e (Binds o t number s new) (λ _. new ≡ o) → Entered o s new
    at None e spare b = bound e b
    at (Some r) e is same = record {
      owned = subst Owned (sym same) own;
      tasks = ap (λ x. x.tasks) same;
      owner = subst (λ x. IsSome (get x.owner s)) (sym same) (subst (λ y. IsSome (get o.owner y)) (sym is) (own.has_owner t number r e));
      still = λ q h. subst (λ x. IsSome (get x.owner q)) (sym same) h;
    }

-- ---- tasks end

module _ (o : Owners) (t : Name) (fallen : List Name) (new : Owners) (ends : Ends o t fallen new) (own : Owned o) where
  ends_still : (s : ℕ) → IsSome (get o.owner s) → ends_with o t fallen s ≡ false → IsSome (get new.owner s)
  ends_still s h e = grind (arith, nat_tests)

  ends_owned : Owned new
  ends_owned = grind (arith, nat_tests)

-- ---- a subtask is attached

-- What is so after the subpools that an ATTACH makes.
record Made (o new : Owners) : Type 0 where
  owned : Owned new
  tasks : new.tasks ≡ o.tasks
  still : (r : ℕ) → IsSome (get o.owner r) → IsSome (get new.owner r)

task_number : (n : ℕ) → n < 128 → is_subpool_number n ≡ true
task_number n l = grind (arith, nat_tests)

made : (o : Owners) (t : Name) (wanted : ℕ → Bool) (n : ℕ) (new : Owners) → is_active o t ≡ true → n ≤ 128 → EntersBelow o t wanted n new → Owned o → Made o new
made o t wanted zero new active low none own = record { owned = own; tasks = refl; still = λ r h. h }
made o t wanted (suc n) new active low (passed before e) own = made o t wanted n new active (omega (arith, low)) before own
made o t wanted (suc n) new active low (entered s {now = now} before e of enters) own =
    let m = made o t wanted n now active (omega (arith, low)) before own in
    let k = enters_owned now t n s new (record { active = ap (λ x. contains_key x t) m.tasks ∙ active; valid = task_number n (omega (arith, low)) }) m.owned of enters in
    record { owned = k.owned; tasks = k.tasks ∙ m.tasks; still = λ r h. k.still r (m.still r h) }

has_is : (o : Option ℕ) (s : ℕ) → has (λ r. r == s) o ≡ true → o ≡ Some s
has_is o s h1 = grind (arith, nat_tests)

module _ (o : Owners) (mother name : Name) (gifts : GiftsValue) (new : Owners) (ready : Owners) (table : (t : Name) (n : ℕ) → entry new t n ≡ handed ready mother name gifts t n) (owner : Changes (get ready.owner) (is_given ready mother gifts) (Some name) (get new.owner))
    (tasks : (x : Name) → is_active new x ≡ (same_name name x || is_active ready x)) (fresh : is_active ready name ≡ false) (own : Owned ready) where
  -- what a task has after the gifts it or the mother had before
  had : (t : Name) (n s : ℕ) → entry new t n ≡ Some s → (((t ≡ name) × (entry ready mother n ≡ Some s)) ⊎ (entry ready t n ≡ Some s))
  had t n s e = grind (arith, nat_tests, same_name_is)

  -- the subtask has what is given
  given_entry : (n s : ℕ) → gives gifts n ≡ true → entry ready mother n ≡ Some s → entry new name n ≡ Some s
  given_entry n s g e = table name n ∙ (λ i. cond (same_name_self name i) (cond (g i || shares gifts n) (entry ready mother n) None) (cond (same_name name mother && gives gifts n) None (entry ready name n))) ∙ e

  -- and another task what it had, if it is not given
  kept_entry : (t : Name) (n s : ℕ) → entry ready t n ≡ Some s → is_given ready mother gifts s ≡ false → entry new t n ≡ Some s
  kept_entry t n s e out = table t n ∙ at (same_name t name) refl (same_name t mother && gives gifts n) refl where
    at : (a : Bool) → same_name t name ≡ a → (c : Bool) → (same_name t mother && gives gifts n) ≡ c → cond a (cond (gives gifts n || shares gifts n) (entry ready mother n) None) (cond c None (entry ready t n)) ≡ Some s
    at true is c f = true_false (sym (own.active t n s e) ∙ ap (is_active ready) (same_name_is t name is) ∙ fresh)
    at false is false f = e
    at false is true f =
        let k = and_parts (same_name t mother) (gives gifts n) f in
        let low = and_parts (nat_lt n 128) (has_bit gifts.given n) k.1 in
        let there : entry ready mother n ≡ Some s = ap (λ x. entry ready x n) (sym (same_name_is t mother k.0)) ∙ e in
        let given : is_given ready mother gifts s ≡ true =
        some_below (λ n. gives gifts n && has (λ r. r == s) (entry ready mother n)) 128 n (ltb-true n 128 low.0) ((λ i. k.1 i && has (λ r. r == s) (there i)) ∙ same_self s) in
        true_false (sym given ∙ out)

  attach_still : (s : ℕ) → IsSome (get ready.owner s) → IsSome (get new.owner s)
  attach_still s h = ap is_some (owner s) ∙ changed_some (is_given ready mother gifts s) name (get ready.owner s) h

  attach_owned : Owned new
  attach_owned = record {
    owned = λ t s e. elim (cases (is_given ready mother gifts s) (Some name) (get ready.owner s) t (sym (owner s) ∙ e)) [
      | inl h ↦
          let is_t : name ≡ t = (let f : Some name ≡ Some t = h.1 in cc) in
          let k = below_some (λ n. gives gifts n && has (λ r. r == s) (entry ready mother n)) 128 h.0 in
          let g = and_parts (gives gifts k.0) (has (λ r. r == s) (entry ready mother k.0)) k.2 in
          (k.0, subst (λ x. entry new x k.0 ≡ Some s) is_t (given_entry k.0 s g.0 (has_is (entry ready mother k.0) s g.1)))
      | inr h ↦ let n = own.owned t s h.1 in (n.0, kept_entry t n.0 s n.1 h.0)
    ];
    has_owner = λ t n s e. attach_still s (elim (had t n s e) [ inl h ↦ own.has_owner mother n s h.1 | inr h ↦ own.has_owner t n s h ]);
    active = λ t n s e. tasks t ∙ (elim (had t n s e) [
      | inl h ↦ ap (λ c. c || is_active ready t) (ap (same_name name) h.0 ∙ same_name_self name)
      | inr h ↦ or_right (same_name name t) (is_active ready t) (own.active t n s h)
    ]);
    numbers = λ t n s e. elim (had t n s e) [ inl h ↦ own.numbers mother n s h.1 | inr h ↦ own.numbers t n s h ];
  }

-- ---- each change keeps it

module _ (old new : State) (k : HasOwners old) where
  -- what is held and which pools there are, where their subpools keep their owners
  follow : Owned new.owners → ((r : ℕ) → IsSome (get old.owners.owner r) → IsSome (get new.owners.owner r))
      → ((d : ℕ) (h : Holding) → get new.held d ≡ Some h → IsSome (get new.owners.owner h.subpool) ⊎ (get old.held d ≡ Some h))
      → ((name : Name) (pool : Pool) → get new.pools name ≡ Some pool → IsSome (get new.owners.owner pool.subpool) ⊎ (get old.pools name ≡ Some pool)) → HasOwners new
  follow owned still held pools = record {
    owned = owned;
    held = λ d h e. elim (held d h e) [ inl x ↦ x | inr f ↦ still h.subpool (k.held d h f) ];
    pools = λ name pool e. elim (pools name pool e) [ inl x ↦ x | inr f ↦ still pool.subpool (k.pools name pool f) ];
  }

  -- the owners are as before
  alike : new.owners ≡ old.owners
      → ((d : ℕ) (h : Holding) → get new.held d ≡ Some h → get old.held d ≡ Some h)
      → ((name : Name) (pool : Pool) → get new.pools name ≡ Some pool → IsSome (get old.owners.owner pool.subpool)) → HasOwners new
  alike same held pools = record {
    owned = subst Owned (sym same) k.owned;
    held = λ d h e. subst (λ o. IsSome (get o.owner h.subpool)) (sym same) (k.held d h (held d h e));
    pools = λ name pool e. subst (λ o. IsSome (get o.owner pool.subpool)) (sym same) (pools name pool e);
  }

  same_held : new.held ≡ old.held → (d : ℕ) (h : Holding) → get new.held d ≡ Some h → get old.held d ≡ Some h
  same_held e d h f = sym (ap (λ m. get m d) e) ∙ f

  same_pools : new.pools ≡ old.pools → (name : Name) (pool : Pool) → get new.pools name ≡ Some pool → get old.pools name ≡ Some pool
  same_pools e name pool f = sym (ap (λ m. get m name) e) ∙ f

  less_held : (test : ℕ → Bool) → Changes (get old.held) test None (get new.held) → (d : ℕ) (h : Holding) → get new.held d ≡ Some h → get old.held d ≡ Some h
  less_held test changes d h e = elim (cases (test d) None (get old.held d) h (sym (changes d) ∙ e)) [ inl f ↦ none_some f.1 | inr f ↦ f.1 ]

  -- a pool is put in another's place
  put_pool : (name : Name) (pool : Pool) → IsSome (get old.owners.owner pool.subpool) → Changes (get old.pools) (λ n. same_name n name) (Some pool) (get new.pools) → (n : Name) (q : Pool) → get new.pools n ≡ Some q → IsSome (get old.owners.owner q.subpool)
  put_pool name pool has_one changes n q e = grind (arith, nat_tests)

-- what a pool is given more is of its subpool
extends_owners : (old new : State) (name : Name) (pool : Pool) (count : ℕ) (p : PlaceValue) (o : Owners) → Extends old name pool count p o new → HasOwners old → Owned o → IsSome (get o.owner pool.subpool)
    → ((r : ℕ) → IsSome (get old.owners.owner r) → IsSome (get o.owner r)) → HasOwners new
extends_owners old new name pool count p o x k owned has_one still = grind (arith, nat_tests)

-- a cell is taken or given back
cell_owners : (old new : State) (name : Name) (pool : Pool) (taken : set.FinSet nat_cmp) → get old.pools name ≡ Some pool → new.held ≡ old.held → new.owners ≡ old.owners
    → Changes (get old.pools) (λ n. same_name n name) (Some (record pool { taken = taken })) (get new.pools) → HasOwners old → HasOwners new
cell_owners old new name pool taken is held owners pools k = alike old new k owners (same_held old new k held) (put_pool old new k name (record pool { taken = taken }) (k.pools name pool is) pools)

drops_owners : (old new : State) (test : ℕ → Bool) → Drops old test new → HasOwners old → Owned new.owners → ((r : ℕ) → IsSome (get old.owners.owner r) → test r ≡ false → IsSome (get new.owners.owner r)) → HasOwners new
drops_owners old new test g k owned still = record {
  owned = owned;
  held = λ d h e. let f = kept_is (λ x. not (test x.subpool)) (get old.held d) h (sym (g.held d) ∙ e) in still h.subpool (k.held d h f.0) (not-true (test h.subpool) f.1);
  pools = λ n q e. let f = kept_is (λ x. not (test x.subpool)) (get old.pools n) q (sym (g.pools n) ∙ e) in still q.subpool (k.pools n q f.0) (not-true (test q.subpool) f.1);
}

-- the subtask's name was no task's
fresh_name : (o : Owners) (t name : Name) (gifts : GiftsValue) → attach_refusal o t name gifts ≡ None → is_active o name ≡ false
fresh_name o t name gifts e = grind (arith, nat_tests)

active_then : (old new : Owners) (name : Name) (task : Task) (x : Name) → Changes (get old.tasks) (same_name name) (Some task) (get new.tasks) → is_active new x ≡ (same_name name x || is_active old x)
active_then old new name task x changes = grind (arith, nat_tests)

owners_closed : Closed HasOwners
owners_closed = record {
  granted = λ old t number want p new asks g k.
      let e = enters_owned old.owners t number g.subpool new.owners asks k.owned g.is_subpool g.owners in
      follow old new k e.owned e.still
      (λ d h f. elim (cases (covers p d) (Some (plain g.subpool)) (get old.held d) h (sym (g.held d) ∙ f)) [
        | inl c ↦ inl (let s : plain g.subpool ≡ h = (let y : Some (plain g.subpool) ≡ Some h = c.1 in cc) in subst (λ x. IsSome (get new.owners.owner x.subpool)) s e.owner)
        | inr c ↦ inr c.1
      ])
      (λ n q f. inr (same_pools old new k g.pools n q f));
  freed = λ old s ps new w r f k. alike old new k f.owners (less_held old new k _ f.held) (λ n q e. k.pools n q (same_pools old new k f.pools n q e));
  emptied = λ old s new e k. drops_owners old new _ e.drops k (subst Owned (sym e.owners) k.owned) (λ r h _. subst (λ o. IsSome (get o.owner r)) (sym e.owners) h);
  ended = λ old t new e k. drops_owners old new _ e.drops k (ends_owned old.owners t e.fallen new.owners e.owners k.owned) (ends_still old.owners t e.fallen new.owners e.owners k.owned);
  built = λ old t name number s plan p o new fresh r asks is enters x k.
      let e = enters_owned old.owners t number s o asks k.owned is enters in
      extends_owners old new name (new_pool s plan) plan.primary p o x k e.owned e.owner e.still;
  grown = λ old name pool p mid c new is x cell g k.
      let m = extends_owners old mid name pool pool.secondary p old.owners x k k.owned (k.pools name pool is) (λ r h. h) in
      cell_owners mid new name (with_part pool pool.secondary p) _ (put_here old mid name (Some (with_part pool pool.secondary p)) x.pools) g.held g.owners g.pools m;
  taken = λ old name pool c new is f g k. cell_owners old new name pool _ is g.held g.owners g.pools k;
  given = λ old name pool c new is f g k. cell_owners old new name pool _ is g.held g.owners g.pools k;
  dropped = λ old name pool new is g k. alike old new k g.owners (less_held old new k _ g.held)
      (λ n q e. elim (cases (same_name n name) None (get old.pools n) q (sym (g.pools n) ∙ e)) [ inl f ↦ none_some f.1 | inr f ↦ k.pools n q f.1 ]);
  attached = λ old t name gifts residence new active refusal g k.
      let a = g.owners in
      let m = made old.owners t (shares gifts) 128 a.ready active (omega arith) a.made k.owned in
      let fresh : is_active a.ready name ≡ false = ap (λ x. contains_key x name) m.tasks ∙ fresh_name old.owners t name gifts refusal in
      let tasks : (x : Name) → is_active new.owners x ≡ (same_name name x || is_active a.ready x) = λ x. active_then old.owners new.owners name _ x a.tasks ∙ ap (λ y. same_name name x || contains_key y x) (sym m.tasks) in
      follow old new k (attach_owned old.owners t name gifts new.owners a.ready a.table a.owner tasks fresh m.owned)
      (λ r h. attach_still old.owners t name gifts new.owners a.ready a.table a.owner tasks fresh m.owned r (m.still r h))
      (λ d h f. inr (same_held old new k g.held d h f)) (λ n q f. inr (same_pools old new k g.pools n q f));
  written = λ old p value new e has g k. alike old new k g.owners (same_held old new k g.held) (λ n q f. k.pools n q (same_pools old new k g.pools n q f));
}

-- at the start no task has a subpool
start_owned : (card : CardValue) → HasOwners (start card)
start_owned card = record {
  owned = record {
    owned = λ t s e. none_some (sym (get-empty nat_cmp s) ∙ e);
    has_owner = λ t n s e. absurd (no_entry t n s e);
    active = λ t n s e. absurd (no_entry t n s e);
    numbers = λ t n s e. absurd (no_entry t n s e);
  };
  held = λ d h e. none_some (sym (get-empty nat_cmp d) ∙ e);
  pools = λ n q e. none_some (sym (get-empty name_cmp n) ∙ e);
} where
  no_entry : (t : Name) (n s : ℕ) → entry (start card).owners t n ≡ Some s → ⊥
  no_entry t n s e = let f : None ≡ Some s = sym (get-empty entry_cmp (t, n)) ∙ e in absurd (cc)

-- In every state of a run all of it holds.
pub well_formed : StaysWellFormed
well_formed job is =
    let apart = running_keeps StaysApart apart_closed (λ card is. (start_apart card, start_sized card)) job is in
    record {
      pages = pages_kept job is;
      apart = apart.0;
      owners = running_keeps HasOwners owners_closed (λ card is. start_owned card) job is;
      sized = apart.1;
    }

-- ---- a granted obtain spares each byte

pub grants_spare : GrantsSpare
grants_spare job is a t form number ask p new step = at (is_active job.state.owners t) (step_cases job.state t (Obtain form number ask) (Obtained p) new step) where
  owners : HasOwners job.state
  owners = (well_formed job is).owners

  spared : GrantTo job.state (effective_task job.state.owners t number) number (want_of ask (side_for job.state t form ask.loc)) p new → OwnerStays job.state a new
  spared g s u held owner =
      let n = owners.owned.owned u s owner in
      ap (λ m. contains_key m u) (enters_tasks job.state.owners (effective_task job.state.owners t number) number g.subpool new.owners g.owners) ∙ owners.owned.active u n.0 s n.1

  no_refusal : (c : Bool) (code : Code) → Fails c job.state t code (Obtained p) new → ⊥
  no_refusal true code h = let e : Obtained p ≡ Rc4 = h.0 in absurd (cc)
  no_refusal false code h = let e : Obtained p ≡ Abended code h.0.fallen = h.1 in absurd (cc)

  obtained : (c : Bool) → MatchBool c (Abends job.state t (bad_subpool (family form) true) (Obtained p) new)
      ((ShortOf job.state (effective_task job.state.owners t number) number (want_of ask (side_for job.state t form ask.loc)) × Fails (is_conditional form) job.state t (short (family form)) (Obtained p) new)
      ⊎ ((q : PlaceValue) × (Obtained p ≡ Obtained q) × GrantTo job.state (effective_task job.state.owners t number) number (want_of ask (side_for job.state t form ask.loc)) q new)) → OwnerStays job.state a new
  obtained true h = let e : Obtained p ≡ Abended (bad_subpool (family form) true) h.0.fallen = h.1 in absurd (cc)
  obtained false (inl f) = absurd (no_refusal (is_conditional form) _ f.1)
  obtained false (inr g) = let same : g.0 ≡ p = (let e : Obtained p ≡ Obtained g.0 = g.1 in cc) in spared (subst (λ q. GrantTo job.state (effective_task job.state.owners t number) number (want_of ask (side_for job.state t form ask.loc)) q new) same g.2)

  at : (c : Bool) → MatchBool (not c) (Refuses job.state NotRun (Obtained p) new) (Acts job.state t (Obtain form number ask) (Obtained p) new) → LeavesUntouched job.state t a (Obtain form number ask) × OwnerStays job.state a new
  at true h = (tt, obtained (is_invalid number) h)
  at false h = absurd (let e : Obtained p ≡ NotRun = h.0 in cc)
