-- A step is determined by the places that it grants.
use Rattle.std.proofs.Common.{◌≡◌, ℕ, ◌≤◌, ◌⊎◌, inl, inr, Bool, true, false, cond, List, [], ◌∷◌, map, length, Option, Some, None, arith, refl, sym, ap, ◌∙◌, subst}
use Rattle.std.specs.Prelude.{not, ◌&&◌, ◌==◌, ◌++◌, nat_le, if◌then◌else◌}
use Rattle.std.specs.Bool.{MatchBool}
use Rattle.std.specs.List.{list_all}
use Rattle.std.proofs.lemmas.Bool.{cases_lt}
use Rattle.std.specs.FinMap.{get, same_map, contains_key, len}
use Rattle.std.specs.FinSet as set
use Rattle.mvs_model.specs.declared.name.Name.{Name}
use Rattle.mvs_model.specs.declared.want.Side.TheVariants.{Below}
use Rattle.mvs_model.specs.declared.want.Residence.{Residence}
use Rattle.mvs_model.specs.declared.code.Form.{Form}
use Rattle.mvs_model.specs.declared.code.Family.TheVariants.{Located}
use Rattle.mvs_model.specs.declared.code.Code.{Code}
use Rattle.mvs_model.specs.declared.code.Code.TheVariants.{User}
use Rattle.mvs_model.specs.declared.request.Request.{Request}
use Rattle.mvs_model.specs.declared.request.Request.TheVariants.{Obtain, ObtainList, Release, ReleaseList, ReleaseWhole, Build, Get, Free, Delete, Attach, Return, Abend, Show, Put, Move}
use Rattle.mvs_model.specs.declared.request.Reply.{Reply}
use Rattle.mvs_model.specs.declared.request.Reply.TheVariants.{NotRun, Rc0, Rc4, Obtained, Listed, Cell, NoCell, Abended}
use Rattle.mvs_model.specs.Place.{PlaceValue, place_at}
use Rattle.mvs_model.specs.Want.{WantValue, want_of, fixed_want}
use Rattle.mvs_model.specs.Gifts.{GiftsValue}
use Rattle.mvs_model.specs.Name.{same_name}
use Rattle.mvs_model.specs.Finite.{kept}
use Rattle.mvs_model.specs.Storage.{Regions, Chosen, NoPlace, covers, has_address}
use Rattle.mvs_model.specs.Owners.{Owners, is_active, effective_task, subpool_meant, Enters, Ends, ends_with, has_subtask}
use Rattle.mvs_model.proofs.ByCase.{attach_refusal}
use Rattle.mvs_model.specs.Pools.{Pool, Part, part_want, cell_at}
use Rattle.mvs_model.specs.State.{State, plain, holder, granted}
use Rattle.mvs_model.specs.Codes.{family, is_conditional, short, not_held}
use Rattle.mvs_model.specs.Changes.{GrantTo, ShortOf, ListGrant, Frees, Drops, End, GivesCell, DropsPool, Extends, with_part, TakesCell, Writes}
use Rattle.mvs_model.proofs.ByCase.{ListShort}
use Rattle.mvs_model.specs.Requests.{Plan, new_pool, Builds, Gets, GetsMore, side_for, is_invalid, whole, on_doubleword, EmptiesEntry, Attaches, all_granted, bytes_from, moved_from, IsRequest}
use Rattle.mvs_model.proofs.ByCase.{BuildStep, GetsNone, GetStep, Fails, ObtainStep, ObtainListStep, MayRelease, ReleaseStep, ReleaseWholeStep, FreeStep, DeleteStep, AttachCase, Accesses, Acts}
use Rattle.mvs_model.specs.Consequences.{Abends, Refuses}
use Rattle.mvs_model.specs.Determined.{granted_at, granted_by, parts_at, picked, is_list, OneStep, NothingPicked}
use Rattle.mvs_model.specs.Numbers.{most_pools}
use Rattle.mvs_model.proofs.Tables.{same_maps}
use Rattle.mvs_model.proofs.Orders.{name_cmp_total, name_cmp-IsAntisymmetric, same_name_self}
use Rattle.mvs_model.proofs.OneOwners.{one_subpool, one_enters, one_attach, one_fallen, one_ends}
use Rattle.mvs_model.proofs.StorageLaws.{none_chosen, part_some, round8_some}
use Rattle.mvs_model.proofs.StepCases.{step_cases, no_grant}

-- by cases on a test, of two that are decided by it
pub by_two : {P Q S U R : Type 0} (b : Bool) → MatchBool b P Q → MatchBool b S U → (P → S → R) → (Q → U → R) → R
by_two true x y f g = f x y
by_two false x y f g = g x y

-- two states with one value in each place are one
same_states : (a b : State) → a.regions ≡ b.regions → ((d : ℕ) → get a.held d ≡ get b.held d) → ((i : ℕ) → get a.bytes i ≡ get b.bytes i) → a.owners ≡ b.owners → ((n : Name) → get a.pools n ≡ get b.pools n) → a ≡ b
same_states a b regions held bytes owners pools = λ i. record {
  regions = regions i;
  held = same_maps a.held b.held held i;
  bytes = same_maps a.bytes b.bytes bytes i;
  owners = owners i;
  pools = same_map name_cmp_total name_cmp-IsAntisymmetric a.pools b.pools pools i;
}

-- two places that are chosen at one address are one, since both have the greatest length
one_place : (r : Regions) (h : ℕ → Option ℕ) (s : ℕ) (want : WantValue) (p q : PlaceValue) → Chosen r h s want p → Chosen r h s want q → p.addr ≡ q.addr → p ≡ q
one_place r h s want p q x y e =
    let len : p.len ≡ q.len = elim (cases_lt p.len q.len) [
      | inl l ↦ absurd (x.greatest q.len q.addr l y.length y.placed)
      | inr g ↦ elim (cases_lt q.len p.len) [ inl l ↦ absurd (y.greatest p.len p.addr l x.length x.placed) | inr f ↦ omega (arith, g, f) ]
    ] in
    λ i. record { addr = e i; len = len i }

pub one_grant : (old : State) (t : Name) (number : ℕ) (want : WantValue) (p q : PlaceValue) (a b : State) → GrantTo old t number want p a → GrantTo old t number want q b → p.addr ≡ q.addr → (p ≡ q) × (a ≡ b)
one_grant old t number want p q a b x y e =
    let s = one_subpool old.owners t number x.subpool y.subpool x.is_subpool y.is_subpool in
    let same = one_place old.regions (holder old) y.subpool want p q (subst (λ s. Chosen old.regions (holder old) s want p) s x.chosen) y.chosen e in (
      same,
      same_states a b (x.regions ∙ sym y.regions)
          (λ d. x.held d ∙ (λ i. cond (covers (same i) d) (Some (plain (s i))) (get old.held d)) ∙ sym (y.held d))
          (λ k. x.bytes k ∙ (λ i. cond (has_address (same i) k) (Some old.regions.fill) (get old.bytes k)) ∙ sym (y.bytes k))
          (one_enters old.owners t number y.subpool a.owners b.owners (subst (λ s. Enters old.owners t number s a.owners) s x.owners) y.owners)
          (λ n. ap (λ m. get m n) (x.pools ∙ sym y.pools)),
    )

abbrev pub head_of : List ℕ → ℕ
head_of [] = 0
head_of (x ∷ xs) = x

abbrev pub tail_of : List ℕ → List ℕ
tail_of [] = []
tail_of (x ∷ xs) = xs

one_list : (t : Name) (number : ℕ) (wants : List WantValue) (ps qs : List PlaceValue) (old a b : State) → ListGrant old t number wants ps a → ListGrant old t number wants qs b → map (λ p. p.addr) ps ≡ map (λ p. p.addr) qs → (ps ≡ qs) × (a ≡ b)
one_list t number [] [] [] old a b x y e = (refl, x ∙ sym y)
one_list t number [] [] (q ∷ qs) old a b x y e = absurd y
one_list t number [] (p ∷ ps) qs old a b x y e = absurd x
one_list t number (want ∷ wants) [] qs old a b x y e = absurd x
one_list t number (want ∷ wants) (p ∷ ps) [] old a b x y e = absurd y
one_list t number (want ∷ wants) (p ∷ ps) (q ∷ qs) old a b x y e =
    let g = one_grant old t number want p q x.0 y.0 x.1 y.1 (ap head_of e) in
    let rest = one_list t number wants ps qs y.0 a b (subst (λ m. ListGrant m t number wants ps a) g.1 x.2) y.2 (ap tail_of e) in
    ((λ i. g.0 i ∷ rest.0 i), rest.1)

one_frees : (old : State) (ps : List PlaceValue) (a b : State) → Frees old ps a → Frees old ps b → a ≡ b
one_frees old ps a b x y = same_states a b (x.regions ∙ sym y.regions) (λ d. x.held d ∙ sym (y.held d)) (λ k. x.bytes k ∙ sym (y.bytes k)) (x.owners ∙ sym y.owners) (λ n. ap (λ m. get m n) (x.pools ∙ sym y.pools))

one_drops : (old : State) (test : ℕ → Bool) (a b : State) → Drops old test a → Drops old test b → a.owners ≡ b.owners → a ≡ b
one_drops old test a b x y owners =
    let held = same_maps a.held b.held (λ d. x.held d ∙ sym (y.held d)) in
    let pools = same_map name_cmp_total name_cmp-IsAntisymmetric a.pools b.pools (λ n. x.pools n ∙ sym (y.pools n)) in
    let mid = λ (i : ℕ). λ (h : State). kept (λ _. granted h i) (get old.bytes i) in
    let shown : (i : ℕ) → mid i a ≡ mid i b = λ i. λ j. mid i (record { regions = a.regions; held = held j; bytes = a.bytes; owners = a.owners; pools = pools j }) in
    same_states a b (x.regions ∙ sym y.regions) (λ d. ap (λ m. get m d) held) (λ i. x.bytes i ∙ shown i ∙ sym (y.bytes i)) owners (λ n. ap (λ m. get m n) pools)

one_end : (old : State) (t : Name) (a b : State) (x : End old t a) (y : End old t b) → (x.fallen ≡ y.fallen) × (a ≡ b)
one_end old t a b x y =
    let same = one_fallen old.owners t x.fallen y.fallen x.is_fallen y.is_fallen in
    let owners = one_ends old.owners t y.fallen a.owners b.owners (subst (λ f. Ends old.owners t f a.owners) same x.owners) y.owners in
    (same, one_drops old (ends_with old.owners t y.fallen) a b (subst (λ f. Drops old (ends_with old.owners t f) a) same x.drops) y.drops owners)

one_gives : (old : State) (name : Name) (pool : Pool) (c : ℕ) (a b : State) → GivesCell old name pool c a → GivesCell old name pool c b → a ≡ b
one_gives old name pool c a b x y = same_states a b (x.regions ∙ sym y.regions) (λ d. ap (λ m. get m d) (x.held ∙ sym y.held)) (λ k. x.bytes k ∙ sym (y.bytes k)) (x.owners ∙ sym y.owners) (λ n. x.pools n ∙ sym (y.pools n))

one_drops_pool : (old : State) (name : Name) (pool : Pool) (a b : State) → DropsPool old name pool a → DropsPool old name pool b → a ≡ b
one_drops_pool old name pool a b x y = same_states a b (x.regions ∙ sym y.regions) (λ d. x.held d ∙ sym (y.held d)) (λ k. x.bytes k ∙ sym (y.bytes k)) (x.owners ∙ sym y.owners) (λ n. x.pools n ∙ sym (y.pools n))

one_writes : (old : State) (p : PlaceValue) (value : ℕ → Option ℕ) (a b : State) → Writes old p value a → Writes old p value b → a ≡ b
one_writes old p value a b x y = same_states a b (x.regions ∙ sym y.regions) (λ d. ap (λ m. get m d) (x.held ∙ sym y.held)) (λ k. x.bytes k ∙ sym (y.bytes k)) (x.owners ∙ sym y.owners) (λ n. ap (λ m. get m n) (x.pools ∙ sym y.pools))

one_attaches : (old : State) (t name : Name) (gifts : GiftsValue) (residence : Residence) (a b : State) → Attaches old t name gifts residence a → Attaches old t name gifts residence b → a ≡ b
one_attaches old t name gifts residence a b x y = same_states a b (x.regions ∙ sym y.regions) (λ d. ap (λ m. get m d) (x.held ∙ sym y.held)) (λ k. ap (λ m. get m k) (x.bytes ∙ sym y.bytes)) (one_attach old.owners t name gifts residence a.owners b.owners x.owners y.owners) (λ n. ap (λ m. get m n) (x.pools ∙ sym y.pools))

one_extends : (old : State) (name : Name) (pool : Pool) (count : ℕ) (p : PlaceValue) (o : Owners) (a b : State) → Extends old name pool count p o a → Extends old name pool count p o b → a ≡ b
one_extends old name pool count p o a b x y = same_states a b (x.regions ∙ sym y.regions) (λ d. x.held d ∙ sym (y.held d)) (λ k. ap (λ m. get m k) (x.bytes ∙ sym y.bytes)) (x.owners_are ∙ sym y.owners_are) (λ n. x.pools n ∙ sym (y.pools n))

one_takes : (old : State) (name : Name) (pool : Pool) (c : ℕ) (a b : State) → TakesCell old name pool c a → TakesCell old name pool c b → a ≡ b
one_takes old name pool c a b x y = same_states a b (x.regions ∙ sym y.regions) (λ d. ap (λ m. get m d) (x.held ∙ sym y.held)) (λ k. x.bytes k ∙ sym (y.bytes k)) (x.owners ∙ sym y.owners) (λ n. x.pools n ∙ sym (y.pools n))

-- what a change at a name leaves there
here : (name : Name) (v w : Option Pool) → (if same_name name name then v else w) ≡ v
here name v w = ap (λ b. cond b v w) (same_name_self name)

last_of : (parts : List Part) (p q : Part) → map (λ part. part.place.addr) (parts ++ p ∷ []) ≡ map (λ part. part.place.addr) (parts ++ q ∷ []) → p.place.addr ≡ q.place.addr
last_of [] p q e = ap head_of e
last_of (part ∷ parts) p q e = last_of parts p q (ap tail_of e)

-- nor is a pool built then
no_build : (old : State) (t name : Name) (number : ℕ) (plan : Plan) (new : State) → ShortOf old t number (part_want plan.cell_size plan.primary plan.side) → Builds old t name number plan new → ⊥
no_build old t name number plan new s g =
    none_chosen old.regions (holder old) s.0 (part_want plan.cell_size plan.primary plan.side) g.2.0 (part_some plan.cell_size plan.primary) s.2
    (subst (λ u. Chosen old.regions (holder old) u (part_want plan.cell_size plan.primary plan.side) g.2.0) (one_subpool old.owners t number g.0 s.0 g.1 s.1) g.2.3.chosen)

-- what fails grants nothing
pub none_granted : (c : Bool) (old : State) (t : Name) (code : Code) (reply : Reply) (new : State) → Fails c old t code reply new → granted_at reply ≡ []
none_granted true old t code reply new x = ap granted_at x.0
none_granted false old t code reply new x = ap granted_at x.1

-- a list that may be refused has a member
no_short : (old : State) (t : Name) (number : ℕ) (wants : List WantValue) (ps : List PlaceValue) (new : State) → ListShort old t number wants → ListGrant old t number wants ps new → map (λ p. p.addr) ps ≡ [] → ⊥
no_short old t number [] ps new s g e = s
no_short old t number (want ∷ wants) [] new s g e = g
no_short old t number (want ∷ wants) (p ∷ ps) new s g e = cc

module _ (old : State) (t : Name) (one other : Reply) (a b : State) where
  abbrev pub Same : Type 0
  Same = (one ≡ other) × (a ≡ b)

  abends_same : (code : Code) → Abends old t code one a → Abends old t code other b → Same
  abends_same code x y = let e = one_end old t a b x.0 y.0 in (x.1 ∙ ap (Abended code) e.0 ∙ sym y.1, e.1)

  refuses_same : (answer : Reply) → Refuses old answer one a → Refuses old answer other b → Same
  refuses_same answer x y = (x.0 ∙ sym y.0, x.1 ∙ sym y.1)

  fails_same : (c : Bool) (code : Code) → Fails c old t code one a → Fails c old t code other b → Same
  fails_same true code x y = refuses_same Rc4 x y
  fails_same false code x y = abends_same code x y

  obtain_same : (form : Form) (number : ℕ) (want : WantValue) → ObtainStep old t form number want one a → ObtainStep old t form number want other b → granted_at one ≡ granted_at other → Same
  obtain_same form number want x y e = by_two (is_invalid number) x y (λ p q. abends_same _ p q) at where
    at : (ShortOf old (effective_task old.owners t number) number want × Fails (is_conditional form) old t (short (family form)) one a) ⊎ ((p : PlaceValue) × (one ≡ Obtained p) × GrantTo old (effective_task old.owners t number) number want p a)
        → (ShortOf old (effective_task old.owners t number) number want × Fails (is_conditional form) old t (short (family form)) other b) ⊎ ((p : PlaceValue) × (other ≡ Obtained p) × GrantTo old (effective_task old.owners t number) number want p b) → Same
    at (inl x) (inl y) = fails_same (is_conditional form) _ x.1 y.1
    at (inl x) (inr y) = absurd (let f : [] ≡ y.0.addr ∷ [] = sym (none_granted (is_conditional form) old t _ one a x.1) ∙ e ∙ ap granted_at y.1 in cc)
    at (inr x) (inl y) = absurd (let f : [] ≡ x.0.addr ∷ [] = sym (none_granted (is_conditional form) old t _ other b y.1) ∙ sym e ∙ ap granted_at x.1 in cc)
    at (inr x) (inr y) =
        let g = one_grant old (effective_task old.owners t number) number want x.0 y.0 a b x.2 y.2 (ap head_of (sym (ap granted_at x.1) ∙ e ∙ ap granted_at y.1)) in
        (x.1 ∙ ap Obtained g.0 ∙ sym y.1, g.1)

  list_same : (form : Form) (number : ℕ) (wants : List WantValue) → ObtainListStep old t form number wants one a → ObtainListStep old t form number wants other b → granted_at one ≡ granted_at other → Same
  list_same form number wants x y e = by_two (is_invalid number) x y (λ p q. abends_same _ p q) at where
    at : (ListShort old (effective_task old.owners t number) number wants × Fails (is_conditional form) old t (short (family form)) one a) ⊎ ((ps : List PlaceValue) × (one ≡ Listed ps) × ListGrant old (effective_task old.owners t number) number wants ps a)
        → (ListShort old (effective_task old.owners t number) number wants × Fails (is_conditional form) old t (short (family form)) other b) ⊎ ((ps : List PlaceValue) × (other ≡ Listed ps) × ListGrant old (effective_task old.owners t number) number wants ps b) → Same
    at (inl x) (inl y) = fails_same (is_conditional form) _ x.1 y.1
    at (inl x) (inr y) = absurd (no_short old _ number wants y.0 b x.0 y.2 (sym (ap granted_at y.1) ∙ sym e ∙ none_granted (is_conditional form) old t _ one a x.1))
    at (inr x) (inl y) = absurd (no_short old _ number wants x.0 a y.0 x.2 (sym (ap granted_at x.1) ∙ e ∙ none_granted (is_conditional form) old t _ other b y.1))
    at (inr x) (inr y) =
        let g = one_list (effective_task old.owners t number) number wants x.0 y.0 old a b x.2 y.2 (sym (ap granted_at x.1) ∙ e ∙ ap granted_at y.1) in
        (x.1 ∙ ap Listed g.0 ∙ sym y.1, g.1)

  release_same : (form : Form) (number : ℕ) (ps : List PlaceValue) → ReleaseStep old t form number ps one a → ReleaseStep old t form number ps other b → Same
  release_same form number ps x y = by_two (is_invalid number) x y (λ p q. abends_same _ p q) (λ p q. by_two (not (list_all on_doubleword ps)) p q (λ p q. abends_same _ p q) at) where
    at : ((MayRelease old (subpool_meant old.owners t number) (map whole ps) → ⊥) × Fails (is_conditional form) old t (not_held (family form)) one a) ⊎ (MayRelease old (subpool_meant old.owners t number) (map whole ps) × (one ≡ Rc0) × Frees old (map whole ps) a)
        → ((MayRelease old (subpool_meant old.owners t number) (map whole ps) → ⊥) × Fails (is_conditional form) old t (not_held (family form)) other b) ⊎ (MayRelease old (subpool_meant old.owners t number) (map whole ps) × (other ≡ Rc0) × Frees old (map whole ps) b) → Same
    at (inl x) (inl y) = fails_same (is_conditional form) _ x.1 y.1
    at (inl x) (inr y) = absurd (x.0 y.0)
    at (inr x) (inl y) = absurd (y.0 x.0)
    at (inr x) (inr y) = (x.1 ∙ sym y.1, one_frees old (map whole ps) a b x.2 y.2)

  empties_same : (o : Option ℕ) → EmptiesEntry old o a → EmptiesEntry old o b → a ≡ b
  empties_same None x y = x ∙ sym y
  empties_same (Some s) x y = one_drops old (λ u. u == s) a b x.drops y.drops (x.owners ∙ sym y.owners)

  release_whole_same : (form : Form) (number : ℕ) → ReleaseWholeStep old t form number one a → ReleaseWholeStep old t form number other b → Same
  release_whole_same form number x y = by_two (is_invalid number) x y (λ p q. abends_same _ p q) (λ p q. by_two (number == 0) p q (λ p q. abends_same _ p q) (λ p q. (p.0 ∙ sym q.0, empties_same (subpool_meant old.owners t number) p.1 q.1)))

  build_same : (name : Name) (number : ℕ) (plan : Plan) → BuildStep old t name number plan one a → BuildStep old t name number plan other b → parts_at (get a.pools name) ≡ parts_at (get b.pools name) → Same
  build_same name number plan x y e = by_two (is_invalid number) x y (λ p q. abends_same _ p q) (λ p q. by_two (contains_key old.pools name) p q (λ p q. abends_same _ p q) (λ p q. by_two (nat_le most_pools (len old.pools)) p q (λ p q. abends_same _ p q) at)) where
    built : Builds old (effective_task old.owners t number) name number plan a → Builds old (effective_task old.owners t number) name number plan b → a ≡ b
    built x y =
        let s = one_subpool old.owners (effective_task old.owners t number) number x.0 y.0 x.1 y.1 in
        let o = one_enters old.owners (effective_task old.owners t number) number y.0 x.2.1 y.2.1 (subst (λ s. Enters old.owners (effective_task old.owners t number) number s x.2.1) s x.2.2) y.2.2 in
        let ext : Extends old name (new_pool y.0 plan) plan.primary x.2.0 y.2.1 a = subst (λ o. Extends old name (new_pool y.0 plan) plan.primary x.2.0 o a) o (subst (λ s. Extends old name (new_pool s plan) plan.primary x.2.0 x.2.1 a) s x.2.3) in
        let addr : x.2.0.addr ≡ y.2.0.addr = ap head_of (sym (ap parts_at (ext.pools name ∙ here name _ (get old.pools name))) ∙ e ∙ ap parts_at (y.2.3.pools name ∙ here name _ (get old.pools name))) in
        let p = one_place old.regions (holder old) y.0 (part_want plan.cell_size plan.primary plan.side) x.2.0 y.2.0 ext.chosen y.2.3.chosen addr in
        one_extends old name (new_pool y.0 plan) plan.primary y.2.0 y.2.1 a b (subst (λ p. Extends old name (new_pool y.0 plan) plan.primary p y.2.1 a) p ext) y.2.3

    at : (ShortOf old (effective_task old.owners t number) number (part_want plan.cell_size plan.primary plan.side) × Abends old t (short Located) one a) ⊎ (Builds old (effective_task old.owners t number) name number plan a × (one ≡ Rc0))
        → (ShortOf old (effective_task old.owners t number) number (part_want plan.cell_size plan.primary plan.side) × Abends old t (short Located) other b) ⊎ (Builds old (effective_task old.owners t number) name number plan b × (other ≡ Rc0)) → Same
    at (inl x) (inl y) = abends_same _ x.1 y.1
    at (inl x) (inr y) = absurd (no_build old _ name number plan b x.0 y.0)
    at (inr x) (inl y) = absurd (no_build old _ name number plan a y.0 x.0)
    at (inr x) (inr y) = (x.1 ∙ sym y.1, built x.0 y.0)

  gets_same : (mid : State) (name : Name) (pool : Pool) (c d : ℕ) → c ≡ d → Gets mid name pool c one a → Gets mid name pool d other b → Same
  gets_same mid name pool c d e x y = (x.1 ∙ ap (λ c. Cell (cell_at pool c)) e ∙ sym y.1, one_takes mid name pool d a b (subst (λ c. TakesCell mid name pool c a) e x.0) y.0)

  -- the cell that two replies tell, and the parts after them
  cells : (mid last : State) (name : Name) (pool more : Pool) (c d : ℕ) → Gets mid name pool c one a → Gets last name more d other b → granted_at one ++ parts_at (get a.pools name) ≡ granted_at other ++ parts_at (get b.pools name)
      → (c ≡ d) × (map (λ part. part.place.addr) pool.parts ≡ map (λ part. part.place.addr) more.parts)
  cells mid last name pool more c d x y e =
      let ea : get a.pools name ≡ Some (record pool { taken = set.insert pool.taken c }) = x.0.pools name ∙ here name _ (get mid.pools name) in
      let eb : get b.pools name ≡ Some (record more { taken = set.insert more.taken d }) = y.0.pools name ∙ here name _ (get last.pools name) in
      let fa : granted_at one ++ parts_at (get a.pools name) ≡ c ∷ map (λ part. part.place.addr) pool.parts = λ i. granted_at (x.1 i) ++ parts_at (ea i) in
      let fb : granted_at other ++ parts_at (get b.pools name) ≡ d ∷ map (λ part. part.place.addr) more.parts = λ i. granted_at (y.1 i) ++ parts_at (eb i) in
      let f : c ∷ map (λ part. part.place.addr) pool.parts ≡ d ∷ map (λ part. part.place.addr) more.parts = sym fa ∙ e ∙ fb in
      (ap head_of f, ap tail_of f)

  more_same : (name : Name) (pool : Pool) → GetsMore old name pool one a → GetsMore old name pool other b → granted_at one ++ parts_at (get a.pools name) ≡ granted_at other ++ parts_at (get b.pools name) → Same
  more_same name pool x y e =
      let c = cells x.1 y.1 name (with_part pool pool.secondary x.0) (with_part pool pool.secondary y.0) x.3.0 y.3.0 x.3.2 y.3.2 e in
      let addr = last_of pool.parts (record { place = x.0; count = pool.secondary }) (record { place = y.0; count = pool.secondary }) c.1 in
      let p = one_place old.regions (holder old) pool.subpool (part_want pool.cell_size pool.secondary pool.side) x.0 y.0 x.2.chosen y.2.chosen addr in
      let mid = one_extends old name pool pool.secondary y.0 old.owners x.1 y.1 (subst (λ p. Extends old name pool pool.secondary p old.owners x.1) p x.2) y.2 in
      gets_same y.1 name (with_part pool pool.secondary y.0) x.3.0 y.3.0 c.0 (subst (λ m. Gets m name (with_part pool pool.secondary y.0) x.3.0 one a) mid (subst (λ p. Gets x.1 name (with_part pool pool.secondary p) x.3.0 one a) p x.3.2)) y.3.2

  get_none_same : (name : Name) (conditional : Bool) (pool : Pool) → GetsNone old t name conditional pool one a → GetsNone old t name conditional pool other b → granted_at one ++ parts_at (get a.pools name) ≡ granted_at other ++ parts_at (get b.pools name) → Same
  get_none_same name conditional pool x y e = by_two conditional x y (λ p q. refuses_same NoCell p q) at where
    at : (NoPlace old.regions (holder old) pool.subpool (part_want pool.cell_size pool.secondary pool.side) × Abends old t (short Located) one a) ⊎ GetsMore old name pool one a
        → (NoPlace old.regions (holder old) pool.subpool (part_want pool.cell_size pool.secondary pool.side) × Abends old t (short Located) other b) ⊎ GetsMore old name pool other b → Same
    at (inl x) (inl y) = abends_same _ x.1 y.1
    at (inl x) (inr y) = absurd (none_chosen old.regions (holder old) pool.subpool (part_want pool.cell_size pool.secondary pool.side) y.0 (part_some pool.cell_size pool.secondary) x.0 y.2.chosen)
    at (inr x) (inl y) = absurd (none_chosen old.regions (holder old) pool.subpool (part_want pool.cell_size pool.secondary pool.side) x.0 (part_some pool.cell_size pool.secondary) y.0 x.2.chosen)
    at (inr x) (inr y) = more_same name pool x y e

  get_same : (name : Name) (conditional : Bool) (o : Option Pool) → GetStep old t name conditional o one a → GetStep old t name conditional o other b → granted_at one ++ parts_at (get a.pools name) ≡ granted_at other ++ parts_at (get b.pools name) → Same
  get_same name conditional None x y e = abends_same _ x y
  get_same name conditional (Some pool) (inl x) (inl y) e = gets_same old name pool x.0 y.0 (cells old old name pool pool x.0 y.0 x.2 y.2 e).0 x.2 y.2
  get_same name conditional (Some pool) (inl x) (inr y) e = absurd (y.0 x.0 x.1)
  get_same name conditional (Some pool) (inr x) (inl y) e = absurd (x.0 y.0 y.1)
  get_same name conditional (Some pool) (inr x) (inr y) e = get_none_same name conditional pool x.1 y.1 e

  free_same : (name : Name) (c : ℕ) (o : Option Pool) → FreeStep old t name c o one a → FreeStep old t name c o other b → Same
  free_same name c None x y = abends_same _ x y
  free_same name c (Some pool) x y = by_two (not (set.contains pool.taken c)) x y (λ p q. abends_same _ p q) (λ p q. (p.0 ∙ sym q.0, one_gives old name pool c a b p.1 q.1))

  delete_same : (name : Name) (o : Option Pool) → DeleteStep old t name o one a → DeleteStep old t name o other b → Same
  delete_same name None x y = abends_same _ x y
  delete_same name (Some pool) x y = (x.0 ∙ sym y.0, one_drops_pool old name pool a b x.1 y.1)

  attach_same : (name : Name) (gifts : GiftsValue) (residence : Residence) (refusal : Option Code) → AttachCase old t name gifts residence refusal one a → AttachCase old t name gifts residence refusal other b → Same
  attach_same name gifts residence (Some code) x y = abends_same code x y
  attach_same name gifts residence None x y = (x.0 ∙ sym y.0, one_attaches old t name gifts residence a b x.1 y.1)

  access_same : (allowed : Bool) (done : State → Type 0) → (done a → done b → a ≡ b) → Accesses old t allowed (done a) one a → Accesses old t allowed (done b) other b → Same
  access_same allowed done f x y = by_two (not allowed) x y (λ p q. abends_same _ p q) (λ p q. (p.0 ∙ sym q.0, f p.1 q.1))

  acts_same : (r : Request) → Acts old t r one a → Acts old t r other b → picked r one a ≡ picked r other b → Same
  acts_same (Obtain form number ask) x y e = obtain_same form number (want_of ask (side_for old t form ask.loc)) x y e
  acts_same (ObtainList form number lengths start) x y e = list_same form number (map (λ n. fixed_want n start Below) lengths) x y e
  acts_same (Release form number p) x y e = release_same form number (p ∷ []) x y
  acts_same (ReleaseList form number ps) x y e = release_same form number ps x y
  acts_same (ReleaseWhole form number) x y e = release_whole_same form number x y
  acts_same (Build name number size primary secondary loc) x y e = build_same name number _ x y e
  acts_same (Get name conditional) x y e = get_same name conditional (get old.pools name) x y e
  acts_same (Free name c) x y e = free_same name c (get old.pools name) x y
  acts_same (Delete name) x y e = delete_same name (get old.pools name) x y
  acts_same (Attach name gifts residence) x y e = attach_same name gifts residence (attach_refusal old.owners t name gifts) x y
  acts_same Return x y e = by_two (has_subtask old.owners t) x y (λ p q. abends_same _ p q) (λ p q. (p.0 ∙ sym q.0, (one_end old t a b p.1 q.1).1))
  acts_same (Abend n) x y e = abends_same (User n) x y
  acts_same (Show k n) x y e = access_same (all_granted old (place_at k n)) (λ new. new ≡ old) (λ p q. p ∙ sym q) x y
  acts_same (Put k bytes) x y e = access_same (all_granted old (place_at k (length bytes))) (Writes old (place_at k (length bytes)) (bytes_from k bytes)) (one_writes old _ _ a b) x y
  acts_same (Move to from n) x y e = access_same (all_granted old (place_at to n) && all_granted old (place_at from n)) (Writes old (place_at to n) (moved_from old to from)) (one_writes old _ _ a b) x y

pub one_step : OneStep
one_step old t r one other a b x y e = by_two (not (is_active old.owners t)) (step_cases old t r one a x) (step_cases old t r other b y) (λ p q. refuses_same old t one other a b NotRun p q) (λ p q. acts_same old t one other a b r p q e)

module _ (old : State) (t : Name) (one other : Reply) (a b : State) where
  abend_none : (code : Code) → Abends old t code other b → granted_at other ≡ []
  abend_none code y = ap granted_at y.1

  obtain_none : (form : Form) (number : ℕ) (want : WantValue) → 1 ≤ want.least → ObtainStep old t form number want one a → ObtainStep old t form number want other b → granted_at one ≡ [] → granted_at other ≡ []
  obtain_none form number want some x y e = by_two (is_invalid number) x y (λ p q. abend_none _ q) at where
    at : (ShortOf old (effective_task old.owners t number) number want × Fails (is_conditional form) old t (short (family form)) one a) ⊎ ((p : PlaceValue) × (one ≡ Obtained p) × GrantTo old (effective_task old.owners t number) number want p a)
        → (ShortOf old (effective_task old.owners t number) number want × Fails (is_conditional form) old t (short (family form)) other b) ⊎ ((p : PlaceValue) × (other ≡ Obtained p) × GrantTo old (effective_task old.owners t number) number want p b) → granted_at other ≡ []
    at (inl x) (inl y) = none_granted (is_conditional form) old t _ other b y.1
    at (inl x) (inr y) = absurd (no_grant old _ number want y.0 b some x.0 y.2)
    at (inr x) y = absurd (let f : [] ≡ x.0.addr ∷ [] = sym e ∙ ap granted_at x.1 in cc)

  release_none : (form : Form) (number : ℕ) (ps : List PlaceValue) → ReleaseStep old t form number ps other b → granted_at other ≡ []
  release_none form number ps y = by_two (is_invalid number) y y (λ p q. abend_none _ q) (λ p q. by_two (not (list_all on_doubleword ps)) q q (λ p q. abend_none _ q) (λ p q. at q)) where
    at : ((MayRelease old (subpool_meant old.owners t number) (map whole ps) → ⊥) × Fails (is_conditional form) old t (not_held (family form)) other b) ⊎ (MayRelease old (subpool_meant old.owners t number) (map whole ps) × (other ≡ Rc0) × Frees old (map whole ps) b) → granted_at other ≡ []
    at (inl y) = none_granted (is_conditional form) old t _ other b y.1
    at (inr y) = ap granted_at y.1

  free_none : (name : Name) (c : ℕ) (o : Option Pool) → FreeStep old t name c o other b → granted_at other ≡ []
  free_none name c None y = abend_none _ y
  free_none name c (Some pool) y = by_two (not (set.contains pool.taken c)) y y (λ p q. abend_none _ q) (λ p q. ap granted_at q.0)

  delete_none : (name : Name) (o : Option Pool) → DeleteStep old t name o other b → granted_at other ≡ []
  delete_none name None y = abend_none _ y
  delete_none name (Some pool) y = ap granted_at y.0

  attach_none : (name : Name) (gifts : GiftsValue) (residence : Residence) (refusal : Option Code) → AttachCase old t name gifts residence refusal other b → granted_at other ≡ []
  attach_none name gifts residence (Some code) y = abend_none code y
  attach_none name gifts residence None y = ap granted_at y.0

  access_none : (allowed : Bool) (done : Type 0) → Accesses old t allowed done other b → granted_at other ≡ []
  access_none allowed done y = by_two (not allowed) y y (λ p q. abend_none _ q) (λ p q. ap granted_at q.0)

  -- a pool that is built has a part
  built_some : (new : State) (name : Name) (number : ℕ) (plan : Plan) (k : Name) → Builds old k name number plan new → parts_at (get new.pools name) ≡ [] → ⊥
  built_some new name number plan k x e = let f : x.2.0.addr ∷ [] ≡ [] = sym (ap parts_at (x.2.3.pools name ∙ here name _ (get old.pools name))) ∙ e in cc

  build_none : (name : Name) (number : ℕ) (plan : Plan) → BuildStep old t name number plan one a → BuildStep old t name number plan other b → parts_at (get a.pools name) ≡ [] → parts_at (get b.pools name) ≡ []
  build_none name number plan x y e = by_two (is_invalid number) x y (λ p q. same (abends_same old t one other a b _ p q)) (λ p q. by_two (contains_key old.pools name) p q (λ p q. same (abends_same old t one other a b _ p q)) (λ p q. by_two (nat_le most_pools (len old.pools)) p q (λ p q. same (abends_same old t one other a b _ p q)) at)) where
    same : Same old t one other a b → parts_at (get b.pools name) ≡ []
    same h = ap (λ st. parts_at (get st.pools name)) (sym h.1) ∙ e

    at : (ShortOf old (effective_task old.owners t number) number (part_want plan.cell_size plan.primary plan.side) × Abends old t (short Located) one a) ⊎ (Builds old (effective_task old.owners t number) name number plan a × (one ≡ Rc0))
        → (ShortOf old (effective_task old.owners t number) number (part_want plan.cell_size plan.primary plan.side) × Abends old t (short Located) other b) ⊎ (Builds old (effective_task old.owners t number) name number plan b × (other ≡ Rc0)) → parts_at (get b.pools name) ≡ []
    at (inl x) (inl y) = same (abends_same old t one other a b _ x.1 y.1)
    at (inl x) (inr y) = absurd (no_build old _ name number plan b x.0 y.0)
    at (inr x) y = absurd (built_some a name number plan _ x.0 e)

  -- a cell that is taken is in the reply
  took_some : (mid : State) (name : Name) (pool : Pool) (c : ℕ) → Gets mid name pool c one a → granted_at one ≡ [] → ⊥
  took_some mid name pool c x e = let f : c ∷ [] ≡ [] = sym (ap granted_at x.1) ∙ e in cc

  get_none : (name : Name) (conditional : Bool) (o : Option Pool) → GetStep old t name conditional o one a → GetStep old t name conditional o other b → granted_at one ≡ [] → granted_at other ≡ []
  get_none name conditional o x y e = at o x y where
    more : (pool : Pool) → (NoPlace old.regions (holder old) pool.subpool (part_want pool.cell_size pool.secondary pool.side) × Abends old t (short Located) one a) ⊎ GetsMore old name pool one a
        → (NoPlace old.regions (holder old) pool.subpool (part_want pool.cell_size pool.secondary pool.side) × Abends old t (short Located) other b) ⊎ GetsMore old name pool other b → granted_at other ≡ []
    more pool (inl x) (inl y) = abend_none _ y.1
    more pool (inl x) (inr y) = absurd (none_chosen old.regions (holder old) pool.subpool (part_want pool.cell_size pool.secondary pool.side) y.0 (part_some pool.cell_size pool.secondary) x.0 y.2.chosen)
    more pool (inr x) y = absurd (took_some x.1 name (with_part pool pool.secondary x.0) x.3.0 x.3.2 e)

    at : (o : Option Pool) → GetStep old t name conditional o one a → GetStep old t name conditional o other b → granted_at other ≡ []
    at None x y = abend_none _ y
    at (Some pool) (inl x) y = absurd (took_some old name pool x.0 x.2 e)
    at (Some pool) (inr x) (inl y) = absurd (x.0 y.0 y.1)
    at (Some pool) (inr x) (inr y) = by_two conditional x.1 y.1 (λ p q. ap granted_at q.0) (λ p q. more pool p q)

  acts_none : (r : Request) → is_list r ≡ false → IsRequest r → Acts old t r one a → Acts old t r other b → granted_by r one a ≡ [] → granted_by r other b ≡ []
  acts_none (Obtain form number ask) single is x y e = obtain_none form number (want_of ask (side_for old t form ask.loc)) (round8_some ask.least is.some) x y e
  acts_none (ObtainList form number lengths start) single is x y e = absurd (let f : true ≡ false = single in cc)
  acts_none (Release form number p) single is x y e = release_none form number (p ∷ []) y
  acts_none (ReleaseList form number ps) single is x y e = release_none form number ps y
  acts_none (ReleaseWhole form number) single is x y e = by_two (is_invalid number) y y (λ p q. abend_none _ q) (λ p q. by_two (number == 0) q q (λ p q. abend_none _ q) (λ p q. ap granted_at q.0))
  acts_none (Build name number size primary secondary loc) single is x y e = build_none name number _ x y e
  acts_none (Get name conditional) single is x y e = get_none name conditional (get old.pools name) x y e
  acts_none (Free name c) single is x y e = free_none name c (get old.pools name) y
  acts_none (Delete name) single is x y e = delete_none name (get old.pools name) y
  acts_none (Attach name gifts residence) single is x y e = attach_none name gifts residence (attach_refusal old.owners t name gifts) y
  acts_none Return single is x y e = by_two (has_subtask old.owners t) y y (λ p q. abend_none _ q) (λ p q. ap granted_at q.0)
  acts_none (Abend n) single is x y e = abend_none (User n) y
  acts_none (Show k n) single is x y e = access_none _ _ y
  acts_none (Put k bytes) single is x y e = access_none _ _ y
  acts_none (Move to from n) single is x y e = access_none _ _ y

pub nothing_picked : NothingPicked
nothing_picked old t r one other a b single is x y e =
    by_two (not (is_active old.owners t)) (step_cases old t r one a x) (step_cases old t r other b y) (λ p q. let h = refuses_same old t one other a b NotRun p q in sym (λ i. granted_by r (h.0 i) (h.1 i)) ∙ e)
    (λ p q. acts_none old t one other a b r single is p q e)
