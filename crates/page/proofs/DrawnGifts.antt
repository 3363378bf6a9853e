-- The picture where a subtask is attached: the gifts are handed over number by number.
use Rattle.std.proofs.Common.{◌≡◌, ◌≢◌, ◌⊎◌, ℕ, zero, suc, ◌<◌, ◌≤◌, ◌==◌, ◌&&◌, ◌||◌, nat_lt, inl, inr, Bool, true, false, cond, List, [], ◌∷◌, ◌++◌, Option, Some, None, option_map, is_some, refl, sym, ap, ◌∙◌, subst, arith, eqb-true}
use Rattle.std.specs.FinMap.{get}
use Rattle.std.proofs.lemmas.Bool.{and_parts, false_from_ne_true}
use Rattle.std.proofs.lemmas.Bool.Decides.{nat_tests}
use Rattle.mvs_model.specs.declared.name.Name.{Name}
use Rattle.mvs_model.specs.declared.want.Residence.{Residence}
use Rattle.mvs_model.specs.Gifts.{GiftsValue, gives, has_bit, shares}
use Rattle.mvs_model.specs.Job.{JobValue}
use Rattle.mvs_model.specs.Name.{same_name}
use Rattle.mvs_model.specs.Owners.{Owners, entry, is_active, is_given}
use Rattle.mvs_model.proofs.ByCase.{attach_refusal}
use Rattle.mvs_model.specs.Reports.{each_below, label_of}
use Rattle.mvs_model.specs.Requests.{Attaches}
use Rattle.mvs_model.specs.WellFormed.{Owned}
use Rattle.mvs_model.proofs.Orders.{differs, same_name_is, same_name_self}
use Rattle.mvs_model.proofs.Tests.{none_some, true_false}
use Rattle.request_forms.specs.Facts.{listed}
use Rattle.page.specs.declared.change.Change.{Change}
use Rattle.page.specs.declared.change.Change.TheVariants as change
use Rattle.page.specs.Changes.{held_change}
use Rattle.page.specs.Picture.{AreBytes, Both, IsDrawn, IsMark, Label, Means, Picture, ShowsBy, handed_over, replayed, replayed_all}
use Rattle.page.proofs.Drawing.{both_mapped, both_weaker, bytes_same, marks_move, marks_stay, pools_move, pools_stay}
use Rattle.page.proofs.Handed.{entry_kept, entry_new, entry_none, entry_old, from_mother, given_means, kept_means, made, owned_given, owner_given, shared_kept}
use Rattle.page.proofs.Labels.{had, labelled_entry}
use Rattle.page.proofs.Numbered.{Numbered}

-- ---- lines one after another

pub replayed_both : (carries : Change → List ℕ) (xs ys : List Change) (p : Picture) → replayed_all carries p (xs ++ ys) ≡ replayed_all carries (replayed_all carries p xs) ys
replayed_both carries [] ys p = refl
replayed_both carries (x ∷ xs) ys p = replayed_both carries xs ys (replayed carries p x)

each_none : {X : Type 0} (f : ℕ → List X) → each_below zero f ≡ []
unfolding each_below
each_none f = refl

each_more : {X : Type 0} (n : ℕ) (f : ℕ → List X) → each_below (suc n) f ≡ each_below n f ++ f n
unfolding each_below
each_more n f = refl

-- what labels mean, and what the tasks have, where the numbers below a bound are handed over
abbrev pub Midway : Owners → Owners → ℕ → Label → ℕ → Type 0
Midway o w k l s = ((l.number < k) × Means w l s) ⊎ ((k ≤ l.number) × Means o l s)

abbrev pub entry_midway : Owners → Owners → ℕ → Name → ℕ → Option ℕ
entry_midway o w k u n = cond (nat_lt n k) (entry w u n) (entry o u n)

-- The picture is that of the step before, but for the tasks and for those numbers.
pub record ShowsMidway (old new : JobValue) (k : ℕ) (p : Picture) : Type 0 where
  pub regions : p.regions ≡ old.state.regions
  pub held : (d : ℕ) → Both (IsMark (Midway old.state.owners new.state.owners k)) (p.held d) (get old.state.held d)
  pub bytes : AreBytes p.bytes (get old.state.bytes)
  pub tasks : (t : Name) → p.tasks t ≡ get new.state.owners.tasks t
  pub subpools : (u : Name) (n : ℕ) → Both (Midway old.state.owners new.state.owners k) (p.subpools u n) (entry_midway old.state.owners new.state.owners k u n)
  pub names : (n : Name) → p.names n ≡ get old.names n
  pub pools : (n : Name) → Both (IsDrawn (Midway old.state.owners new.state.owners k)) (p.pools n) (get old.state.pools n)

module _ (carries : Change → List ℕ) (old new : JobValue) (t name : Name) (gifts : GiftsValue) (residence : Residence) (a : Attaches old.state t name gifts residence new.state) (own : Owned old.state.owners) (numbered : Numbered old.state.owners)
    (active : is_active old.state.owners t ≡ true) (refusal : attach_refusal old.state.owners t name gifts ≡ None) (later_own : Owned new.state.owners) (later_numbered : Numbered new.state.owners) (names : new.names ≡ old.names) where
  abbrev o : Owners
  o = old.state.owners

  abbrev w : Owners
  w = new.state.owners

  -- ---- entries at the number and at others

  at_number : (k : ℕ) (u : Name) → entry_midway o w (suc k) u k ≡ entry w u k
  at_number k u = ap (λ b. cond b (entry w u k) (entry o u k)) (let e : nat_lt k (suc k) ≡ true = grind (arith, nat_tests) in e)

  before_number : (k : ℕ) (u : Name) → entry_midway o w k u k ≡ entry o u k
  before_number k u = ap (λ b. cond b (entry w u k) (entry o u k)) (let e : nat_lt k k ≡ false = grind (arith, nat_tests) in e)

  at_others : (k : ℕ) (u : Name) (n : ℕ) → (n == k) ≡ false → entry_midway o w (suc k) u n ≡ entry_midway o w k u n
  at_others k u n e = ap (λ b. cond b (entry w u n) (entry o u n)) (let f : nat_lt n (suc k) ≡ nat_lt n k = grind (arith, nat_tests) in f)

  -- ---- labels of the number and others

  others_move : (k : ℕ) (l : Label) (s : ℕ) → l.number ≢ k → Midway o w k l s → Midway o w (suc k) l s
  others_move k l s ne (inl h) = inl (let low : l.number < k = h.0 in omega (arith, low), h.1)
  others_move k l s ne (inr h) = inr (let high : k ≤ l.number = h.0 in omega (arith, high, ne), h.1)

  here_means : (k : ℕ) (l : Label) (s : ℕ) → l.number ≡ k → Midway o w k l s → Means o l s
  here_means k l s e (inl h) = absurd (let low : l.number < k = h.0 in omega (arith, low, e))
  here_means k l s e (inr h) = h.1

  done_means : (k : ℕ) (l : Label) (s : ℕ) → l.number ≡ k → Means w l s → Midway o w (suc k) l s
  done_means k l s e m = inl (omega (arith, e), m)

  -- where nothing of the number is given
  all_stay : (k : ℕ) → ((l : Label) (s : ℕ) → l.number ≡ k → Means o l s → (same_name l.owner t && gives gifts l.number) ≡ false) → (l : Label) (s : ℕ) → Midway o w k l s → Midway o w (suc k) l s
  all_stay k out l s h = at (l.number == k) refl where
    at : (b : Bool) → (l.number == k) ≡ b → Midway o w (suc k) l s
    at true e =
        let is = eqb-true l.number k e in
        let m = here_means k l s is h in
        done_means k l s is (kept_means o t name gifts residence w a.owners own numbered active refusal l s (out l s is m) m)
    at false e = others_move k l s (let f : l.number ≢ k = grind (arith, nat_tests) in f) h

  -- where it is given
  given_move : (k : ℕ) → gives gifts k ≡ true → (l : Label) (s : ℕ) → Midway o w k l s → Midway o w (suc k) (handed_over (record { number = k; owner = t }) name l) s
  given_move k g l s h = at (l.number == k) refl (same_name l.owner t) refl where
    at : (b : Bool) → (l.number == k) ≡ b → (c : Bool) → same_name l.owner t ≡ c → Midway o w (suc k) (cond (b && c) (record { number = l.number; owner = name }) l) s
    at true e true f =
        let is = eqb-true l.number k e in
        let m = here_means k l s is h in
        let same : l ≡ record { number = l.number; owner = t } = λ i. record { number = l.number; owner = same_name_is l.owner t f i } in
        done_means k (record { number = l.number; owner = name }) s is (given_means o t name gifts residence w a.owners own numbered active refusal l.number s (ap (gives gifts) is ∙ g) (subst (λ x. Means o x s) same m))
    at true e false f =
        let is = eqb-true l.number k e in
        let m = here_means k l s is h in
        done_means k l s is (kept_means o t name gifts residence w a.owners own numbered active refusal l s (ap (λ b. b && gives gifts l.number) f) m)
    at false e c f = others_move k l s (let f : l.number ≢ k = grind (arith, nat_tests) in f) h

  -- ---- the lines of a number

  abbrev line : ℕ → List Change
  line k = listed (held_change new t name k)

  now_active : is_active w name ≡ true
  now_active = ap is_some (a.owners.tasks name) ∙ ap (λ b. is_some (cond b (Some (record { mother = Some t; residence = residence })) (get o.tasks name))) (same_name_self name)

  -- the subtask has nothing under it
  none_here : (k : ℕ) (p : Picture) → entry w name k ≡ None → ShowsMidway old new k p → ShowsMidway old new (suc k) (replayed_all carries p (line k))
  none_here k p none m = subst (λ v. ShowsMidway old new (suc k) (replayed_all carries p (listed v))) (sym no_line) record {
    regions = m.regions;
    held = λ d. marks_stay (Midway o w k) (Midway o w (suc k)) stay (p.held d) (get old.state.held d) (m.held d);
    bytes = m.bytes;
    tasks = m.tasks;
    subpools = λ u n. both_weaker (Midway o w k) (Midway o w (suc k)) stay (p.subpools u n) (entry_midway o w (suc k) u n) (subst (Both (Midway o w k) (p.subpools u n)) (same u n) (m.subpools u n));
    names = m.names;
    pools = λ n. pools_stay (Midway o w k) (Midway o w (suc k)) stay (p.pools n) (get old.state.pools n) (m.pools n);
  } where
    no_line : held_change new t name k ≡ None
    no_line = ap (option_map (λ l. cond (same_name l.1 name) (change.Given name l.0 t) (change.Shared name k l.0 l.1))) (had w name k None now_active (ap (label_of w) none))

    not_given : (l : Label) (s : ℕ) → l.number ≡ k → Means o l s → (same_name l.owner t && gives gifts l.number) ≡ false
    not_given l s is l_means = false_from_ne_true (same_name l.owner t && gives gifts l.number) (λ e.
        let b = and_parts (same_name l.owner t) (gives gifts l.number) e in
        let there = (made o t name gifts residence w a.owners own numbered active refusal).entries t k s ((λ i. entry o (sym (same_name_is l.owner t b.0) i) (sym is i)) ∙ l_means.under) in
        none_some (sym none ∙ entry_new o t name gifts residence w a.owners own numbered active refusal k ∙ (λ i. cond ((ap (gives gifts) (sym is) ∙ b.1) i || shares gifts k) (there i) None)))

    stay : (l : Label) (s : ℕ) → Midway o w k l s → Midway o w (suc k) l s
    stay = all_stay k not_given

    same : (u : Name) (n : ℕ) → entry_midway o w k u n ≡ entry_midway o w (suc k) u n
    same u n = at (n == k) refl where
      at : (b : Bool) → (n == k) ≡ b → entry_midway o w k u n ≡ entry_midway o w (suc k) u n
      at true e =
          let is = eqb-true n k e in
          ap (entry_midway o w k u) is ∙ before_number k u ∙ sym (entry_none o t name gifts residence w a.owners own numbered active refusal u k none) ∙ sym (at_number k u) ∙ ap (entry_midway o w (suc k) u) (sym is)
      at false e = sym (at_others k u n e)

  -- the mother gives it
  module _ (k s : ℕ) (p : Picture) (is : entry w name k ≡ Some s) (owner : get w.owner s ≡ Some name) (m : ShowsMidway old new k p) where
    abbrev move : Label → Label
    move l = handed_over (record { number = k; owner = t }) name l

    given : gives gifts k ≡ true
    given = owned_given o t name gifts residence w a.owners own numbered active refusal k s is owner

    moves : (l : Label) (r : ℕ) → Midway o w k l r → Midway o w (suc k) (move l) r
    moves = given_move k given

    moved : (u : Name) (n : ℕ) → entry_midway o w (suc k) u n ≡ entry_midway o w k u n → Both (Midway o w (suc k)) (option_map move (p.subpools u n)) (entry_midway o w (suc k) u n)
    moved u n same = both_mapped (Midway o w k) (Midway o w (suc k)) move moves (p.subpools u n) (entry_midway o w (suc k) u n) (subst (Both (Midway o w k) (p.subpools u n)) (sym same) (m.subpools u n))

    given_entry : (u : Name) (n : ℕ) (b : Bool) → (n == k) ≡ b → (c : Bool) → same_name u name ≡ c → (d : Bool) → same_name u t ≡ d
        → Both (Midway o w (suc k)) (cond (c && b) (Some (record { number = k; owner = name })) (cond (d && b) None (option_map move (p.subpools u n)))) (entry_midway o w (suc k) u n)
    given_entry u n true e true f d g =
        subst (Both (Midway o w (suc k)) (Some (record { number = k; owner = name }))) (sym (ap (entry_midway o w (suc k) u) (eqb-true n k e) ∙ at_number k u ∙ ap (λ x. entry w x k) (same_name_is u name f) ∙ is))
        (done_means k (record { number = k; owner = name }) s refl (record { owned = owner; under = is }))
    given_entry u n true e false f true g =
        subst (Both (Midway o w (suc k)) None) (sym (ap (entry_midway o w (suc k) u) (eqb-true n k e) ∙ at_number k u ∙ entry_old o t name gifts residence w a.owners own numbered active refusal u k f ∙ (λ i. cond (g i && given i) None (entry a.owners.ready u k)))) tt
    given_entry u n true e false f false g =
        let is_k = eqb-true n k e in
        moved u n (ap (entry_midway o w (suc k) u) is_k ∙ at_number k u ∙ entry_kept o t name gifts residence w a.owners own numbered active refusal u k f (ap (λ b. b && gives gifts k) g)
        ∙ (made o t name gifts residence w a.owners own numbered active refusal).others u k (ap (λ b. b && shares gifts k) g) ∙ sym (before_number k u) ∙ ap (entry_midway o w k u) (sym is_k))
    given_entry u n false e true f true g = moved u n (at_others k u n e)
    given_entry u n false e true f false g = moved u n (at_others k u n e)
    given_entry u n false e false f true g = moved u n (at_others k u n e)
    given_entry u n false e false f false g = moved u n (at_others k u n e)

    given_here : ShowsMidway old new (suc k) (replayed carries p (change.Given name k t))
    given_here = record {
      regions = m.regions;
      held = λ d. marks_move (Midway o w k) (Midway o w (suc k)) move moves (p.held d) (get old.state.held d) (m.held d);
      bytes = m.bytes;
      tasks = m.tasks;
      subpools = λ u n. given_entry u n (n == k) refl (same_name u name) refl (same_name u t) refl;
      names = m.names;
      pools = λ n. pools_move (Midway o w k) (Midway o w (suc k)) move moves (p.pools n) (get old.state.pools n) (m.pools n);
    }

  -- the subtask shares it
  module _ (k s : ℕ) (u0 : Name) (p : Picture) (is : entry w name k ≡ Some s) (l : Means w (record { number = k; owner = u0 }) s) (other : u0 ≢ name) (m : ShowsMidway old new k p) where
    kept : gives gifts k ≡ false
    kept = shared_kept o t name gifts residence w a.owners own numbered active refusal k s u0 is l.owned other

    not_given : (x : Label) → x.number ≡ k → (same_name x.owner t && gives gifts x.number) ≡ false
    not_given x e = at (same_name x.owner t) where
      at : (b : Bool) → (b && gives gifts x.number) ≡ false
      at true = ap (gives gifts) e ∙ kept
      at false = refl

    stay : (x : Label) (r : ℕ) → Midway o w k x r → Midway o w (suc k) x r
    stay = all_stay k (λ x r e _. not_given x e)

    stays : (u : Name) (n : ℕ) → entry_midway o w (suc k) u n ≡ entry_midway o w k u n → Both (Midway o w (suc k)) (p.subpools u n) (entry_midway o w (suc k) u n)
    stays u n same = both_weaker (Midway o w k) (Midway o w (suc k)) stay (p.subpools u n) (entry_midway o w (suc k) u n) (subst (Both (Midway o w k) (p.subpools u n)) (sym same) (m.subpools u n))

    label_there : (u : Name) (n : ℕ) → (n == k) ≡ true → entry w u k ≡ Some s → Both (Midway o w (suc k)) (Some (record { number = k; owner = u0 })) (entry_midway o w (suc k) u n)
    label_there u n e there = subst (Both (Midway o w (suc k)) (Some (record { number = k; owner = u0 }))) (sym (ap (entry_midway o w (suc k) u) (eqb-true n k e) ∙ at_number k u ∙ there)) (done_means k (record { number = k; owner = u0 }) s refl l)

    -- neither the subtask nor the owner
    entry_same : (u : Name) → same_name u name ≡ false → same_name u u0 ≡ false → entry w u k ≡ entry o u k
    entry_same u new_ else_ = entry_kept o t name gifts residence w a.owners own numbered active refusal u k new_ (at (same_name u t)) ∙ by (same_name u t) refl where
      at : (b : Bool) → (b && gives gifts k) ≡ false
      at true = kept
      at false = refl

      by : (b : Bool) → same_name u t ≡ b → entry a.owners.ready u k ≡ entry o u k
      by false g = (made o t name gifts residence w a.owners own numbered active refusal).others u k (ap (λ b. b && shares gifts k) g)
      by true g =
          let from = from_mother o t name gifts residence w a.owners own numbered active refusal k s is in
          elim ((made o t name gifts residence w a.owners own numbered active refusal).own k s from) [
            | inl h ↦ ap (λ x. entry a.owners.ready x k) (same_name_is u t g) ∙ from ∙ sym h ∙ ap (λ x. entry o x k) (sym (same_name_is u t g))
            | inr h ↦
                let owner : Some u0 ≡ Some t = sym l.owned ∙ owner_kept_here from ∙ h in
                let u0_is : u0 ≡ t = cc in
                true_false (sym (same_name_self u) ∙ ap (same_name u) (same_name_is u t g ∙ sym u0_is) ∙ else_)
          ] where
            owner_kept_here : entry a.owners.ready t k ≡ Some s → get w.owner s ≡ get a.owners.ready.owner s
            owner_kept_here from = a.owners.owner s ∙ to (is_given a.owners.ready t gifts s) refl where
              to : (c : Bool) → is_given a.owners.ready t gifts s ≡ c → cond c (Some name) (get a.owners.ready.owner s) ≡ get a.owners.ready.owner s
              to false c = refl
              to true c = absurd (let same : Some u0 ≡ Some name = sym l.owned ∙ owner_given o t name gifts residence w a.owners own numbered active refusal s c in other (cc))

    shared_entry : (u : Name) (n : ℕ) (b : Bool) → (n == k) ≡ b → (c : Bool) → same_name u name ≡ c → (d : Bool) → same_name u u0 ≡ d
        → Both (Midway o w (suc k)) (cond (c && b) (Some (record { number = k; owner = u0 })) (cond (d && b) (Some (record { number = k; owner = u0 })) (p.subpools u n))) (entry_midway o w (suc k) u n)
    shared_entry u n true e true f d g = label_there u n e (ap (λ x. entry w x k) (same_name_is u name f) ∙ is)
    shared_entry u n true e false f true g = label_there u n e (ap (λ x. entry w x k) (same_name_is u u0 g) ∙ l.under)
    shared_entry u n true e false f false g =
        let is_k = eqb-true n k e in
        stays u n (ap (entry_midway o w (suc k) u) is_k ∙ at_number k u ∙ entry_same u f g ∙ sym (before_number k u) ∙ ap (entry_midway o w k u) (sym is_k))
    shared_entry u n false e true f true g = stays u n (at_others k u n e)
    shared_entry u n false e true f false g = stays u n (at_others k u n e)
    shared_entry u n false e false f true g = stays u n (at_others k u n e)
    shared_entry u n false e false f false g = stays u n (at_others k u n e)

    shared_here : ShowsMidway old new (suc k) (replayed carries p (change.Shared name k k u0))
    shared_here = record {
      regions = m.regions;
      held = λ d. marks_stay (Midway o w k) (Midway o w (suc k)) stay (p.held d) (get old.state.held d) (m.held d);
      bytes = m.bytes;
      tasks = m.tasks;
      subpools = λ u n. shared_entry u n (n == k) refl (same_name u name) refl (same_name u u0) refl;
      names = m.names;
      pools = λ n. pools_stay (Midway o w k) (Midway o w (suc k)) stay (p.pools n) (get old.state.pools n) (m.pools n);
    }

  -- ---- all numbers

  number_shown : (k : ℕ) (p : Picture) → ShowsMidway old new k p → ShowsMidway old new (suc k) (replayed_all carries p (line k))
  number_shown k p m = at (entry w name k) refl where
    held_is : (l : ℕ × Name) (s : ℕ) → entry w name k ≡ Some s → label_of w (Some s) ≡ Some l → held_change new t name k ≡ Some (cond (same_name l.1 name) (change.Given name l.0 t) (change.Shared name k l.0 l.1))
    held_is l s is label = ap (option_map (λ l. cond (same_name l.1 name) (change.Given name l.0 t) (change.Shared name k l.0 l.1))) (had w name k (Some l) now_active (ap (label_of w) is ∙ label))

    by : (l : ℕ × Name) (s : ℕ) → entry w name k ≡ Some s → Means w (record { number = k; owner = l.1 }) s → l.0 ≡ k → (c : Bool) → same_name l.1 name ≡ c → ShowsMidway old new (suc k) (replayed carries p (cond c (change.Given name l.0 t) (change.Shared name k l.0 l.1)))
    by l s is means e true f = subst (λ n. ShowsMidway old new (suc k) (replayed carries p (change.Given name n t))) (sym e) (given_here k s p is (means.owned ∙ ap Some (same_name_is l.1 name f)) m)
    by l s is means e false f = subst (λ n. ShowsMidway old new (suc k) (replayed carries p (change.Shared name k n l.1))) (sym e) (shared_here k s l.1 p is means (differs l.1 name f) m)

    at : (v : Option ℕ) → entry w name k ≡ v → ShowsMidway old new (suc k) (replayed_all carries p (line k))
    at None is = none_here k p is m
    at (Some s) is =
        let l = labelled_entry w name k s later_own later_numbered is in
        let e : l.0.0 ≡ k = later_numbered.one_number l.0.1 name l.0.0 k s l.2.under is in
        subst (λ v. ShowsMidway old new (suc k) (replayed_all carries p (listed v))) (sym (held_is l.0 s is l.1))
        (by l.0 s is (subst (λ n. Means w (record { number = n; owner = l.0.1 }) s) e l.2) e (same_name l.0.1 name) refl)

  numbers_shown : (k : ℕ) (p : Picture) → ShowsMidway old new 0 p → ShowsMidway old new k (replayed_all carries p (each_below k line))
  numbers_shown zero p m = subst (λ xs. ShowsMidway old new 0 (replayed_all carries p xs)) (sym (each_none line)) m
  numbers_shown (suc k) p m =
      subst (λ xs. ShowsMidway old new (suc k) (replayed_all carries p xs)) (sym (each_more k line)) (subst (ShowsMidway old new (suc k)) (sym (replayed_both carries (each_below k line) (line k) p)) (number_shown k (replayed_all carries p (each_below k line)) (numbers_shown k p m)))

  -- ---- before the first number and after the last

  begun : (p : Picture) → ShowsBy (Means o) p old → ShowsMidway old new 0 (replayed carries p (change.Task name t residence))
  begun p shows = record {
    regions = shows.regions;
    held = λ d. marks_stay (Means o) (Midway o w 0) first (p.held d) (get old.state.held d) (shows.held d);
    bytes = shows.bytes;
    tasks = λ x. ap (cond (same_name name x) (Some (record { mother = Some t; residence = residence }))) (shows.tasks x) ∙ sym (a.owners.tasks x);
    subpools = λ u n. subst (Both (Midway o w 0) (p.subpools u n)) (sym (ap (λ b. cond b (entry w u n) (entry o u n)) (let e : nat_lt n 0 ≡ false = grind (arith, nat_tests) in e)))
        (both_weaker (Means o) (Midway o w 0) first (p.subpools u n) (entry o u n) (shows.subpools u n));
    names = shows.names;
    pools = λ n. pools_stay (Means o) (Midway o w 0) first (p.pools n) (get old.state.pools n) (shows.pools n);
  } where
    first : (l : Label) (s : ℕ) → Means o l s → Midway o w 0 l s
    first l s m = inr (omega arith, m)

  -- a number that is not a task's own is not given
  above : (n : ℕ) → 128 ≤ n → (gives gifts n ≡ false) × (shares gifts n ≡ false)
  above n high = let e : nat_lt n 128 ≡ false = grind (arith, nat_tests) in (ap (λ b. b && has_bit gifts.given n) e, ap (λ b. b && (has_bit gifts.shared n || (gifts.zero && (n == 0)))) e)

  last : (l : Label) (s : ℕ) → Midway o w 128 l s → Means w l s
  last l s (inl h) = h.1
  last l s (inr h) = kept_means o t name gifts residence w a.owners own numbered active refusal l s (at (same_name l.owner t)) h.1 where
    at : (b : Bool) → (b && gives gifts l.number) ≡ false
    at true = (above l.number h.0).0
    at false = refl

  last_entry : (u : Name) (n : ℕ) → entry_midway o w 128 u n ≡ entry w u n
  last_entry u n = at (nat_lt n 128) refl where
    high : nat_lt n 128 ≡ false → 128 ≤ n
    high e = grind (arith, nat_tests)

    at : (b : Bool) → nat_lt n 128 ≡ b → cond b (entry w u n) (entry o u n) ≡ entry w u n
    at true e = refl
    at false e =
        let k = above n (high e) in
        sym (entry_none o t name gifts residence w a.owners own numbered active refusal u n (entry_new o t name gifts residence w a.owners own numbered active refusal n ∙ (λ i. cond (k.0 i || k.1 i) (entry a.owners.ready t n) None)))

  -- a subtask is attached
  pub attach_shown : (p : Picture) → ShowsBy (Means o) p old → ShowsBy (Means w) (replayed_all carries p (change.Task name t residence ∷ each_below 128 (λ n. listed (held_change new t name n)))) new
  attach_shown p shows =
      let q : Picture = replayed_all carries (replayed carries p (change.Task name t residence)) (each_below 128 line) in
      let m : ShowsMidway old new 128 q = numbers_shown 128 (replayed carries p (change.Task name t residence)) (begun p shows) in
      ended q m where
        ended : (q : Picture) → ShowsMidway old new 128 q → ShowsBy (Means w) q new
        ended q m = record {
          regions = m.regions ∙ sym a.regions;
          held = λ d. subst (λ h. Both (IsMark (Means w)) (q.held d) (get h d)) (sym a.held) (marks_stay (Midway o w 128) (Means w) last (q.held d) (get old.state.held d) (m.held d));
          bytes = bytes_same q.bytes (get old.state.bytes) (get new.state.bytes) m.bytes (λ x. ap (λ f. get f x) a.bytes);
          tasks = m.tasks;
          subpools = λ u n. both_weaker (Midway o w 128) (Means w) last (q.subpools u n) (entry w u n) (subst (Both (Midway o w 128) (q.subpools u n)) (last_entry u n) (m.subpools u n));
          names = λ n. m.names n ∙ sym (ap (λ f. get f n) names);
          pools = λ n. subst (λ h. Both (IsDrawn (Means w)) (q.pools n) (get h n)) (sym a.pools) (pools_stay (Midway o w 128) (Means w) last (q.pools n) (get old.state.pools n) (m.pools n));
        }
