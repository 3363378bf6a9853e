-- The picture where tasks end.
use Rattle.std.proofs.Common.{◌≡◌, ℕ, ◌&&◌, ◌||◌, not, Bool, true, false, cond, List, [], ◌∷◌, Option, Some, None, refl, sym, ap, ◌∙◌, subst, arith}
use Rattle.std.specs.List.{list_any}
use Rattle.std.specs.FinMap.{get}
use Rattle.std.proofs.lemmas.Bool.Decides.{nat_tests}
use Rattle.mvs_model.specs.declared.name.Name.{Name}
use Rattle.mvs_model.specs.Changes.{End}
use Rattle.mvs_model.specs.Finite.{has, kept}
use Rattle.mvs_model.specs.Job.{JobValue}
use Rattle.mvs_model.specs.Name.{same_name}
use Rattle.mvs_model.specs.Owners.{ends_with, entry, is_among_ended}
use Rattle.mvs_model.specs.State.{granted}
use Rattle.mvs_model.proofs.Orders.{same_name_sym}
use Rattle.page.specs.declared.change.Change.{Change}
use Rattle.page.specs.declared.change.Change.TheVariants as change
use Rattle.page.specs.Changes.{fall_changes}
use Rattle.page.specs.Picture.{Both, IsDrawn, IsMark, Label, Means, Picture, ShowsBy, ended, replayed_all}
use Rattle.page.proofs.Drawing.{both_kept, bytes_kept}

-- ---- what is left of a picture

-- a value that stays twice
kept_twice : {X : Type 0} (s t u : X → Bool) → ((x : X) → u x ≡ (t x && s x)) → (o : Option X) → kept s (kept t o) ≡ kept u o
kept_twice s t u same None = refl
kept_twice s t u same (Some x) = at (t x) (same x) where
  at : (b : Bool) → u x ≡ (b && s x) → kept s (cond b (Some x) None) ≡ cond (u x) (Some x) None
  at true e = ap (λ c. cond c (Some x) None) (sym e)
  at false e = ap (λ c. cond c (Some x) None) (sym e)

-- tests whose names differ from more names
both_out : (y x : Name) (xs : List Name) → not (same_name y x || list_any (same_name y) xs) ≡ (not (same_name y x) && not (list_any (same_name y) xs))
both_out y x xs = grind (arith, nat_tests)

-- What is left of one picture in another, without these tasks and what they own.
pub record IsLeft (gone : Name → Bool) (p q : Picture) : Type 0 where
  pub regions : q.regions ≡ p.regions
  pub held : (d : ℕ) → q.held d ≡ kept (λ m. not (gone m.label.owner)) (p.held d)
  pub bytes : (a : ℕ) → q.bytes a ≡ p.bytes a
  pub tasks : (t : Name) → q.tasks t ≡ kept (λ _. not (gone t)) (p.tasks t)
  pub subpools : (t : Name) (n : ℕ) → q.subpools t n ≡ kept (λ l. not (gone t || gone l.owner)) (p.subpools t n)
  pub names : (n : Name) → q.names n ≡ p.names n
  pub pools : (n : Name) → q.pools n ≡ kept (λ k. not (gone k.label.owner)) (p.pools n)

-- one task ends
one_ended : (p : Picture) (t : Name) → IsLeft (λ x. same_name x t) p (ended t p)
one_ended p t = record {
  regions = refl;
  held = λ d. refl;
  bytes = λ a. refl;
  tasks = λ x. ap (λ b. cond b None (p.tasks x)) (same_name_sym t x) ∙ at (same_name x t) (p.tasks x);
  subpools = λ x n. refl;
  names = λ n. refl;
  pools = λ n. refl;
} where
  at : {X : Type 0} (b : Bool) (o : Option X) → cond b None o ≡ kept (λ _. not b) o
  at true None = refl
  at true (Some x) = refl
  at false None = refl
  at false (Some x) = refl

-- what neither of two tests passes twice
both_twice : (a b c d e f : Bool) → not a ≡ (not b && not c) → not d ≡ (not e && not f) → not (a || d) ≡ (not (b || e) && not (c || f))
both_twice a b c d e f h1 h2 = grind (arith, nat_tests)

-- one after another
then_left : (one two both : Name → Bool) (p q r : Picture) → ((x : Name) → not (both x) ≡ (not (one x) && not (two x))) → IsLeft one p q → IsLeft two q r → IsLeft both p r
then_left one two both p q r same a b = record {
  regions = b.regions ∙ a.regions;
  held = λ d. b.held d ∙ ap (kept (λ m. not (two m.label.owner))) (a.held d) ∙ kept_twice (λ m. not (two m.label.owner)) (λ m. not (one m.label.owner)) (λ m. not (both m.label.owner)) (λ m. same m.label.owner) (p.held d);
  bytes = λ c. b.bytes c ∙ a.bytes c;
  tasks = λ t. b.tasks t ∙ ap (kept (λ _. not (two t))) (a.tasks t) ∙ kept_twice (λ _. not (two t)) (λ _. not (one t)) (λ _. not (both t)) (λ _. same t) (p.tasks t);
  subpools = λ t n. b.subpools t n ∙ ap (kept (λ l. not (two t || two l.owner))) (a.subpools t n)
      ∙ kept_twice (λ l. not (two t || two l.owner)) (λ l. not (one t || one l.owner)) (λ l. not (both t || both l.owner)) (λ l. both_twice (both t) (one t) (two t) (both l.owner) (one l.owner) (two l.owner) (same t) (same l.owner)) (p.subpools t n);
  names = λ n. b.names n ∙ a.names n;
  pools = λ n. b.pools n ∙ ap (kept (λ k. not (two k.label.owner))) (a.pools n) ∙ kept_twice (λ k. not (two k.label.owner)) (λ k. not (one k.label.owner)) (λ k. not (both k.label.owner)) (λ k. same k.label.owner) (p.pools n);
}

-- what passes stays
passes : {X : Type 0} (test : X → Bool) → ((x : X) → test x ≡ true) → (o : Option X) → o ≡ kept test o
passes test all None = refl
passes test all (Some x) = ap (λ b. cond b (Some x) None) (sym (all x))

-- no task ends
all_left : (p : Picture) → IsLeft (λ _. false) p p
all_left p = record { regions = refl; held = λ d. passes _ (λ m. refl) (p.held d); bytes = λ a. refl; tasks = λ t. passes _ (λ x. refl) (p.tasks t); subpools = λ t n. passes _ (λ l. refl) (p.subpools t n); names = λ n. refl; pools = λ n. passes _ (λ q. refl) (p.pools n) }

falls_left : (carries : Change → List ℕ) (t : Name) (xs : List Name) (p : Picture) → IsLeft (λ x. list_any (same_name x) xs) p (replayed_all carries p (fall_changes t xs))
falls_left carries t [] p = all_left p
falls_left carries t (y ∷ xs) p = then_left (λ x. same_name x y) (λ x. list_any (same_name x) xs) (λ x. same_name x y || list_any (same_name x) xs) p (ended y p) _ (λ x. both_out x y xs) (one_ended p y) (falls_left carries t xs (ended y p))

-- the task that abends, and those that fall with it
pub abend_left : (carries : Change → List ℕ) (t : Name) (fallen : List Name) (p : Picture) → IsLeft (is_among_ended t fallen) p (replayed_all carries p (change.Abend t ∷ fall_changes t fallen))
abend_left carries t fallen p = then_left (λ x. same_name x t) (λ x. list_any (same_name x) fallen) (is_among_ended t fallen) p (ended t p) _ (λ x. both_out x t fallen) (one_ended p t) (falls_left carries t fallen (ended t p))

-- the task that returns, with which none falls
pub return_left : (carries : Change → List ℕ) (t : Name) (fallen : List Name) (p : Picture) → ((x : Name) → list_any (same_name x) fallen ≡ false) → IsLeft (is_among_ended t fallen) p (replayed_all carries p (change.Return t ∷ []))
return_left carries t fallen p none = then_left (λ x. same_name x t) (λ _. false) (is_among_ended t fallen) p (ended t p) (ended t p) (λ x. (λ i. not (same_name x t || none x i)) ∙ at (same_name x t)) (one_ended p t) (all_left (ended t p)) where
  at : (b : Bool) → not (b || false) ≡ (not b && true)
  at true = refl
  at false = refl

-- ---- that it shows what is left of the step

module _ (old new : JobValue) (t : Name) (e : End old.state t new.state) (names : new.names ≡ old.names) where
  -- the label of a subpool that stays goes on to mean it
  stays : (l : Label) (s : ℕ) → ends_with old.state.owners t e.fallen s ≡ false → Means old.state.owners l s → Means new.state.owners l s
  stays l s stay m = record {
    owned = e.owners.owner s ∙ ap (kept (λ x. not (is_among_ended t e.fallen x))) m.owned ∙ ap (λ b. cond (not b) (Some l.owner) None) out;
    under = e.owners.table (l.owner, l.number) ∙ ap (kept (λ s. not (is_among_ended t e.fallen l.owner || ends_with old.state.owners t e.fallen s))) m.under ∙ (λ i. cond (not (out i || stay i)) (Some s) None);
  } where
    out : is_among_ended t e.fallen l.owner ≡ false
    out = sym (ap (has (is_among_ended t e.fallen)) m.owned) ∙ stay

  -- what is owned by a task that ends is of a subpool that ends
  alike : (l : Label) (s : ℕ) → Means old.state.owners l s → not (is_among_ended t e.fallen l.owner) ≡ not (ends_with old.state.owners t e.fallen s)
  alike l s m = sym (ap (λ o. not (has (is_among_ended t e.fallen) o)) m.owned)

  stayed : (s : ℕ) → not (ends_with old.state.owners t e.fallen s) ≡ true → ends_with old.state.owners t e.fallen s ≡ false
  stayed s h = grind (arith, nat_tests)

  both_not : (a b c : Bool) → not b ≡ not c → not (a || b) ≡ not (a || c)
  both_not true b c e = refl
  both_not false b c e = e

  neither : (a b : Bool) → not (a || b) ≡ true → not b ≡ true
  neither a b h = grind (arith, nat_tests)

  pub ends_shown : (p q : Picture) → IsLeft (is_among_ended t e.fallen) p q → ShowsBy (Means old.state.owners) p old → ShowsBy (Means new.state.owners) q new
  ends_shown p q left shows = record {
    regions = left.regions ∙ shows.regions ∙ sym e.drops.regions;
    held = λ d. subst (λ x. Both (IsMark (Means new.state.owners)) x (get new.state.held d)) (sym (left.held d)) (subst (Both (IsMark (Means new.state.owners)) _) (sym (e.drops.held d))
        (both_kept (IsMark (Means old.state.owners)) (IsMark (Means new.state.owners)) _ _ (λ m h k. alike m.label h.subpool k.label)
        (λ m h b k. record { label = stays m.label h.subpool (stayed h.subpool b) k.label; pooled = k.pooled }) (p.held d) (get old.state.held d) (shows.held d)));
    bytes = λ a b is. left.bytes a ∙ bytes_kept p.bytes (get old.state.bytes) (get new.state.bytes) shows.bytes (λ a _. granted new.state a) e.drops.bytes a b is;
    tasks = λ x. left.tasks x ∙ ap (kept (λ _. not (is_among_ended t e.fallen x))) (shows.tasks x) ∙ sym (e.owners.tasks x);
    subpools = λ x n. subst (λ y. Both (Means new.state.owners) y (entry new.state.owners x n)) (sym (left.subpools x n)) (subst (Both (Means new.state.owners) _) (sym (e.owners.table (x, n)))
        (both_kept (Means old.state.owners) (Means new.state.owners) _ _ (λ l s m. both_not (is_among_ended t e.fallen x) _ _ (alike l s m))
        (λ l s b m. stays l s (stayed s (neither (is_among_ended t e.fallen x) (ends_with old.state.owners t e.fallen s) b)) m) (p.subpools x n) (entry old.state.owners x n) (shows.subpools x n)));
    names = λ n. left.names n ∙ shows.names n ∙ sym (ap (λ m. get m n) names);
    pools = λ n. subst (λ x. Both (IsDrawn (Means new.state.owners)) x (get new.state.pools n)) (sym (left.pools n)) (subst (Both (IsDrawn (Means new.state.owners)) _) (sym (e.drops.pools n))
        (both_kept (IsDrawn (Means old.state.owners)) (IsDrawn (Means new.state.owners)) _ _ (λ q k i. alike q.label k.subpool i.label)
        (λ q k b i. record { label = stays q.label k.subpool (stayed k.subpool b) i.label; cell_size = i.cell_size; parts = i.parts; taken = i.taken }) (p.pools n) (get old.state.pools n) (shows.pools n)));
  }
