-- The picture where storage is released.
use Rattle.std.proofs.Common.{◌≡◌, ℕ, ◌+◌, ◌*◌, ◌&&◌, ◌||◌, ◌==◌, nat_lt, not, Bool, true, false, cond, List, [], ◌∷◌, map, Option, Some, None, refl, sym, ap, ◌∙◌, subst, arith, eqb-true}
use Rattle.std.specs.List.{list_all}
use Rattle.std.specs.FinMap.{get}
use Rattle.std.proofs.lemmas.Bool.{and_parts}
use Rattle.std.proofs.lemmas.Bool.Decides.{nat_tests}
use Rattle.mvs_model.specs.declared.name.Name.{Name}
use Rattle.mvs_model.specs.Changes.{Empties, Frees, any_covers, any_has}
use Rattle.mvs_model.specs.Job.{JobValue}
use Rattle.mvs_model.specs.Name.{same_name}
use Rattle.mvs_model.specs.Owners.{Owners, entry}
use Rattle.mvs_model.specs.Place.{PlaceValue, round8}
use Rattle.mvs_model.specs.Requests.{on_doubleword, whole}
use Rattle.mvs_model.specs.State.{granted}
use Rattle.mvs_model.specs.Storage.{covers}
use Rattle.mvs_model.proofs.Orders.{same_name_is, same_name_self}
use Rattle.mvs_model.proofs.Tests.{same_self, same_test}
use Rattle.page.specs.declared.change.Change.{Change}
use Rattle.page.specs.Changes.{free_changes}
use Rattle.page.specs.Picture.{Both, IsDrawn, IsMark, Label, Means, Picture, ShowsBy, changed, replayed_all, same_label, without}
use Rattle.page.proofs.Drawing.{both_changed, both_kept, bytes_gone, bytes_kept}
use Rattle.page.proofs.Numbered.{Numbered}

-- ---- places

-- a place that begins on a doubleword has the doublewords that it has with its length rounded
pub whole_covers : (p : PlaceValue) (d : ℕ) → on_doubleword p ≡ true → covers (whole p) d ≡ covers p d
whole_covers p d e = ap (λ b. nat_lt p.addr (8 * d + 8) && b) (same_test (nat_lt (8 * d) (p.addr + round8 p.len)) (nat_lt (8 * d) (p.addr + p.len)) (λ h. grind (arith, nat_tests)) (λ h. grind (arith, nat_tests)))

all_cover : (ps : List PlaceValue) (d : ℕ) → list_all on_doubleword ps ≡ true → any_covers (map whole ps) d ≡ any_covers ps d
all_cover [] d e = refl
all_cover (p ∷ ps) d e = let k = and_parts (on_doubleword p) (list_all on_doubleword ps) e in λ i. whole_covers p d k.0 i || all_cover ps d k.1 i

-- One picture is another without what holds these doublewords.
record IsFreed (test : ℕ → Bool) (p q : Picture) : Type 0 where
  regions : q.regions ≡ p.regions
  held : (d : ℕ) → q.held d ≡ changed p.held test None d
  bytes : (a : ℕ) → q.bytes a ≡ p.bytes a
  tasks : (t : Name) → q.tasks t ≡ p.tasks t
  subpools : (t : Name) (n : ℕ) → q.subpools t n ≡ p.subpools t n
  names : (n : Name) → q.names n ≡ p.names n
  pools : (n : Name) → q.pools n ≡ p.pools n

frees : (carries : Change → List ℕ) (ps : List PlaceValue) (p : Picture) → IsFreed (any_covers ps) p (replayed_all carries p (free_changes ps))
frees carries [] p = record { regions = refl; held = λ d. refl; bytes = λ a. refl; tasks = λ t. refl; subpools = λ t n. refl; names = λ n. refl; pools = λ n. refl }
frees carries (x ∷ xs) p =
    let more = frees carries xs (record p { held = changed p.held (covers x) None }) in
    record { regions = more.regions; held = λ d. more.held d ∙ at (covers x d) (any_covers xs d) (p.held d); bytes = more.bytes; tasks = more.tasks; subpools = more.subpools; names = more.names; pools = more.pools } where
      at : {X : Type 0} (b c : Bool) (o : Option X) → cond c None (cond b None o) ≡ cond (b || c) None o
      at true true o = refl
      at true false o = refl
      at false c o = refl

-- places are released
pub frees_shown : (carries : Change → List ℕ) (old new : JobValue) (ps : List PlaceValue) (p : Picture) → list_all on_doubleword ps ≡ true → Frees old.state (map whole ps) new.state → new.names ≡ old.names
    → ShowsBy (Means old.state.owners) p old → ShowsBy (Means new.state.owners) (replayed_all carries p (free_changes ps)) new
frees_shown carries old new ps p on f names shows =
    let q = frees carries ps p in
    record {
      regions = q.regions ∙ shows.regions ∙ sym f.regions;
      held = λ d. subst (λ o. Both (IsMark (Means o)) ((replayed_all carries p (free_changes ps)).held d) (get new.state.held d)) (sym f.owners) (subst (λ x. Both (IsMark (Means old.state.owners)) x (get new.state.held d)) (sym (q.held d))
          (both_changed (IsMark (Means old.state.owners)) p.held (get old.state.held) (get new.state.held) (any_covers ps) None None tt (λ d. f.held d ∙ ap (λ b. cond b None (get old.state.held d)) (all_cover ps d on)) shows.held d));
      bytes = λ a b is. q.bytes a ∙ bytes_gone p.bytes (get old.state.bytes) (get new.state.bytes) shows.bytes (any_has (map whole ps)) f.bytes a b is;
      tasks = λ t. q.tasks t ∙ shows.tasks t ∙ sym (ap (λ o. get o.tasks t) f.owners);
      subpools = λ t n. subst (λ o. Both (Means o) ((replayed_all carries p (free_changes ps)).subpools t n) (entry o t n)) (sym f.owners) (subst (λ x. Both (Means old.state.owners) x (entry old.state.owners t n)) (sym (q.subpools t n)) (shows.subpools t n));
      names = λ n. q.names n ∙ shows.names n ∙ sym (ap (λ m. get m n) names);
      pools = λ n. subst (λ o. Both (IsDrawn (Means o)) ((replayed_all carries p (free_changes ps)).pools n) (get new.state.pools n)) (sym f.owners) (subst (λ x. Both (IsDrawn (Means old.state.owners)) x (get new.state.pools n)) (sym (q.pools n))
          (subst (Both (IsDrawn (Means old.state.owners)) (p.pools n)) (sym (ap (λ m. get m n) f.pools)) (shows.pools n)));
    }

-- ---- a subpool is emptied

module _ (o : Owners) (k : Numbered o) (l m : Label) (r s : ℕ) (a : Means o l r) (b : Means o m s) where
  -- labels are the same exactly where they mean the same
  pub same_meaning : same_label l m ≡ (r == s)
  same_meaning = same_test (same_label l m) (r == s) (λ e. there e) (λ e. back (eqb-true r s e)) where
    there : same_label l m ≡ true → (r == s) ≡ true
    there e =
        let k = and_parts (l.number == m.number) (same_name l.owner m.owner) e in
        let same : Some r ≡ Some s = sym a.under ∙ (λ i. entry o (same_name_is l.owner m.owner k.1 i) (eqb-true l.number m.number k.0 i)) ∙ b.under in
        let is : r ≡ s = cc in ap (λ x. x == s) is ∙ same_self s

    back : r ≡ s → same_label l m ≡ true
    back is =
        let owner : Some l.owner ≡ Some m.owner = sym a.owned ∙ ap (get o.owner) is ∙ b.owned in
        let owner_is : l.owner ≡ m.owner = cc in
        let number_is : l.number ≡ m.number = k.one_number l.owner m.owner l.number m.number s (a.under ∙ ap Some is) b.under in
        (λ i. (number_is i == m.number) && same_name (owner_is i) m.owner) ∙ (λ i. same_self m.number i && same_name_self m.owner i)

-- all of a subpool is released
pub empties_shown : (old new : JobValue) (l : Label) (s : ℕ) (p : Picture) → Numbered old.state.owners → Means old.state.owners l s → Empties old.state s new.state → new.names ≡ old.names
    → ShowsBy (Means old.state.owners) p old → ShowsBy (Means new.state.owners) (without (same_label l) p) new
empties_shown old new l s p k m e names shows = record {
  regions = shows.regions ∙ sym e.drops.regions;
  held = λ d. subst (λ o. Both (IsMark (Means o)) ((without (same_label l) p).held d) (get new.state.held d)) (sym e.owners) (subst (Both (IsMark (Means old.state.owners)) _) (sym (e.drops.held d))
      (both_kept (IsMark (Means old.state.owners)) (IsMark (Means old.state.owners)) _ _ (λ x h i. same x.label h.subpool i.label) (λ x h b i. i) (p.held d) (get old.state.held d) (shows.held d)));
  bytes = bytes_kept p.bytes (get old.state.bytes) (get new.state.bytes) shows.bytes (λ a _. granted new.state a) e.drops.bytes;
  tasks = λ t. shows.tasks t ∙ sym (ap (λ o. get o.tasks t) e.owners);
  subpools = λ t n. subst (λ o. Both (Means o) (p.subpools t n) (entry o t n)) (sym e.owners) (shows.subpools t n);
  names = λ n. shows.names n ∙ sym (ap (λ m. get m n) names);
  pools = λ n. subst (λ o. Both (IsDrawn (Means o)) ((without (same_label l) p).pools n) (get new.state.pools n)) (sym e.owners) (subst (Both (IsDrawn (Means old.state.owners)) _) (sym (e.drops.pools n))
      (both_kept (IsDrawn (Means old.state.owners)) (IsDrawn (Means old.state.owners)) _ _ (λ x h i. same x.label h.subpool i.label) (λ x h b i. i) (p.pools n) (get old.state.pools n) (shows.pools n)));
} where
  same : (x : Label) (r : ℕ) → Means old.state.owners x r → not (same_label l x) ≡ not (r == s)
  same x r i = ap not (same_meaning old.state.owners k l x s r m i ∙ same_test (s == r) (r == s) (λ e. grind (arith, nat_tests)) (λ e. grind (arith, nat_tests)))
