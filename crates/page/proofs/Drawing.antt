-- Pictures and states that are changed alike.
use Rattle.std.proofs.Common.{◌≡◌, ℕ, Bool, true, false, cond, Option, Some, None, option_map, refl, sym, ap, ◌∙◌, subst}
use Rattle.std.specs.FinMap.{get}
use Rattle.mvs_model.specs.Finite.{Changes, Keeps, kept}
use Rattle.mvs_model.specs.Job.{JobValue}
use Rattle.mvs_model.specs.Owners.{entry}
use Rattle.mvs_model.specs.State.{State}
use Rattle.page.specs.Picture.{AreBytes, Both, IsDrawn, IsMark, Label, Means, Picture, ShowsBy, changed, mark_moved, pool_moved}

-- ---- values that are both there and fit, or both not there

module _ {X Y : Type 0} (P : X → Y → Type 0) where
  pub both_weaker : (Q : X → Y → Type 0) → ((x : X) (y : Y) → P x y → Q x y) → (a : Option X) (b : Option Y) → Both P a b → Both Q a b
  both_weaker Q f None None h = tt
  both_weaker Q f None (Some y) h = h
  both_weaker Q f (Some x) None h = h
  both_weaker Q f (Some x) (Some y) h = f x y h

  pub both_mapped : {Z : Type 0} (Q : Z → Y → Type 0) (g : X → Z) → ((x : X) (y : Y) → P x y → Q (g x) y) → (a : Option X) (b : Option Y) → Both P a b → Both Q (option_map g a) b
  both_mapped Q g f None None h = tt
  both_mapped Q g f None (Some y) h = h
  both_mapped Q g f (Some x) None h = h
  both_mapped Q g f (Some x) (Some y) h = f x y h

  -- tests that tell the same of what fits
  pub both_kept : (Q : X → Y → Type 0) (s : X → Bool) (t : Y → Bool) → ((x : X) (y : Y) → P x y → s x ≡ t y) → ((x : X) (y : Y) → t y ≡ true → P x y → Q x y) → (a : Option X) (b : Option Y) → Both P a b → Both Q (kept s a) (kept t b)
  both_kept Q s t same f None None h = tt
  both_kept Q s t same f None (Some y) h = absurd h
  both_kept Q s t same f (Some x) None h = absurd h
  both_kept Q s t same f (Some x) (Some y) h = at (s x) (t y) refl (same x y h) where
    at : (b c : Bool) → t y ≡ c → b ≡ c → Both Q (cond b (Some x) None) (cond c (Some y) None)
    at true true e k = f x y e h
    at false false e k = tt
    at true false e k = absurd (cc)
    at false true e k = absurd (cc)

  -- a change at keys that pass a test
  pub both_changed : {K : Type 0} (f : K → Option X) (old new : K → Option Y) (test : K → Bool) (a : Option X) (b : Option Y) → Both P a b → Changes old test b new → ((k : K) → Both P (f k) (old k)) → (k : K) → Both P (changed f test a k) (new k)
  both_changed f old new test a b h changes all k = subst (Both P (changed f test a k)) (sym (changes k)) (at (test k)) where
    at : (c : Bool) → Both P (cond c a (f k)) (cond c b (old k))
    at true = h
    at false = all k

-- ---- bytes

module _ (drawn : ℕ → ℕ) (old new : ℕ → Option ℕ) (all : AreBytes drawn old) where
  -- none has changed
  pub bytes_same : ((a : ℕ) → new a ≡ old a) → AreBytes drawn new
  bytes_same same a b is = all a b (sym (same a) ∙ is)

  -- those that pass the test are gone
  pub bytes_gone : (test : ℕ → Bool) → Changes old test None new → AreBytes drawn new
  bytes_gone test changes a b is = at (test a) (sym (changes a) ∙ is) where
    at : (c : Bool) → cond c None (old a) ≡ Some b → drawn a ≡ b
    at true e = absurd (cc)
    at false e = all a b e

  -- those that pass the test stay
  pub bytes_kept : (test : ℕ → ℕ → Bool) → Keeps old test new → AreBytes drawn new
  bytes_kept test keeps a b is = at (old a) refl (sym (keeps a) ∙ is) where
    at : (v : Option ℕ) → old a ≡ v → kept (test a) v ≡ Some b → drawn a ≡ b
    at None e f = absurd (cc)
    at (Some x) e f = by (test a x) f where
      by : (c : Bool) → cond c (Some x) None ≡ Some b → drawn a ≡ b
      by true g = all a x e ∙ (let is : x ≡ b = cc in is)
      by false g = absurd (cc)

  -- those that pass the test are others
  pub bytes_set : (test : ℕ → Bool) (byte : ℕ → ℕ) (value : ℕ → Option ℕ) → ((a : ℕ) → new a ≡ cond (test a) (value a) (old a)) → ((a b : ℕ) → test a ≡ true → new a ≡ Some b → byte a ≡ b) → AreBytes (λ a. cond (test a) (byte a) (drawn a)) new
  bytes_set test byte value changes known a b is = at (test a) refl (sym (changes a) ∙ is) where
    at : (c : Bool) → test a ≡ c → cond c (value a) (old a) ≡ Some b → cond c (byte a) (drawn a) ≡ b
    at true t e = known a b t is
    at false t e = all a b e

-- ---- what labels mean

module _ (R S : Label → ℕ → Type 0) (move : Label → Label) (f : (l : Label) (s : ℕ) → R l s → S (move l) s) where
  pub marks_move : (a : Option _) (b : Option _) → Both (IsMark R) a b → Both (IsMark S) (option_map (mark_moved move) a) b
  marks_move = both_mapped (IsMark R) (IsMark S) (mark_moved move) (λ m h e. record { label = f m.label h.subpool e.label; pooled = e.pooled })

  pub pools_move : (a : Option _) (b : Option _) → Both (IsDrawn R) a b → Both (IsDrawn S) (option_map (pool_moved move) a) b
  pools_move = both_mapped (IsDrawn R) (IsDrawn S) (pool_moved move) (λ q p e. record { label = f q.label p.subpool e.label; cell_size = e.cell_size; parts = e.parts; taken = e.taken })

module _ (R S : Label → ℕ → Type 0) (f : (l : Label) (s : ℕ) → R l s → S l s) where
  pub marks_stay : (a : Option _) (b : Option _) → Both (IsMark R) a b → Both (IsMark S) a b
  marks_stay = both_weaker (IsMark R) (IsMark S) (λ m h e. record { label = f m.label h.subpool e.label; pooled = e.pooled })

  pub pools_stay : (a : Option _) (b : Option _) → Both (IsDrawn R) a b → Both (IsDrawn S) a b
  pools_stay = both_weaker (IsDrawn R) (IsDrawn S) (λ q p e. record { label = f q.label p.subpool e.label; cell_size = e.cell_size; parts = e.parts; taken = e.taken })

-- ---- steps whose states and names are the same

pub same_shown : (old new : JobValue) (p : Picture) → new.state ≡ old.state → new.names ≡ old.names → ShowsBy (Means old.state.owners) p old → ShowsBy (Means new.state.owners) p new
same_shown old new p e names shows = record {
  regions = shows.regions ∙ sym (ap (λ s. s.regions) e);
  held = λ d. subst (λ (s : State). Both (IsMark (Means s.owners)) (p.held d) (get s.held d)) (sym e) (shows.held d);
  bytes = bytes_same p.bytes (get old.state.bytes) (get new.state.bytes) shows.bytes (λ a. ap (λ s. get s.bytes a) e);
  tasks = λ t. shows.tasks t ∙ sym (ap (λ s. get s.owners.tasks t) e);
  subpools = λ t n. subst (λ (s : State). Both (Means s.owners) (p.subpools t n) (entry s.owners t n)) (sym e) (shows.subpools t n);
  names = λ n. shows.names n ∙ sym (ap (λ m. get m n) names);
  pools = λ n. subst (λ (s : State). Both (IsDrawn (Means s.owners)) (p.pools n) (get s.pools n)) (sym e) (shows.pools n);
}
