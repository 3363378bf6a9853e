-- What goes from a state goes from its labels.
use Rattle.std.proofs.Common.{◌≡◌, ℕ, ◌+◌, ◌*◌, ◌/◌, ◌<◌, Bool, true, false, cond, Option, Some, None, arith, sym, ap, ◌∙◌, IsSome}
use Rattle.std.specs.FinMap.{get, empty}
use Rattle.std.proofs.lemmas.Bool.Decides.{nat_tests}
use Rattle.mvs_model.specs.Owners.{Owners}
use Rattle.mvs_model.specs.State.{State, Holding, plain}
use Rattle.mvs_model.specs.Job.{JobValue}
use Rattle.mvs_laws.specs.Labels.{Labels, without}
use Rattle.mvs_laws.specs.Tidy.{Link}
use Rattle.mvs_model.proofs.Tests.{none_some, true_false}

pub still : (c : Bool) (v : Option ℕ) (b : ℕ) → cond c None v ≡ Some b → (c ≡ false) × (v ≡ Some b)
still c v b h1 = grind (arith, nat_tests)

pub left_there : (c : Bool) (v : Option ℕ) → c ≡ false → IsSome v → IsSome (cond c None v)
left_there c v h1 h2 = grind (arith, nat_tests)

pub some_there : (v : Option ℕ) → IsSome v → (b : ℕ) × (v ≡ Some b)
some_there v h1 = grind (arith, nat_tests)

-- By a test on offsets, the offsets that pass it are gone, and all else is as before.
pub record Goes (job : JobValue) (m : Labels) (k : Link job m) (test : ℕ → ℕ → Bool) (new : State) : Type 0 where
  pub held_gone : (l i b : ℕ) → m.byte l i ≡ Some b → test l i ≡ true → get new.held ((k.base l + i) / 8) ≡ None
  pub held_kept : (l i b : ℕ) → m.byte l i ≡ Some b → test l i ≡ false → get new.held ((k.base l + i) / 8) ≡ get job.state.held ((k.base l + i) / 8)
  pub held_from : (d : ℕ) (h : Holding) → get new.held d ≡ Some h → get job.state.held d ≡ Some h
  pub bytes_gone : (l i b : ℕ) → m.byte l i ≡ Some b → test l i ≡ true → get new.bytes (k.base l + i) ≡ None
  pub bytes_kept : (l i b : ℕ) → m.byte l i ≡ Some b → test l i ≡ false → get new.bytes (k.base l + i) ≡ get job.state.bytes (k.base l + i)
  pub bytes_from : (a b : ℕ) → get new.bytes a ≡ Some b → get job.state.bytes a ≡ Some b
  pub pools : new.pools ≡ empty
  pub fill : new.regions.fill ≡ job.state.regions.fill

module _ (job new : JobValue) (m : Labels) (k : Link job m) (test : ℕ → ℕ → Bool) (g : Goes job m k test new.state) (named : new.names ≡ job.names) (o : Owners) (owned : new.state.owners ≡ o) (a : Bool) (ended : new.abended ≡ a) (trailing : new.former ≡ job.former) where
  not_gone : {X : Type 0} → (c : Bool) (v : Option X) (x : X) → (c ≡ true → v ≡ None) → v ≡ Some x → c ≡ false
  not_gone c v x h1 h2 = grind (arith, nat_tests, none_some)

  pub link_less : Link new (record (without m test) { owners = o; abended = a })
  link_less = record {
    base = k.base;
    on_doubleword = k.on_doubleword;
    apart = λ x y i j b c e f s. k.apart x y i j b c (still (test x i) _ b e).1 (still (test y j) _ c f).1 s;
    held = λ l i b e. let q = still (test l i) _ b e in g.held_kept l i b q.1 q.0 ∙ k.held l i b q.1;
    all_held = all_held;
    bytes = λ l i b e. let q = still (test l i) _ b e in g.bytes_kept l i b q.1 q.0 ∙ k.bytes l i b q.1;
    all_bytes = all_bytes;
    names = λ name. ap (λ ns. get ns name) named ∙ k.names name;
    pools = g.pools;
    owners = owned;
    fill = g.fill ∙ k.fill;
    abended = ended;
    former = trailing ∙ k.former;
    labels = record {
      whole = k.labels.whole;
      inside = λ l i b e. k.labels.inside l i b (still (test l i) _ b e).1;
      named = k.labels.named;
    };
  } where
    all_held : (d : ℕ) (h : Holding) → get new.state.held d ≡ Some h → (l : ℕ) × (i : ℕ) × (k.base l + i ≡ 8 * d) × ((q : ℕ) → q < 8 → IsSome (cond (test l (i + q)) None (m.byte l (i + q)))) × (h ≡ plain (m.subpool l))
    all_held d h e =
        let w = k.all_held d h (g.held_from d h e) in (
          w.0,
          w.1,
          w.2,
          (λ q less. let there = some_there (m.byte w.0 (w.1 + q)) (w.3 q less) in
              left_there (test w.0 (w.1 + q)) _ (not_gone (test w.0 (w.1 + q)) (get new.state.held d) h (λ t. ap (get new.state.held) (let at : k.base w.0 + w.1 ≡ 8 * d = w.2 in let s : d ≡ (k.base w.0 + (w.1 + q)) / 8 = omega (arith, at, less) in s) ∙ g.held_gone w.0 (w.1 + q) there.0 there.1 t) e) (w.3 q less)),
          w.4,
        )

    all_bytes : (x b : ℕ) → get new.state.bytes x ≡ Some b → (l : ℕ) × (i : ℕ) × (k.base l + i ≡ x) × (cond (test l i) None (m.byte l i) ≡ Some b)
    all_bytes x b e =
        let w = k.all_bytes x b (g.bytes_from x b e) in
        (w.0, w.1, w.2, at (test w.0 w.1) (not_gone (test w.0 w.1) (get new.state.bytes x) b (λ t. ap (get new.state.bytes) (sym w.2) ∙ g.bytes_gone w.0 w.1 b w.3 t) e) w.3) where
          at : (c : Bool) {v : Option ℕ} → c ≡ false → v ≡ Some b → cond c None v ≡ Some b
          at true s f = true_false s
          at false s f = f
