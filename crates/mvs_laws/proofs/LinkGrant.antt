-- A granted area and its label.
use Rattle.std.proofs.Common.{◌≡◌, ℕ, ◌+◌, ◌-◌, ◌*◌, ◌/◌, ◌%◌, ◌<◌, ◌≤◌, Bool, true, false, cond, Option, Some, None, ltb, arith, refl, sym, ap, ◌∙◌, subst, IsSome, ◌==◌, option_map, eqb-true, ltb-true}
use Rattle.std.proofs.lemmas.Bool.Decides.{nat_tests}
use Rattle.std.specs.FinMap.{get, empty}
use Rattle.std.proofs.lemmas.Bool.{false_from_ne_true}
use Rattle.std.proofs.lemmas.Option.{cond_some}
use Rattle.std.proofs.lemmas.Grind.{common_steps}
use Rattle.mvs_model.specs.Place.{PlaceValue, place_at}
use Rattle.mvs_model.specs.Finite.{Changes}
use Rattle.mvs_model.specs.Storage.{Covers, covers, has_address}
use Rattle.mvs_model.specs.Owners.{Owners}
use Rattle.mvs_model.specs.State.{State, Holding, plain}
use Rattle.mvs_model.specs.Job.{JobValue}
use Rattle.mvs_laws.specs.Labels.{Labels, with_area}
use Rattle.mvs_laws.specs.Tidy.{Link}
use Rattle.mvs_laws.proofs.LinkLess.{some_there}
use Rattle.mvs_model.proofs.Tests.{less_other, same_self}
use Rattle.mvs_model.proofs.StorageLaws.{covers_is, covers_from}
use Rattle.mvs_model.proofs.CellPlaces.{has_is}

-- A place of whole doublewords where nothing was held is now of a subpool and full of fill bytes.
pub record Comes (job : JobValue) (s : ℕ) (p : PlaceValue) (new : State) : Type 0 where
  pub addr : p.addr % 8 ≡ 0
  pub len : p.len % 8 ≡ 0
  pub free : (d : ℕ) → Covers p d → get job.state.held d ≡ None
  pub held : Changes (get job.state.held) (covers p) (Some (plain s)) (get new.held)
  pub bytes : Changes (get job.state.bytes) (has_address p) (Some job.state.regions.fill) (get new.bytes)
  pub pools : new.pools ≡ empty
  pub fill : new.regions.fill ≡ job.state.regions.fill

none_or : {X : Type 0} (v : Option X) (x : X) → v ≡ None → v ≡ Some x → ⊥
none_or v x n e = let f : None ≡ Some x = sym n ∙ e in cc

module _ (job new : JobValue) (m : Labels) (k : Link job m) (s : ℕ) (p : PlaceValue) (g : Comes job s p new.state) (named : new.names ≡ job.names) (o : Owners) (owned : new.state.owners ≡ o) (ended : new.abended ≡ job.abended) (trailing : new.former ≡ job.former) where
  byte_at : Bool → ℕ → ℕ → Option ℕ
  byte_at c l i = cond c (cond (ltb i p.len) (Some m.fill) None) (m.byte l i)

  base_at : Bool → ℕ → ℕ
  base_at c l = cond c p.addr (k.base l)

  in_new : (i b : ℕ) → cond (ltb i p.len) (Some m.fill) None ≡ Some b → (i < p.len) × (m.fill ≡ b)
  in_new i b e = let k = cond_some (ltb i p.len) m.fill b e in (ltb-true i p.len k.0, k.1)

  fill_new : (i : ℕ) → i < p.len → cond (ltb i p.len) (Some m.fill) None ≡ Some m.fill
  fill_new i l = ap (λ c. cond c (Some m.fill) None) (let t : ltb i p.len ≡ true = grind (arith, nat_tests) in t)

  -- an old offset is at no address of the place
  outside : (l i b : ℕ) → m.byte l i ≡ Some b → Covers p ((k.base l + i) / 8) → ⊥
  outside l i b e c = none_or _ _ (g.free ((k.base l + i) / 8) c) (k.held l i b e)

  covers_not : (d : ℕ) → (Covers p d → ⊥) → covers p d ≡ false
  covers_not d h = false_from_ne_true (covers p d) (λ e. h (covers_is p d e))

  apart_at : (c d : Bool) (x y i j b e : ℕ) → (c ≡ true → x ≡ m.count) → (d ≡ true → y ≡ m.count) → byte_at c x i ≡ Some b → byte_at d y j ≡ Some e → base_at c x + i ≡ base_at d y + j → (x ≡ y) × (i ≡ j)
  unfolding byte_at base_at
  apart_at c d x y i j b e h1 h2 h3 h4 h5 = grind (arith, nat_tests)

  held_at : (c : Bool) (l i b : ℕ) → byte_at c l i ≡ Some b → get new.state.held ((base_at c l + i) / 8) ≡ Some (plain (cond c s (m.subpool l)))
  unfolding byte_at base_at
  held_at c l i b h1 = grind (arith, nat_tests, in_new, outside, covers_not, covers_from)

  bytes_at : (c : Bool) (l i b : ℕ) → byte_at c l i ≡ Some b → get new.state.bytes (base_at c l + i) ≡ Some b
  unfolding byte_at base_at
  bytes_at c l i b h1 = grind (arith, nat_tests)

  inside_at : (c : Bool) (l i b : ℕ) → (c ≡ true → l ≡ m.count) → byte_at c l i ≡ Some b → (l < m.count + 1) × (i < cond c p.len (m.len l))
  unfolding byte_at
  inside_at c l i b h1 h2 = grind (arith, nat_tests, in_new)

  whole_at : (c : Bool) (l : ℕ) → cond c p.len (m.len l) % 8 ≡ 0
  whole_at c l = grind (arith, common_steps)

  aligned_at : (c : Bool) (l : ℕ) → base_at c l % 8 ≡ 0
  unfolding base_at
  aligned_at c l = grind (arith, common_steps)

  HeldFrom : Bool → ℕ → Holding → ℕ → ℕ → Type 0
  HeldFrom c d h l i = (base_at c l + i ≡ 8 * d) × ((q : ℕ) → q < 8 → IsSome (byte_at c l (i + q))) × (h ≡ plain (cond c s (m.subpool l)))

  held_new : (d : ℕ) (h : Holding) → Covers p d → plain s ≡ h → HeldFrom true d h m.count (8 * d - p.addr)
  unfolding HeldFrom byte_at base_at
  held_new d h h1 h2 = grind (arith, nat_tests)

  held_old : (d : ℕ) (h : Holding) → get job.state.held d ≡ Some h → (l : ℕ) × (i : ℕ) × (l < m.count) × HeldFrom false d h l i
  unfolding HeldFrom byte_at base_at
  held_old d h e =
      let w = k.all_held d h e in
      let b = some_there (m.byte w.0 (w.1 + 0)) (w.3 0 (omega arith)) in
      (w.0, w.1, (k.labels.inside w.0 (w.1 + 0) b.0 b.1).0, (w.2, w.3, w.4))

  all_held : (d : ℕ) (h : Holding) → get new.state.held d ≡ Some h → (l : ℕ) × (i : ℕ) × HeldFrom (l == m.count) d h l i
  all_held d h e = at (covers p d) refl (sym (g.held d) ∙ e) where
    at : (c : Bool) → covers p d ≡ c → cond c (Some (plain s)) (get job.state.held d) ≡ Some h → (l : ℕ) × (i : ℕ) × HeldFrom (l == m.count) d h l i
    at true t f = (m.count, 8 * d - p.addr, subst (λ c. HeldFrom c d h m.count (8 * d - p.addr)) (sym (same_self m.count)) (held_new d h (covers_is p d t) (let z : plain s ≡ h = cc in z)))
    at false t f = let w = held_old d h f in (w.0, w.1, subst (λ c. HeldFrom c d h w.0 w.1) (sym (less_other w.0 m.count w.2)) w.3)

  BytesFrom : Bool → ℕ → ℕ → ℕ → ℕ → Type 0
  BytesFrom c a b l i = (base_at c l + i ≡ a) × (byte_at c l i ≡ Some b)

  bytes_new : (a b : ℕ) → has_address p a ≡ true → job.state.regions.fill ≡ b → BytesFrom true a b m.count (a - p.addr)
  unfolding BytesFrom byte_at base_at
  bytes_new a b t e = let l : p.addr ≤ a = (has_is p a t).0 in let h : a < p.addr + p.len = (has_is p a t).1 in (omega (arith, l), fill_new (a - p.addr) (omega (arith, l, h)) ∙ ap Some (sym k.fill ∙ e))

  bytes_old : (a b : ℕ) → get job.state.bytes a ≡ Some b → (l : ℕ) × (i : ℕ) × (l < m.count) × BytesFrom false a b l i
  unfolding BytesFrom byte_at base_at
  bytes_old a b e = let w = k.all_bytes a b e in (w.0, w.1, (k.labels.inside w.0 w.1 b w.3).0, (w.2, w.3))

  all_bytes : (a b : ℕ) → get new.state.bytes a ≡ Some b → (l : ℕ) × (i : ℕ) × BytesFrom (l == m.count) a b l i
  all_bytes a b e = at (has_address p a) refl (sym (g.bytes a) ∙ e) where
    at : (c : Bool) → has_address p a ≡ c → cond c (Some job.state.regions.fill) (get job.state.bytes a) ≡ Some b → (l : ℕ) × (i : ℕ) × BytesFrom (l == m.count) a b l i
    at true t f = (m.count, a - p.addr, subst (λ c. BytesFrom c a b m.count (a - p.addr)) (sym (same_self m.count)) (bytes_new a b t (let z : job.state.regions.fill ≡ b = cc in z)))
    at false t f = let w = bytes_old a b f in (w.0, w.1, subst (λ c. BytesFrom c a b w.0 w.1) (sym (less_other w.0 m.count w.2)) w.3)

  names_at : (v : Option ℕ) → ((l : ℕ) → v ≡ Some l → l < m.count) → option_map (λ l. place_at (k.base l) (m.len l)) v ≡ option_map (λ l. place_at (base_at (l == m.count) l) (cond (l == m.count) p.len (m.len l))) v
  unfolding base_at
  names_at v h1 = grind (arith, nat_tests, less_other)

  pub link_area : Link new (record (with_area m s p.len) { owners = o })
  unfolding all_held all_bytes HeldFrom BytesFrom byte_at base_at names_at
  link_area = record {
    base = λ l. base_at (l == m.count) l;
    on_doubleword = λ l. aligned_at (l == m.count) l;
    apart = λ x y i j b c e f same. apart_at (x == m.count) (y == m.count) x y i j b c (eqb-true x m.count) (eqb-true y m.count) e f same;
    held = λ l i b e. held_at (l == m.count) l i b e;
    all_held = λ d h e. let w = all_held d h e in (w.0, w.1, w.2.0, w.2.1, w.2.2);
    bytes = λ l i b e. bytes_at (l == m.count) l i b e;
    all_bytes = λ a b e. let w = all_bytes a b e in (w.0, w.1, w.2.0, w.2.1);
    names = λ name. ap (λ ns. get ns name) named ∙ k.names name ∙ names_at (get m.names name) (k.labels.named name);
    pools = g.pools;
    owners = owned;
    fill = g.fill ∙ k.fill;
    abended = ended ∙ k.abended;
    former = trailing ∙ k.former;
    labels = record {
      whole = λ l. whole_at (l == m.count) l;
      inside = λ l i b e. inside_at (l == m.count) l i b (eqb-true l m.count) e;
      named = λ name l e. let h : l < m.count = k.labels.named name l e in omega (arith, h);
    };
  }

  pub link_area_base : (l : ℕ) → link_area.base l ≡ cond (l == m.count) p.addr (k.base l)
  unfolding link_area base_at
  link_area_base l = refl
