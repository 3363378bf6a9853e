-- Bytes that are written in a place of an area.
use Rattle.std.proofs.Common.{◌≡◌, ℕ, ◌+◌, ◌-◌, ◌/◌, ◌<◌, ◌≤◌, Bool, true, false, cond, Option, Some, arith, refl, sym, ap, ◌∙◌, subst, IsSome}
use Rattle.std.specs.FinMap.{get}
use Rattle.std.proofs.lemmas.Bool.Decides.{nat_tests}
use Rattle.mvs_model.specs.Storage.{has_address}
use Rattle.mvs_model.specs.Changes.{Writes}
use Rattle.mvs_model.specs.Job.{JobValue}
use Rattle.mvs_laws.specs.Labels.{Labels, Spot, has_offset, is_there, with_bytes}
use Rattle.mvs_laws.specs.Tidy.{Link}
use Rattle.mvs_laws.proofs.Spots.{offset_is, offset_yes, there_at, span_of, has_same}
use Rattle.mvs_model.proofs.CellPlaces.{has_is}

module _ (job new : JobValue) (m : Labels) (k : Link job m) (q : Spot) (there : is_there m q ≡ true) (f value : ℕ → Option ℕ)
    (same : (j : ℕ) → j < q.place.len → value (k.base q.label + q.place.addr + j) ≡ f j) (some : (j : ℕ) → j < q.place.len → IsSome (f j))
    (w : Writes job.state (span_of job m k q) value new.state) (named : new.names ≡ job.names) (ended : new.abended ≡ job.abended) (trailing : new.former ≡ job.former) where
  byte_at : Bool → ℕ → ℕ → Option ℕ
  byte_at c l i = cond c (f (i - q.place.addr)) (m.byte l i)

  -- what is there was there
  was_there : (c : Bool) (l i b : ℕ) → has_offset q l i ≡ c → byte_at c l i ≡ Some b → (x : ℕ) × (m.byte l i ≡ Some x)
  unfolding byte_at
  was_there true l i b t e = let o = offset_is q l i t in let z = there_at m q there i o.1 o.2 in (z.0, ap (λ n. m.byte n i) o.0 ∙ z.1)
  was_there false l i b t e = (b, e)

  still_there : (c : Bool) (l i : ℕ) → has_offset q l i ≡ c → IsSome (m.byte l i) → IsSome (byte_at c l i)
  unfolding byte_at
  still_there c l i h1 h2 = grind (arith, nat_tests, offset_is)

  bytes_at : (c : Bool) (l i b : ℕ) → has_offset q l i ≡ c → byte_at c l i ≡ Some b → get new.state.bytes (k.base l + i) ≡ Some b
  unfolding byte_at
  bytes_at c l i b t e = let x = was_there c l i b t e in w.bytes (k.base l + i) ∙ ap (λ c. cond c (value (k.base l + i)) (get job.state.bytes (k.base l + i))) (sym (has_same job m k q there l i x.0 x.1) ∙ t) ∙ at c t e where
    at : (c : Bool) → has_offset q l i ≡ c → byte_at c l i ≡ Some b → cond c (value (k.base l + i)) (get job.state.bytes (k.base l + i)) ≡ Some b
    at true t e =
        let o = offset_is q l i t in let low : q.place.addr ≤ i = o.1 in let high : i < q.place.addr + q.place.len = o.2 in
        let s : k.base l ≡ k.base q.label = ap k.base o.0 in
        ap value (let z : k.base l + i ≡ k.base q.label + q.place.addr + (i - q.place.addr) = omega (arith, s, low) in z) ∙ same (i - q.place.addr) (omega (arith, low, high)) ∙ e
    at false t e = k.bytes l i b e

  BytesFrom : Bool → ℕ → ℕ → ℕ → ℕ → Type 0
  BytesFrom c a b l i = (k.base l + i ≡ a) × (byte_at c l i ≡ Some b)

  all_bytes : (a b : ℕ) → get new.state.bytes a ≡ Some b → (l : ℕ) × (i : ℕ) × BytesFrom (has_offset q l i) a b l i
  unfolding BytesFrom byte_at
  all_bytes a b e = at (has_address (span_of job m k q) a) refl (sym (w.bytes a) ∙ e) where
    at : (c : Bool) → has_address (span_of job m k q) a ≡ c → cond c (value a) (get job.state.bytes a) ≡ Some b → (l : ℕ) × (i : ℕ) × BytesFrom (has_offset q l i) a b l i
    at true t g =
        let low : k.base q.label + q.place.addr ≤ a = (has_is (span_of job m k q) a t).0 in
        let high : a < k.base q.label + q.place.addr + q.place.len = (has_is (span_of job m k q) a t).1 in (
          q.label,
          a - k.base q.label,
          subst (λ c. BytesFrom c a b q.label (a - k.base q.label)) (sym (offset_yes q q.label (a - k.base q.label) refl (omega (arith, low)) (omega (arith, low, high))))
              (omega (arith, low), sym (same (a - k.base q.label - q.place.addr) (omega (arith, low, high))) ∙ ap value (let z : k.base q.label + q.place.addr + (a - k.base q.label - q.place.addr) ≡ a = omega (arith, low) in z) ∙ g),
        )
    at false t g =
        let x = k.all_bytes a b g in
        (x.0, x.1, subst (λ c. BytesFrom c a b x.0 x.1) (sym (has_same job m k q there x.0 x.1 b x.3 ∙ ap (has_address (span_of job m k q)) x.2 ∙ t)) (x.2, x.3))

  pub link_write : Link new (with_bytes m q f)
  unfolding byte_at all_bytes BytesFrom
  link_write = record {
    base = k.base;
    on_doubleword = k.on_doubleword;
    apart = λ x y i j b c e g s. let u = was_there (has_offset q x i) x i b refl e in let v = was_there (has_offset q y j) y j c refl g in k.apart x y i j u.0 v.0 u.1 v.1 s;
    held = λ l i b e. let u = was_there (has_offset q l i) l i b refl e in ap (λ h. get h ((k.base l + i) / 8)) w.held ∙ k.held l i u.0 u.1;
    all_held = λ d h e. let x = k.all_held d h (ap (λ h. get h d) (sym w.held) ∙ e) in (x.0, x.1, x.2, (λ n less. still_there (has_offset q x.0 (x.1 + n)) x.0 (x.1 + n) refl (x.3 n less)), x.4);
    bytes = λ l i b e. bytes_at (has_offset q l i) l i b refl e;
    all_bytes = λ a b e. let x = all_bytes a b e in (x.0, x.1, x.2.0, x.2.1);
    names = λ name. ap (λ ns. get ns name) named ∙ k.names name;
    pools = w.pools ∙ k.pools;
    owners = w.owners ∙ k.owners;
    fill = ap (λ r. r.fill) w.regions ∙ k.fill;
    abended = ended ∙ k.abended;
    former = trailing ∙ k.former;
    labels = record {
      whole = k.labels.whole;
      inside = λ l i b e. let u = was_there (has_offset q l i) l i b refl e in k.labels.inside l i u.0 u.1;
      named = k.labels.named;
    };
  }
