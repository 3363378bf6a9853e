-- What a subpool holds is counted on labels as on doublewords.
use Rattle.std.proofs.Common.{◌≡◌, ℕ, zero, suc, ◌+◌, ◌-◌, ◌*◌, ◌/◌, ◌%◌, ◌<◌, ◌≤◌, Bool, true, false, cond, Option, Some, None, arith, refl, sym, ap, ◌∙◌, is_some, not, ◌&&◌, ◌==◌, nat_le, eqb-true, eq-eqb}
use Rattle.std.proofs.lemmas.Bool.{and_from, false_from_ne_true}
use Rattle.std.proofs.lemmas.Bool.Decides.{nat_tests}
use Rattle.std.specs.FinMap.{get}
use Rattle.std.specs.Cmp.{first_so, second_so}
use Rattle.mvs_model.specs.Finite.{has, any_below, count_below, total_below}
use Rattle.mvs_model.specs.Storage.{end_of}
use Rattle.mvs_model.specs.State.{State, Holding, plain}
use Rattle.mvs_model.specs.Reports.{bytes_held}
use Rattle.mvs_model.specs.Job.{JobValue}
use Rattle.mvs_laws.specs.Labels.{Labels, bytes_there}
use Rattle.mvs_laws.specs.Tidy.{Link}
use Rattle.mvs_laws.proofs.LinkLess.{some_there}
use Rattle.mvs_model.proofs.Below.{below_some, count_all, count_moved, count_none, count_or, count_past, count_same, some_below, count_more}
use Rattle.mvs_model.proofs.Tests.{same_test, false_true}

-- what is held lies before the end of the regions
abbrev pub Within : State → Type 0
Within st = (d : ℕ) (h : Holding) → get st.held d ≡ Some h → d < end_of st.regions

count_plus : (a n : ℕ) (f : ℕ → Bool) → count_below (a + n) f ≡ count_below n (λ i. f (a + i)) + count_below a f
unfolding count_below
count_plus a zero f = ap (λ x. count_below x f) (let e : a + 0 ≡ a = omega arith in e) ∙ (let z : count_below a f ≡ 0 + count_below a f = omega arith in z)
count_plus a (suc n) f =
    ap (λ x. count_below x f) (let e : a + suc n ≡ suc (a + n) = omega arith in e)
    ∙ (let e : count_below (a + n) f ≡ count_below n (λ i. f (a + i)) + count_below a f = count_plus a n f in let z : cond (f (a + n)) 1 0 + count_below (a + n) f ≡ (cond (f (a + n)) 1 0 + count_below n (λ i. f (a + i))) + count_below a f = omega (arith, e) in z)

-- eight at a time
count_eight : (n : ℕ) (g : ℕ → Bool) → ((j x : ℕ) → x < 8 → g (8 * j + x) ≡ g (8 * j)) → count_below (8 * n) g ≡ 8 * count_below n (λ j. g (8 * j))
count_eight zero g h = count_none 0 g (λ d l. absurd (omega (arith, l))) ∙ (let e : count_below 0 (λ j. g (8 * j)) ≡ 0 = count_none 0 (λ j. g (8 * j)) (λ d l. absurd (omega (arith, l))) in let z : 0 ≡ 8 * count_below 0 (λ j. g (8 * j)) = omega (arith, e) in z)
count_eight (suc n) g h =
    ap (λ x. count_below x g) (let e : 8 * suc n ≡ 8 * n + 8 = omega arith in e)
    ∙ count_plus (8 * n) 8 g
    ∙ (λ i. block (g (8 * n)) refl i + count_eight n g h i)
    ∙ (let e : count_below (suc n) (λ j. g (8 * j)) ≡ cond (g (8 * n)) 1 0 + count_below n (λ j. g (8 * j)) = count_more n (λ j. g (8 * j)) in at (cond (g (8 * n)) 1 0) (count_below n (λ j. g (8 * j))) (count_below (suc n) (λ j. g (8 * j))) e) where
      block : (b : Bool) → g (8 * n) ≡ b → count_below 8 (λ i. g (8 * n + i)) ≡ 8 * cond (g (8 * n)) 1 0
      block true e = count_all 8 (λ i. g (8 * n + i)) (λ d l. h n d l ∙ e) ∙ ap (λ b. 8 * cond b 1 0) (sym e)
      block false e = count_none 8 (λ i. g (8 * n + i)) (λ d l. h n d l ∙ e) ∙ ap (λ b. 8 * cond b 1 0) (sym e)

      at : (a b c : ℕ) → c ≡ a + b → 8 * a + 8 * b ≡ 8 * c
      at a b c e = omega (arith, e)

value : (v : Option ℕ) → is_some v ≡ true → (b : ℕ) × (v ≡ Some b)
value v h = some_there v h

module _ (job : JobValue) (m : Labels) (k : Link job m) (within : Within job.state) (s : ℕ) where
  eight : (l j x : ℕ) → x < 8 → is_some (m.byte l (8 * j + x)) ≡ is_some (m.byte l (8 * j))
  eight l j x lx = grind (arith, nat_tests)

  -- whether a doubleword is one of a label's, in the subpool
  in_label : ℕ → ℕ → Bool
  in_label l d = (m.subpool l == s) && (nat_le (k.base l) (8 * d) && is_some (m.byte l (8 * d - k.base l)))

  in_label_is : (l d : ℕ) → in_label l d ≡ true → (m.subpool l ≡ s) × (k.base l ≤ 8 * d) × ((b : ℕ) × (m.byte l (8 * d - k.base l) ≡ Some b))
  unfolding in_label
  in_label_is l d h1 = grind (arith, nat_tests)

  in_label_yes : (l d b : ℕ) → m.subpool l ≡ s → k.base l ≤ 8 * d → m.byte l (8 * d - k.base l) ≡ Some b → in_label l d ≡ true
  unfolding in_label
  in_label_yes l d b e less f = and_from (m.subpool l == s) _ (eq-eqb (m.subpool l) s e) (and_from (nat_le (k.base l) (8 * d)) _ (let z : nat_le (k.base l) (8 * d) ≡ true = grind (arith, nat_tests) in z) (ap is_some f))

  one_label : (l n d : ℕ) → in_label l d ≡ true → in_label n d ≡ true → l ≡ n
  one_label l n d h1 h2 = grind (arith, nat_tests, in_label_is)

  apart_labels : (n d : ℕ) → in_label n d ≡ true → any_below (λ l. in_label l d) n ≡ true → ⊥
  apart_labels n d e f = let w = below_some (λ l. in_label l d) n f in let less : w.0 < n = w.1 in let same : w.0 ≡ n = one_label w.0 n d w.2 e in omega (arith, less, same)

  held_in : (l d b : ℕ) → k.base l ≤ 8 * d → m.byte l (8 * d - k.base l) ≡ Some b → get job.state.held d ≡ Some (plain (m.subpool l))
  held_in l d b less e = ap (get job.state.held) (let z : d ≡ (k.base l + (8 * d - k.base l)) / 8 = omega (arith, less) in z) ∙ k.held l (8 * d - k.base l) b e

  -- the doublewords of one label
  count_label : (l : ℕ) → 8 * count_below (end_of job.state.regions) (in_label l) ≡ cond (m.subpool l == s) (count_below (m.len l) (λ i. is_some (m.byte l i))) 0
  unfolding in_label
  count_label l = at (m.subpool l == s) refl where
    end : ℕ
    end = end_of job.state.regions

    base8 : ℕ
    base8 = k.base l / 8

    base_is : k.base l ≡ 8 * base8
    base_is = let e : k.base l % 8 ≡ 0 = k.on_doubleword l in omega (arith, e)

    words : ℕ → Bool
    words j = is_some (m.byte l (8 * j))

    here : ℕ → Bool
    here d = nat_le base8 d && words (d - base8)

    here_is : (d : ℕ) → (nat_le (k.base l) (8 * d) && is_some (m.byte l (8 * d - k.base l))) ≡ here d
    here_is d = λ i. low i && is_some (m.byte l ((let z : 8 * d - k.base l ≡ 8 * (d - base8) = omega (arith, base_is) in z) i)) where
      low : nat_le (k.base l) (8 * d) ≡ nat_le base8 d
      low = let e = base_is in grind (arith, nat_tests)

    past_end : (d : ℕ) → end ≤ d → here d ≡ false
    past_end d far = false_from_ne_true (here d) (λ h.
        let f = first_so (nat_le base8 d) _ h in
        let low : base8 ≤ d = grind (arith, nat_tests) in
        let c = value (m.byte l (8 * (d - base8))) (second_so (nat_le base8 d) _ h) in
        let w : d < end = within d (plain (m.subpool l)) (held_in l d c.0 (omega (arith, low, base_is)) (ap (m.byte l) (let z : 8 * d - k.base l ≡ 8 * (d - base8) = omega (arith, base_is) in z) ∙ c.1)) in
        omega (arith, w, far))

    size : ℕ
    size = m.len l / 8

    size_is : 8 * size ≡ m.len l
    size_is = let e : m.len l % 8 ≡ 0 = k.labels.whole l in omega (arith, e)

    past_size : (j : ℕ) → size ≤ j → words j ≡ false
    past_size j far = false_from_ne_true (words j) (λ h. let c = value (m.byte l (8 * j)) h in let less : 8 * j < m.len l = (k.labels.inside l (8 * j) c.0 c.1).1 in omega (arith, less, far, size_is))

    counted : count_below end here ≡ count_below size words
    counted =
        sym (count_past (base8 + (end + size)) end here past_end (omega arith))
        ∙ count_moved base8 (end + size) words
        ∙ count_past (end + size) size words past_size (omega arith)

    eighths : 8 * count_below size words ≡ count_below (m.len l) (λ i. is_some (m.byte l i))
    eighths = sym (count_eight size (λ i. is_some (m.byte l i)) (λ j x less. eight l j x less)) ∙ ap (λ x. count_below x (λ i. is_some (m.byte l i))) size_is

    at : (b : Bool) → (m.subpool l == s) ≡ b → 8 * count_below end (λ d. (m.subpool l == s) && (nat_le (k.base l) (8 * d) && is_some (m.byte l (8 * d - k.base l)))) ≡ cond (m.subpool l == s) (count_below (m.len l) (λ i. is_some (m.byte l i))) 0
    at true e =
        ap (λ x. 8 * x) (count_same end _ here (λ d less. ap (λ b. b && (nat_le (k.base l) (8 * d) && is_some (m.byte l (8 * d - k.base l)))) e ∙ here_is d) ∙ counted) ∙ eighths
        ∙ ap (λ b. cond b (count_below (m.len l) (λ i. is_some (m.byte l i))) 0) (sym e)
    at false e = ap (λ x. 8 * x) (count_none end _ (λ d less. ap (λ b. b && (nat_le (k.base l) (8 * d) && is_some (m.byte l (8 * d - k.base l)))) e)) ∙ ap (λ b. cond b (count_below (m.len l) (λ i. is_some (m.byte l i))) 0) (sym e)

  -- of the labels below a bound
  count_labels : (n : ℕ) → 8 * count_below (end_of job.state.regions) (λ d. any_below (λ l. in_label l d) n) ≡ total_below n (λ l. cond (m.subpool l == s) (count_below (m.len l) (λ i. is_some (m.byte l i))) 0)
  unfolding any_below total_below
  count_labels zero = let e : count_below (end_of job.state.regions) (λ d. false) ≡ 0 = count_none (end_of job.state.regions) (λ d. false) (λ d l. refl) in ap (λ x. 8 * x) e
  count_labels (suc n) =
      ap (λ x. 8 * x) (count_or (end_of job.state.regions) (in_label n) (λ d. any_below (λ l. in_label l d) n) (apart_labels n))
      ∙ at (count_below (end_of job.state.regions) (in_label n)) (count_below (end_of job.state.regions) (λ d. any_below (λ l. in_label l d) n)) _ _ (count_label n) (count_labels n) where
        at : (a b c d : ℕ) → 8 * a ≡ c → 8 * b ≡ d → 8 * (a + b) ≡ c + d
        at a b c d e f = omega (arith, e, f)

  held_test : (d : ℕ) → has (λ (h : Holding). (h.subpool == s) && not h.pooled) (get job.state.held d) ≡ any_below (λ l. in_label l d) m.count
  held_test d = same_test _ _ there back where
    there : has (λ (h : Holding). (h.subpool == s) && not h.pooled) (get job.state.held d) ≡ true → any_below (λ l. in_label l d) m.count ≡ true
    there e = by (get job.state.held d) refl e where
      by : (v : Option Holding) → get job.state.held d ≡ v → has (λ (h : Holding). (h.subpool == s) && not h.pooled) v ≡ true → any_below (λ l. in_label l d) m.count ≡ true
      by None f g = false_true g
      by (Some h) f g =
          let w = k.all_held d h f in
          let at : k.base w.0 + w.1 ≡ 8 * d = w.2 in
          let b = some_there (m.byte w.0 (w.1 + 0)) (w.3 0 (omega arith)) in
          some_below (λ l. in_label l d) m.count w.0 (k.labels.inside w.0 (w.1 + 0) b.0 b.1).0
          (in_label_yes w.0 d b.0 (sym (ap (λ h. h.subpool) w.4) ∙ eqb-true h.subpool s (first_so (h.subpool == s) _ g)) (omega (arith, at)) (ap (m.byte w.0) (let z : 8 * d - k.base w.0 ≡ w.1 + 0 = omega (arith, at) in z) ∙ b.1))

    back : any_below (λ l. in_label l d) m.count ≡ true → has (λ (h : Holding). (h.subpool == s) && not h.pooled) (get job.state.held d) ≡ true
    back e =
        let w = below_some (λ l. in_label l d) m.count e in
        let x = in_label_is w.0 d w.2 in
        ap (has (λ (h : Holding). (h.subpool == s) && not h.pooled)) (held_in w.0 d x.2.0 x.1 x.2.1) ∙ and_from (m.subpool w.0 == s) true (eq-eqb (m.subpool w.0) s x.0) refl

  pub plain_same : bytes_held job.state s false ≡ bytes_there m s
  plain_same = ap (λ x. 8 * x) (count_same (end_of job.state.regions) _ (λ d. any_below (λ l. in_label l d) m.count) (λ d less. held_test d)) ∙ count_labels m.count

  pub pool_none : bytes_held job.state s true ≡ 0
  pool_none = grind (arith, nat_tests, count_none)
