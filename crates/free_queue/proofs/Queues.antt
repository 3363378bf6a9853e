-- Queues of runs: what the words at a head say, and what a queue is once bytes are taken or given.
use Rattle.std.proofs.Common.{◌≡◌, ℕ, ◌+◌, ◌-◌, ◌%◌, ◌<◌, ◌≤◌, ◌⊎◌, ◌↔◌, List, [], ◌∷◌, refl, sym, ap, ◌∙◌, subst, inl, inr, arith, lt-ltb, le-ltb, Option, Some, None, if◌then◌else◌}
use Rattle.std.proofs.lemmas.Bool.{cases_lt}
use Rattle.std.proofs.lemmas.Bool.Decides.{nat_tests}
use Rattle.free_queue.specs.Runs.{end, next_run, place_of, whole_page, word, Run, Spells, Rising, Within, Outside, IsFree, Covers, Queue, Same, Adds, Takes, Gives, NoneFree}
use Rattle.free_queue.proofs.Words.{same_words}
use Rattle.free_queue.proofs.Free.{free_covers, free_frame, free_from, rising_below}

outside : (a n d : ℕ) → (Within a n d → ⊥) → Outside a n d
outside a n d fails = elim (cases_lt d a) [ inl lt ↦ inl lt | inr le ↦ elim (cases_lt d (a + n)) [ inl lt ↦ absurd (fails (le, lt)) | inr past ↦ inr past ] ]

pub same_trans : (ws ws1 ws2 : ℕ → Option ℕ) (d : ℕ) → Same ws ws1 d → Same ws1 ws2 d → Same ws ws2 d
same_trans ws ws1 ws2 d p q = λ on i low. q on i low ∙ p on i low

pub same_all : (ws : ℕ → Option ℕ) (d : ℕ) → Same ws ws d
same_all ws d on i low = refl

-- ---- the first run

-- The first run, by the words at a head that is no end, and the queue after it.
pub record Opened (ws : ℕ → Option ℕ) (h lo : ℕ) (rs : List Run) : Type 0 where
  pub rest : List Run
  pub is : rs ≡ (record { from = h; len = word ws (h + 4) } ∷ rest)
  pub low : lo ≤ h
  pub some : 0 < word ws (h + 4)
  pub inside : h + word ws (h + 4) ≤ 4096
  pub room : h + 8 ≤ 4096
  pub whole : h % 8 ≡ 0
  pub whole_len : word ws (h + 4) % 8 ≡ 0
  pub queue : Queue (h + word ws (h + 4) + 1) ws (word ws h) rest
  pub next : h < word ws h

lowest : (lo : ℕ) (rs : List Run) (ws : ℕ → Option ℕ) (h : ℕ) → Queue lo ws h rs → lo ≤ end → lo ≤ h
lowest lo [] ws h q le = omega (arith, q.1, le)
lowest lo (r ∷ rs) ws h q le = omega (arith, q.0.0, q.1.0)

pub opened : (ws : ℕ → Option ℕ) (h lo : ℕ) (rs : List Run) → Queue lo ws h rs → (h ≡ end → ⊥) → Opened ws h lo rs
opened ws h lo [] q ends = absurd (ends q.1)
opened ws h lo (r ∷ rs) q ends =
    let e : r.from ≡ h = sym q.1.0 in
    let l : r.len ≡ word ws (h + 4) = sym (subst (λ k. word ws (k + 4) ≡ r.len) e q.1.1) in
    let inside : h + word ws (h + 4) ≤ 4096 = omega (arith, e, l, q.0.2) in
    let queue : Queue (h + word ws (h + 4) + 1) ws (word ws h) rs = (rising_below (r.from + r.len + 1) (h + word ws (h + 4) + 1) rs (omega (arith, e, l)) q.0.3, subst (λ k. Spells ws (word ws k) rs) e q.1.2) in
    record {
      rest = rs;
      is = λ i. record { from = e i; len = l i } ∷ rs;
      low = omega (arith, e, q.0.0);
      some = omega (arith, l, q.0.1);
      inside = inside;
      room = omega (arith, e, l, q.0.1, q.0.2, q.0.4, q.0.5);
      whole = subst (λ k. k % 8 ≡ 0) e q.0.4;
      whole_len = subst (λ k. k % 8 ≡ 0) l q.0.5;
      queue = queue;
      next = omega (arith, lowest (h + word ws (h + 4) + 1) rs ws (word ws h) queue (omega (arith, inside)));
    }

pub queue_at : (ws : ℕ → Option ℕ) (h next lo : ℕ) (rs : List Run) (o : Opened ws h lo rs) → next ≡ word ws h → Queue (h + word ws (h + 4) + 1) ws next o.rest
queue_at ws h next lo rs o e = subst (λ k. Queue (h + word ws (h + 4) + 1) ws k o.rest) (sym e) o.queue

-- where bytes lie in a run of the queue
pub covered : (ws : ℕ → Option ℕ) (h a n lo : ℕ) (rs : List Run) → Queue lo ws h rs → Covers rs a n → Opened ws h lo rs
covered ws h a n lo [] q cov = absurd cov
covered ws h a n lo (r ∷ rs) q cov = opened ws h lo (r ∷ rs) q (λ e. omega (arith, e, q.1.0, q.0.1, q.0.2))

covered_above : (lo : ℕ) (rs : List Run) (a n : ℕ) → Rising lo rs → Covers rs a n → lo ≤ a
covered_above lo [] a n up f = absurd f
covered_above lo (r ∷ rs) a n up f = elim f [ inl w ↦ omega (arith, up.0, w.0) | inr g ↦ omega (arith, up.0, covered_above (r.from + r.len + 1) rs a n up.3 g) ]

module _ (ws : ℕ → Option ℕ) (h a n lo : ℕ) (rs : List Run) (o : Opened ws h lo rs) (cov : Covers rs a n) where
  in_first_or_after : ((h ≤ a) × (a + n ≤ h + word ws (h + 4))) ⊎ Covers o.rest a n
  in_first_or_after = subst (λ k. Covers k a n) o.is cov

  pub in_first : a < h + word ws (h + 4) → (h ≤ a) × (a + n ≤ h + word ws (h + 4))
  in_first near = elim in_first_or_after [ inl w ↦ w | inr c ↦ absurd (omega (arith, near, covered_above _ o.rest a n o.queue.0 c)) ]

  pub beyond_first : 0 < n → h + word ws (h + 4) ≤ a → Covers o.rest a n
  beyond_first pos far = elim in_first_or_after [ inl w ↦ absurd (omega (arith, pos, far, w.1)) | inr c ↦ c ]

-- what is free is free in the first run or after it
module _ (ws : ℕ → Option ℕ) (h lo : ℕ) (rs : List Run) (o : Opened ws h lo rs) (d : ℕ) where
  from_first : Within h (word ws (h + 4)) d → IsFree rs d
  from_first w = subst (λ k. IsFree k d) (sym o.is) (inl w)

  pub from_rest : IsFree o.rest d → IsFree rs d
  from_rest f = subst (λ k. IsFree k d) (sym o.is) (inr f)

  above : IsFree o.rest d → h + word ws (h + 4) + 1 ≤ d
  above f = (free_from _ o.rest d o.queue.0 f).0

-- ---- a run before a queue

pub put : (ws ws' : ℕ → Option ℕ) (at stop next : ℕ) → at < stop → stop ≤ 4096 → at % 8 ≡ 0 → stop % 8 ≡ 0 → word ws' at ≡ next → word ws' (at + 4) ≡ stop - at → ((d : ℕ) → (d ≡ at → ⊥) → Same ws ws' d)
    → (rs : List Run) → Queue (stop + 1) ws next rs → Adds at stop rs ws' at
put ws ws' at stop next lt le whole_at whole_stop is_next is_len same rs q =
    let r : Run = record { from = at; len = stop - at } in
    let on = free_frame (stop + 1) rs ws ws' next q.0 (λ d free. same d (λ e. omega (arith, e, (free_from (stop + 1) rs d q.0 free).0, lt))) q.1 in (
      r ∷ rs,
      ((omega arith, omega (arith, lt), omega (arith, lt, le), rising_below (stop + 1) (at + (stop - at) + 1) rs (omega (arith, lt)) q.0, whole_at, omega (arith, whole_at, whole_stop, lt)), (refl, is_len, subst (λ k. Spells ws' k rs) (sym is_next) on)),
      λ d. (λ f. elim f [ inl w ↦ inl (w.0, omega (arith, w.1, lt)) | inr g ↦ inr g ], λ f. elim f [ inl w ↦ inl (w.0, omega (arith, w.1, lt)) | inr g ↦ inr g ]),
    )

pub put_none : (ws : ℕ → Option ℕ) (at stop next : ℕ) → stop ≤ at → (rs : List Run) → Queue (stop + 1) ws next rs → at ≤ stop → Adds at stop rs ws next
put_none ws at stop next le rs q ge = (rs, (rising_below (stop + 1) at rs (omega arith) q.0, q.1), λ d. (λ f. inr f, λ f. elim f [ inl w ↦ absurd (omega (arith, w.0, w.1)) | inr g ↦ g ]))

-- The first run keeps its length and leads to rest, and nothing but its words changes.
pub record Linked (ws ws1 ws2 : ℕ → Option ℕ) (h rest : ℕ) : Type 0 where
  pub next : word ws1 h ≡ word ws h → word ws2 h ≡ rest
  pub len : word ws2 (h + 4) ≡ word ws1 (h + 4)
  pub same : (d : ℕ) → (d ≡ h → ⊥) → Same ws1 ws2 d

-- the first run before a new queue, where the change after it left its words
linked : (ws ws1 ws2 : ℕ → Option ℕ) (h lo rest : ℕ) (rs : List Run) → Linked ws ws1 ws2 h rest → Opened ws h lo rs → Same ws ws1 h
    → (new : List Run) → Queue (h + word ws (h + 4) + 1) ws1 rest new → Adds h (h + word ws (h + 4)) new ws2 h
linked ws ws1 ws2 h lo rest rs w o stays =
    let words = same_words ws ws1 h o.whole stays in
    let n : word ws (h + 4) ≡ h + word ws (h + 4) - h = omega arith in
    put ws1 ws2 h (h + word ws (h + 4)) rest (omega (arith, o.some)) o.inside o.whole (omega (arith, o.whole, o.whole_len)) (w.next words.0) (w.len ∙ words.1 ∙ n) w.same

-- ---- bytes are taken

-- they lie after the first run
module _ (ws ws1 ws2 : ℕ → Option ℕ) (h next rest a n : ℕ) (is_next : next ≡ word ws h) (pos : 0 < n) (far : h + word ws (h + 4) ≤ a)
    (taken : (lo : ℕ) (rs : List Run) → Queue lo ws next rs → Covers rs a n → Takes lo rs a n ws1 rest)
    (kept : (lo : ℕ) (rs : List Run) → Queue lo ws next rs → Covers rs a n → (d : ℕ) → (IsFree rs d → ⊥) → Same ws ws1 d)
    (w : Linked ws ws1 ws2 h rest) (lo : ℕ) (rs : List Run) (q : Queue lo ws h rs) (cov : Covers rs a n) where
  pub take_later : Takes lo rs a n ws2 h
  take_later =
      let o = covered ws h a n lo rs q cov in let past = beyond_first ws h a n lo rs o cov pos far in
      let queue = queue_at ws h next lo rs o is_next in
      let stays = kept _ o.rest queue past h (λ f. omega (arith, above ws h lo rs o h f)) in
      let one = taken _ o.rest queue past in let two = linked ws ws1 ws2 h lo rest rs w o stays one.0 one.1 in (
        two.0,
        (rising_below h lo two.0 o.low two.1.0, two.1.1),
        λ d. subst (λ k. IsFree two.0 d ↔ (IsFree k d × Outside a n d)) (sym o.is) (
          λ f. elim ((two.2 d).0 f) [ inl v ↦ (inl v, inl (omega (arith, v.1, far))) | inr g ↦ let p = (one.2 d).0 g in (inr p.0, p.1) ],
          λ p. elim p.0 [ inl v ↦ (two.2 d).1 (inl v) | inr g ↦ (two.2 d).1 (inr ((one.2 d).1 (g, p.1))) ],
        ),
      )

  pub keep_beyond : (d : ℕ) → (IsFree rs d → ⊥) → Same ws ws2 d
  keep_beyond d fails =
      let o = covered ws h a n lo rs q cov in
      let queue = queue_at ws h next lo rs o is_next in
      same_trans ws ws1 ws2 d (kept _ o.rest queue (beyond_first ws h a n lo rs o cov pos far) d (λ g. fails (from_rest ws h lo rs o d g)))
      (w.same d (λ e. fails (from_first ws h lo rs o d (omega (arith, e), omega (arith, e, o.some)))))

-- they lie in the first run
module _ (ws ws1 ws2 : ℕ → Option ℕ) (h next stop rest res a n : ℕ) (is_next : next ≡ word ws h) (is_stop : stop ≡ h + word ws (h + 4)) (pos : 0 < n) (near : a < h + word ws (h + 4))
    (cut : (rs : List Run) → Queue (stop + 1) ws next rs → Adds (a + n) stop rs ws1 rest) (kept : (d : ℕ) → (d < a + n) ⊎ (stop ≤ d) → Same ws ws1 d)
    (added : (rs : List Run) → Queue (a + 1) ws1 rest rs → Adds h a rs ws2 res) (rest_kept : (d : ℕ) → (d < h) ⊎ (a ≤ d) → Same ws1 ws2 d)
    (lo : ℕ) (rs : List Run) (q : Queue lo ws h rs) (cov : Covers rs a n) where
  pub take_near : Takes lo rs a n ws2 res
  take_near =
      let o = covered ws h a n lo rs q cov in let inside = in_first ws h a n lo rs o cov near in
      let one = cut o.rest (subst (λ k. Queue (k + 1) ws next o.rest) (sym is_stop) (queue_at ws h next lo rs o is_next)) in
      let two = added one.0 (rising_below (a + n) (a + 1) one.0 (omega arith) one.1.0, one.1.1) in (
        two.0,
        (rising_below h lo two.0 o.low two.1.0, two.1.1),
        λ d. subst (λ k. IsFree two.0 d ↔ (IsFree k d × Outside a n d)) (sym o.is) (
          λ f. elim ((two.2 d).0 f) [
            | inl v ↦ (inl (v.0, omega (arith, inside.1, v.1)), inl v.1)
            | inr g ↦ elim ((one.2 d).0 g) [ inl v ↦ (inl (omega (arith, inside.0, v.0), omega (arith, is_stop, v.1)), inr v.0) | inr k ↦ (inr k, inr (omega (arith, inside.1, above ws h lo rs o d k))) ]
          ],
          λ p. elim p.0 [
            | inl v ↦ elim p.1 [ inl lt ↦ (two.2 d).1 (inl (v.0, lt)) | inr le ↦ (two.2 d).1 (inr ((one.2 d).1 (inl (le, omega (arith, is_stop, v.1))))) ]
            | inr g ↦ (two.2 d).1 (inr ((one.2 d).1 (inr g)))
          ],
        ),
      )

  pub keep_near : (d : ℕ) → (IsFree rs d → ⊥) → Same ws ws2 d
  keep_near d fails =
      let o = covered ws h a n lo rs q cov in let inside = in_first ws h a n lo rs o cov near in
      elim (outside h (word ws (h + 4)) d (λ v. fails (from_first ws h lo rs o d v))) [
        | inl lt ↦ same_trans ws ws1 ws2 d (kept d (inl (omega (arith, inside.0, lt)))) (rest_kept d (inl lt))
        | inr le ↦ same_trans ws ws1 ws2 d (kept d (inr (omega (arith, is_stop, le)))) (rest_kept d (inr (omega (arith, inside.1, le))))
      ]

-- a page of which some bytes are held, all others free
pub start_takes : (v mid w : ℕ → Option ℕ) (a n rest h first stop : ℕ) → 0 < n → a + n ≤ 4096
    → ((rs : List Run) → Queue (stop + 1) v end rs → Adds (a + n) stop rs mid rest)
    → ((rs : List Run) → Queue (a + 1) mid rest rs → Adds first a rs w h) → first ≡ 0 → stop ≡ 4096 → Takes 0 whole_page a n w h
start_takes v mid w a n rest h first stop some inside high low begins ends =
    let one = high [] (tt, refl) in
    let two = low one.0 (rising_below (a + n) (a + 1) one.0 (omega arith) one.1.0, one.1.1) in (
      two.0,
      (rising_below first 0 two.0 (omega arith) two.1.0, two.1.1),
      λ d. (
        λ f. elim ((two.2 d).0 f) [
          | inl w ↦ (inl (omega arith, omega (arith, w.1, inside)), inl w.1)
          | inr g ↦ elim ((one.2 d).0 g) [ inl v ↦ (inl (omega arith, omega (arith, v.1, ends)), inr v.0) | inr k ↦ absurd k ]
        ],
        λ p. elim p.1 [
          | inl lt ↦ (two.2 d).1 (inl (omega (arith, begins), lt))
          | inr le ↦ elim p.0 [ inl w ↦ (two.2 d).1 (inr ((one.2 d).1 (inl (le, omega (arith, w.1, ends))))) | inr k ↦ absurd k ]
        ],
      ),
    )

-- ---- bytes are given

raise : (lo m : ℕ) (rs : List Run) (ws : ℕ → Option ℕ) (h : ℕ) → Queue lo ws h rs → m ≤ h → Queue m ws h rs
raise lo m [] ws h q le = (tt, q.1)
raise lo m (r ∷ rs) ws h q le = ((omega (arith, le, q.1.0), q.0.1, q.0.2, q.0.3, q.0.4, q.0.5), q.1)

-- they lie before the queue
pub give_before : (ws ws2 : ℕ → Option ℕ) (h res a n : ℕ) → a + n < h → ((rs : List Run) → Queue (a + n + 1) ws h rs → Adds a (a + n) rs ws2 res)
    → (lo : ℕ) (rs : List Run) → lo ≤ a → Queue lo ws h rs → NoneFree rs a n → Gives lo rs a n ws2 res
give_before ws ws2 h res a n h1 h2 lo rs h3 h4 h5 = grind (arith, nat_tests, raise, rising_below)

-- they end where the first run begins
module _ (ws ws2 : ℕ → Option ℕ) (h next stop res a n : ℕ) (is_next : next ≡ word ws h) (is_stop : stop ≡ h + word ws (h + 4)) (joins : a + n ≡ h) (small : a + n ≤ 4096)
    (added : (rs : List Run) → Queue (stop + 1) ws next rs → Adds a stop rs ws2 res) (kept : (d : ℕ) → (d < a) ⊎ (stop ≤ d) → Same ws ws2 d)
    (lo : ℕ) (rs : List Run) (le : lo ≤ a) (q : Queue lo ws h rs) (none : NoneFree rs a n) where
  pub give_join : Gives lo rs a n ws2 res
  give_join =
      let o = opened ws h lo rs q (λ e. omega (arith, e, joins, small)) in
      let on = added o.rest (subst (λ k. Queue (k + 1) ws next o.rest) (sym is_stop) (queue_at ws h next lo rs o is_next)) in (
        on.0,
        (rising_below a lo on.0 le on.1.0, on.1.1),
        λ d. subst (λ k. IsFree on.0 d ↔ (IsFree k d ⊎ Within a n d)) (sym o.is) (
          λ f. elim ((on.2 d).0 f) [
            | inl v ↦ elim (cases_lt d (a + n)) [ inl lt ↦ inr (v.0, lt) | inr ge ↦ inl (inl (omega (arith, joins, ge), omega (arith, is_stop, v.1))) ]
            | inr g ↦ inl (inr g)
          ],
          λ f. elim f [
            | inl g ↦ elim g [ inl v ↦ (on.2 d).1 (inl (omega (arith, joins, v.0), omega (arith, is_stop, v.1))) | inr k ↦ (on.2 d).1 (inr k) ]
            | inr v ↦ (on.2 d).1 (inl (v.0, omega (arith, joins, is_stop, v.1)))
          ],
        ),
      )

  pub keep_join : (d : ℕ) → (IsFree rs d → ⊥) → (Within a n d → ⊥) → Same ws ws2 d
  keep_join d fails out =
      let o = opened ws h lo rs q (λ e. omega (arith, e, joins, small)) in
      elim (outside a n d out) [
        | inl lt ↦ kept d (inl lt)
        | inr ge ↦ elim (outside h (word ws (h + 4)) d (λ v. fails (from_first ws h lo rs o d v))) [ inl lt ↦ absurd (omega (arith, lt, ge, joins)) | inr past ↦ kept d (inr (omega (arith, is_stop, past))) ]
      ]

-- they lie past the first run
module _ (ws ws1 ws2 : ℕ → Option ℕ) (h next rest a n : ℕ) (is_next : next ≡ word ws h) (small : a + n ≤ 4096) (far : h + word ws (h + 4) < a)
    (given : (lo : ℕ) (rs : List Run) → lo ≤ a → Queue lo ws next rs → NoneFree rs a n → Gives lo rs a n ws1 rest)
    (kept : (lo : ℕ) (rs : List Run) → lo ≤ a → Queue lo ws next rs → NoneFree rs a n → (d : ℕ) → (IsFree rs d → ⊥) → (Within a n d → ⊥) → Same ws ws1 d)
    (w : Linked ws ws1 ws2 h rest) (lo : ℕ) (rs : List Run) (le : lo ≤ a) (q : Queue lo ws h rs) (none : NoneFree rs a n) where
  pub give_later : Gives lo rs a n ws2 h
  give_later =
      let o = opened ws h lo rs q (λ e. omega (arith, e, small, far)) in
      let queue = queue_at ws h next lo rs o is_next in
      let none_past : NoneFree o.rest a n = λ d v g. none d v (from_rest ws h lo rs o d g) in
      let stays = kept _ o.rest (omega (arith, far)) queue none_past h (λ f. omega (arith, above ws h lo rs o h f)) (λ v. omega (arith, v.0, far)) in
      let one = given _ o.rest (omega (arith, far)) queue none_past in let two = linked ws ws1 ws2 h lo rest rs w o stays one.0 one.1 in (
        two.0,
        (rising_below h lo two.0 o.low two.1.0, two.1.1),
        λ d. subst (λ k. IsFree two.0 d ↔ (IsFree k d ⊎ Within a n d)) (sym o.is) (
          λ f. elim ((two.2 d).0 f) [ inl v ↦ inl (inl v) | inr g ↦ elim ((one.2 d).0 g) [ inl k ↦ inl (inr k) | inr v ↦ inr v ] ],
          λ f. elim f [
            | inl g ↦ elim g [ inl v ↦ (two.2 d).1 (inl v) | inr k ↦ (two.2 d).1 (inr ((one.2 d).1 (inl k))) ]
            | inr v ↦ (two.2 d).1 (inr ((one.2 d).1 (inr v)))
          ],
        ),
      )

  pub keep_past : (d : ℕ) → (IsFree rs d → ⊥) → (Within a n d → ⊥) → Same ws ws2 d
  keep_past d fails out =
      let o = opened ws h lo rs q (λ e. omega (arith, e, small, far)) in
      let queue = queue_at ws h next lo rs o is_next in
      same_trans ws ws1 ws2 d
      (kept _ o.rest (omega (arith, far)) queue (λ k v g. none k v (from_rest ws h lo rs o k g)) d (λ g. fails (from_rest ws h lo rs o d g)) out)
      (w.same d (λ e. fails (from_first ws h lo rs o d (omega (arith, e), omega (arith, e, o.some)))))

-- they begin where the first run ends
module _ (ws ws1 : ℕ → Option ℕ) (h next res a n : ℕ) (is_next : next ≡ word ws h) (pos : 0 < n) (small : a + n ≤ 4096) (le_stop : h ≤ a + n) (not_stop : a + n ≡ h → ⊥) (near : h < a → a ≤ h + word ws (h + 4)) where
  module _ (lo : ℕ) (rs : List Run) (q : Queue lo ws h rs) (none : NoneFree rs a n) where
    first_run : Opened ws h lo rs
    first_run = opened ws h lo rs q (λ e. omega (arith, e, small, le_stop))

    touches : h + word ws (h + 4) ≡ a
    touches =
        let o = first_run in
        let less : h < a + n = elim (cases_lt h (a + n)) [ inl lt ↦ lt | inr ge ↦ absurd (not_stop (omega (arith, ge, le_stop))) ] in
        elim (cases_lt h a) [
          | inr below ↦ absurd (none h (omega (arith, below), less) (from_first ws h lo rs o h (omega arith, omega (arith, o.some))))
          | inl over ↦ elim (cases_lt a (h + word ws (h + 4))) [ inl lt ↦ absurd (none a (omega arith, omega (arith, pos)) (from_first ws h lo rs o a (omega (arith, over), lt))) | inr ge ↦ omega (arith, ge, near over) ]
        ]

    queue_after : Queue h ws next first_run.rest
    queue_after = subst (λ k. Queue h ws k first_run.rest) (sym is_next) (rising_below (h + word ws (h + 4) + 1) h first_run.rest (omega arith) first_run.queue.0, first_run.queue.1)

    none_beyond : NoneFree first_run.rest h (a + n - h)
    none_beyond d v g = none d (omega (arith, touches, above ws h lo rs first_run d g), omega (arith, v.1, le_stop)) (from_rest ws h lo rs first_run d g)

    -- what the call that gives the first run and the bytes together asks for
    pub joined : Opened ws h lo rs × (h + word ws (h + 4) ≡ a) × ((rest : List Run) × Queue h ws next rest × NoneFree rest h (a + n - h))
    joined = (first_run, touches, (first_run.rest, queue_after, none_beyond))

  module _ (given : (lo : ℕ) (rs : List Run) → lo ≤ h → Queue lo ws next rs → NoneFree rs h (a + n - h) → Gives lo rs h (a + n - h) ws1 res)
      (kept : (lo : ℕ) (rs : List Run) → lo ≤ h → Queue lo ws next rs → NoneFree rs h (a + n - h) → (d : ℕ) → (IsFree rs d → ⊥) → (Within h (a + n - h) d → ⊥) → Same ws ws1 d)
      (lo : ℕ) (rs : List Run) (le : lo ≤ a) (q : Queue lo ws h rs) (none : NoneFree rs a n) where
    pub give_after : Gives lo rs a n ws1 res
    give_after =
        let o = first_run lo rs q none in let is = touches lo rs q none in
        let one = given h o.rest (omega arith) (queue_after lo rs q none) (none_beyond lo rs q none) in (
          one.0,
          (rising_below h lo one.0 o.low one.1.0, one.1.1),
          λ d. subst (λ k. IsFree one.0 d ↔ (IsFree k d ⊎ Within a n d)) (sym o.is) (
            λ f. elim ((one.2 d).0 f) [
              | inl g ↦ inl (inr g)
              | inr v ↦ elim (cases_lt d a) [ inl lt ↦ inl (inl (v.0, omega (arith, lt, is))) | inr ge ↦ inr (ge, omega (arith, v.1, le_stop)) ]
            ],
            λ f. elim f [
              | inl g ↦ elim g [ inl v ↦ (one.2 d).1 (inr (v.0, omega (arith, v.1, is))) | inr k ↦ (one.2 d).1 (inl k) ]
              | inr v ↦ (one.2 d).1 (inr (omega (arith, v.0, is), omega (arith, v.1)))
            ],
          ),
        )

    pub keep_after : (d : ℕ) → (IsFree rs d → ⊥) → (Within a n d → ⊥) → Same ws ws1 d
    keep_after d fails out =
        let o = first_run lo rs q none in let is = touches lo rs q none in
        kept h o.rest (omega arith) (queue_after lo rs q none) (none_beyond lo rs q none) d (λ g. fails (from_rest ws h lo rs o d g))
        (λ v. elim (cases_lt d a) [ inl lt ↦ fails (from_first ws h lo rs o d (v.0, omega (arith, lt, is))) | inr ge ↦ out (ge, omega (arith, v.1, le_stop)) ])

-- ---- the next run from an offset on

-- a run that begins before a is passed by
pub step_next : (lo : ℕ) (rs : List Run) (ws : ℕ → Option ℕ) (h a : ℕ) → h < a → a ≤ 4096 → Queue lo ws h rs
    → (lo' : ℕ) × (rs' : List Run) × Queue lo' ws (word ws h) rs' × (next_run a rs ≡ next_run a rs')
step_next lo rs ws h a lt le q =
    let o = opened ws h lo rs q (λ e. omega (arith, e, lt, le)) in
    (h + word ws (h + 4) + 1, o.rest, o.queue, ap (next_run a) o.is ∙ ap (λ b. if b then next_run a o.rest else Some (record { from = h; len = word ws (h + 4) })) (lt-ltb h a lt))

pub next_is_none : (lo : ℕ) (rs : List Run) (ws : ℕ → Option ℕ) (h a : ℕ) → Queue lo ws h rs → h ≡ end → next_run a rs ≡ None
next_is_none lo [] ws h a q is = refl
next_is_none lo (r ∷ rs) ws h a q is = absurd (omega (arith, q.1.0, q.0.1, q.0.2, is))

pub next_is : (lo : ℕ) (rs : List Run) (ws : ℕ → Option ℕ) (h a : ℕ) → Queue lo ws h rs → (h ≡ end → ⊥) → a ≤ h → place_of (next_run a rs) ≡ Some (h, word ws (h + 4))
next_is lo rs ws h a q ends le =
    let o = opened ws h lo rs q ends in
    ap (λ rs. place_of (next_run a rs)) o.is ∙ ap (λ b. place_of (if b then next_run a o.rest else Some (record { from = h; len = word ws (h + 4) }))) (le-ltb h a le)

-- ---- a queue that is one run of the whole page

pub whole_all : (rs : List Run) (ws : ℕ → Option ℕ) (h : ℕ) → Queue 0 ws h rs → h ≡ 0 → word ws 4 ≡ 4096 → (d : ℕ) → d < 4096 → IsFree rs d
whole_all rs ws h q z l d lt =
    let o = opened ws h 0 rs q (λ e. omega (arith, e, z)) in
    let len : word ws (h + 4) ≡ 4096 = ap (λ k. word ws (k + 4)) z ∙ l in from_first ws h 0 rs o d (omega (arith, z), omega (arith, z, len, lt))

pub all_whole : (rs : List Run) (ws : ℕ → Option ℕ) (h : ℕ) → Queue 0 ws h rs → ((d : ℕ) → d < 4096 → IsFree rs d) → (h ≡ 0) × (word ws 4 ≡ 4096)
all_whole rs ws h q all =
    let o = covered ws h 0 1 0 rs q (free_covers 0 rs 0 1 q.0 (omega arith) (λ d v. all d (omega (arith, v.1)))) in
    let free : (d : ℕ) → d < 4096 → Within h (word ws (h + 4)) d ⊎ IsFree o.rest d = λ d lt. subst (λ k. IsFree k d) o.is (all d lt) in
    let z : h ≡ 0 = elim (free 0 (omega arith)) [ inl v ↦ omega (arith, v.0) | inr g ↦ absurd (omega (arith, above ws h 0 rs o 0 g)) ] in
    let full : word ws (h + 4) ≡ 4096 = elim (cases_lt (word ws (h + 4)) 4096) [
      | inl lt ↦ elim (free (word ws (h + 4)) lt) [ inl v ↦ absurd (omega (arith, v.1, z)) | inr g ↦ absurd (omega (arith, above ws h 0 rs o (word ws (h + 4)) g)) ]
      | inr le ↦ omega (arith, le, o.inside)
    ] in
    (z, subst (λ k. word ws (k + 4) ≡ 4096) z full)
