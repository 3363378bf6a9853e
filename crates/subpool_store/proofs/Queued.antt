-- What is held in pages with queues, and how it changes with the queue of one page.
use Rattle.std.proofs.Common.{None, is_some, subst, ◌≡◌, ◌∙◌, ℕ, ◌+◌, ◌*◌, ◌/◌, ◌%◌, ◌≤◌, ◌↔◌, ◌&&◌, ◌||◌, not, Bool, true, false, List, [], ◌∷◌, Option, length, get_or, refl, sym, ap, inl, inr, arith}
use Rattle.std.proofs.lemmas.Bool.{and_parts, both_ways, cases_eq, cases_lt, or_cases, not-false}
use Rattle.std.proofs.lemmas.List.{get_or_past}
use Rattle.std.proofs.lemmas.List.FromFn.{length-map-range_with_len, get_or-map-range_with_len}
use Rattle.free_queue.specs.Runs.{IsFree, Queue, Run, Same, Spells, page_of, runs_of}
use Rattle.free_queue.proofs.Free.{free_frame, free_from, runs_are}
use Rattle.region_raw.specs.Pages.{Pages, byte_of, is_open}
use Rattle.subpool_store.specs.Bits.{in_range}
use Rattle.subpool_store.specs.Memory.{IsMemory, held_bits, is_free, is_held}
use Rattle.subpool_store.proofs.Ranges.{in_range_true, in_range_from}

-- two tests that fail together are one
pub same_test : (a b : Bool) → (a ≡ false → b ≡ false) → (b ≡ false → a ≡ false) → a ≡ b
same_test true true one other = refl
same_test false false one other = refl
same_test true false one other = other refl
same_test false true one other = sym (one refl)

pub closed_past : (ps : Pages) (p : ℕ) → length ps ≤ p → is_open ps p ≡ false
closed_past ps p past = ap (λ (o : Option (List ℕ)). is_some o) (get_or_past ps p None past)

pub free_true : (rs : List Run) (d : ℕ) → is_free rs d ≡ true → IsFree rs d
free_true [] d e = absurd (both_ways _ refl e)
free_true (r ∷ rs) d e = elim (or_cases (in_range r.from (r.from + r.len) d) (is_free rs d) e) [ inl hit ↦ inl (in_range_true r.from (r.from + r.len) d hit) | inr more ↦ inr (free_true rs d more) ]

pub free_test : (rs : List Run) (d : ℕ) → IsFree rs d → is_free rs d ≡ true
free_test [] d free = absurd free
free_test (r ∷ rs) d free = elim free [
  | inl here ↦ ap (λ b. b || is_free rs d) (in_range_from r.from (r.from + r.len) d here.0 here.1)
  | inr more ↦ ap (λ b. in_range r.from (r.from + r.len) d || b) (free_test rs d more) ∙ either (in_range r.from (r.from + r.len) d)
] where
  either : (b : Bool) → (b || true) ≡ true
  either true = refl
  either false = refl

-- a doubleword of a page that is not open is not held
pub closed_free : (ps : Pages) (heads : List ℕ) (i : ℕ) → is_open ps (i / 512) ≡ false → is_held ps heads i ≡ false
closed_free ps heads i closed = ap (λ b. b && not (is_free (runs_of (page_of ps (i / 512)) (get_or heads (i / 512) 0)) (8 * (i % 512)))) closed

pub held_open : (ps : Pages) (heads : List ℕ) (i : ℕ) → is_held ps heads i ≡ true → is_open ps (i / 512) ≡ true
held_open ps heads i held = (and_parts _ _ held).0

-- a doubleword of an open page is free where it lies in the page's queue
pub free_is : (ps : Pages) (heads : List ℕ) (p : ℕ) (rs : List Run) → is_open ps p ≡ true → Queue 0 (page_of ps p) (get_or heads p 0) rs →
    (i : ℕ) → i / 512 ≡ p → is_held ps heads i ≡ false ↔ IsFree rs (8 * (i % 512))
free_is ps heads p rs there queue i page =
    let runs : runs_of (page_of ps (i / 512)) (get_or heads (i / 512) 0) ≡ rs = ap (λ q. runs_of (page_of ps q) (get_or heads q 0)) page ∙ runs_are rs (page_of ps p) (get_or heads p 0) queue in
    let test : is_held ps heads i ≡ not (is_free rs (8 * (i % 512))) =
    ap (λ b. b && not (is_free (runs_of (page_of ps (i / 512)) (get_or heads (i / 512) 0)) (8 * (i % 512)))) (ap (is_open ps) page ∙ there) ∙ ap (λ l. not (is_free l (8 * (i % 512)))) runs in (
      λ none. free_true rs (8 * (i % 512)) (not-false (is_free rs (8 * (i % 512))) (sym test ∙ none)),
      λ free. test ∙ ap not (free_test rs (8 * (i % 512)) free),
    )

module _ (ps : Pages) (heads : List ℕ) where
  pub held_size : length (held_bits ps heads) ≡ 512 * length heads
  unfolding held_bits
  held_size = length-map-range_with_len (is_held ps heads) 0 (512 * length heads)

  -- the answers in a row, one by one
  pub held_at : length heads ≡ length ps → (i : ℕ) → get_or (held_bits ps heads) i false ≡ is_held ps heads i
  unfolding held_bits
  held_at sizes i = elim (cases_lt i (512 * length heads)) [
    | inl low ↦ get_or-map-range_with_len (is_held ps heads) 0 (512 * length heads) i i false low (omega arith)
    | inr past ↦ get_or_past (held_bits ps heads) i false (let long : length (held_bits ps heads) ≡ 512 * length heads = held_size in omega (arith, long, past)) ∙ sym (closed_free ps heads i (closed_past ps (i / 512) (omega (arith, sizes, past))))
  ]

-- the queue of one page changes, and of the other pages no byte that is free
module _ (ps ps' : Pages) (heads heads' : List ℕ) (page : ℕ) (inv : IsMemory ps heads) (sizes : length ps' ≡ length ps) (head_sizes : length heads' ≡ length heads)
    (open_others : (q : ℕ) → (q ≡ page → ⊥) → is_open ps' q ≡ is_open ps q) (head_others : (q : ℕ) → (q ≡ page → ⊥) → get_or heads' q 0 ≡ get_or heads q 0)
    (free_others : (q : ℕ) → (q ≡ page → ⊥) → is_open ps q ≡ true → (rs : List Run) → Queue 0 (page_of ps q) (get_or heads q 0) rs → (d : ℕ) → IsFree rs d → Same (page_of ps q) (page_of ps' q) d) where
  other_queue : (q : ℕ) → (q ≡ page → ⊥) → is_open ps q ≡ true → (rs : List Run) → Queue 0 (page_of ps q) (get_or heads q 0) rs → Queue 0 (page_of ps' q) (get_or heads' q 0) rs
  other_queue q other there rs queue =
      (queue.0, subst (λ h. Spells (page_of ps' q) h rs) (sym (head_others q other)) (free_frame 0 rs (page_of ps q) (page_of ps' q) (get_or heads q 0) queue.0 (free_others q other there rs queue) queue.1))

  pub moved : (is_open ps' page ≡ true → (rs : List Run) × Queue 0 (page_of ps' page) (get_or heads' page 0) rs) → IsMemory ps' heads'
  moved here = record {
    sizes = head_sizes ∙ inv.sizes ∙ sym sizes;
    most = subst (λ n. n ≤ 8192) (sym sizes) inv.most;
    queues = λ q there. elim (cases_eq q page) [
      | inl is ↦ let found = here (ap (is_open ps') (sym is) ∙ there) in (found.0, subst (λ p. Queue 0 (page_of ps' p) (get_or heads' p 0) found.0) (sym is) found.1)
      | inr other ↦ let before = sym (open_others q other) ∙ there in let found = inv.queues q before in (found.0, other_queue q other before found.0 found.1)
    ];
  }

  pub other_held : (i : ℕ) → (i / 512 ≡ page → ⊥) → is_held ps' heads' i ≡ is_held ps heads i
  other_held i other = by (is_open ps (i / 512)) refl where
    by : (b : Bool) → is_open ps (i / 512) ≡ b → is_held ps' heads' i ≡ is_held ps heads i
    by false closed = closed_free ps' heads' i (open_others (i / 512) other ∙ closed) ∙ sym (closed_free ps heads i closed)
    by true there =
        let found = inv.queues (i / 512) there in
        let new = free_is ps' heads' (i / 512) found.0 (open_others (i / 512) other ∙ there) (other_queue (i / 512) other there found.0 found.1) i refl in
        let old = free_is ps heads (i / 512) found.0 there found.1 i refl in
        same_test _ _ (λ none. old.1 (new.0 none)) (λ none. new.1 (old.0 none))

-- where the bytes of other pages stay, those that are free in them do
pub others_frame : (ps ps' : Pages) (page : ℕ) → ((k : ℕ) → (k / 4096 ≡ page → ⊥) → byte_of ps' k ≡ byte_of ps k) →
    (q : ℕ) → (q ≡ page → ⊥) → (lo h : ℕ) (rs : List Run) → Queue lo (page_of ps q) h rs → (d : ℕ) → IsFree rs d → Same (page_of ps q) (page_of ps' q) d
others_frame ps ps' page others q other lo h rs queue d free on i low =
    let inside = (free_from lo rs d queue.0 free).1 in
    let at : (4096 * q + (d + i)) / 4096 ≡ q = omega (arith, inside, on, low) in
    others (4096 * q + (d + i)) (λ is. other (sym at ∙ is))
