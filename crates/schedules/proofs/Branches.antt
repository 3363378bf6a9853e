-- The branches of a search, and the schedules that come of them.
use Rattle.std.proofs.Common.{◌≡◌, ◌+◌, ◌-◌, ◌*◌, ◌<◌, ◌≤◌, ℕ, suc, zero, Bool, true, false, List, [], ◌∷◌, ◌++◌, map, length, take, drop, get_or, refl, sym, ◌∙◌, ap, subst, append_assoc, append-nil, arith, length-append, add-one}
use Rattle.std.specs.List.{AllByRecursion, range_with_len}
use Rattle.std.proofs.lemmas.List.{drop_more, length-drop, length-take, map-append, take_more}
use Rattle.std.proofs.Math.Nat.{suc-mul}
use Rattle.std.proofs.Math.Seq.{drop-length}
use Rattle.std.specs.Prelude.{slice_index}
use Rattle.mvs_job.specs.LineEvents.{WalkValue}
use Rattle.schedules.specs.declared.branch.Branch.{Branch}
use Rattle.schedules.specs.declared.outcomes.Outcomes.{Outcomes}
use Rattle.schedules.specs.declared.step_line.StepLine.{StepLine}
use Rattle.schedules.specs.declared.tally.Tally.{Tally}
use Rattle.schedules.specs.Answered.{AnsweredValue, Schedule}
use Rattle.schedules.specs.Filling.{IsFilled}
use Rattle.schedules.specs.Next.{IsFirstNext, can_run, some_can_run, unreached}
use Rattle.schedules.specs.Schedules.{AreNext, AreSchedules, IsSchedule, Runs, Continues, Ends, Ended, Branched, Stopped, Last, Waits, RunsNext}
use Rattle.schedules.specs.Searched.{AreCounted}
use Rattle.schedules.specs.Searching.{ArePending, Expands, IsAfter, IsCopy, IsSearchedSoFar, Pushes, PushesIf, after, weight, weights}

-- ---- schedules that begin with some answers

after_nothing : (ss : List Schedule) → after [] ss ≡ ss
after_nothing [] = refl
after_nothing (s ∷ ss) = ap (λ x. s ∷ x) (after_nothing ss)

after_both : (begun : Schedule) (xs ys : List Schedule) → after begun (xs ++ ys) ≡ after begun xs ++ after begun ys
after_both begun xs ys = map-append (λ s. begun ++ s) xs ys

after_run : (begun : Schedule) (a : AnsweredValue) (ss : List Schedule) → after begun (map (λ s. a ∷ s) ss) ≡ after (begun ++ a ∷ []) ss
after_run begun a [] = refl
after_run begun a (s ∷ ss) =
    ap (λ x. x ∷ after begun (map (λ s. a ∷ s) ss)) (sym (append_assoc begun (a ∷ []) s)) ∙ ap (λ x. ((begun ++ a ∷ []) ++ s) ∷ x) (after_run begun a ss)

-- ---- the branches that wait

module _ (lines : List StepLine) (whole : Bool) where
  pending_last : (branches : List Branch) (b : Branch) (own others : List Schedule) → AreSchedules lines whole b.walk.value b.left.items own → ArePending lines whole branches others → ArePending lines whole (branches ++ b ∷ []) (after b.begun.items own ++ others)
  pending_last [] b own others are pending = (own, [], are, refl, ap (λ x. after b.begun.items own ++ x) pending ∙ append-nil (after b.begun.items own))
  pending_last (c ∷ branches) b own others are pending =
      let p0 = pending.0 in
      let p1 = pending.1 in (
        p0,
        after b.begun.items own ++ p1,
        pending.2,
        pending_last branches b own p1 are pending.3,
        ap (λ x. after b.begun.items own ++ x) pending.4 ∙ sym (append_assoc (after b.begun.items own) p1 (after c.begun.items p0)),
      )

  -- The schedules of the last branch, and those of the others.
  pub record IsOnTop (branches : List Branch) (b : Branch) (schedules : List Schedule) : Type 0 where
    pub own : List Schedule
    pub others : List Schedule
    pub are : AreSchedules lines whole b.walk.value b.left.items own
    pub pending : ArePending lines whole branches others
    pub cut : schedules ≡ after b.begun.items own ++ others

  on_top : (branches : List Branch) (b : Branch) (schedules : List Schedule) → ArePending lines whole (branches ++ b ∷ []) schedules → IsOnTop branches b schedules
  on_top [] b schedules p = record {
    own = p.0;
    others = [];
    are = p.2;
    pending = refl;
    cut = p.4 ∙ ap (λ x. x ++ after b.begun.items p.0) p.3 ∙ sym (append-nil (after b.begun.items p.0));
  }
  on_top (c ∷ branches) b schedules p =
      let t = on_top branches b p.1 p.3 in
      record {
        own = t.own;
        others = t.others ++ after c.begun.items p.0;
        are = t.are;
        pending = (p.0, t.others, p.2, t.pending, refl);
        cut = p.4 ∙ ap (λ x. x ++ after c.begun.items p.0) t.cut ∙ append_assoc (after b.begun.items t.own) t.others (after c.begun.items p.0);
      }

pending_stopped : (lines : List StepLine) (branches : List Branch) → ArePending lines false branches []
pending_stopped lines [] = refl
pending_stopped lines (b ∷ branches) = ([], [], Stopped b.walk.value b.left.items refl, pending_stopped lines branches, refl)

-- ---- the statements that can run next

expands_none : (lines : List StepLine) (b : Branch) (before left : List ℕ) (below : List Branch) → left ≡ [] → Expands lines b before left below below
expands_none lines b before left below e = λ whole schedules pending. record {
  own = [];
  others = schedules;
  next = subst (λ l. AreNext lines whole b.walk.value before l []) (sym e) (Last b.walk.value before);
  pending = pending;
  cut = refl;
}

expands_waits : (lines : List StepLine) (b : Branch) (before : List ℕ) (k : ℕ) (left : List ℕ) (below now : List Branch) → can_run lines b.walk.value.step before k ≡ false → Expands lines b (before ++ k ∷ []) left below now → Expands lines b before (k ∷ left) below now
expands_waits lines b before k left below now cannot e = λ whole schedules pending.
    let s = e whole schedules pending in
    record {
      own = s.own;
      others = s.others;
      next = Waits b.walk.value before k left s.own cannot s.next;
      pending = s.pending;
      cut = s.cut;
    }

expands_runs : (lines : List StepLine) (b added : Branch) (before : List ℕ) (k : ℕ) (left : List ℕ) (below now : List Branch) (a : AnsweredValue) → can_run lines b.walk.value.step before k ≡ true → Runs lines b.walk.value k a added.walk.value → added.left.items ≡ before ++ left → added.begun.items ≡ b.begun.items ++ a ∷ []
    → Expands lines b (before ++ k ∷ []) left below now → Expands lines b before (k ∷ left) below (now ++ added ∷ [])
expands_runs lines b added before k left below now a can runs of_left of_begun e = λ whole schedules pending.
    let t = on_top lines whole now added schedules pending in
    let s = e whole t.others t.pending in
    let begun = b.begun.items in
    let first : after added.begun.items t.own ≡ after begun (map (λ x. a ∷ x) t.own) = ap (λ x. after x t.own) of_begun ∙ sym (after_run begun a t.own) in
    record {
      own = map (λ x. a ∷ x) t.own ++ s.own;
      others = s.others;
      next = RunsNext b.walk.value before k left a added.walk.value t.own s.own can runs (subst (λ l. AreSchedules lines whole added.walk.value l t.own) of_left t.are) s.next;
      pending = s.pending;
      cut =
          t.cut ∙ ap (λ x. x ++ t.others) first ∙ ap (λ x. after begun (map (λ x. a ∷ x) t.own) ++ x) s.cut
          ∙ sym (append_assoc (after begun (map (λ x. a ∷ x) t.own)) (after begun s.own) s.others)
          ∙ ap (λ x. x ++ s.others) (sym (after_both begun (map (λ x. a ∷ x) t.own) s.own));
    }

-- ---- the number of branches that can come

pub weights_last : (branches : List Branch) (b : Branch) → weights (branches ++ b ∷ []) ≡ weights branches + weight (length b.left.items)
weights_last [] b = omega arith
weights_last (c ∷ branches) b = let e = weights_last branches b in omega (arith, e)

weight_some : (n : ℕ) → 0 < weight n
weight_some zero = omega arith
weight_some (suc n) = omega arith

times_more : (i n : ℕ) → (i + 1) * n ≡ i * n + n
times_more i n = rw add-one (suc-mul i n)

pub weight_more : (n : ℕ) → n * weight (n - 1) < weight n
weight_more zero = omega arith
weight_more (suc n) = let e : suc n - 1 ≡ n = omega arith in rw e (omega arith)

-- ---- one statement of those that are left

at_index : (left : List ℕ) (i k : ℕ) → i < length left → k ≡ get_or left i 0 → (take (i + 1) left ≡ take i left ++ k ∷ []) × (drop i left ≡ k ∷ drop (i + 1) left)
at_index left i k h e = (take_more left i 0 h ∙ ap (λ x. take i left ++ x ∷ []) (sym e), drop_more left i 0 h ∙ ap (λ x. x ∷ drop (i + 1) left) (sym e))

length_without : (left : List ℕ) (i : ℕ) → i < length left → length (take i left ++ drop (i + 1) left) ≡ length left - 1
length_without left i h =
    let a = length-append (take i left) (drop (i + 1) left) in
    let b = length-take i left in
    let d = length-drop (i + 1) left in
    omega (arith, a, b, d)

module _ (lines : List StepLine) (b : Branch) (i k : ℕ) (within : i < length b.left.items) (is : k ≡ get_or b.left.items i 0) where
  pushed_each : (below old now : List Branch) (can : Bool) → PushesIf can lines b i k old now → Expands lines b (take (i + 1) b.left.items) (drop (i + 1) b.left.items) below old → Expands lines b (take i b.left.items) (k ∷ drop (i + 1) b.left.items) below now
  pushed_each below old now true p e =
      let added = p.0 in
      subst (λ x. Expands lines b (take i b.left.items) (k ∷ drop (i + 1) b.left.items) below x) (sym p.3)
      (expands_runs lines b added (take i b.left.items) k (drop (i + 1) b.left.items) below old p.2.answer p.1 p.2.runs p.2.left p.2.begun
      (subst (λ x. Expands lines b x (drop (i + 1) b.left.items) below old) (at_index b.left.items i k within is).0 e))
  pushed_each below old now false p e =
      subst (λ x. Expands lines b (take i b.left.items) (k ∷ drop (i + 1) b.left.items) below x) (sym p.1)
      (expands_waits lines b (take i b.left.items) k (drop (i + 1) b.left.items) below old p.0
      (subst (λ x. Expands lines b x (drop (i + 1) b.left.items) below old) (at_index b.left.items i k within is).0 e))

  pub step_each : (below old now : List Branch) → Pushes lines b i k old now → Expands lines b (take (i + 1) b.left.items) (drop (i + 1) b.left.items) below old → Expands lines b (take i b.left.items) (drop i b.left.items) below now
  step_each below old now p e = subst (λ x. Expands lines b (take i b.left.items) x below now) (sym (at_index b.left.items i k within is).1) (pushed_each below old now p.0 p.1 e)

  added_weight : (added : Branch) → IsAfter lines b i k added → weight (length added.left.items) ≡ weight (length b.left.items - 1)
  added_weight added a = ap (λ x. weight (length x)) a.left ∙ ap weight (length_without b.left.items i within)

  weight_if : (old now : List Branch) (can : Bool) (most : ℕ) → PushesIf can lines b i k old now → weights old + (i + 1) * weight (length b.left.items - 1) ≤ most → weights now + i * weight (length b.left.items - 1) ≤ most
  weight_if old now true most p h =
      let e : weights now ≡ weights old + weight (length b.left.items - 1) = ap weights p.3 ∙ weights_last old p.0 ∙ ap (λ x. weights old + x) (added_weight p.0 p.2) in
      let m = times_more i (weight (length b.left.items - 1)) in
      omega (arith, e, m, h)
  weight_if old now false most p h =
      let e : weights now ≡ weights old = ap weights p.1 in
      let m = times_more i (weight (length b.left.items - 1)) in
      omega (arith, e, m, h)

  pub step_weight : (old now : List Branch) (most : ℕ) → Pushes lines b i k old now → weights old + (i + 1) * weight (length b.left.items - 1) ≤ most → weights now + i * weight (length b.left.items - 1) ≤ most
  step_weight old now most p h = weight_if old now p.0 most p.1 h

  -- the same where the index before is given
  module _ (at : ℕ) (is_at : at ≡ i + 1) where
    pub each_at : (below old now : List Branch) → Pushes lines b i k old now → Expands lines b (take at b.left.items) (drop at b.left.items) below old → Expands lines b (take i b.left.items) (drop i b.left.items) below now
    each_at below old now p e = step_each below old now p (subst (λ n. Expands lines b (take n b.left.items) (drop n b.left.items) below old) is_at e)

    pub weight_at : (old now : List Branch) (most : ℕ) → Pushes lines b i k old now → weights old + at * weight (length b.left.items - 1) ≤ most → weights now + i * weight (length b.left.items - 1) ≤ most
    weight_at old now most p h = step_weight old now most p (subst (λ n. weights old + n * weight (length b.left.items - 1) ≤ most) is_at h)

-- The statements before the first that can run wait.
module _ (lines : List StepLine) (b : Branch) (at : ℕ) (first : IsFirstNext lines b.walk.value.step b.left.items at) where
  waits_down : (n : ℕ) → n ≤ at → (below now : List Branch) → Expands lines b (take n b.left.items) (drop n b.left.items) below now → Expands lines b [] b.left.items below now
  waits_down zero h below now e = e
  waits_down (suc n) h below now e =
      let is : n + 1 ≡ suc n = omega arith in
      let less : n < at = omega (arith, h) in
      let within : n < length b.left.items = let w = first.within in omega (arith, less, w) in
      waits_down n (omega (arith, h)) below now
      (each_at lines b n (slice_index b.left.items n) within refl (suc n) (sym is) below now now (false, (first.others n less, refl)) e)

  pub expands_first : (below old now : List Branch) → Pushes lines b at (slice_index b.left.items at) old now → Expands lines b (take (at + 1) b.left.items) (drop (at + 1) b.left.items) below old → Expands lines b [] b.left.items below now
  expands_first below old now p e = waits_down at (omega arith) below now (step_each lines b at (slice_index b.left.items at) first.within refl below old now p e)

-- a statement has run after a copy of the branch
pub copy_after : (lines : List StepLine) (b copy new : Branch) (i : ℕ) → IsCopy b copy → IsAfter lines copy i (slice_index copy.left.items i) new → IsAfter lines b i (slice_index b.left.items i) new
copy_after lines b copy new i c a = record {
  answer = a.answer;
  runs = subst (λ w. Runs lines w (slice_index b.left.items i) a.answer new.walk.value) c.walk (subst (λ l. Runs lines copy.walk.value (slice_index l i) a.answer new.walk.value) c.left a.runs);
  left = a.left ∙ ap (λ l. take i l ++ drop (i + 1) l) c.left;
  begun = a.begun ∙ ap (λ x. x ++ a.answer ∷ []) c.begun;
}

pub expands_start : (lines : List StepLine) (b : Branch) (n : ℕ) (below : List Branch) → n ≡ length b.left.items → Expands lines b (take n b.left.items) (drop n b.left.items) below below
expands_start lines b n below e = expands_none lines b (take n b.left.items) (drop n b.left.items) below (ap (λ n. drop n b.left.items) e ∙ drop-length b.left.items)

pub weight_branched : (below now : List Branch) (b : Branch) → weights now ≤ weights below + length b.left.items * weight (length b.left.items - 1) → weights now < weights (below ++ b ∷ [])
weight_branched below now b h = let e = weights_last below b in let m = weight_more (length b.left.items) in omega (arith, e, m, h)

pub weight_ended : (below : List Branch) (b : Branch) → weights below < weights (below ++ b ∷ [])
weight_ended below b = let e = weights_last below b in let m = weight_some (length b.left.items) in omega (arith, e, m)

-- ---- how far a search has come

pub so_far_first : (lines : List StepLine) (b : Branch) (t : Tally) (o : Outcomes) → b.begun.items ≡ [] → IsFilled [] t o → IsSearchedSoFar lines b.walk.value b.left.items (b ∷ []) t o
so_far_first lines b t o e is = record {
  done = [];
  filled = is;
  others = λ whole schedules p.
      let f : schedules ≡ p.0 = p.4 ∙ ap (λ x. x ++ after b.begun.items p.0) p.3 ∙ ap (λ x. after x p.0) e ∙ after_nothing p.0 in
      subst (AreSchedules lines whole b.walk.value b.left.items) (sym f) p.2;
}

pub so_far_branched : (lines : List StepLine) (w : WalkValue) (left : List ℕ) (b : Branch) (below now : List Branch) (t : Tally) (o : Outcomes) → some_can_run lines b.walk.value.step [] b.left.items ≡ true → Expands lines b [] b.left.items below now → IsSearchedSoFar lines w left (below ++ b ∷ []) t o → IsSearchedSoFar lines w left now t o
so_far_branched lines w left b below now t o can e f = record {
  done = f.done;
  filled = f.filled;
  others = λ whole schedules pending.
      let s = e whole schedules pending in
      f.others whole schedules (subst (ArePending lines whole (below ++ b ∷ [])) (sym s.cut) (pending_last lines whole below b s.own s.others (Branched b.walk.value b.left.items s.own can s.next) s.pending));
}

pub so_far_ended : (lines : List StepLine) (w : WalkValue) (left : List ℕ) (b : Branch) (below : List Branch) (old new : Tally) (first then : Outcomes) (s : Schedule) → some_can_run lines b.walk.value.step [] b.left.items ≡ false → s ≡ b.begun.items ++ unreached lines b.left.items
    → ((ss : List Schedule) → IsFilled ss old first → IsFilled (ss ++ s ∷ []) new then) → IsSearchedSoFar lines w left (below ++ b ∷ []) old first → IsSearchedSoFar lines w left below new then
so_far_ended lines w left b below old new first then s cannot is adds f = record {
  done = f.done ++ s ∷ [];
  filled = adds f.done f.filled;
  others = λ whole schedules pending.
      let p : ArePending lines whole (below ++ b ∷ []) (s ∷ schedules) =
      subst (λ x. ArePending lines whole (below ++ b ∷ []) (x ∷ schedules)) (sym is) (pending_last lines whole below b (unreached lines b.left.items ∷ []) schedules (Ended b.walk.value b.left.items cannot) pending) in
      subst (AreSchedules lines whole w left) (sym (append_assoc f.done (s ∷ []) schedules)) (f.others whole (s ∷ schedules) p);
}

each_last : {X : Type 0} (P Q : X → Type 0) (f : X → X) → ((x : X) → P x → Q (f x)) → (xs ys : List X) → AllByRecursion P xs → AllByRecursion Q ys → AllByRecursion Q (map f xs ++ ys)
each_last P Q f h [] ys p q = q
each_last P Q f h (x ∷ xs) ys p q = (h x p.0, each_last P Q f h xs ys p.1 q)

mutual
  each_is_schedule : (lines : List StepLine) (whole : Bool) (w : WalkValue) (left : List ℕ) (schedules : List Schedule) → AreSchedules lines whole w left schedules → AllByRecursion (IsSchedule lines w left) schedules
  each_is_schedule lines whole w left schedules (Ended v l cannot) = (Ends v l cannot, tt)
  each_is_schedule lines whole w left schedules (Branched v l ss can next) = each_next lines whole v [] l ss next
  each_is_schedule lines whole w left schedules (Stopped v l e) = tt

  each_next : (lines : List StepLine) (whole : Bool) (w : WalkValue) (before left : List ℕ) (schedules : List Schedule) → AreNext lines whole w before left schedules → AllByRecursion (IsSchedule lines w (before ++ left)) schedules
  each_next lines whole w before left schedules (Last v b) = tt
  each_next lines whole w before left schedules (Waits v b k l ss cannot next) =
      subst (λ x. AllByRecursion (IsSchedule lines v x) ss) (append_assoc b (k ∷ []) l) (each_next lines whole v (b ++ k ∷ []) l ss next)
  each_next lines whole w before left schedules (RunsNext v b k l a later own others can runs are next) =
      each_last (IsSchedule lines later (b ++ l)) (IsSchedule lines v (b ++ k ∷ l)) (λ s. a ∷ s) (λ s is. Continues v b k l a later s can runs is) own others
      (each_is_schedule lines whole later (b ++ l) own are)
      (subst (λ x. AllByRecursion (IsSchedule lines v x) others) (append_assoc b (k ∷ []) l) (each_next lines whole v (b ++ k ∷ []) l others next))

all_are : (lines : List StepLine) (w : WalkValue) (left : List ℕ) (branches : List Branch) (t : Tally) (o : Outcomes) → branches ≡ [] → (f : IsSearchedSoFar lines w left branches t o) → AreSchedules lines true w left f.done
all_are lines w left branches t o e f = subst (AreSchedules lines true w left) (append-nil f.done) (f.others true [] (subst (λ x. ArePending lines true x []) (sym e) refl))

some_are : (lines : List StepLine) (w : WalkValue) (left : List ℕ) (branches : List Branch) (t : Tally) (o : Outcomes) → (f : IsSearchedSoFar lines w left branches t o) → AreSchedules lines false w left f.done
some_are lines w left branches t o f = subst (AreSchedules lines false w left) (append-nil f.done) (f.others false [] (pending_stopped lines branches))

pub so_far_all : (lines : List StepLine) (w : WalkValue) (left : List ℕ) (branches : List Branch) (t : Tally) (o : Outcomes) → branches ≡ [] → IsSearchedSoFar lines w left branches t o → AreCounted lines true w left t
so_far_all lines w left branches t o e f = record {
  schedules = f.done;
  are = all_are lines w left branches t o e f;
  each = each_is_schedule lines true w left f.done (all_are lines w left branches t o e f);
  tally = f.filled.tally;
}

pub so_far_stopped : (lines : List StepLine) (w : WalkValue) (left : List ℕ) (branches : List Branch) (t : Tally) (o : Outcomes) → IsSearchedSoFar lines w left branches t o → AreCounted lines false w left t
so_far_stopped lines w left branches t o f = record {
  schedules = f.done;
  are = some_are lines w left branches t o f;
  each = each_is_schedule lines false w left f.done (some_are lines w left branches t o f);
  tally = f.filled.tally;
}

range_more : (a n : ℕ) → range_with_len a (suc n) ≡ range_with_len a n ++ (a + n) ∷ []
range_more a zero = ap (λ x. x ∷ []) (let e : a ≡ a + 0 = omega arith in e)
range_more a (suc n) = ap (λ x. a ∷ x) (range_more (a + 1) n ∙ ap (λ x. range_with_len (a + 1) n ++ x ∷ []) (let e : a + 1 + n ≡ a + suc n = omega arith in e))

pub range_last : (a n : ℕ) → range_with_len a (n + 1) ≡ range_with_len a n ++ (a + n) ∷ []
range_last a n = rw add-one (range_more a n)
