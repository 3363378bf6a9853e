-- The largest ten.
use Rattle.std.proofs.Common.{◌≡◌, ℕ, ◌+◌, ◌*◌, ◌^◌, ◌<◌, ◌≤◌, Bool, true, false, List, [], ◌∷◌, ◌++◌, append_assoc, append-nil, length, take, refl, sym, ap, ◌∙◌, arith, if◌then◌else◌, suc, zero}
use Rattle.std.specs.Prelude.{nat_le, IsTrue, ◌↔◌, not, Option, Some, None, MatchOption}
use Rattle.std.proofs.lemmas.Grind.{common_steps}
use Rattle.std.proofs.Math.Seq.{take-append_seam}
use Rattle.area_history.specs.declared.grant.Leak.{Leak}
use Rattle.area_history.specs.declared.totals.Group.{Group}
use Rattle.area_history.specs.declared.totals.Total.{Total}
use Rattle.area_history.specs.Leaking.{ahead, ranked}
use Rattle.area_history.specs.Totals.{AreWithin, HaveRoom, added, grown, same_group}

pub take_short : {A : Type 0} (n : ℕ) (xs : List A) → length xs ≤ n → take n xs ≡ xs
take_short n [] h = grind (arith, common_steps)
take_short zero (x ∷ xs) h = absurd (let e : suc (length xs) ≤ 0 = h in omega arith)
take_short (suc n) (x ∷ xs) h = ap (λ t. x ∷ t) (take_short n xs (omega arith))

pub take_less : {A : Type 0} (k n : ℕ) (xs : List A) → k ≤ n → take k (take n xs) ≡ take k xs
take_less zero n xs h = refl
take_less (suc k) zero xs h = absurd (omega arith)
take_less (suc k) (suc n) [] h = refl
take_less (suc k) (suc n) (x ∷ xs) h = ap (λ t. x ∷ t) (take_less k n xs (omega arith))

pub take_front : {A : Type 0} (n : ℕ) (xs ys : List A) → take n (take n xs ++ ys) ≡ take n (xs ++ ys)
take_front zero xs ys = refl
take_front (suc n) [] ys = refl
take_front (suc n) (x ∷ xs) ys = ap (λ t. x ∷ t) (take_front n xs ys)

-- the first ones of a list that is full already
pub take_full : {A : Type 0} (n : ℕ) (xs ys : List A) → length xs ≡ n → xs ≡ take n (xs ++ ys)
take_full n xs ys e = sym (ap (λ k. take k (xs ++ ys)) (sym e) ∙ take-append_seam xs ys)

under : (n : ℕ) (y : Leak) (ys : List Leak) → take n (y ∷ take n ys) ≡ take n (y ∷ ys)
under zero y ys = refl
under (suc n) y ys = ap (λ t. y ∷ t) (take_less n (suc n) ys (omega arith))

-- the first ones after an insertion depend only on the first ones before it
ahead_by : (n : ℕ) (x y : Leak) (ys : List Leak) (b : Bool) → take n (ahead x (take n ys)) ≡ take n (ahead x ys) → take (suc n) (if b then x ∷ y ∷ take n ys else y ∷ ahead x (take n ys)) ≡ take (suc n) (if b then x ∷ y ∷ ys else y ∷ ahead x ys)
ahead_by n x y ys true same = ap (λ t. x ∷ t) (under n y ys)
ahead_by n x y ys false same = ap (λ t. y ∷ t) same

pub ahead_first : (n : ℕ) (x : Leak) (ys : List Leak) → take n (ahead x (take n ys)) ≡ take n (ahead x ys)
ahead_first zero x ys = refl
ahead_first (suc n) x [] = refl
ahead_first (suc n) x (y ∷ ys) = ahead_by n x y ys (nat_le y.bytes x.bytes) (ahead_first n x ys)

-- some more and the rest
pub push_both : {A : Type 0} (n : ℕ) (old mid new xs rest all : List A) → mid ≡ take n (old ++ xs) → new ≡ take n (mid ++ rest) → all ≡ xs ++ rest → new ≡ take n (old ++ all)
push_both n old mid new xs rest all one more is =
    more ∙ ap (λ m. take n (m ++ rest)) one ∙ take_front n (old ++ xs) rest ∙ ap (take n) (append_assoc old xs rest) ∙ ap (λ l. take n (old ++ l)) (sym is)

-- nothing more
pub kept_all : {A : Type 0} (n : ℕ) (list more : List A) → more ≡ [] → length list ≤ n → list ≡ take n (list ++ more)
kept_all n list more none h = sym (take_short n list h) ∙ ap (take n) (sym (append-nil list) ∙ ap (λ m. list ++ m) (sym none))

-- one more and the rest
pub push_then : {A : Type 0} (n : ℕ) (old mid new : List A) (x : A) (rest leaks : List A) → mid ≡ take n (old ++ x ∷ []) → new ≡ take n (mid ++ rest) → leaks ≡ x ∷ rest → new ≡ take n (old ++ leaks)
push_then n old mid new x rest leaks one more is = push_both n old mid new (x ∷ []) rest leaks one more is

pub full_is : (b : Bool) (n m : ℕ) → IsTrue b ↔ (n ≡ m) → b ≡ true → n ≡ m
full_is b n m e h = e.0 h

-- the largest after one more
pub ranked_first : (x : Leak) (old others : List Leak) → old ≡ take 10 (ranked others) → take 10 (ahead x old) ≡ take 10 (ranked (x ∷ others))
ranked_first x old others is = ap (λ t. take 10 (ahead x t)) is ∙ ahead_first 10 x (ranked others)

-- ---- totals

added_by : (n : ℕ) (group : Group) (bytes : ℕ) (t : Total) (ts : List Total) (b : Bool) → take n (added group bytes (take n ts)) ≡ take n (added group bytes ts) → take (suc n) (if b then grown t bytes ∷ take n ts else t ∷ added group bytes (take n ts)) ≡ take (suc n) (if b then grown t bytes ∷ ts else t ∷ added group bytes ts)
added_by n group bytes t ts true same = ap (λ x. grown t bytes ∷ x) (take_less n n ts (omega arith))
added_by n group bytes t ts false same = ap (λ x. t ∷ x) same

-- the first totals after one more area depend only on the first ones before it
pub added_first : (n : ℕ) (group : Group) (bytes : ℕ) (ts : List Total) → take n (added group bytes (take n ts)) ≡ take n (added group bytes ts)
added_first zero group bytes ts = refl
added_first (suc n) group bytes [] = refl
added_first (suc n) group bytes (t ∷ ts) = added_by n group bytes t ts (same_group group t.group) (added_first n group bytes ts)

pub totals_first : (group : Group) (bytes : ℕ) (old all : List Total) → old ≡ take 10 all → take 10 (added group bytes old) ≡ take 10 (added group bytes all)
totals_first group bytes old all is = ap (λ t. take 10 (added group bytes t)) is ∙ added_first 10 group bytes all

pub within_more : (n m : ℕ) (ts : List Total) → n ≤ m → AreWithin n ts → AreWithin m ts
within_more n m [] h w = w
within_more n m (t ∷ ts) h w = ((let c : t.count ≤ n = w.0.0 in omega arith, let b : t.bytes ≤ 2 ^ 31 * n = w.0.1 in omega arith), within_more n m ts h w.1)

within_by : (n : ℕ) (group : Group) (bytes : ℕ) (t : Total) (ts : List Total) (b : Bool) → bytes ≤ 2 ^ 31 → AreWithin n (t ∷ ts) → AreWithin (n + 1) (added group bytes ts) → AreWithin (n + 1) (if b then grown t bytes ∷ ts else t ∷ added group bytes ts)
within_by n group bytes t ts true most w rest = ((let c : t.count ≤ n = w.0.0 in omega arith, let b : t.bytes ≤ 2 ^ 31 * n = w.0.1 in omega (arith, most)), within_more n (n + 1) ts (omega arith) w.1)
within_by n group bytes t ts false most w rest = ((let c : t.count ≤ n = w.0.0 in omega arith, let b : t.bytes ≤ 2 ^ 31 * n = w.0.1 in omega arith), rest)

pub within_added : (n : ℕ) (group : Group) (bytes : ℕ) (ts : List Total) → bytes ≤ 2 ^ 31 → AreWithin n ts → AreWithin (n + 1) (added group bytes ts)
within_added n group bytes [] most w = ((omega arith, omega (arith, most)), tt)
within_added n group bytes (t ∷ ts) most w = within_by n group bytes t ts (same_group group t.group) most w (within_added n group bytes ts most w.1)

pub within_first : (n k : ℕ) (ts : List Total) → AreWithin n ts → AreWithin n (take k ts)
within_first n zero ts w = tt
within_first n (suc k) [] w = tt
within_first n (suc k) (t ∷ ts) w = (w.0, within_first n k ts w.1)

pub room_within : (n bytes : ℕ) (ts : List Total) → n + 1 < 2 ^ 64 → bytes ≤ 2 ^ 31 → AreWithin n ts → HaveRoom bytes ts
room_within n bytes [] few most w = tt
room_within n bytes (t ∷ ts) few most w = ((let c : t.count ≤ n = w.0.0 in omega (arith, few), let b : t.bytes ≤ 2 ^ 31 * n = w.0.1 in omega (arith, few, most)), room_within n bytes ts few most w.1)

-- ---- where there is no item

pub none_case : {A N : Type 0} (P : A → Type 0) (o : Option A) → ((x : A) → o ≡ Some x → ⊥) → MatchOption o N P → N
none_case P None h m = m
none_case P (Some x) h m = absurd (h x refl)

pub no_items : {A : Type 0} (xs : List A) → length xs ≡ 0 → xs ≡ []
no_items [] h = refl
no_items (x ∷ xs) h = absurd (let e : suc (length xs) ≡ 0 = h in omega arith)
