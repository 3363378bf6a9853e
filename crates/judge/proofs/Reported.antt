-- What REPORT SP prints, in two steps that differ in nothing but places.
use Rattle.std.proofs.Common.{◌≡◌, ℕ, zero, suc, ◌+◌, ◌*◌, ◌<◌, ◌≤◌, Bool, true, false, not, List, [], ◌∷◌, ◌++◌, Option, Some, None, append_assoc, codes, decimal, cond, arith, refl, sym, ap, ◌∙◌}
use Rattle.std.specs.Prelude.{◌&&◌, ◌^◌, if◌then◌else◌}
use Rattle.std.specs.List.{filter, flat_map, list_all}
use Rattle.std.proofs.lemmas.List.{append_cancel_left}
use Rattle.std.proofs.lemmas.List.Elements.{filter-append}
use Rattle.mvs_laws.proofs.Types.{Name, SubpoolLine}
use Rattle.mvs_model.specs.Finite.{count_below}
use Rattle.mvs_model.specs.Owners.{Owners, entry}
use Rattle.mvs_model.specs.Reading.{is_digit}
use Rattle.mvs_model.specs.Reports.{bytes_held, each_below, line_of_entry, subpool_lines, subpool_lines_of}
use Rattle.mvs_model.specs.Answers.{Subpools}
use Rattle.mvs_model.specs.Numbers.{subpool_numbers}
use Rattle.mvs_model.specs.State.{State}
use Rattle.mvs_model.specs.Storage.{end_of}
use Rattle.mvs_model.specs.View.{IsBounded}
use Rattle.mvs_model.specs.Texts.{answer_text, reply_line, subpool_text}
use Rattle.mvs_model.proofs.OneSteps.{head_of, tail_of}
use Rattle.mvs_model.proofs.Tests.{true_false}
use Rattle.mvs_model.proofs.ValueTexts.{decimal_writes}
use Rattle.judge.proofs.Opening.{line_head}
use Rattle.judge.specs.Reporting.{undigited}
use Rattle.judge.specs.Outline.{head}

-- ---- digits before a byte that is none

and_both : (a b : Bool) → (a && b) ≡ true → (a ≡ true) × (b ≡ true)
and_both true b e = (refl, e)
and_both false b e = true_false (sym e)

digits_cut : (c : ℕ) → is_digit c ≡ false → (xs ys u v : List ℕ) → list_all is_digit xs ≡ true → list_all is_digit ys ≡ true → xs ++ c ∷ u ≡ ys ++ c ∷ v → u ≡ v
digits_cut c none [] [] u v a b e = ap tail_of e
digits_cut c none [] (y ∷ ys) u v a b e = true_false (sym (and_both (is_digit y) _ b).0 ∙ ap is_digit (sym (ap head_of e)) ∙ none)
digits_cut c none (x ∷ xs) [] u v a b e = true_false (sym (and_both (is_digit x) _ a).0 ∙ ap is_digit (ap head_of e) ∙ none)
digits_cut c none (x ∷ xs) (y ∷ ys) u v a b e = digits_cut c none xs ys u v (and_both (is_digit x) _ a).1 (and_both (is_digit y) _ b).1 (ap tail_of e)

number_cut : (c : ℕ) → is_digit c ≡ false → (m n : ℕ) (u v : List ℕ) → m < 2 ^ 64 → n < 2 ^ 64 → decimal m ++ c ∷ u ≡ decimal n ++ c ∷ v → u ≡ v
number_cut c none m n u v small low e = digits_cut c none (decimal m) (decimal n) u v (decimal_writes m small).digits (decimal_writes n low).digits e

-- ---- a line, and all lines

-- Two lines differ in nothing but how many bytes there are.
pub record SameLine (l m : SubpoolLine) : Type 0 where
  pub number : l.number ≡ m.number
  pub owned : l.owned ≡ m.owned
  pub plain : l.plain < 2 ^ 64
  pub pool : l.pool < 2 ^ 64
  pub other_plain : m.plain < 2 ^ 64
  pub other_pool : m.pool < 2 ^ 64

abbrev front : SubpoolLine → List ℕ
front l = codes "SP " ++ decimal l.number ++ (if l.owned then codes " OWNED PLAIN " else codes " SHARED PLAIN ")

line_parts : (number : ℕ) (t : Name) (l : SubpoolLine) (u : List ℕ) → reply_line number t (subpool_text l) ++ u ≡ (head number t ++ front l) ++ (decimal l.plain ++ (codes " POOL " ++ (decimal l.pool ++ (codes "\n" ++ u))))
line_parts number t l u = ap (λ x. x ++ u) (line_head number t (subpool_text l)) ∙ parts (head number t) (decimal l.number) (if l.owned then codes " OWNED PLAIN " else codes " SHARED PLAIN ") (decimal l.plain) (decimal l.pool) where
  parts : (h n o p q : List ℕ) → (h ++ ((codes "SP " ++ n ++ o ++ p ++ codes " POOL " ++ q) ++ codes "\n")) ++ u ≡ (h ++ (codes "SP " ++ n ++ o)) ++ (p ++ (codes " POOL " ++ (q ++ (codes "\n" ++ u))))
  parts h n o p q = search (append_assoc)

line_cut : (number : ℕ) (t : Name) (l m : SubpoolLine) (u v : List ℕ) → SameLine l m → reply_line number t (subpool_text l) ++ u ≡ reply_line number t (subpool_text m) ++ v → u ≡ v
line_cut number t l m u v same e =
    let fronts : head number t ++ front l ≡ head number t ++ front m = λ i. head number t ++ (codes "SP " ++ decimal (same.number i) ++ (if same.owned i then codes " OWNED PLAIN " else codes " SHARED PLAIN ")) in
    let cut = append_cancel_left (head number t ++ front m) _ _ (ap (λ f. f ++ (decimal l.plain ++ (codes " POOL " ++ (decimal l.pool ++ (codes "\n" ++ u))))) (sym fronts) ∙ sym (line_parts number t l u) ∙ e ∙ line_parts number t m v) in
    let pools = append_cancel_left (codes "POOL ") _ _ (number_cut 32 refl l.plain m.plain (codes "POOL " ++ (decimal l.pool ++ (codes "\n" ++ u))) (codes "POOL " ++ (decimal m.pool ++ (codes "\n" ++ v))) same.plain same.other_plain cut) in
    number_cut 10 refl l.pool m.pool u v same.pool same.other_pool pools

abbrev pub SameLines : List SubpoolLine → List SubpoolLine → Type 0
SameLines [] [] = Unit {0}
SameLines [] (m ∷ ms) = ⊥
SameLines (l ∷ ls) [] = ⊥
SameLines (l ∷ ls) (m ∷ ms) = SameLine l m × SameLines ls ms

lines_cut : (number : ℕ) (t : Name) (ls ms : List SubpoolLine) (u v : List ℕ) → SameLines ls ms → flat_map (λ l. reply_line number t (subpool_text l)) ls ++ u ≡ flat_map (λ l. reply_line number t (subpool_text l)) ms ++ v → u ≡ v
lines_cut number t [] [] u v same e = e
lines_cut number t [] (m ∷ ms) u v same e = absurd same
lines_cut number t (l ∷ ls) [] u v same e = absurd same
lines_cut number t (l ∷ ls) (m ∷ ms) u v same e =
    let rest = flat_map (λ l. reply_line number t (subpool_text l)) ls in
    let more = flat_map (λ l. reply_line number t (subpool_text l)) ms in
    lines_cut number t ls ms u v same.1 (line_cut number t l m (rest ++ u) (more ++ v) same.0 (sym (append_assoc (reply_line number t (subpool_text l)) rest u) ∙ e ∙ append_assoc (reply_line number t (subpool_text m)) more v))

subpools_cut : (number : ℕ) (t : Name) (ls ms : List SubpoolLine) (u v : List ℕ) → SameLines ls ms → answer_text number t (Subpools ls) ++ u ≡ answer_text number t (Subpools ms) ++ v → u ≡ v
subpools_cut number t [] [] u v same e = append_cancel_left (reply_line number t (codes "SP NONE")) _ _ e
subpools_cut number t [] (m ∷ ms) u v same e = absurd same
subpools_cut number t (l ∷ ls) [] u v same e = absurd same
subpools_cut number t (l ∷ ls) (m ∷ ms) u v same e = lines_cut number t (l ∷ ls) (m ∷ ms) u v same e

-- ---- the lines of two steps

same_more : (a b c d : List SubpoolLine) → SameLines a b → SameLines c d → SameLines (a ++ c) (b ++ d)
same_more [] [] c d x y = y
same_more [] (m ∷ b) c d x y = absurd x
same_more (l ∷ a) [] c d x y = absurd x
same_more (l ∷ a) (m ∷ b) c d x y = (x.0, same_more a b c d x.1 y)

same_below : (n : ℕ) (f g : ℕ → List SubpoolLine) → ((k : ℕ) → SameLines (f k) (g k)) → SameLines (each_below n f) (each_below n g)
unfolding each_below
same_below zero f g h = tt
same_below (suc n) f g h = same_more (each_below n f) (each_below n g) (f n) (g n) (same_below n f g h) (h n)

count_most : (n : ℕ) (f : ℕ → Bool) → count_below n f ≤ n
unfolding count_below
count_most zero f = omega arith
count_most (suc n) f = at (f n) (count_most n f) where
  at : (b : Bool) → count_below n f ≤ n → (if b then 1 else 0) + count_below n f ≤ suc n
  at true m = omega (arith, m)
  at false m = omega (arith, m)

few_bytes : (st : State) (s : ℕ) (pooled : Bool) → IsBounded st.regions → bytes_held st s pooled < 2 ^ 64
few_bytes st s pooled b = at _ (count_most (end_of st.regions) _) where
  at : (k : ℕ) → k ≤ end_of st.regions → 8 * k < 2 ^ 64
  at k m = let h = b.above in omega (arith, m, h)

entries_same : (o : Owners) (p q p' q' : ℕ → ℕ) (t : Name) → ((s : ℕ) → p s < 2 ^ 64) → ((s : ℕ) → q s < 2 ^ 64) → ((s : ℕ) → p' s < 2 ^ 64) → ((s : ℕ) → q' s < 2 ^ 64) → (n : ℕ) (e : Option ℕ) → SameLines (line_of_entry o p q t n e) (line_of_entry o p' q' t n e)
entries_same o p q p' q' t a b c d n None = tt
entries_same o p q p' q' t a b c d n (Some s) = (record { number = refl; owned = refl; plain = a s; pool = b s; other_plain = c s; other_pool = d s }, tt)

lines_same : (o : Owners) (p q p' q' : ℕ → ℕ) (t : Name) → ((s : ℕ) → p s < 2 ^ 64) → ((s : ℕ) → q s < 2 ^ 64) → ((s : ℕ) → p' s < 2 ^ 64) → ((s : ℕ) → q' s < 2 ^ 64) → SameLines (subpool_lines o p q t) (subpool_lines o p' q' t)
lines_same o p q p' q' t a b c d = same_below subpool_numbers _ _ (λ n. entries_same o p q p' q' t a b c d n (entry o t n))

-- one text shows what stands after the report
pub report_cut : (number : ℕ) (t : Name) (a b : State) (u v : List ℕ) → a.owners ≡ b.owners → IsBounded a.regions → IsBounded b.regions → answer_text number t (Subpools (subpool_lines_of a t)) ++ u ≡ answer_text number t (Subpools (subpool_lines_of b t)) ++ v → u ≡ v
report_cut number t a b u v owners one other e =
    subpools_cut number t (subpool_lines a.owners (λ s. bytes_held a s false) (λ s. bytes_held a s true) t) (subpool_lines a.owners (λ s. bytes_held b s false) (λ s. bytes_held b s true) t) u v
    (lines_same a.owners _ _ _ _ t (λ s. few_bytes a s false one) (λ s. few_bytes a s true one) (λ s. few_bytes b s false other) (λ s. few_bytes b s true other))
    (e ∙ ap (λ o. answer_text number t (Subpools (subpool_lines o (λ s. bytes_held b s false) (λ s. bytes_held b s true) t)) ++ v) (sym owners))

-- ---- what the reports are without their digits

digits_gone : (xs : List ℕ) → list_all is_digit xs ≡ true → undigited xs ≡ []
digits_gone [] e = refl
digits_gone (x ∷ xs) e = let h = and_both (is_digit x) _ e in ap (λ b. cond (not b) (x ∷ undigited xs) (undigited xs)) h.0 ∙ digits_gone xs h.1

pub undigited_both : (xs ys : List ℕ) → undigited (xs ++ ys) ≡ undigited xs ++ undigited ys
undigited_both xs ys = filter-append (λ b. not (is_digit b)) xs ys

number_gone : (n : ℕ) (more : List ℕ) → n < 2 ^ 64 → undigited (decimal n ++ more) ≡ undigited more
number_gone n more small = undigited_both (decimal n) more ∙ ap (λ x. x ++ undigited more) (digits_gone (decimal n) (decimal_writes n small).digits)

after_front : (l : SubpoolLine) (front u : List ℕ) → l.plain < 2 ^ 64 → l.pool < 2 ^ 64 → undigited (front ++ (decimal l.plain ++ (codes " POOL " ++ (decimal l.pool ++ (codes "\n" ++ u))))) ≡ undigited front ++ undigited (codes " POOL " ++ (codes "\n" ++ u))
after_front l front u plain pool =
    undigited_both front _
    ∙ ap (λ x. undigited front ++ x) (number_gone l.plain _ plain ∙ undigited_both (codes " POOL ") (decimal l.pool ++ (codes "\n" ++ u)) ∙ ap (λ x. undigited (codes " POOL ") ++ x) (number_gone l.pool (codes "\n" ++ u) pool) ∙ sym (undigited_both (codes " POOL ") (codes "\n" ++ u)))

line_undigited : (number : ℕ) (t : Name) (l m : SubpoolLine) (u v : List ℕ) → SameLine l m → undigited u ≡ undigited v → undigited (reply_line number t (subpool_text l) ++ u) ≡ undigited (reply_line number t (subpool_text m) ++ v)
line_undigited number t l m u v same e =
    let fronts : head number t ++ front l ≡ head number t ++ front m = λ i. head number t ++ (codes "SP " ++ decimal (same.number i) ++ (if same.owned i then codes " OWNED PLAIN " else codes " SHARED PLAIN ")) in
    ap undigited (line_parts number t l u)
    ∙ after_front l (head number t ++ front l) u same.plain same.pool
    ∙ (λ i. undigited (fronts i) ++ (undigited_both (codes " POOL \n") u ∙ ap (λ x. undigited (codes " POOL \n") ++ x) e ∙ sym (undigited_both (codes " POOL \n") v)) i)
    ∙ sym (after_front m (head number t ++ front m) v same.other_plain same.other_pool)
    ∙ sym (ap undigited (line_parts number t m v))

lines_undigited : (number : ℕ) (t : Name) (ls ms : List SubpoolLine) → SameLines ls ms → undigited (flat_map (λ l. reply_line number t (subpool_text l)) ls) ≡ undigited (flat_map (λ l. reply_line number t (subpool_text l)) ms)
lines_undigited number t [] [] same = refl
lines_undigited number t [] (m ∷ ms) same = absurd same
lines_undigited number t (l ∷ ls) [] same = absurd same
lines_undigited number t (l ∷ ls) (m ∷ ms) same = line_undigited number t l m (flat_map (λ l. reply_line number t (subpool_text l)) ls) (flat_map (λ l. reply_line number t (subpool_text l)) ms) same.0 (lines_undigited number t ls ms same.1)

subpools_undigited : (number : ℕ) (t : Name) (ls ms : List SubpoolLine) → SameLines ls ms → undigited (answer_text number t (Subpools ls)) ≡ undigited (answer_text number t (Subpools ms))
subpools_undigited number t [] [] same = refl
subpools_undigited number t [] (m ∷ ms) same = absurd same
subpools_undigited number t (l ∷ ls) [] same = absurd same
subpools_undigited number t (l ∷ ls) (m ∷ ms) same = lines_undigited number t (l ∷ ls) (m ∷ ms) same

-- Two reports are the same but for digits.
pub report_undigited : (number : ℕ) (t : Name) (a b : State) → a.owners ≡ b.owners → IsBounded a.regions → IsBounded b.regions → undigited (answer_text number t (Subpools (subpool_lines_of a t))) ≡ undigited (answer_text number t (Subpools (subpool_lines_of b t)))
report_undigited number t a b owners one other =
    subpools_undigited number t (subpool_lines a.owners (λ s. bytes_held a s false) (λ s. bytes_held a s true) t) (subpool_lines a.owners (λ s. bytes_held b s false) (λ s. bytes_held b s true) t)
    (lines_same a.owners _ _ _ _ t (λ s. few_bytes a s false one) (λ s. few_bytes a s true one) (λ s. few_bytes b s false other) (λ s. few_bytes b s true other))
    ∙ ap (λ o. undigited (answer_text number t (Subpools (subpool_lines o (λ s. bytes_held b s false) (λ s. bytes_held b s true) t)))) owners
