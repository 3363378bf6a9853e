-- What REPORT MAP prints, and what stands behind it.
use Rattle.std.proofs.Common.{◌≡◌, ◌≢◌, ℕ, zero, suc, ◌+◌, ◌≤◌, ◌<◌, ◌/◌, ◌%◌, ◌==◌, nat_lt, ◌⊎◌, inl, inr, Bool, true, false, not, cond, List, [], ◌∷◌, ◌++◌, length, length-append, Option, Some, None, append_assoc, append-nil, codes, decimal, arith, refl, sym, ap, ◌∙◌, subst}
use Rattle.std.specs.Prelude.{◌^◌, take}
use Rattle.std.specs.Fmt.{digits, digits_onto, digit_glyph}
use Rattle.std.specs.List.{flat_map, list_all, position_or_len, AllByRecursion}
use Rattle.std.proofs.lemmas.List.{append_cancel_left}
use Rattle.std.proofs.lemmas.List.Sums.{fails_before_first}
use Rattle.std.proofs.lemmas.Bool.Decides.{nat_tests}
use Rattle.std.proofs.lemmas.Fmt.{decimal_injective}
use Rattle.mvs_laws.proofs.Types.{Name, Statement, Line}
use Rattle.mvs_model.specs.declared.line.Line.TheVariants as line
use Rattle.mvs_model.specs.declared.line.Statement.TheVariants as statement
use Rattle.mvs_model.specs.declared.outcome.Outcome.{Outcome}
use Rattle.mvs_model.specs.declared.report.MapRun.{MapRun}
use Rattle.mvs_model.specs.Name.{trimmed}
use Rattle.mvs_model.specs.Reading.{is_digit}
use Rattle.mvs_model.specs.Answers.{Answer, NotRun, NoName, At, Rc0, Granted, Rc4, Cell, NoCell, Attached, Ended, Done, Data, Abended, Subpools, Map, Region, Event, AnswerTo, StepEnded, Faulted}
use Rattle.mvs_model.specs.Job.{JobValue}
use Rattle.mvs_model.specs.Lines.{card_of, lines_of}
use Rattle.std.specs.List.{onto_first}
use Rattle.std.specs.Prelude.{if◌then◌else◌}
use Rattle.mvs_model.specs.Runs.{machine}
use Rattle.mvs_model.specs.Walk.{Closes, JobEnds, Serves, Walks, ending}
use Rattle.mvs_model.specs.Texts.{answer_text, data_lines, fault_text, fault_number, hex, label_text, line_count, map_text, printing, reply_line, text_of}
use Rattle.mvs_model.proofs.OneSteps.{head_of, tail_of}
use Rattle.mvs_model.proofs.Tests.{false_true, true_false}
use Rattle.mvs_model.proofs.ValueTexts.{decimal_writes}
use Rattle.mvs_laws.proofs.Going.{printed_both}
use Rattle.judge.specs.Excluding.{BeginsWord, IsPast, Lacks}
use Rattle.judge.specs.Outline.{head}
use Rattle.judge.proofs.Opening.{digits_long, front_long, back_long, line_head, same_backs}

-- ---- two texts, each in front of a byte

cut_at : (c : ℕ) (xs ys u v : List ℕ) → Lacks c xs → Lacks c ys → xs ++ c ∷ u ≡ ys ++ c ∷ v → (xs ≡ ys) × (u ≡ v)
cut_at c [] [] u v a b e = (refl, ap tail_of e)
cut_at c [] (y ∷ ys) u v a b e = absurd (b.0 (sym (ap head_of e)))
cut_at c (x ∷ xs) [] u v a b e = absurd (a.0 (ap head_of e))
cut_at c (x ∷ xs) (y ∷ ys) u v a b e = let r = cut_at c xs ys u v a.1 b.1 (ap tail_of e) in ((λ i. ap head_of e i ∷ r.0 i), r.1)

apart : (xs ys u v : List ℕ) → Lacks 32 xs → Lacks 10 ys → xs ++ 10 ∷ u ≡ ys ++ 32 ∷ v → ⊥
apart [] [] u v a b e = let f : 10 ≡ 32 = ap head_of e in absurd (omega (arith, f))
apart [] (y ∷ ys) u v a b e = b.0 (sym (ap head_of e))
apart (x ∷ xs) [] u v a b e = a.0 (ap head_of e)
apart (x ∷ xs) (y ∷ ys) u v a b e = apart xs ys u v a.1 b.1 (ap tail_of e)

no_word : (xs u text : List ℕ) → Lacks 32 xs → BeginsWord text → text ≡ xs ++ 10 ∷ u → ⊥
no_word [] u text a (inl none) e = let f : [] ≡ 10 ∷ u = sym none ∙ e in absurd cc
no_word (x ∷ xs) u text a (inl none) e = let f : [] ≡ x ∷ (xs ++ 10 ∷ u) = sym none ∙ e in absurd cc
no_word xs u text a (inr (word, more, lacks, is)) e = apart xs word u more a lacks (sym e ∙ is)

name_cut : (xs ys u v : List ℕ) → Lacks 32 xs → Lacks 32 ys → BeginsWord u → BeginsWord v → xs ++ 10 ∷ u ≡ ys ++ 10 ∷ v → u ≡ v
name_cut [] [] u v a b f g e = ap tail_of e
name_cut [] (y ∷ ys) u v a b f g e = absurd (no_word ys v u b.1 f (ap tail_of e))
name_cut (x ∷ xs) [] u v a b f g e = absurd (no_word xs u v a.1 g (sym (ap tail_of e)))
name_cut (x ∷ xs) (y ∷ ys) u v a b f g e = name_cut xs ys u v a.1 b.1 f g (ap tail_of e)

-- ---- digits and names

last : (n : ℕ) → 48 ≤ digit_glyph false (n % 10)
last n = at (nat_lt (n % 10) 10) where
  at : (b : Bool) → 48 ≤ cond b (48 + n % 10) (87 + n % 10)
  at true = omega arith
  at false = omega arith

abbrev AreHigh : List ℕ → Type 0
AreHigh text = AllByRecursion (λ b. 48 ≤ b) text

put : (k n : ℕ) (acc : List ℕ) → AreHigh acc → AreHigh (digits_onto k 10 false n acc)
put zero n acc h = h
put (suc k) n acc h = at (n / 10 == 0) (put k (n / 10) (digit_glyph false (n % 10) ∷ acc) (last n, h)) where
  at : (b : Bool) → AreHigh (digits_onto k 10 false (n / 10) (digit_glyph false (n % 10) ∷ acc)) → AreHigh (cond b (digit_glyph false (n % 10) ∷ acc) (digits_onto k 10 false (n / 10) (digit_glyph false (n % 10) ∷ acc)))
  at true more = (last n, h)
  at false more = more

decimal_high : (n : ℕ) → AreHigh (decimal n)
unfolding digits
decimal_high n = put 64 n [] tt

high_lacks : (c : ℕ) → c < 48 → (xs : List ℕ) → AreHigh xs → Lacks c xs
high_lacks c low [] h = tt
high_lacks c low (x ∷ xs) h = ((λ e. let g : 48 ≤ x = h.0 in absurd (omega (arith, e, g, low))), high_lacks c low xs h.1)

decimal_lacks : (c n : ℕ) → c < 48 → Lacks c (decimal n)
decimal_lacks c n low = high_lacks c low (decimal n) (decimal_high n)

trimmed_lacks : (t : List ℕ) → Lacks 32 (trimmed t)
trimmed_lacks [] = tt
trimmed_lacks (x ∷ t) = at (x == 32) refl (trimmed_lacks t) where
  at : (b : Bool) → (x == 32) ≡ b → Lacks 32 (trimmed t) → Lacks 32 (take (cond (not b) (1 + position_or_len (λ b. b == 32) t) 0) (x ∷ t))
  at true e more = tt
  at false e more =
      let one : 1 + position_or_len (λ b. b == 32) t ≡ suc (position_or_len (λ b. b == 32) t) = omega arith in
      subst (λ n. Lacks 32 (take n (x ∷ t))) (sym one) ((let f : x ≢ 32 = grind (arith, nat_tests) in f), more)

-- ---- a line, and all lines

label_cut : (a b : Option (ℕ × Name)) (u v : List ℕ) → BeginsWord u → BeginsWord v → label_text a ++ 10 ∷ u ≡ label_text b ++ 10 ∷ v → u ≡ v
label_cut None None u v f g e = append_cancel_left (codes "FREE\n") _ _ e
label_cut None (Some b) u v f g e = let h : 70 ≡ 83 = ap head_of e in absurd (omega (arith, h))
label_cut (Some a) None u v f g e = let h : 83 ≡ 70 = ap head_of e in absurd (omega (arith, h))
label_cut (Some a) (Some b) u v f g e = last_cut (numbers_cut (append_cancel_left (codes "SP ") _ _ (sym (parts (decimal a.0) (trimmed a.1) u) ∙ e ∙ parts (decimal b.0) (trimmed b.1) v))) where
  parts : (n t u : List ℕ) → (codes "SP " ++ n ++ codes " OWNER " ++ t) ++ 10 ∷ u ≡ codes "SP " ++ (n ++ (codes " OWNER " ++ (t ++ 10 ∷ u)))
  parts n t u = search (append_assoc)

  numbers_cut : decimal a.0 ++ (codes " OWNER " ++ (trimmed a.1 ++ 10 ∷ u)) ≡ decimal b.0 ++ (codes " OWNER " ++ (trimmed b.1 ++ 10 ∷ v)) → codes "OWNER " ++ (trimmed a.1 ++ 10 ∷ u) ≡ codes "OWNER " ++ (trimmed b.1 ++ 10 ∷ v)
  numbers_cut e = (cut_at 32 (decimal a.0) (decimal b.0) _ _ (decimal_lacks 32 a.0 (omega arith)) (decimal_lacks 32 b.0 (omega arith)) e).1

  last_cut : codes "OWNER " ++ (trimmed a.1 ++ 10 ∷ u) ≡ codes "OWNER " ++ (trimmed b.1 ++ 10 ∷ v) → u ≡ v
  last_cut e = name_cut (trimmed a.1) (trimmed b.1) u v (trimmed_lacks a.1) (trimmed_lacks b.1) f g (append_cancel_left (codes "OWNER ") _ _ e)

-- what a line of the map has in front of what its pages are assigned to
abbrev front : MapRun → List ℕ
front r = codes "MAP " ++ hex 8 r.addr ++ codes " " ++ hex 8 r.len ++ codes " "

fronts_long : (a b : MapRun) → length (front a) ≡ length (front b)
fronts_long a b = long (hex 8 a.addr) (hex 8 b.addr) (hex 8 a.len) (hex 8 b.len) (digits_long 16 8 a.addr ∙ sym (digits_long 16 8 b.addr)) (digits_long 16 8 a.len ∙ sym (digits_long 16 8 b.len)) where
  long : (m n p q : List ℕ) → length m ≡ length n → length p ≡ length q → length (codes "MAP " ++ m ++ codes " " ++ p ++ codes " ") ≡ length (codes "MAP " ++ n ++ codes " " ++ q ++ codes " ")
  long m n p q e f =
      back_long (codes "MAP " ++ m ++ codes " " ++ p) (codes "MAP " ++ n ++ codes " " ++ q) (codes " ")
      (length-append (codes "MAP " ++ m ++ codes " ") p ∙ (λ i. back_long (codes "MAP " ++ m) (codes "MAP " ++ n) (codes " ") (front_long (codes "MAP ") m n e) i + f i) ∙ sym (length-append (codes "MAP " ++ n ++ codes " ") q))

module _ (number : ℕ) (t : Name) where
  map_parts : (r : MapRun) (u : List ℕ) → reply_line number t (map_text r) ++ u ≡ head number t ++ (front r ++ (label_text r.holder ++ 10 ∷ u))
  map_parts r u = ap (λ x. x ++ u) (line_head number t (map_text r)) ∙ parts (head number t) (hex 8 r.addr) (hex 8 r.len) (label_text r.holder) where
    parts : (h a l x : List ℕ) → (h ++ ((codes "MAP " ++ a ++ codes " " ++ l ++ codes " " ++ x) ++ codes "\n")) ++ u ≡ h ++ ((codes "MAP " ++ a ++ codes " " ++ l ++ codes " ") ++ (x ++ 10 ∷ u))
    parts h a l x = search (append_assoc)

  line_cut : (a b : MapRun) (u v : List ℕ) → BeginsWord u → BeginsWord v → reply_line number t (map_text a) ++ u ≡ reply_line number t (map_text b) ++ v → u ≡ v
  line_cut a b u v f g e =
      label_cut a.holder b.holder u v f g
      (same_backs (front a) (front b) _ _ (fronts_long a b) (append_cancel_left (head number t) _ _ (sym (map_parts a u) ∙ e ∙ map_parts b v)))

  abbrev lines : List MapRun → List ℕ
  lines runs = flat_map (λ r. reply_line number t (map_text r)) runs

  reply_word : (text u : List ℕ) → BeginsWord (reply_line number t text ++ u)
  reply_word text u = inr (decimal number, (trimmed t ++ (codes " " ++ (text ++ (codes "\n" ++ u)))), decimal_lacks 10 number (omega arith), parts (decimal number) (trimmed t)) where
    parts : (n t : List ℕ) → (n ++ codes " " ++ t ++ codes " " ++ text ++ codes "\n") ++ u ≡ n ++ 32 ∷ (t ++ (codes " " ++ (text ++ (codes "\n" ++ u))))
    parts n t = search (append_assoc)

  lines_word : (runs : List MapRun) (u : List ℕ) → BeginsWord u → BeginsWord (lines runs ++ u)
  lines_word [] u f = f
  lines_word (r ∷ runs) u f = subst BeginsWord (sym (append_assoc (reply_line number t (map_text r)) (lines runs) u)) (reply_word (map_text r) (lines runs ++ u))

  lines_cut : (rs ss : List MapRun) (u v : List ℕ) → BeginsWord u → BeginsWord v → IsPast number t u → IsPast number t v → lines rs ++ u ≡ lines ss ++ v → u ≡ v
  lines_cut [] [] u v f g m n e = e
  lines_cut [] (b ∷ ss) u v f g m n e = absurd (m _ (e ∙ append_assoc (reply_line number t (map_text b)) (lines ss) v ∙ map_parts b (lines ss ++ v)))
  lines_cut (a ∷ rs) [] u v f g m n e = absurd (n _ (sym e ∙ append_assoc (reply_line number t (map_text a)) (lines rs) u ∙ map_parts a (lines rs ++ u)))
  lines_cut (a ∷ rs) (b ∷ ss) u v f g m n e =
      lines_cut rs ss u v f g m n
      (line_cut a b (lines rs ++ u) (lines ss ++ v) (lines_word rs u f) (lines_word ss v g) (sym (append_assoc (reply_line number t (map_text a)) (lines rs) u) ∙ e ∙ append_assoc (reply_line number t (map_text b)) (lines ss) v))

  -- One text shows what stands after the map.
  pub map_cut : (rs ss : List MapRun) (u v : List ℕ) → BeginsWord u → BeginsWord v → IsPast number t u → IsPast number t v → answer_text number t (Map rs) ++ u ≡ answer_text number t (Map ss) ++ v → u ≡ v
  map_cut rs ss u v f g m n e = lines_cut rs ss u v f g m n e

-- ---- how the printing from a line on begins

-- The text begins with the number of a line in this range, or as the end of a step does, or it is empty.
abbrev pub Starts : ℕ → ℕ → List ℕ → Type 0
Starts least most text = ((m : ℕ) × (more : List ℕ) × (least ≤ m) × (m ≤ most) × (text ≡ decimal m ++ 32 ∷ more)) ⊎ ((more : List ℕ) × (text ≡ codes "STEP" ++ 32 ∷ more))

pub starts_word : (least most : ℕ) (text : List ℕ) → Starts least most text → BeginsWord text
starts_word least most text (inl (m, more, low, high, is)) = inr (decimal m, more, decimal_lacks 10 m (omega arith), is)
starts_word least most text (inr (more, is)) = inr (codes "STEP", more, ((let f : 83 ≢ 10 = grind arith in f), ((let f : 84 ≢ 10 = grind arith in f), ((let f : 69 ≢ 10 = grind arith in f), ((let f : 80 ≢ 10 = grind arith in f), tt)))), is)

pub starts_past : (least most : ℕ) (text : List ℕ) (number : ℕ) (t : Name) → Starts least most text → number < least → number < 2 ^ 64 → most < 2 ^ 64 → IsPast number t text
starts_past least most text number t (inl (m, more, low, high, is)) below small few rest e =
    let under : number < m = omega (arith, below, low) in
    let inside : m < 2 ^ 64 = omega (arith, high, few) in
    let same = (cut_at 32 (decimal m) (decimal number) more (trimmed t ++ (codes " " ++ rest)) (decimal_lacks 32 m (omega arith)) (decimal_lacks 32 number (omega arith)) (sym is ∙ e ∙ parts (decimal number) (trimmed t))).0 in
    let f = decimal_injective m number inside small same in
    absurd (omega (arith, f, under)) where
      parts : (n t : List ℕ) → (n ++ codes " " ++ t ++ codes " ") ++ rest ≡ n ++ 32 ∷ (t ++ (codes " " ++ rest))
      parts n t = search (append_assoc)
starts_past least most text number t (inr (more, is)) below small few rest e =
    let same = (cut_at 32 (codes "STEP") (decimal number) more (trimmed t ++ (codes " " ++ rest)) ((let f : 83 ≢ 32 = grind arith in f), ((let f : 84 ≢ 32 = grind arith in f), ((let f : 69 ≢ 32 = grind arith in f), ((let f : 80 ≢ 32 = grind arith in f), tt)))) (decimal_lacks 32 number (omega arith)) (sym is ∙ e ∙ parts (decimal number) (trimmed t))).0 in
    true_false (sym (decimal_writes number small).digits ∙ ap (list_all is_digit) (sym same)) where
      parts : (n t : List ℕ) → (n ++ codes " " ++ t ++ codes " ") ++ rest ≡ n ++ 32 ∷ (t ++ (codes " " ++ rest))
      parts n t = search (append_assoc)

reply_starts : (number : ℕ) (t : Name) (text rest : List ℕ) → (more : List ℕ) × (reply_line number t text ++ rest ≡ decimal number ++ 32 ∷ more)
reply_starts number t text rest = (trimmed t ++ (codes " " ++ (text ++ (codes "\n" ++ rest))), parts (decimal number) (trimmed t)) where
  parts : (n t : List ℕ) → (n ++ codes " " ++ t ++ codes " " ++ text ++ codes "\n") ++ rest ≡ n ++ 32 ∷ (t ++ (codes " " ++ (text ++ (codes "\n" ++ rest))))
  parts n t = search (append_assoc)

-- A text is empty, or begins with the number of a line.
abbrev Numbered : ℕ → List ℕ → Type 0
Numbered number text = (text ≡ []) ⊎ ((more : List ℕ) × (text ≡ decimal number ++ 32 ∷ more))

numbered_reply : (number : ℕ) (t : Name) (text : List ℕ) → Numbered number (reply_line number t text)
numbered_reply number t text = let r = reply_starts number t text [] in inr (r.0, sym (append-nil (reply_line number t text)) ∙ r.1)

numbered_more : (number : ℕ) (t : Name) (text rest : List ℕ) → Numbered number (reply_line number t text ++ rest)
numbered_more number t text rest = inr (reply_starts number t text rest)

data_numbered : (number : ℕ) (t : Name) (k offset : ℕ) (bytes : List ℕ) → Numbered number (data_lines number t k offset bytes)
unfolding data_lines
data_numbered number t zero offset bytes = inl refl
data_numbered number t (suc k) offset bytes = numbered_more number t _ _

answer_numbered : (number : ℕ) (t : Name) (x : Answer) → Numbered number (answer_text number t x)
answer_numbered number t (Data bytes) = data_numbered number t _ 0 bytes
answer_numbered number t (Abended code fallen) = numbered_more number t _ _
answer_numbered number t (Subpools []) = numbered_reply number t _
answer_numbered number t (Subpools (l ∷ ls)) = numbered_more number t _ _
answer_numbered number t (Map []) = inl refl
answer_numbered number t (Map (r ∷ rs)) = numbered_more number t _ _
answer_numbered number t NotRun = numbered_reply number t _
answer_numbered number t NoName = numbered_reply number t _
answer_numbered number t (At a) = numbered_reply number t _
answer_numbered number t Rc0 = numbered_reply number t _
answer_numbered number t (Granted n) = numbered_reply number t _
answer_numbered number t Rc4 = numbered_reply number t _
answer_numbered number t Cell = numbered_reply number t _
answer_numbered number t NoCell = numbered_reply number t _
answer_numbered number t Attached = numbered_reply number t _
answer_numbered number t Ended = numbered_reply number t _
answer_numbered number t Done = numbered_reply number t _
answer_numbered number t (Region card) = numbered_reply number t _

fault_starts : (number : ℕ) (events : List Event) (fault : ℕ) → (text : List ℕ) → text ≡ decimal number ++ codes " JS0" ++ decimal fault ++ codes "\nJOB FAULT RC 12\n" → (more : List ℕ) × (text ≡ decimal number ++ 32 ∷ more)
fault_starts number events fault text e = (codes "JS0" ++ (decimal fault ++ codes "\nJOB FAULT RC 12\n"), e ∙ parts (decimal number) (decimal fault)) where
  parts : (n f : List ℕ) → n ++ codes " JS0" ++ f ++ codes "\nJOB FAULT RC 12\n" ≡ n ++ 32 ∷ (codes "JS0" ++ (f ++ codes "\nJOB FAULT RC 12\n"))
  parts n f = search (append_assoc)

end_starts : (least most : ℕ) (abended : Bool) (rest : List ℕ) → Starts least most (text_of (StepEnded abended) ++ rest)
end_starts least most true rest = inr (codes "ENDED RC 8\n" ++ rest, refl)
end_starts least most false rest = inr (codes "ENDED RC 0\n" ++ rest, refl)

-- the events of a line, and what is printed after them
module _ (number most : ℕ) (few : number ≤ most) (more : List Event) where
  abbrev OfLine : List Event → Type 0
  OfLine events = (printing (events ++ more) ≡ printing more) ⊎ Starts number most (printing (events ++ more))

  of_answer : (t : Name) (x : Answer) → OfLine (AnswerTo number t x ∷ [])
  of_answer t x = at (answer_numbered number t x) where
    at : Numbered number (answer_text number t x) → OfLine (AnswerTo number t x ∷ [])
    at (inl none) = inl (ap (λ y. y ++ printing more) none)
    at (inr (rest, is)) = inr (inl (number, (rest ++ printing more), omega arith, few, (ap (λ y. y ++ printing more) is ∙ append_assoc (decimal number) (32 ∷ rest) (printing more))))

  of_ending : (old : Option JobValue) (x : Event) → OfLine (x ∷ []) → OfLine (ending machine old ++ x ∷ [])
  of_ending None x f = f
  of_ending (Some job) x f = inr (end_starts number most job.abended (text_of x ++ printing more))

  of_line : (old : Option JobValue) (l : Line) (events : List Event) (new : Option JobValue) → Serves machine number old l events new → OfLine events
  of_line old line.Nothing events new h = subst OfLine (sym h.0) (inl refl)
  of_line old (line.Statement t (statement.Region below above fill residence)) events new h = subst OfLine (sym h.0) (of_ending old _ (of_answer t (Region (card_of t below above fill residence))))
  of_line None (line.Statement t (statement.Request k)) events new h = absurd h
  of_line None (line.Statement t (statement.Where name)) events new h = absurd h
  of_line None (line.Statement t statement.ReportSubpools) events new h = absurd h
  of_line None (line.Statement t statement.ReportMap) events new h = absurd h
  of_line (Some job) (line.Statement t (statement.Request k)) events new h = subst OfLine (sym h.3) (of_answer t h.0)
  of_line (Some job) (line.Statement t (statement.Where name)) events new h = subst OfLine (sym h.3) (of_answer t h.0)
  of_line (Some job) (line.Statement t statement.ReportSubpools) events new h = subst OfLine (sym h.3) (of_answer t h.0)
  of_line (Some job) (line.Statement t statement.ReportMap) events new h = subst OfLine (sym h.3) (of_answer t h.0)

starts_later : (low least most : ℕ) (text : List ℕ) → low ≤ least → Starts least most text → Starts low most text
starts_later low least most text below (inl (m, more, above, high, is)) = inl (m, more, omega (arith, below, above), high, is)
starts_later low least most text below (inr x) = inr x

-- What a job prints from a line on begins with the number of that line or a later one, or as the end of a step does.
pub walk_starts : (outcome : Outcome) (most number : ℕ) (old : Option JobValue) (lines : List (List ℕ)) (events : List Event) → number + length lines ≤ most → Walks machine (JobEnds machine outcome) number old lines events → Starts number most (printing events)
walk_starts outcome most number None [] events few h = subst (λ e. Starts number most (printing e)) (sym h.0) (let f = fault_starts number [] 9 _ refl in inl (number, (f.0 ++ []), omega arith, (let g = few in omega (arith, g)), (ap (λ y. y ++ []) f.1 ∙ append_assoc (decimal number) (32 ∷ f.0) [])))
walk_starts outcome most number (Some job) [] events few h = subst (λ e. Starts number most (printing e)) (sym h.0) (end_starts number most job.abended [])
walk_starts outcome most number old (l ∷ lines) events few (inl h) = subst (λ e. Starts number most (printing e)) (sym h.0.2) (let f = fault_starts number [] (fault_number h.0.0) _ refl in inl (number, (f.0 ++ []), omega arith, (let g = few in omega (arith, g)), (ap (λ y. y ++ []) f.1 ∙ append_assoc (decimal number) (32 ∷ f.0) [])))
walk_starts outcome most number old (l ∷ lines) events few (inr (mid, first, rest, serves, e, more)) =
    subst (λ e. Starts number most (printing e)) (sym e)
    (elim (of_line number most (let g = few in omega (arith, g)) rest old serves.0 first mid serves.2) [
      | inl same ↦ subst (Starts number most) (sym same) (starts_later number (number + 1) most (printing rest) (omega arith) (walk_starts outcome most (number + 1) mid lines rest (let g = few in omega (arith, g)) more))
      | inr starts ↦ starts
    ])

-- The lines of a text are at most as many as its bytes.
pub few_lines : (text : List ℕ) → length (lines_of text) ≤ length text
few_lines [] = omega arith
few_lines (b ∷ bs) = at (b == 10) (few_lines bs) where
  onto : (lines : List (List ℕ)) → length (onto_first b lines) ≤ 1 + length lines
  onto [] = omega arith
  onto (l ∷ lines) = omega arith

  at : (feed : Bool) → length (lines_of bs) ≤ length bs → length (if feed then [] ∷ lines_of bs else onto_first b (lines_of bs)) ≤ length (b ∷ bs)
  at true f = omega (arith, f)
  at false f = let o = onto (lines_of bs) in omega (arith, f, o)
