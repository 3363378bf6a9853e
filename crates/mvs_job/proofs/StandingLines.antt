-- Each line of what is printed for events stands whole in it, and none begins with an asterisk, where no name in the events has a line feed.
use Rattle.std.proofs.Common.{◌≡◌, ◌≢◌, ◌≤◌, ℕ, zero, suc, ◌+◌, ◌/◌, ◌%◌, ◌==◌, nat_lt, List, [], ◌∷◌, ◌++◌, take, drop, codes, decimal, append_assoc, append-nil, arith, Bool, true, false, not, cond, Option, Some, None, refl, sym, ap, ◌∙◌, subst}
use Rattle.std.specs.Fmt.{digits, digits_onto, digit_glyph}
use Rattle.std.specs.Prelude.{slice_index}
use Rattle.std.specs.List.{flat_map, filter, list_all, AllByRecursion}
use Rattle.std.proofs.lemmas.Bool.{and_parts}
use Rattle.std.proofs.lemmas.Bool.Decides.{nat_tests}
use Rattle.mvs_model.specs.declared.code.Code.{Code}
use Rattle.mvs_model.specs.declared.code.Code.TheVariants.{System, User}
use Rattle.mvs_model.specs.declared.name.Name.{Name}
use Rattle.mvs_model.specs.declared.report.MapRun.{MapRun}
use Rattle.mvs_model.specs.declared.report.SubpoolLine.{SubpoolLine}
use Rattle.mvs_model.specs.Card.{CardValue}
use Rattle.mvs_model.specs.Answers.{Answer, NotRun, NoName, At, Rc0, Granted, Rc4, Cell, NoCell, Attached, Ended, Done, Data, Abended, Subpools, Map, Region, Event, AnswerTo, StepEnded, Faulted}
use Rattle.mvs_model.specs.Lines.{IsUnended, ended_text, lines_of}
use Rattle.mvs_model.specs.Name.{trimmed}
use Rattle.mvs_model.specs.Numbers.{line_bytes}
use Rattle.mvs_model.specs.Texts.{answer_text, code_text, data_lines, fault_number, glyph, hex, label_text, last_digits, map_text, printing, region_text, reply_line, subpool_text, text_of}
use Rattle.mvs_job.specs.Explaining.{without_starred}
use Rattle.mvs_job.proofs.Feeding.{lines_ended}
use Rattle.mvs_job.proofs.ReadNames.{unended_both, unended_front}

-- ---- digits

no_feed : (b : ℕ) → 48 ≤ b → b ≢ 10
no_feed b h1 = grind arith

shown : (b : Bool) (d : ℕ) → 48 ≤ cond b (48 + d) (55 + d)
shown true d = omega arith
shown false d = omega arith

hex_unended : (base k n : ℕ) → IsUnended (last_digits base k n)
unfolding last_digits
hex_unended base zero n = tt
hex_unended base (suc k) n = unended_both (last_digits base k (n / base)) (glyph (n % base) ∷ []) (hex_unended base k (n / base)) (no_feed _ (shown (nat_lt (n % base) 10) (n % base)), tt)

-- The text has a first byte, which is a digit or after the digits, and so are all.
record IsShown (text : List ℕ) : Type 0 where
  first : ℕ
  rest : List ℕ
  is : text ≡ first ∷ rest
  digit : 48 ≤ first
  unended : IsUnended text

-- the last digit of a number, in front of more
last : (n : ℕ) → 48 ≤ digit_glyph false (n % 10)
last n = at (nat_lt (n % 10) 10) where
  at : (b : Bool) → 48 ≤ cond b (48 + n % 10) (87 + n % 10)
  at true = omega arith
  at false = omega arith

in_front : (n : ℕ) (acc : List ℕ) → IsUnended acc → IsShown (digit_glyph false (n % 10) ∷ acc)
in_front n acc h = record { first = _; rest = acc; is = refl; digit = last n; unended = (no_feed _ (last n), h) }

put : (k n : ℕ) (acc : List ℕ) → IsShown acc → IsShown (digits_onto k 10 false n acc)
put zero n acc h = h
put (suc k) n acc h = at (n / 10 == 0) (put k (n / 10) (digit_glyph false (n % 10) ∷ acc) (in_front n acc h.unended)) where
  at : (b : Bool) → IsShown (digits_onto k 10 false (n / 10) (digit_glyph false (n % 10) ∷ acc)) → IsShown (cond b (digit_glyph false (n % 10) ∷ acc) (digits_onto k 10 false (n / 10) (digit_glyph false (n % 10) ∷ acc)))
  at true more = in_front n acc h.unended
  at false more = more

put_all : (k n : ℕ) → IsShown (digits_onto (suc k) 10 false n [])
put_all k n = at (n / 10 == 0) where
  at : (b : Bool) → IsShown (cond b (digit_glyph false (n % 10) ∷ []) (digits_onto k 10 false (n / 10) (digit_glyph false (n % 10) ∷ [])))
  at true = in_front n [] tt
  at false = put k (n / 10) (digit_glyph false (n % 10) ∷ []) (in_front n [] tt)

decimal_shown : (n : ℕ) → IsShown (decimal n)
unfolding digits
decimal_shown n = put_all 63 n

-- ---- lines that stand

-- In front of another text this one stays whole.
abbrev pub Stays : List ℕ → Type 0
Stays text = (more : List ℕ) → without_starred (text ++ more) ≡ text ++ without_starred more

stays_nothing : Stays []
stays_nothing more = refl

stays_both : (one other : List ℕ) → Stays one → Stays other → Stays (one ++ other)
stays_both one other a b more = ap without_starred (append_assoc one other more) ∙ a (other ++ more) ∙ ap (λ x. one ++ x) (b more) ∙ sym (append_assoc one other (without_starred more))

stays_line : (text : List ℕ) → IsUnended text → (slice_index text 0 == 42) ≡ false → Stays (text ++ 10 ∷ [])
stays_line text none other more =
    ap (λ ls. ended_text (filter (λ l. not (slice_index l 0 == 42)) ls)) (ap lines_of (append_assoc text (10 ∷ []) more) ∙ lines_ended text more none)
    ∙ ap (λ b. ended_text (cond (not b) (text ∷ filter (λ l. not (slice_index l 0 == 42)) (lines_of more)) (filter (λ l. not (slice_index l 0 == 42)) (lines_of more)))) other
    ∙ sym (append_assoc text (10 ∷ []) (without_starred more))

stays_each : {X : Type 0} (P : X → Type 0) (f : X → List ℕ) → ((x : X) → P x → Stays (f x)) → (xs : List X) → AllByRecursion P xs → Stays (flat_map f xs)
stays_each P f each [] all = stays_nothing
stays_each P f each (x ∷ xs) all = stays_both (f x) (flat_map f xs) (each x all.0) (stays_each P f each xs all.1)

-- ---- what is printed

-- The text has no line feed.
record IsOneLine (text : List ℕ) : Type 0 where
  unended : IsUnended text

infixl 50 ◌~◌
◌~◌ : {one other : List ℕ} → IsOneLine one → IsOneLine other → IsOneLine (one ++ other)
◌~◌ {one} {other} a b = record { unended = unended_both one other a.unended b.unended }

has_none : (text : List ℕ) → list_all (λ b. not (b == 10)) text ≡ true → IsUnended text
has_none [] e = tt
has_none (b ∷ text) e = let a = and_parts (not (b == 10)) (list_all (λ b. not (b == 10)) text) e in ((let f : not (b == 10) ≡ true = a.0 in let g : b ≢ 10 = grind (arith, nat_tests) in g), has_none text a.1)

word : (text : List ℕ) → list_all (λ b. not (b == 10)) text ≡ true → IsOneLine text
word text e = record { unended = has_none text e }

number : (n : ℕ) → IsOneLine (decimal n)
number n = record { unended = (decimal_shown n).unended }

digits_of : (base k n : ℕ) → IsOneLine (last_digits base k n)
digits_of base k n = record { unended = hex_unended base k n }

named : (t : Name) → IsUnended t → IsOneLine (trimmed t)
named t h = record { unended = unended_front _ t h }

shown_more : {text more : List ℕ} → IsShown text → IsOneLine more → IsShown (text ++ more)
shown_more {text} {more} h k = record { first = h.first; rest = h.rest ++ more; is = ap (λ x. x ++ more) h.is; digit = h.digit; unended = unended_both text more h.unended k.unended }

shown_stays : (text : List ℕ) → IsShown text → Stays (text ++ 10 ∷ [])
shown_stays text h = stays_line text h.unended (subst (λ x. (slice_index x 0 == 42) ≡ false) (sym h.is) (let k : 48 ≤ h.first = h.digit in let g : (h.first == 42) ≡ false = grind (arith, nat_tests) in g))

blank : IsOneLine (codes " ")
blank = word (codes " ") refl

reply_stays : (n : ℕ) (t : Name) {text : List ℕ} → IsUnended t → IsOneLine text → Stays (reply_line n t text)
reply_stays n t h k = shown_stays _ (shown_more (shown_more (shown_more (shown_more (decimal_shown n) blank) (named t h)) blank) k)

code_line : (code : Code) → IsOneLine (code_text code)
code_line (System n) = word (codes "S") refl ~ digits_of 16 3 n
code_line (User n) = word (codes "U") refl ~ digits_of 10 4 n

bytes_line : (bytes : List ℕ) → IsOneLine (flat_map (hex 2) bytes)
bytes_line [] = word [] refl
bytes_line (b ∷ bytes) = digits_of 16 2 b ~ bytes_line bytes

data_stays : (n : ℕ) (t : Name) (lines offset : ℕ) (bytes : List ℕ) → IsUnended t → Stays (data_lines n t lines offset bytes)
unfolding data_lines
data_stays n t zero offset bytes h = stays_nothing
data_stays n t (suc lines) offset bytes h =
    stays_both _ _ (reply_stays n t h (word (codes "DATA +") refl ~ digits_of 16 4 offset ~ blank ~ bytes_line (take line_bytes bytes))) (data_stays n t lines (offset + line_bytes) (drop line_bytes bytes) h)

whose : (owned : Bool) → IsOneLine (cond owned (codes " OWNED PLAIN ") (codes " SHARED PLAIN "))
whose true = word (codes " OWNED PLAIN ") refl
whose false = word (codes " SHARED PLAIN ") refl

subpool_line : (l : SubpoolLine) → IsOneLine (subpool_text l)
subpool_line l = word (codes "SP ") refl ~ number l.number ~ whose l.owned ~ number l.plain ~ word (codes " POOL ") refl ~ number l.pool

-- The owner of what pages are assigned to has none.
abbrev pub HolderUnended : Option (ℕ × Name) → Type 0
HolderUnended None = Unit {0}
HolderUnended (Some label) = IsUnended label.1

label_line : (label : Option (ℕ × Name)) → HolderUnended label → IsOneLine (label_text label)
label_line None h = word (codes "FREE") refl
label_line (Some label) h = word (codes "SP ") refl ~ number label.0 ~ word (codes " OWNER ") refl ~ named label.1 h

map_line : (r : MapRun) → HolderUnended r.holder → IsOneLine (map_text r)
map_line r h = word (codes "MAP ") refl ~ digits_of 16 8 r.addr ~ blank ~ digits_of 16 8 r.len ~ blank ~ label_line r.holder h

region_line : (card : CardValue) → IsOneLine (region_text card)
region_line card = word (codes "REGION BELOW ") refl ~ number card.below ~ word (codes " ABOVE ") refl ~ number card.above

-- The names in an answer have none.
abbrev pub AnswerUnended : Answer → Type 0
AnswerUnended (Abended code fallen) = AllByRecursion IsUnended fallen
AnswerUnended (Map runs) = AllByRecursion (λ r. HolderUnended r.holder) runs
AnswerUnended _ = Unit {0}

any : {X : Type 0} (xs : List X) → AllByRecursion (λ _. Unit {0}) xs
any [] = tt
any (x ∷ xs) = (tt, any xs)

answer_stays : (n : ℕ) (t : Name) (answer : Answer) → IsUnended t → AnswerUnended answer → Stays (answer_text n t answer)
answer_stays n t (Data bytes) h k = data_stays n t _ 0 bytes h
answer_stays n t (Abended code fallen) h k =
    stays_both _ _ (reply_stays n t h (word (codes "ABEND ") refl ~ code_line code)) (stays_each IsUnended _ (λ x fine. reply_stays n x fine (word (codes "ENDED WITH ") refl ~ named t h)) fallen k)
answer_stays n t (Subpools []) h k = reply_stays n t h (word (codes "SP NONE") refl)
answer_stays n t (Subpools (l ∷ lines)) h k = stays_each (λ _. Unit {0}) _ (λ l _. reply_stays n t h (subpool_line l)) (l ∷ lines) (any (l ∷ lines))
answer_stays n t (Map runs) h k = stays_each (λ r. HolderUnended r.holder) _ (λ r fine. reply_stays n t h (map_line r fine)) runs k
answer_stays n t NotRun h k = reply_stays n t h (word (codes "NOT RUN") refl)
answer_stays n t NoName h k = reply_stays n t h (word (codes "NO NAME") refl)
answer_stays n t (At a) h k = reply_stays n t h (word (codes "AT ") refl ~ digits_of 16 8 a)
answer_stays n t Rc0 h k = reply_stays n t h (word (codes "RC 0") refl)
answer_stays n t (Granted len) h k = reply_stays n t h (word (codes "RC 0 LENGTH ") refl ~ digits_of 16 8 len)
answer_stays n t Rc4 h k = reply_stays n t h (word (codes "RC 4") refl)
answer_stays n t Cell h k = reply_stays n t h (word (codes "CELL") refl)
answer_stays n t NoCell h k = reply_stays n t h (word (codes "NO CELL") refl)
answer_stays n t Attached h k = reply_stays n t h (word (codes "ATTACHED") refl)
answer_stays n t Ended h k = reply_stays n t h (word (codes "ENDED") refl)
answer_stays n t Done h k = reply_stays n t h (word (codes "OK") refl)
answer_stays n t (Region card) h k = reply_stays n t h (region_line card)

-- The names in an event have none.
abbrev pub EventUnended : Event → Type 0
EventUnended (AnswerTo number t answer) = IsUnended t × AnswerUnended answer
EventUnended _ = Unit {0}

letter : (first : ℕ) (rest : List ℕ) → 48 ≤ first → list_all (λ b. not (b == 10)) (first ∷ rest) ≡ true → IsShown (first ∷ rest)
letter first rest h e = record { first = first; rest = rest; is = refl; digit = h; unended = has_none (first ∷ rest) e }

event_stays : (event : Event) → EventUnended event → Stays (text_of event)
event_stays (AnswerTo n t answer) h = answer_stays n t answer h.0 h.1
event_stays (StepEnded true) h = shown_stays _ (letter 83 (codes "TEP ENDED RC 8") (omega arith) refl)
event_stays (StepEnded false) h = shown_stays _ (letter 83 (codes "TEP ENDED RC 0") (omega arith) refl)
event_stays (Faulted n fault) h =
    subst Stays (append_assoc (decimal n ++ codes " JS0" ++ decimal (fault_number fault)) (codes "\n") (codes "JOB FAULT RC 12\n"))
    (stays_both _ _ (shown_stays _ (shown_more (shown_more (decimal_shown n) (word (codes " JS0") refl)) (number (fault_number fault)))) (shown_stays _ (letter 74 (codes "OB FAULT RC 12") (omega arith) refl)))

-- What is printed has no line that begins with an asterisk.
pub printing_stands : (events : List Event) → AllByRecursion EventUnended events → without_starred (printing events) ≡ printing events
printing_stands events h = ap without_starred (sym (append-nil (printing events))) ∙ stays_each EventUnended text_of event_stays events h [] ∙ append-nil (printing events)
