-- The text of a page: escaped text, and the items. (this project's choice)
use Rattle.std.specs.Prelude.{ℕ, Bool, true, false, not, ◌==◌, ◌&&◌, nat_le, List, [], ◌∷◌, ◌++◌, take, drop, codes, decimal, if◌then◌else◌, Option, unwrap_or, option_map}
use Rattle.std.specs.List.{flat_map}
use Rattle.mvs_model.specs.Answers.{Answer, Event, Faulted}
use Rattle.mvs_model.specs.Answers as answer
use Rattle.mvs_model.specs.declared.line.Line.{Line}
use Rattle.mvs_model.specs.Job.{JobValue}
use Rattle.mvs_model.specs.Lines.{lines_of}
use Rattle.mvs_model.specs.Texts.{printing}
use Rattle.page.specs.Changes.{answer_in, changes_of}
use Rattle.page.specs.Lines.{change_lines}

-- ---- between tags

-- whether a byte begins or ends no tag and no attribute: it is none of `<`, `>` and `"`
abbrev pub is_plain_byte : ℕ → Bool
is_plain_byte b = not (b == 60) && (not (b == 62) && not (b == 34))

-- whether no tag and no attribute begins or ends in a text
abbrev pub is_plain : List ℕ → Bool
is_plain [] = true
is_plain (b ∷ bs) = is_plain_byte b && is_plain bs

-- how a byte is written between tags: the characters of tags and references by their references, and `?` for what is no character
-- of a script and no end of a line
abbrev pub escaped_byte : ℕ → List ℕ
escaped_byte b =
    if b == 38 then codes "&amp;" else if b == 60 then codes "&lt;" else if b == 62 then codes "&gt;" else if b == 34 then codes "&quot;"
    else if b == 10 then b ∷ [] else if nat_le 32 b && nat_le b 126 then b ∷ [] else codes "?"

-- a text, escaped
abbrev pub escaped : List ℕ → List ℕ
escaped text = flat_map escaped_byte text

-- ---- what a reader sees

-- Where a reader of a page is: in text, that of a `<pre>` or other, or in a tag that begins so.
pub data Reading : Type 0 where
  Inside : Bool → Reading
  Tag : List ℕ → Reading

-- whether a tag is that of a `<pre>` without a class
abbrev pub is_pre : List ℕ → Bool
is_pre (a ∷ (b ∷ (c ∷ []))) = (a == 112) && ((b == 114) && (c == 101))
is_pre _ = false

-- the texts of the `<pre>` without a class, one after another, as they are written
abbrev pub pre_texts : Reading → List ℕ → List ℕ
pre_texts r [] = []
pre_texts (Inside pre) (b ∷ bs) = if b == 60 then pre_texts (Tag []) bs else if pre then b ∷ pre_texts (Inside pre) bs else pre_texts (Inside pre) bs
pre_texts (Tag name) (b ∷ bs) = if b == 62 then pre_texts (Inside (is_pre name)) bs else pre_texts (Tag (name ++ b ∷ [])) bs

-- ---- items

-- the result of a statement: it was executed, it was refused and its task continues, or its task abended
abbrev pub answer_class : Answer → List ℕ
answer_class answer.NotRun = codes "no"
answer_class answer.NoName = codes "no"
answer_class answer.Rc4 = codes "no"
answer_class answer.NoCell = codes "no"
answer_class (answer.Abended code fallen) = codes "ab"
answer_class (answer.At addr) = codes "ok"
answer_class answer.Rc0 = codes "ok"
answer_class (answer.Granted n) = codes "ok"
answer_class answer.Cell = codes "ok"
answer_class answer.Attached = codes "ok"
answer_class answer.Ended = codes "ok"
answer_class answer.Done = codes "ok"
answer_class (answer.Data bytes) = codes "ok"
answer_class (answer.Subpools lines) = codes "ok"
answer_class (answer.Map runs) = codes "ok"
answer_class (answer.Region card) = codes "ok"

-- the result of the events of a line
abbrev pub class_of : List Event → List ℕ
class_of events = unwrap_or (option_map (λ said. answer_class said.1) (answer_in events)) (codes "ok")

-- the most bytes that are shown of a line
abbrev pub most_of_line : ℕ
most_of_line = 255

-- a line of the script
abbrev pub shown_line : List ℕ → List ℕ
shown_line l = escaped (take most_of_line l)

-- the explanations of an answer, without the asterisk and the blank before each line
abbrev pub words_of : List ℕ → List ℕ
words_of explanation = flat_map (λ l. escaped (drop 2 l) ++ codes "\n") (lines_of explanation)

-- the tag that begins the item of a statement: its number, and how it went
abbrev pub article_tag : ℕ → List ℕ → List ℕ
article_tag number how = codes "<article id=\"l" ++ (escaped (decimal number) ++ (codes "\" class=\"" ++ (how ++ codes "\">")))

-- the head of such an item: the tag, the number, and the line
abbrev pub head_of : ℕ → List ℕ → List ℕ → List ℕ
head_of number how l =
    article_tag number how ++ (codes "\n<h2>" ++ (escaped (decimal number) ++ (codes " <code>" ++ (shown_line l ++ codes "</code></h2>\n"))))

-- what a line prints
abbrev pub reply_of : List ℕ → List ℕ
reply_of printed = codes "<pre>" ++ (escaped printed ++ codes "</pre>\n")

-- the words of an item, and its lines of change
abbrev pub tail_of : List ℕ → List ℕ → List ℕ
tail_of explanation changes = codes "<p>" ++ (words_of explanation ++ (codes "</p>\n<pre class=\"d\">" ++ (escaped changes ++ codes "</pre>\n</article>\n")))

-- the tag that begins the item of a line that says nothing
abbrev pub note_tag : ℕ → List ℕ
note_tag number = codes "<p id=\"l" ++ (escaped (decimal number) ++ codes "\">")

-- the item of such a line
abbrev pub note_of : ℕ → List ℕ → List ℕ
note_of number l = note_tag number ++ (shown_line l ++ codes "</p>\n")

-- the item of an executed line: from its number and its bytes, its meaning and its events, the step after it, and the explanations
abbrev pub item_of : ℕ → List ℕ → Line → List Event → Option JobValue → List ℕ → List ℕ
item_of number l read [] new explanation = note_of number l
item_of number l read (e ∷ events) new explanation =
    head_of number (class_of (e ∷ events)) l ++ (reply_of (printing (e ∷ events)) ++ tail_of explanation (change_lines new (changes_of read (e ∷ events) new)))

-- the item of a line with a fault
abbrev pub fault_of : ℕ → List ℕ → List Event → List ℕ
fault_of number l events = head_of number (codes "js") l ++ (reply_of (printing events) ++ codes "<p>The job ends here.</p>\n</article>\n")

-- the end of a job that has no more lines
abbrev pub closing_of : List Event → List ℕ
closing_of events = reply_of (printing events)
