-- What printed lines say of an answer: the explanation, the rule that it names, and the code of an abend.
use Rattle.std.specs.Prelude.{ℕ, ◌-◌, ◌==◌, Bool, if◌then◌else◌, List, [], ◌∷◌, length, drop, reverse, Option, Some, None, option_map, codes}
use Rattle.std.specs.List.{before_first}
use Rattle.mvs_model.specs.Lines.{lines_of}
use Rattle.expected_answers.specs.ExpectedAnswers.{after_prefix, ends_step}
use Rattle.language_server.specs.Words.{leading_number, run_length}

-- the text of a line that begins with an asterisk
abbrev pub starred : List ℕ → Option (List ℕ)
starred line = after_prefix (codes "* ") line

abbrev pub onto_starred : Option (List ℕ) → List (List ℕ) → List (List ℕ)
onto_starred None texts = texts
onto_starred (Some text) texts = text ∷ texts

-- the lines of an explanation: the texts of those with an asterisk, up to the end of a step
abbrev pub explanation_in : List (List ℕ) → List (List ℕ)
explanation_in [] = []
explanation_in (line ∷ lines) = if ends_step line then [] else onto_starred (starred line) (explanation_in lines)

abbrev pub explanation_of : List ℕ → List (List ℕ)
explanation_of others = explanation_in (lines_of others)

-- ---- rules

abbrev pub is_open : ℕ → Bool
is_open b = b == 40

-- what is after the last opening parenthesis of a text; all of it, if it has none
abbrev pub after_open : List ℕ → List ℕ
after_open text = drop (length text - run_length is_open (reverse text)) text

abbrev pub or_text : Option (List ℕ) → Option (List ℕ) → Option (List ℕ)
or_text None other = other
or_text (Some text) other = Some text

abbrev pub number_after : Option (List ℕ) → Option ℕ
number_after None = None
number_after (Some text) = leading_number text

-- what follows `rule` or `rules` there
abbrev pub after_rule : List ℕ → Option (List ℕ)
after_rule text = or_text (after_prefix (codes "rule ") (after_open text)) (after_prefix (codes "rules ") (after_open text))

-- the number of the rule that a line of an explanation names
abbrev pub rule_in : List ℕ → Option ℕ
rule_in text = number_after (after_rule text)

abbrev pub rule_of : Option (List ℕ) → Option ℕ
rule_of None = None
rule_of (Some text) = rule_in text

abbrev pub or_rule : Option ℕ → Option ℕ → Option ℕ
or_rule None other = other
or_rule (Some number) other = Some number

-- the first rule that an explanation names
abbrev pub first_rule : List (List ℕ) → Option ℕ
first_rule [] = None
first_rule (text ∷ texts) = or_rule (rule_in text) (first_rule texts)

-- ---- codes

-- the code of an abend that an answer has
abbrev pub abend_code : List ℕ → Option (List ℕ)
abend_code answer = option_map (before_first (λ b. b == 32)) (after_prefix (codes "ABEND ") answer)
