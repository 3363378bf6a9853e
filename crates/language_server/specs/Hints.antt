-- The hints of a document: the answer after each statement that has one.
use Rattle.std.specs.Prelude.{ℕ, ◌+◌, ◌==◌, ◌&&◌, not, nat_le, nat_lt, Bool, true, false, List, [], ◌∷◌, ◌++◌, length, take, codes}
use Rattle.language_server.specs.LineOutputs.{LineOutputValue}

-- a hint: the number of the lines before its line, its place, and its text
pub record HintValue : Type 0 where
  pub line : ℕ
  pub place : ℕ
  pub label : List ℕ

-- the most bytes of an answer that a hint has
abbrev pub most_label : ℕ
most_label = 60

-- the end of a hint, whose answer is cut or not
abbrev pub cut_mark : Bool → List ℕ
cut_mark true = codes " .."
cut_mark false = []

-- the text of a hint: the answer, or its front
unfoldable pub labelled : ℕ → List ℕ → List ℕ
labelled most answer = take most answer ++ cut_mark (nat_lt most (length answer))

abbrev pub label_of : List ℕ → List ℕ
label_of answer = labelled most_label answer

-- whether a line of some has a hint
abbrev pub is_hinted : ℕ → ℕ → ℕ → LineOutputValue → Bool
is_hinted first last n t = not (length t.answer == 0) && (nat_le first n && nat_le n last)

abbrev pub onto_hint : Bool → HintValue → List HintValue → List HintValue
onto_hint true hint hints = hint ∷ hints
onto_hint false hint hints = hints

-- the hints of the lines from the first to the last, each at the place of its line, for outputs of which the first belongs to a line
abbrev pub hints_from : (ℕ → ℕ) → ℕ → ℕ → ℕ → List LineOutputValue → List HintValue
hints_from place n first last [] = []
hints_from place n first last (t ∷ outputs) =
    onto_hint (is_hinted first last n t) (record { line = n; place = place n; label = label_of t.answer }) (hints_from place (n + 1) first last outputs)
