-- The lines of a document whose requests were refused, or that were not executed.
use Rattle.std.specs.Prelude.{ℕ, ◌+◌, ◌||◌, nat_eq, Bool, true, false, List, [], ◌∷◌, codes}
use Rattle.std.specs.List.{starts_with}
use Rattle.language_server.specs.LineOutputs.{LineOutputValue}

-- whether an answer is one of a request that was refused, or of a line that was not executed
unfoldable pub is_refused : List ℕ → Bool
is_refused answer =
    starts_with nat_eq answer (codes "RC 4") || (starts_with nat_eq answer (codes "NO CELL") || (starts_with nat_eq answer (codes "NOT RUN") || (starts_with nat_eq answer (codes "NO NAME") || starts_with nat_eq answer (codes "ABEND "))))

abbrev pub onto_line : Bool → ℕ → List ℕ → List ℕ
onto_line true n lines = n ∷ lines
onto_line false n lines = lines

-- these lines, by the numbers of the lines before them, for outputs of which the first belongs to a line
abbrev pub refused_from : ℕ → List LineOutputValue → List ℕ
refused_from n [] = []
refused_from n (t ∷ outputs) = onto_line (is_refused t.answer) n (refused_from (n + 1) outputs)
