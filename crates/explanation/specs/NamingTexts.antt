-- What is printed of an address that a name has in its place, with the rule of RULES.md that says so. (this project's own notation)
use Rattle.std.specs.Prelude.{ℕ, ◌-◌, ◌==◌, List, ◌++◌, codes, decimal, if◌then◌else◌}
use Rattle.mvs_model.specs.declared.name.Name.{Name}
use Rattle.mvs_model.specs.Name.{trimmed}
use Rattle.mvs_model.specs.Place.{PlaceValue}
use Rattle.mvs_model.specs.Texts.{hex}
use Rattle.explanation.specs.FactTexts.{place_text}
use Rattle.explanation.specs.ReasonTexts.{one_line}

-- the line that obtained a place
abbrev pub by_line_text : ℕ → List ℕ
by_line_text number = codes " obtained in line " ++ decimal number ++ codes ". (rule 37)"

-- of an address at which the place of a name begins
abbrev pub first_text : Name → PlaceValue → ℕ → List ℕ
first_text name p number = hex 8 p.addr ++ codes " is " ++ trimmed name ++ codes ", " ++ decimal p.len ++ codes " bytes" ++ by_line_text number

-- the distance of an address in a place
abbrev pub into_text : ℕ → List ℕ
into_text n = decimal n ++ (if n == 1 then codes " byte into " else codes " bytes into ")

-- for an address in it
abbrev pub inside_text : ℕ → Name → PlaceValue → ℕ → List ℕ
inside_text a name p number = hex 8 a ++ codes " is " ++ into_text (a - p.addr) ++ trimmed name ++ codes ", " ++ place_text p ++ by_line_text number

-- of an address that a name has in its place, which the line of a number obtained
abbrev pub naming_words : ℕ → Name → PlaceValue → ℕ → List ℕ
naming_words a name p number = if a == p.addr then first_text name p number else inside_text a name p number

-- the line of it, which is a comment in the language of scripts
abbrev pub naming_line : ℕ → Name → PlaceValue → ℕ → List ℕ
naming_line a name p number = one_line (codes "* " ++ naming_words a name p number)
