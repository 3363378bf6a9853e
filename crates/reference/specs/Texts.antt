-- What there is a text for, and what each text begins with.
use Rattle.std.specs.Prelude.{◌≡◌, ℕ, List, [], ◌∷◌, ◌++◌, ◌+◌, ◌/◌, ◌%◌, ◌≤◌, nat_lt, Bool, true, false, length, take, codes}

-- the system codes that a run can print
abbrev pub system_codes : List (List ℕ)
system_codes = codes "S804" ∷ codes "S80A" ∷ codes "S878" ∷ codes "SB04" ∷ codes "SB05" ∷ codes "SB0A" ∷ codes "SB78" ∷ codes "S905" ∷ codes "S90A" ∷ codes "S978" ∷ codes "SA05" ∷ codes "SA0A" ∷ codes "SA78" ∷ codes "S0C4" ∷ codes "SA03" ∷ []

-- the user codes of this machine
abbrev pub user_codes : List (List ℕ)
user_codes = codes "U4001" ∷ codes "U4002" ∷ codes "U4003" ∷ codes "U4005" ∷ codes "U4006" ∷ codes "U4007" ∷ codes "U4008" ∷ codes "U4009" ∷ []

-- the faults of a line
abbrev pub faults : List (List ℕ)
faults = codes "JS01" ∷ codes "JS02" ∷ codes "JS03" ∷ codes "JS04" ∷ codes "JS05" ∷ codes "JS06" ∷ codes "JS07" ∷ codes "JS08" ∷ codes "JS09" ∷ []

-- the replies that are neither abends nor plain successes
abbrev pub replies : List (List ℕ)
replies = codes "RC 4" ∷ codes "NO CELL" ∷ codes "NOT RUN" ∷ codes "NO NAME" ∷ []

-- all of these
abbrev pub names : List (List ℕ)
names = ((system_codes ++ user_codes) ++ faults) ++ replies

-- The text begins with a name and a colon.
abbrev pub IsAbout : List ℕ → List ℕ → Type 0
IsAbout name text = take (length name + 2) text ≡ name ++ codes ": "

-- a number below 100 in decimal
abbrev pub digits_of : Bool → ℕ → List ℕ
digits_of true n = (48 + n) ∷ []
digits_of false n = (48 + n / 10) ∷ (48 + n % 10) ∷ []

-- the name of a rule, which has a number below 100
abbrev pub rule_name : ℕ → List ℕ
rule_name number = codes "Rule " ++ digits_of (nat_lt number 10) number

-- A number is that of a rule.
abbrev pub IsRule : ℕ → Type 0
IsRule n = (1 ≤ n) × (n ≤ 74)
