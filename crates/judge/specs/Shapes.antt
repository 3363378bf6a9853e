-- The shape of an answer: which one it is, and what it prints whatever its hexadecimal digits are.
use Rattle.std.specs.Prelude.{◌≡◌, ◌⊎◌, ℕ, ◌==◌, ◌++◌, Bool, true, false, List, [], ◌∷◌, if◌then◌else◌, slice_index}
use Rattle.std.specs.List.{after_first}
use Rattle.mvs_model.specs.declared.name.Name.{Name}
use Rattle.mvs_model.specs.declared.line.Line.{Line}
use Rattle.mvs_model.specs.declared.line.Line.TheVariants as line
use Rattle.mvs_model.specs.declared.line.Statement.TheVariants as says
use Rattle.mvs_model.specs.Reading.{is_hex_digit}
use Rattle.judge.specs.Outline.{head}

-- which answer it is, of those that places decide
pub data Sign : Type 0 where
  AtSign : Sign
  SystemSign : Sign
  UserSign : Sign
  Rc0Sign : Sign
  GrantedSign : Sign
  Rc4Sign : Sign
  CellSign : Sign
  NoCellSign : Sign
  DoneSign : Sign
  DataSign : Sign
  NoSign : Sign

-- a byte of a text, 0 behind its end
abbrev pub byte_at : List ℕ → ℕ → ℕ
byte_at text k = slice_index text k

-- by the first bytes of what comes after the task
abbrev pub sign_in : List ℕ → Sign
sign_in text =
    if byte_at text 0 == 65 then (if byte_at text 1 == 84 then AtSign else (if byte_at text 6 == 83 then SystemSign else UserSign))
    else (if byte_at text 0 == 82 then (if byte_at text 3 == 52 then Rc4Sign else (if byte_at text 4 == 10 then Rc0Sign else GrantedSign))
    else (if byte_at text 0 == 67 then CellSign
    else (if byte_at text 0 == 78 then NoCellSign
    else (if byte_at text 0 == 79 then DoneSign
    else DataSign))))

-- whether it is an abend
abbrev pub is_fall : Sign → Bool
is_fall SystemSign = true
is_fall UserSign = true
is_fall _ = false

-- the text with 0 for each of its hexadecimal digits
abbrev pub masked_byte : ℕ → ℕ
masked_byte b = if is_hex_digit b then 48 else b

abbrev pub masked : List ℕ → List ℕ
masked [] = []
masked (b ∷ text) = masked_byte b ∷ masked text

-- the lines after the first one
abbrev pub later : List ℕ → List ℕ
later text = after_first (λ b. b == 10) text

-- A text does not begin as another one does, whatever the hexadecimal digits are.
abbrev pub DiffersMasked : List ℕ → List ℕ → Type 0
DiffersMasked front text = (rest : List ℕ) → masked text ≡ masked front ++ rest → ⊥

-- The lines after its first one do not begin as those of another text.
abbrev pub DiffersLater : List ℕ → List ℕ → Type 0
DiffersLater front text = (rest : List ℕ) → later text ≡ later front ++ rest → ⊥

-- Two texts are the same answer, but the second one does not have its shape: an abend has the same lines after the first one.
abbrev pub AreUnlike : List ℕ → List ℕ → Type 0
AreUnlike front text = (sign_in front ≡ sign_in text) × (DiffersMasked front text ⊎ ((is_fall (sign_in front) ≡ true) × DiffersLater front text))

-- Both texts begin with the number and the task, and what comes after them is unlike.
abbrev pub AreUnlikeAfter : List ℕ → List ℕ → List ℕ → Type 0
AreUnlikeAfter front printed text = (one : List ℕ) × (other : List ℕ) × (printed ≡ front ++ one) × (text ≡ front ++ other) × AreUnlike one other

-- The line with this number is a request or a WHERE, which prints this in a run, and a text goes on with the same answer in another shape.
abbrev pub DiffersInShape : ℕ → Line → List ℕ → List ℕ → Type 0
DiffersInShape number (line.Statement t (says.Request k)) printed text = AreUnlikeAfter (head number t) printed text
DiffersInShape number (line.Statement t (says.Where name)) printed text = AreUnlikeAfter (head number t) printed text
DiffersInShape number (line.Statement t says.ReportSubpools) printed text = ⊥
DiffersInShape number (line.Statement t says.ReportMap) printed text = ⊥
DiffersInShape number (line.Statement t (says.Region below above fill residence)) printed text = ⊥
DiffersInShape number line.Nothing printed text = ⊥
