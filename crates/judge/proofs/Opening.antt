-- How the answers begin that places decide, and how long they are.
use Rattle.std.proofs.Common.{◌≡◌, ℕ, zero, suc, ◌+◌, ◌-◌, ◌<◌, ◌/◌, ◌%◌, List, [], ◌∷◌, ◌++◌, length, length-append, length-drop, min, append_assoc, codes, decimal, arith, refl, sym, ap, ◌∙◌}
use Rattle.std.specs.Prelude.{◌==◌, if◌then◌else◌, take, drop}
use Rattle.std.specs.List.{flat_map}
use Rattle.std.proofs.lemmas.List.{append_cancel_left, length-take}
use Rattle.mvs_laws.proofs.Types.{Name, Code, User, System}
use Rattle.mvs_model.specs.Name.{trimmed}
use Rattle.mvs_model.specs.Numbers.{line_bytes}
use Rattle.mvs_model.specs.Owners.{Owners, AreDescendants}
use Rattle.mvs_model.specs.Answers.{Answer, NotRun, At, Rc0, Granted, Rc4, Cell, NoCell, Done, Data, Abended}
use Rattle.mvs_model.specs.Texts.{answer_text, code_text, data_lines, hex, glyph, last_digits, line_count, reply_line}
use Rattle.mvs_model.proofs.OneOwners.{one_fallen}
use Rattle.mvs_model.proofs.OneSteps.{tail_of}
use Rattle.judge.specs.Outline.{abend_opening, head, way, Way, Stays, Falls, Goes}
use Rattle.judge.specs.Shapes.{Sign, AtSign, SystemSign, UserSign, Rc0Sign, GrantedSign, Rc4Sign, CellSign, NoCellSign, DoneSign, DataSign, NoSign, byte_at, sign_in}

-- ---- what stands after the task

pub line_head : (number : ℕ) (t : Name) (x : List ℕ) → reply_line number t x ≡ head number t ++ (x ++ codes "\n")
line_head number t x = parts (decimal number) (trimmed t) where
  parts : (d s : List ℕ) → d ++ codes " " ++ s ++ codes " " ++ x ++ codes "\n" ≡ (d ++ codes " " ++ s ++ codes " ") ++ (x ++ codes "\n")
  parts d s = search (append_assoc)

-- the tasks that ended with one
abbrev pub fallen_lines : ℕ → Name → List Name → List ℕ
fallen_lines number t fallen = flat_map (λ x. reply_line number x (codes "ENDED WITH " ++ trimmed t)) fallen

-- the answers that places decide, with the length of their data
abbrev pub Measured : Owners → Name → ℕ → Answer → Type 0
Measured o t n (At a) = Unit {0}
Measured o t n Rc0 = Unit {0}
Measured o t n (Granted k) = Unit {0}
Measured o t n Rc4 = Unit {0}
Measured o t n Cell = Unit {0}
Measured o t n NoCell = Unit {0}
Measured o t n Done = Unit {0}
Measured o t n (Data bytes) = (length bytes ≡ n) × (0 < n)
Measured o t n (Abended code fallen) = AreDescendants o t fallen
Measured o t n _ = ⊥

-- what is printed of an answer after its task
pub record Rest (number : ℕ) (t : Name) (x : Answer) (front : List ℕ) : Type 0 where
  pub more : List ℕ
  pub is : answer_text number t x ≡ head number t ++ (front ++ more)

module _ (number : ℕ) (t : Name) where
  pub rest_at : (a : ℕ) → Rest number t (At a) (codes "AT ")
  rest_at a = record { more = hex 8 a ++ codes "\n"; is = line_head number t (codes "AT " ++ hex 8 a) }

  pub rest_rc0 : Rest number t Rc0 (codes "RC 0\n")
  rest_rc0 = record { more = []; is = line_head number t (codes "RC 0") }

  pub rest_granted : (n : ℕ) → Rest number t (Granted n) (codes "RC 0 LENGTH ")
  rest_granted n = record { more = hex 8 n ++ codes "\n"; is = line_head number t (codes "RC 0 LENGTH " ++ hex 8 n) }

  pub rest_rc4 : Rest number t Rc4 (codes "RC 4\n")
  rest_rc4 = record { more = []; is = line_head number t (codes "RC 4") }

  pub rest_cell : Rest number t Cell (codes "CELL\n")
  rest_cell = record { more = []; is = line_head number t (codes "CELL") }

  pub rest_no_cell : Rest number t NoCell (codes "NO CELL\n")
  rest_no_cell = record { more = []; is = line_head number t (codes "NO CELL") }

  pub rest_done : Rest number t Done (codes "OK\n")
  rest_done = record { more = []; is = line_head number t (codes "OK") }

  pub abend_is : (code : Code) (fallen : List Name) → answer_text number t (Abended code fallen) ≡ head number t ++ (abend_opening code ++ fallen_lines number t fallen)
  abend_is code fallen = ap (λ x. x ++ fallen_lines number t fallen) (line_head number t (codes "ABEND " ++ code_text code)) ∙ append_assoc (head number t) (abend_opening code) (fallen_lines number t fallen)

  pub rest_abend : (code : Code) (fallen : List Name) → Rest number t (Abended code fallen) (abend_opening code)
  rest_abend code fallen = record { more = fallen_lines number t fallen; is = abend_is code fallen }

  some_lines : (n : ℕ) → 0 < n → (m : ℕ) × (line_count n ≡ suc m)
  some_lines n some = at (line_count n) (let e : 0 < line_count n = omega arith in e) where
    at : (k : ℕ) → 0 < k → (m : ℕ) × (k ≡ suc m)
    at zero l = absurd (omega (arith, l))
    at (suc m) l = (m, refl)

  first_line : (m : ℕ) (bytes : List ℕ) → (more : List ℕ) × (data_lines number t (suc m) 0 bytes ≡ head number t ++ (codes "DATA +0000 " ++ more))
  unfolding data_lines last_digits
  first_line m bytes =
      let text = flat_map (hex 2) (take line_bytes bytes) in
      let rest = data_lines number t m (0 + line_bytes) (drop line_bytes bytes) in
      ((text ++ codes "\n") ++ rest, ap (λ x. x ++ rest) (line_head number t (codes "DATA +0000 " ++ text)) ∙ append_assoc (head number t) (codes "DATA +0000 " ++ (text ++ codes "\n")) rest)

  pub rest_data : (bytes : List ℕ) → 0 < length bytes → Rest number t (Data bytes) (codes "DATA +0000 ")
  rest_data bytes some =
      let l = some_lines (length bytes) some in
      let f = first_line l.0 bytes in
      record { more = f.0; is = ap (λ k. data_lines number t k 0 bytes) l.1 ∙ f.1 }

-- ---- which answer a text begins with

abbrev pub sign : Answer → Sign
sign (At a) = AtSign
sign (Abended (System n) fallen) = SystemSign
sign (Abended (User n) fallen) = UserSign
sign Rc0 = Rc0Sign
sign (Granted n) = GrantedSign
sign Rc4 = Rc4Sign
sign Cell = CellSign
sign NoCell = NoCellSign
sign Done = DoneSign
sign (Data bytes) = DataSign
sign _ = NoSign

abbrev pub way_of : Sign → Way
way_of Rc4Sign = Stays
way_of NoCellSign = Stays
way_of SystemSign = Falls
way_of UserSign = Falls
way_of _ = Goes

module _ (o : Owners) (number : ℕ) (t : Name) (n : ℕ) where
  way_is : (x : Answer) → Measured o t n x → way x ≡ way_of (sign x)
  way_is (Abended (System c) fallen) m = refl
  way_is (Abended (User c) fallen) m = refl
  way_is (At a) m = refl
  way_is Rc0 m = refl
  way_is (Granted k) m = refl
  way_is Rc4 m = refl
  way_is Cell m = refl
  way_is NoCell m = refl
  way_is Done m = refl
  way_is (Data bytes) m = refl
  way_is _ m = absurd m

  -- what is printed after the task shows the sign
  abbrev pub Signed : Answer → Type 0
  Signed x = (rest : List ℕ) × (answer_text number t x ≡ head number t ++ rest) × ((more : List ℕ) → sign_in (rest ++ more) ≡ sign x)

  signed_by : (x : Answer) (front : List ℕ) → Rest number t x front → ((more : List ℕ) → sign_in (front ++ more) ≡ sign x) → Signed x
  signed_by x front r f = (front ++ r.more, r.is, λ more. ap sign_in (append_assoc front r.more more) ∙ f (r.more ++ more))

  pub signed : (x : Answer) → Measured o t n x → Signed x
  signed (At a) m = signed_by _ _ (rest_at number t a) (λ more. refl)
  signed Rc0 m = signed_by _ _ (rest_rc0 number t) (λ more. refl)
  signed (Granted k) m = signed_by _ _ (rest_granted number t k) (λ more. refl)
  signed Rc4 m = signed_by _ _ (rest_rc4 number t) (λ more. refl)
  signed Cell m = signed_by _ _ (rest_cell number t) (λ more. refl)
  signed NoCell m = signed_by _ _ (rest_no_cell number t) (λ more. refl)
  signed Done m = signed_by _ _ (rest_done number t) (λ more. refl)
  signed (Data bytes) m = signed_by _ _ (rest_data number t bytes (let e = m.0 in let s = m.1 in omega (arith, e, s))) (λ more. refl)
  signed (Abended (System c) fallen) m = signed_by _ _ (rest_abend number t (System c) fallen) (λ more. refl)
  signed (Abended (User c) fallen) m = signed_by _ _ (rest_abend number t (User c) fallen) (λ more. refl)
  signed _ m = absurd m

  -- two answers that a text begins with have one sign
  pub one_sign : (x y : Answer) (u v : List ℕ) → Measured o t n x → Measured o t n y → answer_text number t x ++ u ≡ answer_text number t y ++ v → sign x ≡ sign y
  one_sign x y u v m k e =
      let a = signed x m in
      let b = signed y k in
      let cut : a.0 ++ u ≡ b.0 ++ v = append_cancel_left (head number t) _ _ (sym (append_assoc (head number t) a.0 u) ∙ ap (λ z. z ++ u) (sym a.1) ∙ e ∙ ap (λ z. z ++ v) b.1 ∙ append_assoc (head number t) b.0 v) in
      sym (a.2 u) ∙ ap sign_in cut ∙ b.2 v

-- ---- how long an answer is

pub same_backs : (xs ys u v : List ℕ) → length xs ≡ length ys → xs ++ u ≡ ys ++ v → u ≡ v
same_backs [] [] u v l e = e
same_backs [] (y ∷ ys) u v l e = absurd (omega (arith, l))
same_backs (x ∷ xs) [] u v l e = absurd (omega (arith, l))
same_backs (x ∷ xs) (y ∷ ys) u v l e = same_backs xs ys u v (omega (arith, l)) (ap tail_of e)

pub front_long : (front x y : List ℕ) → length x ≡ length y → length (front ++ x) ≡ length (front ++ y)
front_long front x y e = length-append front x ∙ ap (λ n. length front + n) e ∙ sym (length-append front y)

pub back_long : (x y back : List ℕ) → length x ≡ length y → length (x ++ back) ≡ length (y ++ back)
back_long x y back e = length-append x back ∙ ap (λ n. n + length back) e ∙ sym (length-append y back)

pub line_long : (number : ℕ) (t : Name) (x y : List ℕ) → length x ≡ length y → length (reply_line number t x) ≡ length (reply_line number t y)
line_long number t x y e =
    let front = decimal number ++ codes " " ++ trimmed t ++ codes " " in
    back_long (front ++ x) (front ++ y) (codes "\n") (front_long front x y e)

pub digits_long : (base k n : ℕ) → length (last_digits base k n) ≡ k
unfolding last_digits
digits_long base zero n = refl
digits_long base (suc k) n = length-append (last_digits base k (n / base)) (glyph (n % base) ∷ []) ∙ (let e = digits_long base k (n / base) in let f : length (last_digits base k (n / base)) + 1 ≡ suc k = omega (arith, e) in f)

digits_alike : (base k m n : ℕ) → length (last_digits base k m) ≡ length (last_digits base k n)
digits_alike base k m n = digits_long base k m ∙ sym (digits_long base k n)

hexes_long : (b z : List ℕ) → length b ≡ length z → length (flat_map (hex 2) b) ≡ length (flat_map (hex 2) z)
hexes_long [] [] e = refl
hexes_long [] (y ∷ z) e = absurd (omega (arith, e))
hexes_long (x ∷ b) [] e = absurd (omega (arith, e))
hexes_long (x ∷ b) (y ∷ z) e =
    length-append (hex 2 x) (flat_map (hex 2) b) ∙ (λ i. digits_alike 16 2 x y i + hexes_long b z (let f : length b ≡ length z = omega (arith, e) in f) i) ∙ sym (length-append (hex 2 y) (flat_map (hex 2) z))

data_long : (number : ℕ) (t : Name) (k offset : ℕ) (b z : List ℕ) → length b ≡ length z → length (data_lines number t k offset b) ≡ length (data_lines number t k offset z)
unfolding data_lines
data_long number t zero offset b z e = refl
data_long number t (suc k) offset b z e =
    let front = codes "DATA +" ++ hex 4 offset ++ codes " " in
    let line = line_long number t (front ++ flat_map (hex 2) (take line_bytes b)) (front ++ flat_map (hex 2) (take line_bytes z)) (front_long front _ _ (hexes_long (take line_bytes b) (take line_bytes z) (length-take line_bytes b ∙ ap (min line_bytes) e ∙ sym (length-take line_bytes z)))) in
    let rest = data_long number t k (offset + line_bytes) (drop line_bytes b) (drop line_bytes z) (length-drop line_bytes b ∙ ap (λ n. n - line_bytes) e ∙ sym (length-drop line_bytes z)) in
    length-append (reply_line number t (front ++ flat_map (hex 2) (take line_bytes b))) (data_lines number t k (offset + line_bytes) (drop line_bytes b)) ∙ (λ i. line i + rest i)
    ∙ sym (length-append (reply_line number t (front ++ flat_map (hex 2) (take line_bytes z))) (data_lines number t k (offset + line_bytes) (drop line_bytes z)))

-- an answer of each sign
abbrev pub sample : List Name → List ℕ → Sign → Answer
sample fallen bytes AtSign = At 0
sample fallen bytes SystemSign = Abended (System 0) fallen
sample fallen bytes UserSign = Abended (User 0) fallen
sample fallen bytes Rc0Sign = Rc0
sample fallen bytes GrantedSign = Granted 0
sample fallen bytes Rc4Sign = Rc4
sample fallen bytes CellSign = Cell
sample fallen bytes NoCellSign = NoCell
sample fallen bytes DoneSign = Done
sample fallen bytes DataSign = Data bytes
sample fallen bytes NoSign = NotRun

-- an answer has these tasks and so many bytes, where it has some
abbrev pub Fit : List Name → List ℕ → Answer → Type 0
Fit fallen bytes (Abended code f) = f ≡ fallen
Fit fallen bytes (Data b) = length b ≡ length bytes
Fit fallen bytes _ = Unit {0}

module _ (o : Owners) (number : ℕ) (t : Name) (n : ℕ) where
  long_is : (fallen : List Name) (bytes : List ℕ) (x : Answer) → Measured o t n x → Fit fallen bytes x → length (answer_text number t x) ≡ length (answer_text number t (sample fallen bytes (sign x)))
  long_is fallen bytes (At a) m f = line_long number t _ _ (front_long (codes "AT ") (hex 8 a) (hex 8 0) (digits_alike 16 8 a 0))
  long_is fallen bytes Rc0 m f = refl
  long_is fallen bytes (Granted k) m f = line_long number t _ _ (front_long (codes "RC 0 LENGTH ") (hex 8 k) (hex 8 0) (digits_alike 16 8 k 0))
  long_is fallen bytes Rc4 m f = refl
  long_is fallen bytes Cell m f = refl
  long_is fallen bytes NoCell m f = refl
  long_is fallen bytes Done m f = refl
  long_is fallen bytes (Data b) m f = ap (λ k. length (data_lines number t (line_count k) 0 b)) f ∙ data_long number t (line_count (length bytes)) 0 b bytes f
  long_is fallen bytes (Abended (System c) g) m f =
      ap (λ g. length (answer_text number t (Abended (System c) g))) f ∙ back_long _ _ (fallen_lines number t fallen) (line_long number t _ _ (front_long (codes "ABEND S") (hex 3 c) (hex 3 0) (digits_alike 16 3 c 0)))
  long_is fallen bytes (Abended (User c) g) m f =
      ap (λ g. length (answer_text number t (Abended (User c) g))) f ∙ back_long _ _ (fallen_lines number t fallen) (line_long number t _ _ (front_long (codes "ABEND U") (last_digits 10 4 c) (last_digits 10 4 0) (digits_alike 10 4 c 0)))
  long_is fallen bytes _ m f = absurd m

  abbrev pub tasks_of : Answer → List Name
  tasks_of (Abended code fallen) = fallen
  tasks_of _ = []

  abbrev pub bytes_of : Answer → List ℕ
  bytes_of (Data bytes) = bytes
  bytes_of _ = []

  pub fit_self : (x : Answer) → Measured o t n x → Fit (tasks_of x) (bytes_of x) x
  fit_self (Abended code fallen) m = refl
  fit_self (Data bytes) m = refl
  fit_self (At a) m = tt
  fit_self Rc0 m = tt
  fit_self (Granted k) m = tt
  fit_self Rc4 m = tt
  fit_self Cell m = tt
  fit_self NoCell m = tt
  fit_self Done m = tt
  fit_self _ m = absurd m

  -- one that ended the same tasks, or has as many bytes
  pub abend_fit : (x : Answer) (c : Code) (g : List Name) → Measured o t n x → AreDescendants o t g → sign x ≡ sign (Abended c g) → g ≡ tasks_of x
  abend_fit (Abended d f) c g m k e = one_fallen o t g f k m
  abend_fit (At a) (System c) g m k e = absurd cc
  abend_fit (At a) (User c) g m k e = absurd cc
  abend_fit Rc0 (System c) g m k e = absurd cc
  abend_fit Rc0 (User c) g m k e = absurd cc
  abend_fit (Granted j) (System c) g m k e = absurd cc
  abend_fit (Granted j) (User c) g m k e = absurd cc
  abend_fit Rc4 (System c) g m k e = absurd cc
  abend_fit Rc4 (User c) g m k e = absurd cc
  abend_fit Cell (System c) g m k e = absurd cc
  abend_fit Cell (User c) g m k e = absurd cc
  abend_fit NoCell (System c) g m k e = absurd cc
  abend_fit NoCell (User c) g m k e = absurd cc
  abend_fit Done (System c) g m k e = absurd cc
  abend_fit Done (User c) g m k e = absurd cc
  abend_fit (Data b) (System c) g m k e = absurd cc
  abend_fit (Data b) (User c) g m k e = absurd cc
  abend_fit _ c g m k e = absurd m

  data_fit : (x : Answer) (b : List ℕ) → Measured o t n x → length b ≡ n → sign x ≡ DataSign → length b ≡ length (bytes_of x)
  data_fit (Data z) b m l e = l ∙ sym m.0
  data_fit (Abended (System c) f) b m l e = absurd cc
  data_fit (Abended (User c) f) b m l e = absurd cc
  data_fit (At a) b m l e = absurd cc
  data_fit Rc0 b m l e = absurd cc
  data_fit (Granted j) b m l e = absurd cc
  data_fit Rc4 b m l e = absurd cc
  data_fit Cell b m l e = absurd cc
  data_fit NoCell b m l e = absurd cc
  data_fit Done b m l e = absurd cc
  data_fit _ b m l e = absurd m

  pub fit_other : (x y : Answer) → Measured o t n x → Measured o t n y → sign x ≡ sign y → Fit (tasks_of x) (bytes_of x) y
  fit_other x (Abended c g) m k e = abend_fit x c g m k e
  fit_other x (Data b) m k e = data_fit x b m k.0 e
  fit_other x (At a) m k e = tt
  fit_other x Rc0 m k e = tt
  fit_other x (Granted j) m k e = tt
  fit_other x Rc4 m k e = tt
  fit_other x Cell m k e = tt
  fit_other x NoCell m k e = tt
  fit_other x Done m k e = tt
  fit_other x _ m k e = absurd k

  -- Two answers that one text begins with end the same way, and the same text stands after them.
  pub one_text : (x y : Answer) (u v : List ℕ) → Measured o t n x → Measured o t n y → answer_text number t x ++ u ≡ answer_text number t y ++ v → (way x ≡ way y) × (u ≡ v)
  one_text x y u v m k e =
      let s = one_sign o number t n x y u v m k e in
      let long = long_is (tasks_of x) (bytes_of x) x m (fit_self x m) ∙ ap (λ s. length (answer_text number t (sample (tasks_of x) (bytes_of x) s))) s ∙ sym (long_is (tasks_of x) (bytes_of x) y k (fit_other x y m k s)) in
      (way_is o number t n x m ∙ ap way_of s ∙ sym (way_is o number t n y k), same_backs (answer_text number t x) (answer_text number t y) u v long e)
