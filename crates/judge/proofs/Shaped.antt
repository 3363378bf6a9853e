-- The shape of the answers that places decide.
use Rattle.std.proofs.Common.{◌≡◌, ℕ, zero, suc, ◌+◌, ◌-◌, ◌<◌, ◌≤◌, ◌/◌, ◌%◌, ◌==◌, nat_lt, ◌⊎◌, inl, inr, min, Bool, true, false, not, cond, List, [], ◌∷◌, ◌++◌, length, append_assoc, append-nil, codes, decimal, arith, refl, sym, ap, ◌∙◌, subst}
use Rattle.std.specs.Prelude.{take, drop, if◌then◌else◌}
use Rattle.std.specs.List.{after_first, flat_map, position_or_len, AllByRecursion}
use Rattle.std.proofs.lemmas.Bool.Decides.{nat_tests}
use Rattle.std.proofs.lemmas.List.{append_cancel_left, length-drop, length-take}
use Rattle.mvs_laws.proofs.Types.{Name, Code, User, System}
use Rattle.mvs_model.specs.Numbers.{line_bytes}
use Rattle.mvs_model.specs.Owners.{Owners, AreDescendants}
use Rattle.mvs_model.specs.Answers.{Answer, NotRun, At, Rc0, Granted, Rc4, Cell, NoCell, Done, Data, Abended}
use Rattle.mvs_model.specs.Reading.{is_hex_digit}
use Rattle.mvs_model.specs.Texts.{answer_text, code_text, data_lines, glyph, hex, last_digits, line_count, reply_line}
use Rattle.judge.specs.Outline.{abend_opening, head}
use Rattle.judge.specs.Shapes.{AreUnlike, DiffersLater, DiffersMasked, Sign, AtSign, SystemSign, UserSign, Rc0Sign, GrantedSign, Rc4Sign, CellSign, NoCellSign, DoneSign, DataSign, NoSign, is_fall, later, masked, masked_byte, sign_in}
use Rattle.judge.proofs.Opening.{Fit, Measured, abend_fit, abend_is, bytes_of, fallen_lines, fit_other, fit_self, line_head, sample, sign, signed, tasks_of}

-- ---- masked texts

masked_both : (x y : List ℕ) → masked (x ++ y) ≡ masked x ++ masked y
masked_both [] y = refl
masked_both (b ∷ x) y = ap (λ text. masked_byte b ∷ text) (masked_both x y)

front_masked : (front x y : List ℕ) → masked x ≡ masked y → masked (front ++ x) ≡ masked (front ++ y)
front_masked front x y e = masked_both front x ∙ ap (λ z. masked front ++ z) e ∙ sym (masked_both front y)

back_masked : (x y back : List ℕ) → masked x ≡ masked y → masked (x ++ back) ≡ masked (y ++ back)
back_masked x y back e = masked_both x back ∙ ap (λ z. z ++ masked back) e ∙ sym (masked_both y back)

line_masked : (number : ℕ) (t : Name) (x y : List ℕ) → masked x ≡ masked y → masked (reply_line number t x) ≡ masked (reply_line number t y)
line_masked number t x y e = ap masked (line_head number t x) ∙ front_masked (head number t) (x ++ codes "\n") (y ++ codes "\n") (back_masked x y (codes "\n") e) ∙ ap masked (sym (line_head number t y))

glyph_masked : (d : ℕ) → d < 16 → masked_byte (glyph d) ≡ 48
glyph_masked d small = at (nat_lt d 10) refl where
  at : (b : Bool) → nat_lt d 10 ≡ b → masked_byte (cond b (48 + d) (55 + d)) ≡ 48
  at true e = grind (arith, nat_tests)
  at false e = grind (arith, nat_tests)

digits_masked : (base : ℕ) → ((n : ℕ) → n % base < 16) → (k m n : ℕ) → masked (last_digits base k m) ≡ masked (last_digits base k n)
unfolding last_digits
digits_masked base small zero m n = refl
digits_masked base small (suc k) m n =
    masked_both (last_digits base k (m / base)) (glyph (m % base) ∷ []) ∙ (λ i. digits_masked base small k (m / base) (n / base) i ++ (glyph_masked (m % base) (small m) ∙ sym (glyph_masked (n % base) (small n))) i ∷ [])
    ∙ sym (masked_both (last_digits base k (n / base)) (glyph (n % base) ∷ []))

hex_masked : (k m n : ℕ) → masked (hex k m) ≡ masked (hex k n)
hex_masked k m n = digits_masked 16 (λ n. omega arith) k m n

hexes_masked : (b z : List ℕ) → length b ≡ length z → masked (flat_map (hex 2) b) ≡ masked (flat_map (hex 2) z)
hexes_masked [] [] e = refl
hexes_masked [] (y ∷ z) e = absurd (omega (arith, e))
hexes_masked (x ∷ b) [] e = absurd (omega (arith, e))
hexes_masked (x ∷ b) (y ∷ z) e =
    masked_both (hex 2 x) (flat_map (hex 2) b) ∙ (λ i. hex_masked 2 x y i ++ hexes_masked b z (let f : length b ≡ length z = omega (arith, e) in f) i) ∙ sym (masked_both (hex 2 y) (flat_map (hex 2) z))

data_masked : (number : ℕ) (t : Name) (k offset : ℕ) (b z : List ℕ) → length b ≡ length z → masked (data_lines number t k offset b) ≡ masked (data_lines number t k offset z)
unfolding data_lines
data_masked number t zero offset b z e = refl
data_masked number t (suc k) offset b z e =
    let front = codes "DATA +" ++ hex 4 offset ++ codes " " in
    let line = line_masked number t (front ++ flat_map (hex 2) (take line_bytes b)) (front ++ flat_map (hex 2) (take line_bytes z)) (front_masked front _ _ (hexes_masked (take line_bytes b) (take line_bytes z) (length-take line_bytes b ∙ ap (min line_bytes) e ∙ sym (length-take line_bytes z)))) in
    let rest = data_masked number t k (offset + line_bytes) (drop line_bytes b) (drop line_bytes z) (length-drop line_bytes b ∙ ap (λ n. n - line_bytes) e ∙ sym (length-drop line_bytes z)) in
    masked_both (reply_line number t (front ++ flat_map (hex 2) (take line_bytes b))) (data_lines number t k (offset + line_bytes) (drop line_bytes b)) ∙ (λ i. line i ++ rest i)
    ∙ sym (masked_both (reply_line number t (front ++ flat_map (hex 2) (take line_bytes z))) (data_lines number t k (offset + line_bytes) (drop line_bytes z)))

-- ---- the lines after the first one

abbrev High : List ℕ → Type 0
High text = AllByRecursion (λ b. 11 ≤ b) text

later_after : (xs u : List ℕ) → High xs → later (xs ++ 10 ∷ u) ≡ u
later_after [] u h = refl
later_after (x ∷ xs) u h = at (x == 10) refl (later_after xs u h.1) where
  at : (b : Bool) → (x == 10) ≡ b → later (xs ++ 10 ∷ u) ≡ u → drop (cond (not b) (1 + position_or_len (λ b. b == 10) (xs ++ 10 ∷ u)) 0 + 1) (x ∷ (xs ++ 10 ∷ u)) ≡ u
  at true e more = absurd (let low : 11 ≤ x = h.0 in grind (arith, nat_tests))
  at false e more =
      let one : 1 + position_or_len (λ b. b == 10) (xs ++ 10 ∷ u) + 1 ≡ suc (position_or_len (λ b. b == 10) (xs ++ 10 ∷ u) + 1) = omega arith in
      ap (λ n. drop n (x ∷ (xs ++ 10 ∷ u))) one ∙ more

high_both : (x y : List ℕ) → High x → High y → High (x ++ y)
high_both [] y h k = k
high_both (b ∷ x) y h k = (h.0, high_both x y h.1 k)

glyph_high : (d : ℕ) → 11 ≤ glyph d
glyph_high d = at (nat_lt d 10) where
  at : (b : Bool) → 11 ≤ cond b (48 + d) (55 + d)
  at true = omega arith
  at false = omega arith

digits_high : (base k n : ℕ) → High (last_digits base k n)
unfolding last_digits
digits_high base zero n = tt
digits_high base (suc k) n = high_both (last_digits base k (n / base)) (glyph (n % base) ∷ []) (digits_high base k (n / base)) (glyph_high (n % base), tt)

code_high : (code : Code) → High (code_text code)
code_high (System n) = (omega arith, digits_high 16 3 n)
code_high (User n) = (omega arith, digits_high 10 4 n)

opening_later : (code : Code) (u : List ℕ) → later (abend_opening code ++ u) ≡ u
opening_later code u =
    ap later (parts (code_text code)) ∙ later_after (codes "ABEND " ++ code_text code) u (omega arith, (omega arith, (omega arith, (omega arith, (omega arith, (omega arith, code_high code)))))) where
      parts : (c : List ℕ) → (codes "ABEND " ++ c ++ codes "\n") ++ u ≡ (codes "ABEND " ++ c) ++ 10 ∷ u
      parts c = search (append_assoc)

-- ---- answers

module _ (o : Owners) (number : ℕ) (t : Name) (n : ℕ) where
  mask_is : (fallen : List Name) (bytes : List ℕ) (x : Answer) → Measured o t n x → Fit fallen bytes x → masked (answer_text number t x) ≡ masked (answer_text number t (sample fallen bytes (sign x)))
  mask_is fallen bytes (At a) m f = line_masked number t _ _ (front_masked (codes "AT ") (hex 8 a) (hex 8 0) (hex_masked 8 a 0))
  mask_is fallen bytes Rc0 m f = refl
  mask_is fallen bytes (Granted k) m f = line_masked number t _ _ (front_masked (codes "RC 0 LENGTH ") (hex 8 k) (hex 8 0) (hex_masked 8 k 0))
  mask_is fallen bytes Rc4 m f = refl
  mask_is fallen bytes Cell m f = refl
  mask_is fallen bytes NoCell m f = refl
  mask_is fallen bytes Done m f = refl
  mask_is fallen bytes (Data b) m f = ap (λ k. masked (data_lines number t (line_count k) 0 b)) f ∙ data_masked number t (line_count (length bytes)) 0 b bytes f
  mask_is fallen bytes (Abended (System c) g) m f =
      ap (λ g. masked (answer_text number t (Abended (System c) g))) f ∙ back_masked _ _ (fallen_lines number t fallen) (line_masked number t _ _ (front_masked (codes "ABEND S") (hex 3 c) (hex 3 0) (hex_masked 3 c 0)))
  mask_is fallen bytes (Abended (User c) g) m f =
      ap (λ g. masked (answer_text number t (Abended (User c) g))) f ∙ back_masked _ _ (fallen_lines number t fallen) (line_masked number t _ _ (front_masked (codes "ABEND U") (last_digits 10 4 c) (last_digits 10 4 0) (digits_masked 10 (λ n. omega arith) 4 c 0)))
  mask_is fallen bytes _ m f = absurd m

  mask_alike : (x y : Answer) → Measured o t n x → Measured o t n y → sign x ≡ sign y → masked (answer_text number t x) ≡ masked (answer_text number t y)
  mask_alike x y m k s =
      mask_is (tasks_of o number t n x) (bytes_of o number t n x) x m (fit_self o number t n x m) ∙ ap (λ s. masked (answer_text number t (sample (tasks_of o number t n x) (bytes_of o number t n x) s))) s
      ∙ sym (mask_is (tasks_of o number t n x) (bytes_of o number t n x) y k (fit_other o number t n x y m k s))

  -- which answer it is
  sign_is : (x : Answer) → Measured o t n x → (u one : List ℕ) → answer_text number t x ++ u ≡ head number t ++ one → sign_in one ≡ sign x
  sign_is x m u one e =
      let a = signed o number t n x m in
      let cut : a.0 ++ u ≡ one = append_cancel_left (head number t) _ _ (sym (append_assoc (head number t) a.0 u) ∙ ap (λ z. z ++ u) (sym a.1) ∙ e) in
      ap sign_in (sym cut) ∙ a.2 u

  -- what comes after the first line of an abend
  abend_later : (code : Code) (g : List Name) (u one : List ℕ) → answer_text number t (Abended code g) ++ u ≡ head number t ++ one → later one ≡ fallen_lines number t g ++ u
  abend_later code g u one e =
      let cut : (abend_opening code ++ fallen_lines number t g) ++ u ≡ one = append_cancel_left (head number t) _ _ (sym (append_assoc (head number t) (abend_opening code ++ fallen_lines number t g) u) ∙ ap (λ z. z ++ u) (sym (abend_is number t code g)) ∙ e) in
      ap later (sym cut ∙ append_assoc (abend_opening code) (fallen_lines number t g) u) ∙ opening_later code (fallen_lines number t g ++ u)

  fall_later : (x : Answer) → Measured o t n x → is_fall (sign x) ≡ true → (u one : List ℕ) → answer_text number t x ++ u ≡ head number t ++ one → later one ≡ fallen_lines number t (tasks_of o number t n x) ++ u
  fall_later (Abended (System c) g) m f u one e = abend_later (System c) g u one e
  fall_later (Abended (User c) g) m f u one e = abend_later (User c) g u one e
  fall_later (At a) m f u one e = absurd cc
  fall_later Rc0 m f u one e = absurd cc
  fall_later (Granted k) m f u one e = absurd cc
  fall_later Rc4 m f u one e = absurd cc
  fall_later Cell m f u one e = absurd cc
  fall_later NoCell m f u one e = absurd cc
  fall_later Done m f u one e = absurd cc
  fall_later (Data b) m f u one e = absurd cc
  fall_later _ m f u one e = absurd m

  same_tasks : (x y : Answer) → Measured o t n x → Measured o t n y → sign x ≡ sign y → is_fall (sign y) ≡ true → tasks_of o number t n y ≡ tasks_of o number t n x
  same_tasks x (Abended c g) m k s f = abend_fit o number t n x c g m k s
  same_tasks x (At a) m k s f = absurd cc
  same_tasks x Rc0 m k s f = absurd cc
  same_tasks x (Granted j) m k s f = absurd cc
  same_tasks x Rc4 m k s f = absurd cc
  same_tasks x Cell m k s f = absurd cc
  same_tasks x NoCell m k s f = absurd cc
  same_tasks x Done m k s f = absurd cc
  same_tasks x (Data b) m k s f = absurd cc
  same_tasks x _ m k s f = absurd k

  -- No text goes on with another answer that is unlike.
  pub unlike : (x y : Answer) → Measured o t n x → Measured o t n y → (v one other : List ℕ) → answer_text number t x ≡ head number t ++ one → answer_text number t y ++ v ≡ head number t ++ other → AreUnlike one other → ⊥
  unlike x y m k v one other e f (same, how) = at how where
    whole : answer_text number t x ++ [] ≡ head number t ++ one
    whole = append-nil (answer_text number t x) ∙ e

    signs : sign x ≡ sign y
    signs = sym (sign_is x m [] one whole) ∙ same ∙ sign_is y k v other f

    at : (DiffersMasked one other ⊎ ((is_fall (sign_in one) ≡ true) × DiffersLater one other)) → ⊥
    at (inl differs) =
        differs (masked v)
        (append_cancel_left (masked (head number t)) _ _
        (sym (masked_both (head number t) other) ∙ ap masked (sym f) ∙ masked_both (answer_text number t y) v ∙ ap (λ z. z ++ masked v) (sym (mask_alike x y m k signs) ∙ ap masked e ∙ masked_both (head number t) one)
        ∙ append_assoc (masked (head number t)) (masked one) (masked v)))
    at (inr (falls, differs)) =
        let fall : is_fall (sign x) ≡ true = ap is_fall (sym (sign_is x m [] one whole)) ∙ falls in
        let other_fall : is_fall (sign y) ≡ true = ap is_fall (sym signs) ∙ fall in
        differs v
        (fall_later y k other_fall v other f ∙ ap (λ g. fallen_lines number t g ++ v) (same_tasks x y m k signs other_fall) ∙ ap (λ z. z ++ v) (sym (fall_later x m fall [] one whole ∙ append-nil (fallen_lines number t (tasks_of o number t n x)))))
