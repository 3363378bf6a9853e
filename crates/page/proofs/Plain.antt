-- What a reader sees of a page: the texts between tags are plain, and those of the `<pre>` are the printing.
use Rattle.std.proofs.Common.{◌≡◌, ℕ, ◌==◌, List, [], ◌∷◌, ◌++◌, append_assoc, append-nil, codes, decimal, take, drop, Bool, true, false, cond, refl, sym, ap, ◌∙◌}
use Rattle.std.specs.Prelude.{◌&&◌, not, nat_le}
use Rattle.std.specs.List.{flat_map}
use Rattle.std.proofs.lemmas.Bool.{and_from, and_parts, not-true}
use Rattle.mvs_model.specs.Lines.{lines_of}
use Rattle.page.specs.Markup.{Inside, Tag, article_tag, escaped, escaped_byte, head_of, is_plain, is_plain_byte, most_of_line, note_of, note_tag, pre_texts, reply_of, shown_line, tail_of, words_of}

-- ---- plain text

both_plain : (a b : List ℕ) → is_plain a ≡ true → is_plain b ≡ true → is_plain (a ++ b) ≡ true
both_plain [] b p q = q
both_plain (x ∷ a) b p q = let h = and_parts (is_plain_byte x) (is_plain a) p in and_from (is_plain_byte x) (is_plain (a ++ b)) h.0 (both_plain a b h.1 q)

each_plain : {X : Type 0} (f : X → List ℕ) → ((x : X) → is_plain (f x) ≡ true) → (xs : List X) → is_plain (flat_map f xs) ≡ true
each_plain f each [] = refl
each_plain f each (x ∷ xs) = both_plain (f x) (flat_map f xs) (each x) (each_plain f each xs)

-- a byte that is none of three
one_plain : (b : ℕ) → (b == 60) ≡ false → (b == 62) ≡ false → (b == 34) ≡ false → is_plain (b ∷ []) ≡ true
one_plain b lt gt quote = rw (lt, gt, quote) refl

byte_plain : (b : ℕ) → is_plain (escaped_byte b) ≡ true
byte_plain b = amp (b == 38) where
  rest : (lt gt quote feed shown : Bool) → (b == 60) ≡ lt → (b == 62) ≡ gt → (b == 34) ≡ quote
      → is_plain (cond lt (codes "&lt;") (cond gt (codes "&gt;") (cond quote (codes "&quot;") (cond feed (b ∷ []) (cond shown (b ∷ []) (codes "?")))))) ≡ true
  rest true gt quote feed shown e f g = refl
  rest false true quote feed shown e f g = refl
  rest false false true feed shown e f g = refl
  rest false false false true shown e f g = one_plain b e f g
  rest false false false false true e f g = one_plain b e f g
  rest false false false false false e f g = refl

  amp : (v : Bool) → is_plain (cond v (codes "&amp;") (cond (b == 60) (codes "&lt;") (cond (b == 62) (codes "&gt;") (cond (b == 34) (codes "&quot;") (cond (b == 10) (b ∷ []) (cond (nat_le 32 b && nat_le b 126) (b ∷ []) (codes "?"))))))) ≡ true
  amp true = refl
  amp false = rest (b == 60) (b == 62) (b == 34) (b == 10) (nat_le 32 b && nat_le b 126) refl refl refl

-- No tag begins or ends in a text that is written between tags.
pub escaped_plain : (text : List ℕ) → is_plain (escaped text) ≡ true
escaped_plain text = each_plain escaped_byte byte_plain text

words_plain : (trailing : List ℕ) → is_plain (words_of trailing) ≡ true
words_plain trailing = each_plain (λ l. escaped (drop 2 l) ++ codes "\n") (λ l. both_plain (escaped (drop 2 l)) (codes "\n") (escaped_plain (drop 2 l)) refl) (lines_of trailing)

-- ---- what a reader sees

skip_tag : (b : ℕ) → is_plain_byte b ≡ true → ((b == 60) ≡ false) × ((b == 62) ≡ false)
skip_tag b h = at (b == 60) (b == 62) (b == 34) h where
  at : (lt gt quote : Bool) → (not lt && (not gt && not quote)) ≡ true → (lt ≡ false) × (gt ≡ false)
  at false false false h = (refl, refl)
  at false false true h = (refl, refl)
  at false true quote h = absurd (let e : false ≡ true = h in cc)
  at true gt quote h = absurd (let e : false ≡ true = h in cc)

-- plain text of a `<pre>` is seen
seen : (t rest : List ℕ) → is_plain t ≡ true → pre_texts (Inside true) (t ++ rest) ≡ t ++ pre_texts (Inside true) rest
seen [] rest p = refl
seen (b ∷ t) rest p =
    let h = and_parts (is_plain_byte b) (is_plain t) p in
    rw ((skip_tag b h.0).0) (ap (λ x. b ∷ x) (seen t rest h.1))

-- and other plain text is not
passed : (t rest : List ℕ) → is_plain t ≡ true → pre_texts (Inside false) (t ++ rest) ≡ pre_texts (Inside false) rest
passed [] rest p = refl
passed (b ∷ t) rest p =
    let h = and_parts (is_plain_byte b) (is_plain t) p in
    rw ((skip_tag b h.0).0) (passed t rest h.1)

-- nor is text in a tag, where the tag does not end
abbrev stays : List ℕ → Bool
stays [] = true
stays (b ∷ bs) = not (b == 62) && stays bs

plain_stays : (t : List ℕ) → is_plain t ≡ true → stays t ≡ true
plain_stays [] p = refl
plain_stays (b ∷ t) p =
    let h = and_parts (is_plain_byte b) (is_plain t) p in
    rw ((skip_tag b h.0).1) (plain_stays t h.1)

tagged : (t rest name : List ℕ) → stays t ≡ true → pre_texts (Tag name) (t ++ rest) ≡ pre_texts (Tag (name ++ t)) rest
tagged [] rest name p = ap (λ n. pre_texts (Tag n) rest) (sym (append-nil name))
tagged (b ∷ t) rest name p =
    let h = and_parts (not (b == 62)) (stays t) p in
    rw (not-true (b == 62) h.0) (tagged t rest (name ++ b ∷ []) h.1 ∙ ap (λ n. pre_texts (Tag n) rest) (append_assoc name (b ∷ []) t))

-- Of a text this is seen, whatever follows it.
abbrev pub Shows : List ℕ → List ℕ → Type 0
Shows t x = (rest : List ℕ) → pre_texts (Inside false) (t ++ rest) ≡ x ++ pre_texts (Inside false) rest

pub both_shown : (a b x y : List ℕ) → Shows a x → Shows b y → Shows (a ++ b) (x ++ y)
both_shown a b x y p q rest = ap (pre_texts (Inside false)) (append_assoc a b rest) ∙ p (b ++ rest) ∙ ap (λ z. x ++ z) (q rest) ∙ sym (append_assoc x y (pre_texts (Inside false) rest))

-- texts of which nothing is seen
pub none_shown : (a b : List ℕ) → Shows a [] → Shows b [] → Shows (a ++ b) []
none_shown a b p q = both_shown a b [] [] p q

pub plain_shown : (t : List ℕ) → is_plain t ≡ true → Shows t []
plain_shown t p rest = passed t rest p

-- the tags that begin items
article_shown : (number : ℕ) (how : List ℕ) → is_plain how ≡ true → Shows (article_tag number how) []
article_shown number how p rest =
    let n = escaped (decimal number) in
    let front = codes "article id=\"l" in
    let mid = codes "\" class=\"" in
    let end = codes "\">" in
    ap (pre_texts (Tag front)) (append_assoc n (mid ++ (how ++ end)) rest)
    ∙ tagged n ((mid ++ (how ++ end)) ++ rest) front (plain_stays n (escaped_plain (decimal number)))
    ∙ tagged mid ((how ++ end) ++ rest) (front ++ n) refl
    ∙ ap (pre_texts (Tag ((front ++ n) ++ mid))) (append_assoc how end rest)
    ∙ tagged how (end ++ rest) ((front ++ n) ++ mid) (plain_stays how p)

note_shown : (number : ℕ) → Shows (note_tag number) []
note_shown number rest =
    let n = escaped (decimal number) in
    let front = codes "p id=\"l" in
    let end = codes "\">" in
    ap (pre_texts (Tag front)) (append_assoc n end rest) ∙ tagged n (end ++ rest) front (plain_stays n (escaped_plain (decimal number)))

line_plain : (l : List ℕ) → is_plain (shown_line l) ≡ true
line_plain l = escaped_plain (take most_of_line l)

number_plain : (number : ℕ) → is_plain (escaped (decimal number)) ≡ true
number_plain number = escaped_plain (decimal number)

pub head_shown : (number : ℕ) (how l : List ℕ) → is_plain how ≡ true → Shows (head_of number how l) []
head_shown number how l p =
    let n = escaped (decimal number) in
    let line = shown_line l in
    let end = line ++ codes "</code></h2>\n" in
    let coded = codes " <code>" ++ end in
    let numbered = n ++ coded in
    none_shown (article_tag number how) (codes "\n<h2>" ++ numbered) (article_shown number how p)
    (none_shown (codes "\n<h2>") numbered (λ rest. refl)
    (none_shown n coded (plain_shown n (number_plain number)) (none_shown (codes " <code>") end (λ rest. refl) (none_shown line (codes "</code></h2>\n") (plain_shown line (line_plain l)) (λ rest. refl)))))

pub reply_shown : (printed : List ℕ) → Shows (reply_of printed) (escaped printed)
reply_shown printed rest =
    ap (pre_texts (Inside true)) (append_assoc (escaped printed) (codes "</pre>\n") rest) ∙ seen (escaped printed) (codes "</pre>\n" ++ rest) (escaped_plain printed)

pub tail_shown : (trailing changes : List ℕ) → Shows (tail_of trailing changes) []
tail_shown trailing changes =
    let words = words_of trailing in
    let lines = escaped changes in
    let end = lines ++ codes "</pre>\n</article>\n" in
    let listed = codes "</p>\n<pre class=\"d\">" ++ end in
    none_shown (codes "<p>") (words ++ listed) (λ rest. refl)
    (none_shown words listed (plain_shown words (words_plain trailing))
    (none_shown (codes "</p>\n<pre class=\"d\">") end (λ rest. refl) (none_shown lines (codes "</pre>\n</article>\n") (plain_shown lines (escaped_plain changes)) (λ rest. refl))))

pub note_of_shown : (number : ℕ) (l : List ℕ) → Shows (note_of number l) []
note_of_shown number l =
    let line = shown_line l in
    none_shown (note_tag number) (line ++ codes "</p>\n") (note_shown number) (none_shown line (codes "</p>\n") (plain_shown line (line_plain l)) (λ rest. refl))
