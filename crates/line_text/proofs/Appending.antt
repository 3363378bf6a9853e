-- What is appended in turn is appended at once.
use Rattle.std.proofs.Common.{◌≡◌, refl, ℕ, zero, suc, ◌+◌, ◌-◌, ◌<◌, ◌≤◌, List, [], ◌∷◌, ◌++◌, get_or, take, drop, length, append_assoc, ap, ◌∙◌, sym, None, Some, Option}
use Rattle.std.proofs.Math.Seq.{take-add}
use Rattle.std.proofs.lemmas.List.{take_rest, take-append-drop, take_more, flat_map_more, take_at, drop_at, take-append-le, length-take-le}
use borrow.Rule.Slice.PartMut.{put_mid, post_of}
use Rattle.std.proofs.lemmas.Grind.{flat_map-append}
use Rattle.std.specs.List.{flat_map}
use Rattle.std.proofs.KnownBytes.{Appends-trans}
use Rattle.std.specs.Io.KnownBytes.{Appends, Keeps}
use Rattle.line_text.specs.Writing.{AppendsFront}

pub Appends-kept : (a b c : Option (List ℕ)) (x : List ℕ) → Appends a b x → Keeps b c → Appends a c x
Appends-kept None b c x p q = tt
Appends-kept (Some xs) None c x p q = absurd p
Appends-kept (Some xs) (Some ys) None x p q = absurd q
Appends-kept (Some xs) (Some ys) (Some zs) x p q = q ∙ p

-- the step of a loop that writes a piece at a time
pub Appends_next : (a b c : Option (List ℕ)) (n m : ℕ) (bytes : List ℕ) → Appends a b (take n bytes) → Appends b c (take m (take (length bytes - n) (drop n bytes))) → Appends a c (take (n + m) bytes)
Appends_next a b c n m bytes p q = rw (take-add n m bytes) (Appends-trans a b c _ _ p (rw (take_rest bytes n) at q))

-- a list that grew twice at its end
pub trailing : (old mid new a b : List ℕ) → mid ≡ old ++ a → new ≡ mid ++ b → new ≡ old ++ (a ++ b)
trailing old mid new a b e f = f ∙ ap (λ x. x ++ b) e ∙ append_assoc old a b

-- some of the bytes
pub front_taken : (a b : Option (List ℕ)) (n : ℕ) (bytes : List ℕ) → Appends a b (take n bytes) → AppendsFront a b bytes
front_taken a b n bytes p = (take n bytes, drop n bytes, sym (take-append-drop n bytes), p)

-- all of some bytes and a front of others
pub front_more : (a b c : Option (List ℕ)) (x y : List ℕ) → Appends a b x → AppendsFront b c y → AppendsFront a c (x ++ y)
front_more a b c x y p f = (x ++ f.0, f.1, ap (λ z. x ++ z) f.2 ∙ sym (append_assoc x f.0 f.1), Appends-trans a b c x f.0 p f.3)

-- a front of a front
pub front_longer : (a b : Option (List ℕ)) (x y : List ℕ) → AppendsFront a b x → AppendsFront a b (x ++ y)
front_longer a b x y f = (f.0, f.1 ++ y, ap (λ z. z ++ y) f.2 ∙ append_assoc f.0 f.1 y, f.3)

-- a line for each element of a list, one after another
module _ {X : Type 0} (f : X → List ℕ) (head : List ℕ) (xs : List X) where
  pub one_line_more : (i : ℕ) (x : X) → i < length xs → x ≡ get_or xs i x → (head ++ flat_map f (take i xs)) ++ f x ≡ head ++ flat_map f (take (i + 1) xs)
  one_line_more i x l e = flat_map_more f head (take i xs) x ∙ ap (λ ys. head ++ flat_map f ys) (ap (λ y. take i xs ++ y ∷ []) e ∙ sym (take_more xs i x l))

  pub lines_more : (a b c : Option (List ℕ)) (i : ℕ) (x : X) → i < length xs → x ≡ get_or xs i x → Appends a b (head ++ flat_map f (take i xs)) → Appends b c (f x) → Appends a c (head ++ flat_map f (take (i + 1) xs))
  lines_more a b c i x l e p q = rw (← one_line_more i x l e) (Appends-trans a b c _ _ p q)

  -- several of them at once
  pub piece_more : (i m : ℕ) → (head ++ flat_map f (take i xs)) ++ flat_map f (take m (drop i xs)) ≡ head ++ flat_map f (take (i + m) xs)
  piece_more i m = append_assoc head _ _ ∙ ap (λ z. head ++ z) (sym (flat_map-append f (take i xs) (take m (drop i xs))) ∙ ap (flat_map f) (sym (take-add i m xs)))

  pub lines_rest : (i : ℕ) → (head ++ flat_map f (take i xs)) ++ flat_map f (drop i xs) ≡ head ++ flat_map f xs
  lines_rest i = append_assoc head _ _ ∙ ap (λ z. head ++ z) (sym (flat_map-append f (take i xs) (drop i xs)) ∙ ap (flat_map f) (take-append-drop i xs))

  pub lines_front : (a b c : Option (List ℕ)) (i : ℕ) (x : X) → i < length xs → x ≡ get_or xs i x → Appends a b (head ++ flat_map f (take i xs)) → AppendsFront b c (f x) → AppendsFront a c (head ++ flat_map f xs)
  lines_front a b c i x l e p q = rw (← lines_rest (i + 1), ← one_line_more i x l e) (front_longer a c _ _ (front_more a b c _ _ p q))

-- a name of which only the front is kept, after a text in its array
pub name_put : (bytes ws : List ℕ) (len m k : ℕ) → len ≤ length bytes → k ≤ length ws → take (len + k) (put_mid len m bytes ws) ≡ take len bytes ++ take k ws
name_put bytes ws len m k within few =
    let front : length (take len bytes) ≡ len = length-take-le len bytes within in
    take-add len k (put_mid len m bytes ws)
    ∙ (rw (take_at (take len bytes) (ws ++ post_of len m bytes) _ front, drop_at (take len bytes) (ws ++ post_of len m bytes) _ front, take-append-le k ws (post_of len m bytes) few) refl)

pub taken_again : (n : ℕ) (l : List ℕ) → take (length (take n l)) l ≡ take n l
taken_again zero l = refl
taken_again (suc n) [] = refl
taken_again (suc n) (x ∷ l) = ap (λ l. x ∷ l) (taken_again n l)
