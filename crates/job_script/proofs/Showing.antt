-- Bytes that are printed line by line.
use Rattle.std.proofs.Common.{◌≡◌, ℕ, ◌+◌, ◌/◌, ◌<◌, ◌++◌, List, [], ◌∷◌, Option, length, take, drop, codes, decimal, refl, ap, sym, ◌∙◌, add-one, append_assoc, length-drop, arith, min}
use Rattle.std.proofs.lemmas.List.{take_min, drop_min}
use Rattle.std.proofs.Math.Nat.{min_comm}
use Rattle.std.specs.Io.KnownBytes.{Appends}
use Rattle.std.proofs.KnownBytes.{Appends-trans}
use Rattle.mvs_model.specs.declared.name.Name.{Name}
use Rattle.mvs_model.specs.Name.{trimmed}
use Rattle.mvs_model.specs.Texts.{reply_line, data_lines}
use Rattle.line_text.specs.Writing.{AppendsFront, data_text}
use Rattle.line_text.proofs.Appending.{front_longer, front_more}

-- a line after its number and its task
pub after_head : (number : ℕ) (t : Name) (head said : List ℕ) → head ≡ decimal number ++ codes " " ++ trimmed t ++ codes " " → head ++ said ++ codes "\n" ≡ reply_line number t said
after_head number t head said e = ap (λ h. h ++ said ++ codes "\n") e

-- one line, and then the others
pub lines_next : (number : ℕ) (t : Name) (offset : ℕ) (rest : List ℕ) → 0 < length rest
    → data_lines number t ((length rest + 31) / 32) offset rest ≡ reply_line number t (data_text offset (take 32 rest)) ++ data_lines number t ((length (drop 32 rest) + 31) / 32) (offset + 32) (drop 32 rest)
unfolding data_lines
lines_next number t offset rest some =
    let count : (length rest + 31) / 32 ≡ (length (drop 32 rest) + 31) / 32 + 1 = omega (arith, length-drop 32 rest) in
    ap (λ n. data_lines number t n offset rest) (count ∙ add-one ((length (drop 32 rest) + 31) / 32))

-- no line
pub lines_done : (number : ℕ) (t : Name) (offset : ℕ) (rest : List ℕ) → length rest ≡ 0 → data_lines number t ((length rest + 31) / 32) offset rest ≡ []
unfolding data_lines
lines_done number t offset [] e = refl
lines_done number t offset (b ∷ bs) e = absurd (omega (arith, e))

-- the line in front, and what is after it
pub cut_front : (rest line : List ℕ) (mid : ℕ) → mid ≡ min (length rest) 32 → line ≡ take mid rest → line ≡ take 32 rest
cut_front rest line mid e cut = cut ∙ ap (λ n. take n rest) (e ∙ min_comm (length rest) 32) ∙ take_min 32 rest

pub cut_back : (rest more : List ℕ) (mid : ℕ) → mid ≡ min (length rest) 32 → more ≡ drop mid rest → more ≡ drop 32 rest
cut_back rest more mid e cut = cut ∙ ap (λ n. drop n rest) (e ∙ min_comm (length rest) 32) ∙ drop_min 32 rest

module _ (a b c : Option (List ℕ)) (front total : List ℕ) (number : ℕ) (t : Name) (offset : ℕ) (rest line : List ℕ) (some : 0 < length rest) (is : line ≡ take 32 rest) (so_far : Appends a b front) (all : front ++ data_lines number t ((length rest + 31) / 32) offset rest ≡ total) where
  abbrev said : List ℕ
  said = reply_line number t (data_text offset line)

  abbrev trailing : List ℕ
  trailing = data_lines number t ((length (drop 32 rest) + 31) / 32) (offset + 32) (drop 32 rest)

  one_more : (front ++ said) ++ trailing ≡ total
  one_more = append_assoc front said trailing ∙ ap (λ l. front ++ (reply_line number t (data_text offset l) ++ trailing)) is ∙ ap (λ z. front ++ z) (sym (lines_next number t offset rest some)) ∙ all

  -- a line that is written in part leaves a front of all
  pub data_front : AppendsFront b c said → AppendsFront a c total
  data_front f = rw (← one_more) (front_longer a c _ _ (front_more a b c _ _ so_far f))

  -- one that is written whole leaves the others
  pub data_more : (more : List ℕ) → more ≡ drop 32 rest → Appends b c said → (new : List ℕ) × Appends a c new × (new ++ data_lines number t ((length more + 31) / 32) (offset + 32) more ≡ total)
  data_more more back f = (front ++ said, Appends-trans a b c _ _ so_far f, ap (λ l. (front ++ said) ++ data_lines number t ((length l + 31) / 32) (offset + 32) l) back ∙ one_more)
