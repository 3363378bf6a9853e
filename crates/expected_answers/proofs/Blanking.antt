-- A script without its answers, a line at a time.
use Rattle.std.proofs.Common.{◌≡◌, ℕ, suc, ◌+◌, ◌<◌, ◌==◌, Bool, true, false, not, cond, if◌then◌else◌, List, [], ◌∷◌, ◌++◌, length, take, drop, append_assoc, arith, Option, Some, None, is_some, Bor, refl, sym, ap, ◌∙◌, subst}
use Rattle.std.specs.List.{after_first, before_first, list_any, onto_first, position_or_len}
use Rattle.std.specs.Prelude.{MatchOption, codes, unwrap_or}
use Rattle.std.specs.Option.{option_map}
use Rattle.std.specs.Io.KnownBytes.{Appends}
use Rattle.std.proofs.KnownBytes.{Appends-trans}
use Rattle.line_text.specs.Writing.{AppendsFront}
use Rattle.line_text.proofs.Appending.{front_longer, front_more}
use Rattle.mvs_model.specs.Lines.{lines_of}
use Rattle.expected_answers.specs.Blank.{IsPartedAt, arrow, blank, blank_end, blank_line, blank_lines, place_of, up_to}

-- ---- a line

-- what is written of it
pub of_parted : (separator text before : List ℕ) (after : Option (List ℕ)) → IsPartedAt separator text before after → (before ≡ up_to (place_of separator text) text) × (is_some after ≡ is_some (place_of separator text))
of_parted separator text before None p = (p.1 ∙ sym (ap (λ o. up_to o text) p.0), sym (ap is_some p.0))
of_parted separator text before (Some after) p = (p.2 ∙ sym (ap (λ o. up_to o text) p.1), sym (ap is_some p.1))

pub as_answered : (tail : List ℕ) (answers : Option (Bor (List ℕ))) (answered : Bool) → tail ≡ blank_end answered → answered ≡ is_some answers → tail ≡ blank_end (is_some (option_map (λ a. a.now) answers))
as_answered tail None answered end is = end ∙ ap blank_end is
as_answered tail (Some a) answered end is = end ∙ ap blank_end is

-- ---- the lines so far

abbrev pub SoFar : Option (List ℕ) → Option (List ℕ) → List ℕ → List ℕ → Type 0
SoFar start now script rest = (written : List ℕ) × Appends start now written × (blank script ≡ written ++ blank rest)

module _ (start before mid now : Option (List ℕ)) (script text line next statement tail : List ℕ) (answers : Option (List ℕ)) (cut : lines_of text ≡ line ∷ lines_of next) (so_far : SoFar start before script text) (split_once : IsPartedAt arrow line statement answers) (end : tail ≡ blank_end (is_some answers)) where
  of_line : statement ++ tail ≡ blank_line line
  of_line =
      let p = of_parted arrow line statement answers split_once in
      ap (λ t. statement ++ t) (end ∙ ap blank_end p.1) ∙ ap (λ s. s ++ blank_end (is_some (place_of arrow line))) p.0

  whole : blank script ≡ so_far.0 ++ ((statement ++ tail) ++ blank next)
  whole = so_far.2 ∙ ap (λ t. so_far.0 ++ t) (ap blank_lines cut ∙ ap (λ t. t ++ blank next) (sym of_line))

  pub in_statement : AppendsFront before now statement → AppendsFront start now (blank script)
  in_statement front =
      subst (AppendsFront start now) (append_assoc so_far.0 statement (tail ++ blank next) ∙ ap (λ t. so_far.0 ++ t) (sym (append_assoc statement tail (blank next))) ∙ sym whole)
      (front_longer start now (so_far.0 ++ statement) (tail ++ blank next) (front_more start before now so_far.0 statement so_far.1 front))

  trailing : ((so_far.0 ++ statement) ++ tail) ++ blank next ≡ blank script
  trailing = ap (λ t. t ++ blank next) (append_assoc so_far.0 statement tail) ∙ append_assoc so_far.0 (statement ++ tail) (blank next) ∙ sym whole

  pub in_end : Appends before mid statement → AppendsFront mid now tail → AppendsFront start now (blank script)
  in_end all front =
      subst (AppendsFront start now) trailing
      (front_longer start now ((so_far.0 ++ statement) ++ tail) (blank next) (front_more start mid now (so_far.0 ++ statement) tail (Appends-trans start before mid so_far.0 statement so_far.1 all) front))

  pub line_more : Appends before mid statement → Appends mid now tail → SoFar start now script next
  line_more all rest = ((so_far.0 ++ statement) ++ tail, Appends-trans start mid now (so_far.0 ++ statement) tail (Appends-trans start before mid so_far.0 statement so_far.1 all) rest, sym trailing)
