use Rattle.std.proofs.Common.{◌≡◌, ◌⊎◌, inl, inr, ◌++◌, ◌||◌, ℕ, List, [], append-nil, Bool, true, false, refl, sym, ap, ◌∙◌, cond, codes}
use Rattle.mvs_model.specs.Name.{trimmed}
use Rattle.line_text.proofs.Appending.{trailing}
use Rattle.explanation.proofs.reasons.push_sharing.Goals as goal
use Rattle.explanation.proofs.reasons.push_sharing.Goals.{then-is_same_name-via-then-is_same_name, then-is_same_name-via-else-is_same_name+then-is_step_number}

adds_nothing : (text words : List ℕ) (a b : Bool) → (a ≡ true) ⊎ (b ≡ true) → text ≡ text ++ cond (a || b) [] words
adds_nothing text words true b h = sym (append-nil text)
adds_nothing text words false true h = sym (append-nil text)
adds_nothing text words false false (inl e) = absurd (let f : false ≡ true = e in cc)
adds_nothing text words false false (inr e) = absurd (let f : false ≡ true = e in cc)

adds_words : (text words : List ℕ) (a b : Bool) → a ≡ false → b ≡ false → text ++ words ≡ text ++ cond (a || b) [] words
adds_words text words false false e f = refl
adds_words text words true b e f = absurd (let g : true ≡ false = e in cc)
adds_words text words false true e f = absurd (let g : true ≡ false = f in cc)

pub returns-then-is_same_name-clause-text : goal.returns-then-is_same_name-clause-text
returns-then-is_same_name-clause-text c = elim c.then-is_same_name.branch [
  | then-is_same_name-via-then-is_same_name w ↦ adds_nothing _ _ _ _ (inl (sym c.is_same_name.ensures ∙ w.if-is_same_name.true))
  | then-is_same_name-via-else-is_same_name+then-is_step_number w ↦ adds_nothing _ _ _ _ (inr (sym w.is_step_number.ensures ∙ w.if-is_step_number.true))
]

pub returns-clause-text : goal.returns-clause-text
returns-clause-text c =
    trailing c.args.text.now c.push_name.new.self c.push_str-2.new.self (codes ", which " ++ trimmed c.args.task.now) (codes " shares,")
    (trailing c.args.text.now c.push_str.new.self c.push_name.new.self (codes ", which ") (trimmed c.args.task.now) c.push_str.ensures.text c.push_name.ensures.text) c.push_str-2.ensures.text
    ∙ adds_words c.args.text.now _ _ _ (sym c.is_same_name.ensures ∙ c.if-is_same_name.false) (sym c.is_step_number.ensures ∙ c.if-is_step_number.false)
