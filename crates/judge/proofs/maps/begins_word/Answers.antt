use Rattle.std.proofs.Common.{◌∷◌, ◌++◌, append_assoc, ap, drop, inr, sym, ◌∙◌}
use Rattle.std.proofs.lemmas.List.{take-append-drop}
use Rattle.judge.proofs.maps.begins_word.Goals as goal

pub returns-else-is_empty : goal.returns-else-is_empty
returns-else-is_empty c = λ e.
    let r = c.has_blank_first.ensures e in
    let back = drop c.min.result c.args.text.now in
    inr (r.0, (r.1 ++ back), r.2, (sym (take-append-drop c.min.result c.args.text.now) ∙ ap (λ x. x ++ back) r.3 ∙ append_assoc r.0 (32 ∷ r.1) back))
