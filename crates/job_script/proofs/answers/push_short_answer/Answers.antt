use Rattle.std.proofs.Common.{◌++◌, codes, append_assoc, ◌∙◌, ap}
use Rattle.mvs_model.specs.Texts.{hex}
use Rattle.job_script.proofs.answers.push_short_answer.Goals as goal

pub returns-in-Granted-clause-text : goal.returns-in-Granted-clause-text
returns-in-Granted-clause-text c = λ st fallen t.
    rw (c.in-Granted.is) (c.push_word-in-Granted.ensures.text ∙ ap (λ x. x ++ hex 8 c.in-Granted.len) c.push_str-in-Granted.ensures.text ∙ append_assoc c.args.text.now (codes "RC 0 LENGTH ") (hex 8 c.in-Granted.len))
