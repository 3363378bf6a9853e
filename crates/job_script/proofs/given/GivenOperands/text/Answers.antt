use Rattle.std.proofs.Common.{sym, ap, ◌∙◌}
use Rattle.mvs_model.specs.ReadingLaws.{IsTaken}
use Rattle.job_script.specs.Rows.{row_at, key_text}
use Rattle.job_script.specs.GivenOperands.{by_place, text_at}
use Rattle.job_script.proofs.Taking.{kept_at, each_now, said_now, taken_text}
use Rattle.job_script.proofs.given.GivenOperands.text.Goals as goal

pub returns-clause-text : goal.returns-clause-text
returns-clause-text c =
    let texts = c.args.self.now.texts in
    sym (kept_at texts c.index.result) ∙ ap (text_at texts) (sym c.index.ensures.index)

pub returns-clause-taken : goal.returns-clause-taken
returns-clause-taken c =
    let texts = c.args.self.now.texts in
    let key = key_text c.args.key in
    each_now (IsTaken (row_at c.args.self.now.row) key) _ ((by_place c.args.self.now).under key) (sym (kept_at texts c.index.result) ∙ ap (text_at texts) (sym c.index.ensures.index))
    (λ text e. taken_text c.args.self.now c.requires.0 c.requires.1 key text e)

pub returns-clause-said : goal.returns-clause-said
returns-clause-said c =
    let texts = c.args.self.now.texts in
    said_now _ ((by_place c.args.self.now).under (key_text c.args.key)) (sym (kept_at texts c.index.result) ∙ ap (text_at texts) (sym c.index.ensures.index))
