use Rattle.std.proofs.Common.{◌≡◌, [], ◌∷◌, refl, rules}
use Rattle.std.proofs.KnownBytes.{Keeps-refl}
use Rattle.std.proofs.lemmas.Result.{err_from_is_err_and}
use Rattle.mvs_model.specs.Answers.{Region, AnswerTo}
use Rattle.mvs_model.specs.FullAnswers.{ended_with_in}
use Rattle.job_script.proofs.Named.{mapped_ok}
use Rattle.mvs_job.specs.declared.printing.Stop.TheVariants.{Memory}
use Rattle.mvs_job.specs.LineEvents.{ended, full_answer_in}
use Rattle.event_json.proofs.Written.{statement_lines, text_written}
use Rattle.event_json.proofs.write_line.Goals as goal

pub returns-in_err-lines-in-StepBegan-clause-written : goal.returns-in_err-lines-in-StepBegan-clause-written
returns-in_err-lines-in-StepBegan-clause-written g c =
    let p = err_from_is_err_and c.from_residual.result c.from_residual.ensures.1 in
    let why : c.in_err-lines-in-StepBegan.field-0.0 ≡ Memory = search rules in
    rw (p.1, p.2, why)
    (rw (c.in-StepBegan.is) ((ended c.in-StepBegan.ended, c.args.line.now.number, c.in-StepBegan.card.name, Region c.in-StepBegan.card, refl), Keeps-refl _))

pub returns-in_ok-text-in-Answered-clause-written : goal.returns-in_ok-text-in-Answered-clause-written
returns-in_ok-text-in-Answered-clause-written g c =
    let n = c.args.line.now.number in
    let t = c.in-Answered.task in
    let a = full_answer_in c.args.walk.now.step (ended_with_in c.args.walk.now.reply) t c.in-Answered.answer in
    let text = c.in_ok-text-in-Answered.text in
    let is = rw (mapped_ok c.answer_line.result c.map_err-in-Answered.result _ text c.map_err-in-Answered.ensures.cases c.in_ok-text-in-Answered.was) at c.answer_line.ensures in
    rw (c.in-Answered.is)
    (text_written _ _ (AnswerTo n t a ∷ []) text.items (statement_lines n t a text.items is) c.write_text-in-Answered.result (rw (c.deref-in-Answered.ensures.value) at c.write_text-in-Answered.ensures.text.bytes) c.write_text-in-Answered.ensures.memory)

pub returns-in_err-text-in-Answered-clause-written : goal.returns-in_err-text-in-Answered-clause-written
returns-in_err-text-in-Answered-clause-written g c =
    let p = err_from_is_err_and c.from_residual-in_err-text-in-Answered.result c.from_residual-in_err-text-in-Answered.ensures.1 in
    let why : c.in_err-text-in-Answered.field-0.0 ≡ Memory = search rules in
    rw (p.1, p.2, why)
    (rw (c.in-Answered.is) (([], c.args.line.now.number, c.in-Answered.task, full_answer_in c.args.walk.now.step (ended_with_in c.args.walk.now.reply) c.in-Answered.task c.in-Answered.answer, refl), Keeps-refl _))
