use Rattle.std.proofs.Common.{◌≡◌, ◌∷◌, ap, true, refl, sym, ◌∙◌}
use Rattle.mvs_model.specs.Lines.{lines_of}
use Rattle.expected_answers.proofs.Cutting.{first_line, next_of}
use Rattle.language_server.specs.LineOutputs.{is_own, with_other, with_text}
use Rattle.language_server.proofs.TakenLines.{take_after, take_answer, take_other}
use Rattle.language_server.proofs.line_outputs.LineOutput.take.Goals as goal

pub own-preserved : goal.own-preserved
own-preserved c =
    let text = c.own.rest.now in
    let is : is_own c.args.number (lines_of text) ≡ true = sym c.is_own.ensures.own ∙ c.own-test.true in
    let next = next_of text c.split_once.result.1 _ c.unwrap_or-rest.result refl c.split_once.ensures.after c.unwrap_or-rest.ensures in
    let cut : lines_of text ≡ c.split_once.result.0.now ∷ lines_of c.unwrap_or-rest.result.now = rw (next, c.split_once.ensures.before) (first_line text (c.is_own.ensures.some c.own-test.true)) in
    let line = c.split_once.result.0.now in
    let left = c.unwrap_or-rest.result.now in
    record {
      answer = take_answer c.args.number text line left is cut c.args.task.now c.own.self.answer c.add.new.self.answer (c.in_ok-add.ensures.answer ∙ ap (λ o. with_text o c.own.self.answer) c.own_text.ensures) ∙ c.own.invariant.answer;
      others = take_other c.args.number text line left is cut c.args.task.now c.own.self.others c.add.new.self.others (c.in_ok-add.ensures.others ∙ ap (λ o. with_other o c.own.self.others line) c.own_text.ensures) ∙ c.own.invariant.others;
      after = take_after c.args.number text line left is cut ∙ c.own.invariant.after;
    }
