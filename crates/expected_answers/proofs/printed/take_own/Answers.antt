use Rattle.std.proofs.Common.{◌≡◌, ap, true, sym, ◌∙◌}
use Rattle.mvs_model.specs.Lines.{lines_of}
use Rattle.expected_answers.specs.ExpectedAnswers.{is_own, text_of}
use Rattle.expected_answers.proofs.Walking.{take_after, take_step, with_text}
use Rattle.expected_answers.proofs.printed.take_own.Goals as goal

pub own-preserved : goal.own-preserved
own-preserved c =
    let text = c.own.rest.now in
    let own = c.in-Some.ensures.line in
    let is : is_own c.args.number (lines_of text) ≡ true = ap (λ n. is_own n (lines_of text)) (sym c.new-own.ensures) ∙ sym c.in-Some.ensures.own in
    let more = c.in_ok-push_text.ensures ∙ ap (with_text c.own.texts.items) (own.2 ∙ ap (λ n. text_of n c.args.task.now own.0) c.new-own.ensures) in
    record {
      texts = take_step c.args.number text own.0 c.in-Some.more.now is own.1 c.args.task.now c.own.texts.items c.push_text.new.texts.items more ∙ c.own.invariant.texts;
      after = take_after c.args.number text own.0 c.in-Some.more.now is own.1 ∙ c.own.invariant.after;
    }
