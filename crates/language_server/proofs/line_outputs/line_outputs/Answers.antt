use Rattle.std.proofs.Common.{◌≡◌, ◌==◌, ◌∷◌, ◌++◌, [], ap, arith, length, refl, ◌∙◌}
use Rattle.std.specs.List.{after_first}
use Rattle.std.proofs.lemmas.Grind.{common_steps}
use Rattle.mvs_model.specs.Lines.{lines_of}
use Rattle.expected_answers.proofs.Cutting.{first_line, next_of, some_left}
use Rattle.language_server.proofs.Emptying.{after_short}
use Rattle.language_server.proofs.TakenLines.{output_is, outputs_more}
use Rattle.language_server.proofs.line_outputs.line_outputs.Goals as goal

pub lines-preserved : goal.lines-preserved
lines-preserved c =
    let text = c.lines.rest.now in
    let some = some_left text c.is_empty.result c.is_empty.ensures c.lines-test.true in
    let next = next_of text c.split_once.result.1 _ c.unwrap_or-rest.result refl c.split_once.ensures.after c.unwrap_or-rest.ensures in
    let cut : lines_of text ≡ c.split_once.result.0.now ∷ lines_of c.unwrap_or-rest.result.now = rw (next, c.split_once.ensures.before) (first_line text some) in
    let line = c.split_once.result.0.now in
    let left = c.unwrap_or-rest.result.now in
    let short = after_short (λ b. b == 10) text some in
    let same : length left ≡ length (after_first (λ b. b == 10) text) = ap length next in
    let room = c.lines.invariant.room in
    let output = c.take.new.self in
    let is = output_is c.lines.number line c.split_once-in-lines.result.0.now (lines_of c.lines.printed.now) c.new-output.result output c.split_once-in-lines.ensures.before c.new-output.ensures.answer c.new-output.ensures.others c.in_ok-printed.ensures.answer c.in_ok-printed.ensures.others in
    let pushed : c.push.new.self.items ≡ c.lines.found.items ++ output ∷ [] = grind (arith, common_steps) in
    record {
      outputs = outputs_more c.lines.number c.lines.found.items c.push.new.self.items output line text left (lines_of c.lines.printed.now) (lines_of c.in_ok-printed.printed.now) cut pushed is c.in_ok-printed.ensures.rest ∙ c.lines.invariant.outputs;
      room = omega (arith, short, same, room);
    }
