use Rattle.std.proofs.Common.{◌≡◌, ◌==◌, ◌∷◌, refl, sym, ◌∙◌}
use Rattle.std.specs.List.{after_first}
use Rattle.mvs_model.specs.Lines.{lines_of}
use Rattle.expected_answers.proofs.Cutting.{first_line, next_of, some_left}
use Rattle.editor_messages.proofs.Lengths.{found_here, not_here}
use Rattle.editor_messages.proofs.frames.length_of.Goals as goal

pub returns-in-Some : goal.returns-in-Some
returns-in-Some c =
    let text = c.lines.rest.now in
    let cut : lines_of text ≡ c.split_once.result.0.now ∷ lines_of (after_first (λ b. b == 10) text) = rw (c.split_once.ensures.before) (first_line text (some_left text c.is_empty.result c.is_empty.ensures c.lines-test.true)) in
    found_here c.split_once.result.0.now text (after_first (λ b. b == 10) text) c.in-Some.length cut (sym c.length_in.ensures ∙ c.in-Some.is) ∙ c.lines.invariant

pub lines-preserved : goal.lines-preserved
lines-preserved c =
    let text = c.lines.rest.now in
    let next = next_of text c.split_once.result.1 _ c.unwrap_or-rest.result refl c.split_once.ensures.after c.unwrap_or-rest.ensures in
    let cut : lines_of text ≡ c.split_once.result.0.now ∷ lines_of c.unwrap_or-rest.result.now = rw (next, c.split_once.ensures.before) (first_line text (some_left text c.is_empty.result c.is_empty.ensures c.lines-test.true)) in
    not_here c.split_once.result.0.now text c.unwrap_or-rest.result.now cut (sym c.length_in.ensures ∙ c.in-None.is) ∙ c.lines.invariant
