use Rattle.std.proofs.Common.{◌≡◌, ◌+◌, ◌-◌, ◌++◌, length, take, drop, arith, ap, ◌∙◌}
use Rattle.std.proofs.lemmas.List.{take_rest}
use Rattle.std.specs.List.{flat_map}
use Rattle.mvs_model.specs.Texts.{hex}
use Rattle.line_text.proofs.Appending.{piece_more, lines_rest}
use Rattle.line_text.proofs.text.LineText.push_bytes.Goals as goal

pub loop-done-preserved : goal.loop-done-preserved
loop-done-preserved c =
    let bytes = c.args.bytes.now in
    let done = c.loop-done.done in
    let size : (done + 16) - done ≡ 16 = omega arith in
    record {
      within = omega arith;
      text = c.push_str.ensures.text
          ∙ ap (λ front. front ++ c.digits_of_sixteen.result) c.loop-done.invariant.text
          ∙ ap (λ digits. (c.args.self.now ++ flat_map (hex 2) (take done bytes)) ++ digits) c.digits_of_sixteen.ensures
          ∙ ap (λ n. (c.args.self.now ++ flat_map (hex 2) (take done bytes)) ++ flat_map (hex 2) (take n (drop done bytes))) size
          ∙ piece_more (hex 2) c.args.self.now bytes done 16;
      len = omega arith;
    }

pub returns-clause-text : goal.returns-clause-text
returns-clause-text c =
    let bytes = c.args.bytes.now in
    let done = c.loop-done.done in
    c.push_each.ensures.text
    ∙ ap (λ front. front ++ flat_map (hex 2) (take (length bytes - done) (drop done bytes))) c.loop-done.invariant.text
    ∙ ap (λ rest. (c.args.self.now ++ flat_map (hex 2) (take done bytes)) ++ flat_map (hex 2) rest) (take_rest bytes done)
    ∙ lines_rest (hex 2) c.args.self.now bytes done
