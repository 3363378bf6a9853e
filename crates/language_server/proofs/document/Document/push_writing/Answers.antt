use Rattle.std.proofs.Common.{◌≡◌, ◌∷◌, [], ◌++◌, true, if◌then◌else◌, ap, sym, ◌∙◌}
use Rattle.std.specs.Prelude.{◌&&◌}
use Rattle.language_server.specs.Actions.{is_unwritten, writing}
use Rattle.language_server.specs.Spans.{line_bytes}
use Rattle.language_server.proofs.document.Document.push_writing.Goals as goal

pub returns-in_ok-push : goal.returns-in_ok-push
returns-in_ok-push c =
    let text = c.args.self.now.text in
    let n = c.args.number in
    let answer = c.args.answer.now in
    let old = c.args.actions.now.items in
    let unwritten : is_unwritten (line_bytes text n) answer ≡ true = ap (λ line. is_unwritten line answer) (sym c.line.ensures.line) ∙ sym c.is_unwritten.ensures ∙ c.if-is_unwritten.true in
    let wanted : (c.args.is_asked && is_unwritten (line_bytes text n) answer) ≡ true = ap (λ b. b && is_unwritten (line_bytes text n) answer) c.if-is_asked.true ∙ unwritten in
    c.in_ok-push.ensures.items ∙ ap (λ action. old ++ action ∷ []) c.in_ok-writing.ensures ∙ sym (ap (λ b. old ++ (if b then writing text n answer ∷ [] else [])) wanted)
