use Rattle.std.proofs.Common.{◌≡◌, ℕ, suc, ◌+◌, ◌<◌, Bool, List, ◌∷◌, ◌++◌, length, drop, get_or, add-one, append_assoc, arith, ap, subst, sym, ◌∙◌}
use Rattle.std.specs.Prelude.{nat_le, ◌&&◌}
use Rattle.std.proofs.Math.Seq.{drop-cons}
use Rattle.language_server.specs.Actions.{ActionValue, writings_from, writings_in}
use Rattle.language_server.specs.LineOutputs.{LineOutputValue}
use Rattle.language_server.proofs.document.Document.add_writings.Goals as goal

-- one line is done
writings_more : (text : List ℕ) (n first last : ℕ) (outputs : List LineOutputValue) (o : LineOutputValue) (actions new : List ActionValue) (is_asked : Bool) (answer : List ℕ) → n < length outputs
    → o ≡ get_or outputs n o → is_asked ≡ (nat_le first n && nat_le n last) → answer ≡ o.answer → new ≡ actions ++ writings_in is_asked text n answer
    → new ++ writings_from text (n + 1) first last (drop (n + 1) outputs) ≡ actions ++ writings_from text n first last (drop n outputs)
writings_more text n first last outputs o actions new is_asked answer within is asked answers more =
    let left : List ActionValue = writings_from text (n + 1) first last (drop (n + 1) outputs) in
    let one : drop (n + 1) outputs ≡ drop (suc n) outputs = ap (λ k. drop k outputs) (add-one n) in
    let cut : o ∷ drop (n + 1) outputs ≡ drop n outputs = ap (λ l. o ∷ l) one ∙ ap (λ x. x ∷ drop (suc n) outputs) is ∙ sym (drop-cons outputs n o within) in
    ap (λ a. a ++ left) more ∙ append_assoc actions (writings_in is_asked text n answer) left
    ∙ ap (λ b. actions ++ (writings_in b text n answer ++ left)) asked ∙ ap (λ a. actions ++ (writings_in (nat_le first n && nat_le n last) text n a ++ left)) answers
    ∙ ap (λ l. actions ++ writings_from text n first last l) cut

pub loop-line-preserved : goal.loop-line-preserved
loop-line-preserved c =
    let same : c.deref-output-items.result.now ≡ c.args.self.now.outputs = c.deref-output-items.ensures.value ∙ ap (λ d. d.outputs) c.self.view_is in
    let within : c.loop-line.line < length c.args.self.now.outputs = (let e = ap length same in let t = c.loop-line-test.true in omega (arith, e, t)) in
    let is : c.output-item.result ≡ get_or c.args.self.now.outputs c.loop-line.line c.output-item.result = subst (λ l. c.output-item.result ≡ get_or l c.loop-line.line c.output-item.result) same c.output-item.is in
    writings_more c.args.self.now.text c.loop-line.line c.args.first c.args.last c.args.self.now.outputs c.output-item.result c.loop-line.actions.items c.push_writing.new.actions.items c.is_between-is_asked.result c.answer.result.now
    within is c.is_between-is_asked.ensures c.answer.ensures c.in_ok-push_writing.ensures
    ∙ c.loop-line.invariant
