use Rattle.std.proofs.Common.{◌≡◌, ◌-◌, length, take, drop, sym, ap, ◌∙◌}
use Rattle.std.proofs.lemmas.List.{length-drop}
use Rattle.std.proofs.Math.Seq.{take-length}
use Rattle.area_history.specs.Histories.{no_two, two_after}
use Rattle.area_history.specs.declared.findings.LastTwo.{LastTwo}
use Rattle.area_history.proofs.Indexing.{all_two}
use Rattle.area_history.proofs.history.AreaHistory.last_two.Goals as goal

pub returns-clause-two : goal.returns-clause-two
returns-clause-two c =
    let grants = c.as_slice-grants.result.now in
    let d = c.args.doubleword in
    let n = c.len.result in
    let count = c.add_rest.new.self.count in
    let rest : take (length grants - n) (drop n grants) ≡ drop n grants = ap (λ k. take k (drop n grants)) (sym (length-drop n grants)) ∙ take-length (drop n grants) in
    c.two_after.ensures
    ∙ ap (λ l. two_after d c.last_two-two.result l) rest
    ∙ ap (λ k. two_after d c.last_two-two.result (drop k grants)) c.len.ensures
    ∙ ap (λ (two : LastTwo). two_after d two (drop count grants)) c.last_two-two.ensures
    ∙ all_two grants d count
    ∙ ap (λ l. two_after d no_two l) (c.as_slice-grants.ensures.value ∙ c.self.view_is)
