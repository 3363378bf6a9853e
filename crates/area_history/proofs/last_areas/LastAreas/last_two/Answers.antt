use Rattle.std.proofs.Common.{◌≡◌, ap, ◌∙◌}
use Rattle.area_history.specs.LastAreas.{areas_of, numbers_at}
use Rattle.area_history.specs.Leaking.{value_at}
use Rattle.area_history.specs.declared.findings.LastTwo.{LastTwo}
use Rattle.area_history.proofs.Indexing.{indexed_two}
use Rattle.area_history.proofs.last_areas.LastAreas.last_two.Goals as goal

pub returns : goal.returns
returns c =
    let last = c.args.self.now in
    let grants = c.args.grants.now in
    let d = c.args.doubleword in
    let numbers : c.get-numbers.result ≡ numbers_at last d = c.get-numbers.ensures ∙ ap (λ f. value_at last.numbers f d) c.no_numbers.ensures in
    let two : ◌≡◌ {A = LastTwo} record { previous = c.area_of.result; latest = c.area_of-2.result } (areas_of grants c.get-numbers.result) = λ i. record { previous = c.area_of.ensures i; latest = c.area_of-2.ensures i } in
    two ∙ ap (λ n. areas_of grants n) numbers ∙ indexed_two last grants d c.requires
