use Rattle.std.proofs.Common.{◌≡◌, ◌≢◌, get_or, arith, false, ◌==◌}
use Rattle.std.proofs.lemmas.Grind.{common_steps}
use Rattle.std.proofs.lemmas.Bool.Decides.{nat_tests}
use Rattle.std.proofs.lemmas.List.Elements.{All-from_get_or}
use Rattle.mvs_model.proofs.NameText.{padded_is_name}
use Rattle.mvs_model.proofs.name.Name.new.Goals as goal

pub invariant_of-result : goal.invariant_of-result
invariant_of-result c =
    let text = c.args.text.now in
    let cases = rw c.if-contains.false at c.contains.ensures.cases in
    let no_blank = All-from_get_or (λ b. b ≢ 32) text 0 (λ i l e. let f : (get_or text i 0 == 32) ≡ false = cases i 0 (omega arith) l in grind (arith, nat_tests)) in
    rw c.pad.ensures (padded_is_name text (record { some = grind (arith, common_steps); short = omega arith; no_blank = no_blank }))
