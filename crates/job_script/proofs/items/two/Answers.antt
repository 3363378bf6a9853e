use Rattle.std.proofs.Common.{◌≡◌, ◌∷◌, suc, length, ap, sym, ◌∙◌, arith}
use Rattle.std.specs.Prelude.{◌==◌}
use Rattle.job_script.specs.Items.{items_in}
use Rattle.job_script.proofs.ListItems.{only_part}
use Rattle.job_script.proofs.items.two.Goals as goal

pub returns : goal.returns
returns c =
    let parts = rw c.in-Some.is at c.split_once.ensures.parts in
    let long : 2 ≡ suc (length (items_in c.in-Some.second.now)) = sym c.requires ∙ ap length parts in
    let one : length (items_in c.in-Some.second.now) ≡ 1 = omega arith in
    parts ∙ ap (λ ps. c.split_once.result.0.now ∷ ps) (only_part (λ b. b == 44) c.in-Some.second.now one)
