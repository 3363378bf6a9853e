use Rattle.std.proofs.Common.{◌≡◌, ap, ◌∙◌}
use Rattle.json.specs.Print.{print}
use Rattle.json.specs.Tree.{json_tokens}
use Rattle.mvsjob_lsp.proofs.answers.about.Goals as goal

pub returns : goal.returns
returns c =
    let is : c.write_about.new.objects ≡ json_tokens c.in_ok-write_about.ensures.0 = rw c.new-objects.ensures at c.in_ok-write_about.ensures.2.tokens in
    (c.in_ok-write_about.ensures.0, c.in_ok-write_about.ensures.1, c.into_bytes.ensures ∙ ap print is)
