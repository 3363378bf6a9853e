use Rattle.std.proofs.Common.{◌++◌, append_assoc, ap, ◌∙◌}
use Rattle.std.specs.Prelude.{codes, string_bytes}
use Rattle.expected_answers.specs.Reports.{shown}
use Rattle.language_server.proofs.Hovering.{on_ok}
use Rattle.language_server.proofs.differences.push_got.Goals as goal

pub returns : goal.returns
returns c =
    on_ok c.push_shown.result
    (λ e. e ∙ ap (λ s. s ++ shown c.args.got.now) c.in_ok-push_str.ensures.bytes ∙ append_assoc (string_bytes c.args.text.now) (codes ", but the run prints ") (shown c.args.got.now))
    c.push_shown.ensures
