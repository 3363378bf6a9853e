use Rattle.std.proofs.Common.{◌≡◌, ◌∙◌, ap, codes}
use Rattle.clap.specs.Words.{app_of, with_rule}
use Rattle.mvsjob.specs.CommandLine.{flag_rule, output_app}
use Rattle.mvsjob.proofs.Assigning.{if_ok}
use Rattle.mvsjob.proofs.command_line.with_outputs.Goals as goal

pub returns : goal.returns
returns c =
    let reporting = c.in_ok-reporting.ensures ∙ ap (λ a. with_rule a (flag_rule (codes "leaks"))) c.in_ok-explaining.ensures in
    let printing = c.in_ok-printing.ensures ∙ ap (λ a. with_rule a (flag_rule (codes "json"))) reporting in
    let paging = c.in_ok-paging.ensures ∙ ap (λ a. with_rule a (flag_rule (codes "page"))) printing in
    let opening = c.in_ok-opening.ensures ∙ ap (λ a. with_rule a (flag_rule (codes "open"))) paging in
    let strict = c.in_ok-strict.ensures ∙ ap (λ a. with_rule a (flag_rule (codes "strict"))) opening in
    if_ok c.with_flag-7.result _ (λ new. app_of new ≡ output_app (app_of c.args.command)) c.with_flag-7.ensures (λ new made. made ∙ ap (λ a. with_rule a (flag_rule (codes "interactive"))) strict)
