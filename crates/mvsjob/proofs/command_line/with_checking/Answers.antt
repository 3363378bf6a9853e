use Rattle.std.proofs.Common.{◌≡◌, ◌∙◌, ap, codes}
use Rattle.clap.specs.Words.{app_of, with_rule}
use Rattle.mvsjob.specs.CommandLine.{checking_app, flag_rule}
use Rattle.mvsjob.proofs.Assigning.{if_ok}
use Rattle.mvsjob.proofs.command_line.with_checking.Goals as goal

pub returns : goal.returns
returns c = if_ok c.with_flag-2.result _ (λ new. app_of new ≡ checking_app (app_of c.args.command)) c.with_flag-2.ensures (λ new made. made ∙ ap (λ a. with_rule a (flag_rule (codes "hide"))) c.in_ok-checking.ensures)
