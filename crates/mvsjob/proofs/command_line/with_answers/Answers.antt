use Rattle.std.proofs.Common.{◌≡◌, ◌∙◌, ap, codes}
use Rattle.clap.specs.Words.{app_of, with_rule}
use Rattle.mvsjob.specs.CommandLine.{answers_app, flag_rule}
use Rattle.mvsjob.proofs.Assigning.{if_ok}
use Rattle.mvsjob.proofs.command_line.with_answers.Goals as goal

pub returns : goal.returns
returns c = if_ok c.with_flag-2.result _ (λ new. app_of new ≡ answers_app (app_of c.args.command)) c.with_flag-2.ensures (λ new made. made ∙ ap (λ a. with_rule a (flag_rule (codes "assemble"))) c.in_ok-blanking.ensures)
