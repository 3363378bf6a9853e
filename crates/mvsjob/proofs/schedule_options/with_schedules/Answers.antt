use Rattle.std.proofs.Common.{◌≡◌, ◌∙◌, ap, codes}
use Rattle.clap.specs.Words.{app_of, with_rule}
use Rattle.clap.specs.declared.builder.value_parser.ValueParser.TheVariants.{NonEmptyString, Unsigned}
use Rattle.mvsjob.specs.CommandLine.{flag_rule, schedules_app, value_rule}
use Rattle.mvsjob.proofs.Assigning.{if_ok}
use Rattle.mvsjob.proofs.schedule_options.with_schedules.Goals as goal

pub returns : goal.returns
returns c =
    let ordering = c.in_ok-ordering.ensures ∙ ap (λ a. with_rule a (value_rule (codes "schedule") NonEmptyString)) c.in_ok-exploring.ensures in
    let seconding = c.in_ok-seconding.ensures ∙ ap (λ a. with_rule a (value_rule (codes "with-schedule") NonEmptyString)) ordering in
    let limiting = c.in_ok-limiting.ensures ∙ ap (λ a. with_rule a (value_rule (codes "most") (Unsigned 1 1000000000))) seconding in
    if_ok c.with_flag-2.result _ (λ new. app_of new ≡ schedules_app (app_of c.args.command)) c.with_flag-2.ensures (λ new made. made ∙ ap (λ a. with_rule a (flag_rule (codes "ignore-addresses"))) limiting)
