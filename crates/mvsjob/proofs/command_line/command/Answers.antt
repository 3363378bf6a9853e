use Rattle.std.proofs.Common.{◌≡◌, ◌∙◌, ap, codes}
use Rattle.clap.specs.Words.{app_of, with_rule}
use Rattle.mvsjob.specs.CommandLine.{AreParsers, Parsers, answers_app, checking_app, command, judging_app, random_app, rule_app, output_app, schedules_app, second_app, value_rule}
use Rattle.mvsjob.proofs.Assigning.{if_ok}
use Rattle.mvsjob.proofs.command_line.command.Goals as goal

pub returns : goal.returns
returns c =
    let placed = c.in_ok-placed.ensures in
    let script = placed.2 ∙ ap (λ a. with_rule a (value_rule (codes "place") placed.0)) c.in_ok-scripted.ensures in
    let checking = c.in_ok-checking.ensures ∙ ap checking_app script in
    let formatted = c.in_ok-formatted.ensures in
    let reported = formatted.2 ∙ ap (λ a. with_rule a (value_rule (codes "format") formatted.0)) checking in
    let random = c.in_ok-random.ensures ∙ ap random_app (c.in_ok-judged.ensures ∙ ap judging_app (c.in_ok-answered.ensures ∙ ap answers_app reported)) in
    let profiled = c.in_ok-profiled.ensures in
    let whole = profiled.2 ∙ ap (λ a. with_rule a (value_rule (codes "profile") profiled.0)) random in
    let telling = c.in_ok-telling.ensures ∙ ap output_app whole in
    let color = c.in_ok-colored.ensures in
    let colored = color.2 ∙ ap (λ a. with_rule a (value_rule (codes "color") color.0)) telling in
    let code = c.in_ok-coded.ensures in
    let coded = code.2 ∙ ap (λ a. with_rule a (value_rule (codes "code") code.0)) colored in
    let ruled = c.in_ok-ruled.ensures ∙ ap rule_app coded in
    let seconded = c.in_ok-seconded.ensures ∙ ap second_app ruled in
    if_ok c.with_schedules.result _ (λ new. (ps : Parsers) × AreParsers ps × (app_of new ≡ command ps)) c.with_schedules.ensures (λ new made. (
      record { place = placed.0; format = formatted.0; profile = profiled.0; color = color.0; code = code.0 },
      record { place = placed.1; format = formatted.1; profile = profiled.1; color = color.1; code = code.1 },
      made ∙ ap schedules_app seconded,
    ))
