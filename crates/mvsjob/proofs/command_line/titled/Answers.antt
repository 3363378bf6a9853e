use Rattle.std.proofs.Common.{◌∙◌, ap}
use Rattle.clap.specs.Simple.{app_of_fields}
use Rattle.mvsjob.specs.CommandLine.{versioned}
use Rattle.mvsjob.proofs.command_line.titled.Goals as goal

pub returns : goal.returns
returns c = ap app_of_fields c.after_long_help.ensures ∙ (ap app_of_fields c.after_help.ensures ∙ (ap app_of_fields c.about.ensures ∙ (ap app_of_fields c.version.ensures ∙ ap versioned c.new.ensures.app)))
