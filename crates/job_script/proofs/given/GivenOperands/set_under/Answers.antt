use Rattle.std.proofs.Common.{ap, ◌∙◌}
use Rattle.mvs_model.specs.Reading.{set_of}
use Rattle.job_script.specs.Rows.{key_text}
use Rattle.job_script.specs.GivenOperands.{by_place}
use Rattle.job_script.proofs.Gifted.{only_one}
use Rattle.job_script.proofs.given.GivenOperands.set_under.Goals as goal

pub returns-in-Some : goal.returns-in-Some
returns-in-Some c =
    let os = by_place c.args.self.now in
    c.set_in.ensures ∙ ap set_of (only_one (os.under (key_text c.args.one)) (os.under (key_text c.args.list)) c.in-Some.text.now c.requires.alone c.in-Some.ensures.said)
