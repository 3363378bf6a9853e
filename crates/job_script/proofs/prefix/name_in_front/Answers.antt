use Rattle.std.proofs.Common.{sym, ◌∙◌}
use Rattle.job_script.proofs.Fronts.{name_front}
use Rattle.job_script.proofs.prefix.name_in_front.Goals as goal

pub returns : goal.returns
returns c =
    name_front c.args.text.now c.name_end-end.result c.name_end-end.ensures.bytes c.if-end-gt8.false c.name_end-end.ensures.within c.if-end-eq0.false
    (sym c.is_ascii_digit.ensures.value ∙ c.if-is_ascii_digit.false)
