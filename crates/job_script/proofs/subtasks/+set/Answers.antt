use Rattle.std.proofs.Common.{◌^◌, map, ap, sym, ◌∙◌}
use Rattle.std.specs.Int.Bits.{or_zero_r}
use Rattle.mvs_model.specs.Reading.{number, set_of}
use Rattle.job_script.proofs.subtasks.+set.Goals as goal

pub returns-in-None : goal.returns-in-None
returns-in-None t c =
    let parts = rw c.in-None.is at c.split_once.ensures.parts in
    c.bit.ensures ∙ ap (λ n. 2 ^ n) c.number.ensures ∙ sym (or_zero_r (2 ^ number c.split_once.result.0.now)) ∙ ap (λ xs. set_of (map number xs)) (sym parts)
