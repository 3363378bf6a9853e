use Rattle.std.proofs.Common.{◌≡◌, Some, None, sym, ap, ◌∙◌}
use Rattle.std.specs.Prelude.{option_copied}
use Rattle.std.specs.FinMap as map
use Rattle.mvs_model.specs.Name.{name_cmp}
use Rattle.mvs_job.specs.NameOrder.{is_at}
use Rattle.job_script.proofs.Named.{get_entries}
use Rattle.mvs_job.proofs.name_order.is_latest.Goals as goal

pub returns-in-Some : goal.returns-in-Some
returns-in-Some c =
    let is : Some c.in-Some.latest.now ≡ map.get (map.from_entries {R = name_cmp} c.args.numbers.now.entries) c.args.name.now = sym (ap option_copied c.in-Some.is) ∙ c.get.ensures.value ∙ sym (get_entries c.args.name.now c.args.numbers.now.entries) in
    ap (is_at c.args.number) is

pub returns-in-None : goal.returns-in-None
returns-in-None c =
    let is : None ≡ map.get (map.from_entries {R = name_cmp} c.args.numbers.now.entries) c.args.name.now = sym (ap option_copied c.in-None.is) ∙ c.get.ensures.value ∙ sym (get_entries c.args.name.now c.args.numbers.now.entries) in
    ap (is_at c.args.number) is
