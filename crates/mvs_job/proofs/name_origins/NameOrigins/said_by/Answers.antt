use Rattle.std.proofs.Common.{◌≡◌, Option, ℕ, Some, None, sym, ap, ◌∙◌}
use Rattle.std.specs.Prelude.{option_copied}
use Rattle.std.specs.FinMap as map
use Rattle.mvs_model.specs.Name.{name_cmp}
use Rattle.job_script.proofs.Named.{get_entries}
use Rattle.mvs_job.proofs.InOrder.{nothing_said, said_before, said_last}
use Rattle.mvs_job.proofs.name_origins.NameOrigins.said_by.Goals as goal

pub returns-in_err-latest : goal.returns-in_err-latest
returns-in_err-latest c =
    let is : map.get c.args.self.now c.args.name.now ≡ None = ap (λ m. map.get m c.args.name.now) (sym c.self.view_is) ∙ get_entries c.args.name.now c.self.inside.numbers.entries ∙ sym c.get.ensures.value ∙ ap option_copied c.in_err-latest.was in
    c.from_residual.ensures ∙ nothing_said c.args.job.now c.args.self.now c.args.addr c.args.name.now c.args.number is

pub returns-then-latest-number : goal.returns-then-latest-number
returns-then-latest-number c =
    let is : map.get c.args.self.now c.args.name.now ≡ Some c.in_ok-latest.field-0.now = ap (λ m. map.get m c.args.name.now) (sym c.self.view_is) ∙ get_entries c.args.name.now c.self.inside.numbers.entries ∙ sym c.get.ensures.value ∙ ap option_copied c.in_ok-latest.was in
    c.naming_at.ensures ∙ said_last c.args.job.now c.args.self.now c.args.addr c.args.name.now c.args.number c.in_ok-latest.field-0.now is c.if-latest-number.true

pub returns : goal.returns
returns c =
    let is : map.get c.args.self.now c.args.name.now ≡ Some c.in_ok-latest.field-0.now = ap (λ m. map.get m c.args.name.now) (sym c.self.view_is) ∙ get_entries c.args.name.now c.self.inside.numbers.entries ∙ sym c.get.ensures.value ∙ ap option_copied c.in_ok-latest.was in
    said_before c.args.job.now c.args.self.now c.args.addr c.args.name.now c.args.number c.in_ok-latest.field-0.now is c.if-latest-number.false
