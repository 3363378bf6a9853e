use Rattle.std.proofs.Common.{◌≡◌, ◌<◌, length, arith, refl, sym, ap, ◌∙◌, Some}
use Rattle.std.specs.Prelude.{slice_get}
use Rattle.std.proofs.lemmas.Option.{slice_get-get_or}
use Rattle.job_script.specs.Kinds.{as_kind, fault_in}
use Rattle.job_script.specs.Rows.{row_at}
use Rattle.job_script.proofs.Taking.{plain_given, positional_kind}
use Rattle.job_script.proofs.given.GivenOperands.take_positional.Goals as goal

pub returns : goal.returns
returns c = λ left given.
    let g = c.args.self.now in
    let h = c.in-Some.ensures.lookup in
    let found : slice_get c.positional.result.now g.count ≡ Some c.in-Some.positional.now = slice_get-get_or c.positional.result.now g.count c.in-Some.positional.now h.3.0 ∙ ap (λ p. Some p) (sym h.1) in
    let room : g.count < length g.places = (let few = c.positional.ensures.few in let within = h.3.0 in let three = given.three in omega arith) in (
      plain_given g left c.args.operand.now given c.requires c.if-self.false c.args.operand refl room (as_kind c.in-Some.positional.now.kind)
          (positional_kind c.positional.result.now (row_at g.row) c.positional.ensures.row g.count c.in-Some.positional.now found)
          (sym c.check.ensures ∙ ap fault_in c.in_ok-check.was),
      refl,
    )
