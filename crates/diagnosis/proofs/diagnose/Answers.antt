use Rattle.std.proofs.Common.{◌≡◌, refl, true, false, sym, ap, ◌∙◌}
use denote.Enum.Bare.{sameb}
use Rattle.mvs_model.specs.declared.line.Fault.{Fault}
use Rattle.mvs_model.specs.declared.line.Fault.TheVariants.{TooLong, InvalidByte, UnknownOperation, InvalidOperand, MissingOperand, OutOfRange, Repeated, Conflicting, OutOfPlace}
use Rattle.mvs_model.specs.contracts.line.Fault.{the_type}
use Rattle.diagnosis.proofs.diagnose.Goals.{in_default-via-in-Some+else-eq, in_default-via-in_default}
use Rattle.diagnosis.proofs.diagnose.Goals as goal

-- a fault is the same as itself
itself : (f : Fault) → sameb the_type f f ≡ true
itself TooLong = refl
itself InvalidByte = refl
itself UnknownOperation = refl
itself InvalidOperand = refl
itself MissingOperand = refl
itself OutOfRange = refl
itself Repeated = refl
itself Conflicting = refl
itself OutOfPlace = refl

pub returns-in_default-clause-operand : goal.returns-in_default-clause-operand
returns-in_default-clause-operand c row is first = elim c.in_default.branch [
  | in_default-via-in-Some+else-eq w ↦ absurd (
      let b = w.in-Some.ensures.blamed row c.args.fault is first in
      let f : true ≡ false = sym (itself c.args.fault) ∙ ap (λ f. sameb the_type f c.args.fault) (sym b.1) ∙ sym w.eq.ensures ∙ w.if-eq.false in
      cc)
  | in_default-via-in_default w ↦ absurd (w.in_default.ensures.blamed row c.args.fault is first)
]
