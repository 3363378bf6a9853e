use Rattle.std.proofs.Common.{◌≡◌, arith, length, ap}
use Rattle.std.proofs.lemmas.Grind.{common_steps}
use Rattle.std.proofs.lemmas.Result.{err_from_is_err_and}
use Rattle.mvs_job.proofs.Feeding.{last_none, last_line, last_fault, last_stopped}
use Rattle.mvs_job.proofs.stream.Stream.finish.Goals as goal

pub returns-then-is_empty-clause-bytes : goal.returns-then-is_empty-clause-bytes
returns-then-is_empty-clause-bytes g c = λ first start consumed st.
    let none : length c.args.self.now.line ≡ 0 = let e : length c.bytes.result.now ≡ length c.args.self.now.line = ap length c.bytes.ensures in grind (arith, common_steps) in
    last_none g.C.Consumer.piece (g.C.Consumer.knows first) _ _ consumed _ _ _ st _ _ _ none (c.run_end.ensures.ran first)

pub returns-clause-bytes : goal.returns-clause-bytes
returns-clause-bytes g c = λ first start consumed st.
    let some : length c.args.self.now.line ≡ 0 → ⊥ = let e : length c.bytes.result.now ≡ length c.args.self.now.line = ap length c.bytes.ensures in grind (arith, common_steps) in
    last_line g.C.Consumer.piece (g.C.Consumer.knows first) _ _ consumed _ _ _ st _ c.end_line.new.self.walk _ some _ c.if-not-continues.false c.in_ok-continues.ensures.number (c.in_ok-continues.ensures.ran first) _ _ _ (c.run_end-2.ensures.ran first)

pub returns-then-not-continues-clause-bytes : goal.returns-then-not-continues-clause-bytes
returns-then-not-continues-clause-bytes g c = λ first start consumed st.
    let some : length c.args.self.now.line ≡ 0 → ⊥ = let e : length c.bytes.result.now ≡ length c.args.self.now.line = ap length c.bytes.ensures in grind (arith, common_steps) in
    last_fault g.C.Consumer.piece (g.C.Consumer.knows first) _ _ consumed _ _ _ st _ c.end_line.new.self.walk _ some _ c.if-not-continues.true (c.in_ok-continues.ensures.ran first)

pub returns-in_err-continues-clause-bytes : goal.returns-in_err-continues-clause-bytes
returns-in_err-continues-clause-bytes g c = λ first start consumed st.
    let some : length c.args.self.now.line ≡ 0 → ⊥ = let e : length c.bytes.result.now ≡ length c.args.self.now.line = ap length c.bytes.ensures in grind (arith, common_steps) in
    let p = err_from_is_err_and c.from_residual.result c.from_residual.ensures.1 in
    rw (p.1, p.2) (last_stopped g.C.Consumer.piece (g.C.Consumer.knows first) _ _ consumed _ _ _ st _ c.end_line.new.self.walk _ some c.in_err-continues.field-0.0 (c.in_err-continues.ensures.ran first))
