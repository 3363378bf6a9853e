use Rattle.std.proofs.Common.{◌≡◌, ◌==◌, ◌∷◌, ap, arith, length, refl, ◌∙◌}
use Rattle.std.specs.List.{after_first}
use Rattle.mvs_model.specs.Lines.{lines_of}
use Rattle.expected_answers.proofs.Cutting.{first_line, next_of, some_left}
use Rattle.language_server.proofs.Emptying.{after_short, faults_step, run_step}
use Rattle.language_server.proofs.runnable.without_faults.Goals as goal

pub lines-preserved : goal.lines-preserved
lines-preserved c =
    let text = c.lines.rest.now in
    let some = some_left text c.is_empty.result c.is_empty.ensures c.lines-test.true in
    let next = next_of text c.split_once.result.1 _ c.unwrap_or-rest.result refl c.split_once.ensures.after c.unwrap_or-rest.ensures in
    let cut : lines_of text ≡ c.split_once.result.0.now ∷ lines_of c.unwrap_or-rest.result.now = rw (next, c.split_once.ensures.before) (first_line text some) in
    let line = c.split_once.result.0.now in
    let left = c.unwrap_or-rest.result.now in
    let short = after_short (λ b. b == 10) text some in
    let same : length left ≡ length (after_first (λ b. b == 10) text) = ap length next in
    let room = c.lines.invariant.room in
    record {
      script = run_step line text left c.lines.first c.read-fault.new.first c.read-fault.result cut c.read-fault.ensures.fault c.read-fault.ensures.first c.lines.run.script.items c.add.new.self.script.items c.in_ok-add.ensures.script ∙ c.lines.invariant.script;
      faults = faults_step line text left c.lines.first c.read-fault.new.first c.read-fault.result cut c.read-fault.ensures.fault c.read-fault.ensures.first c.lines.number c.lines.run.faults.items c.add.new.self.faults.items c.in_ok-add.ensures.faults ∙ c.lines.invariant.faults;
      room = omega (arith, short, same, room);
    }
