use Rattle.std.proofs.Common.{◌≡◌, ◌⊎◌, ◌++◌, ◌∷◌, [], ◌≤◌, ◌+◌, Ok, ap, arith, length, subst, sym}
use Rattle.std.proofs.lemmas.Result.{err_from_is_err_and}
use Rattle.mvs_model.specs.Lines.{ended_text}
use Rattle.mvs_model.specs.Numbers.{most_script_bytes}
use Rattle.mvs_model.specs.Walk.{is_first}
use Rattle.mvs_job.specs.declared.run.RunFault.TheVariants.{Memory, ReadTooLong}
use Rattle.terminal_session.specs.declared.session.Step.TheVariants.{Next}
use Rattle.terminal_session.specs.Sessions.{SessionValue}
use Rattle.terminal_session.specs.Steps.{Accepted}
use Rattle.terminal_session.proofs.KeptLines.{accepted_line}
use Rattle.terminal_session.proofs.Accepting.{line_fails, line_goes_on, line_passed, line_unkept, run_parsed}
use Rattle.terminal_session.proofs.session.TerminalSession.accept.Goals as goal

pub append-requires-clause-short : goal.append-requires-clause-short
append-requires-clause-short g c = let a = accepted_line (is_first c.parse.new.self.step) c.args.line.now c.parse.new.self.read c.in_default.ensures.reading in let s = a.0 in omega (arith, s)

pub append-requires-clause-unended : goal.append-requires-clause-unended
append-requires-clause-unended g c = let a = accepted_line (is_first c.parse.new.self.step) c.args.line.now c.parse.new.self.read c.in_default.ensures.reading in a.1

pub returns-in-Err-clause-ran : goal.returns-in-Err-clause-ran
returns-in-Err-clause-ran g c first before each run =
    let same : c.self.inside.script ≡ c.args.self.now.script = ap (λ (v : SessionValue g.row.R.Denot). v.script) c.self.view_is in
    let piece = g.C.Consumer.piece in
    let knows = g.C.Consumer.knows first in
    let now = g.W.Write.contents c.args.writer.now.inner in
    let lines = c.args.self.now.script in
    let w = c.parse.new.self in
    let parsed = run_parsed piece knows before now lines c.args.walk.now w c.args.consumer.now c.parse.ensures.rest run in
    subst (λ new. Accepted piece knows before now c.args.self.now.input.count lines c.args.line.now new w c.args.consumer.now (Ok Next)) (sym same)
    (line_passed piece knows before now c.args.self.now.input.count lines c.args.line.now w c.args.consumer.now parsed each c.in-Err.fault c.in-Err.ensures.reading)

pub returns-in_err-append-clause-ran : goal.returns-in_err-append-clause-ran
returns-in_err-append-clause-ran g c =
    let same : c.self.inside.script ≡ c.args.self.now.script = ap (λ (v : SessionValue g.row.R.Denot). v.script) c.self.view_is in
    let piece = g.C.Consumer.piece in
    let now = g.W.Write.contents c.args.writer.now.inner in
    let lines = c.args.self.now.script in
    let w = c.parse.new.self in
    let fault = c.in_err-append.field-0.0 in
    let why = subst (λ x. (fault ≡ Memory) ⊎ ((fault ≡ ReadTooLong) × (most_script_bytes ≤ length (ended_text x) + 256))) same c.in_err-append.ensures.unkept.1 in
    let p = err_from_is_err_and c.from_residual.result c.from_residual.ensures.1 in
    rw (p.1, p.2) (λ first before each run.
    let parsed = run_parsed piece (g.C.Consumer.knows first) before now lines c.args.walk.now w c.args.consumer.now c.parse.ensures.rest run in
    line_unkept piece (g.C.Consumer.knows first) before now c.args.self.now.input.count lines c.args.line.now w c.args.consumer.now parsed each w.read c.in_default.ensures.reading fault why c.append.new.script)

pub returns-in_err-run_parsed-clause-ran : goal.returns-in_err-run_parsed-clause-ran
returns-in_err-run_parsed-clause-ran g c =
    let same : c.self.inside.script ≡ c.args.self.now.script = ap (λ (v : SessionValue g.row.R.Denot). v.script) c.self.view_is in
    let piece = g.C.Consumer.piece in
    let now = g.W.Write.contents c.args.writer.now.inner in
    let lines = c.args.self.now.script in
    let line = c.args.line.now in
    let w = c.parse.new.self in
    let made = subst (λ x. c.append.new.script ≡ x ++ line ∷ []) same c.in_ok-append.ensures.kept in
    let p = err_from_is_err_and c.from_residual-in_err-run_parsed.result c.from_residual-in_err-run_parsed.ensures.1 in
    rw (p.1, p.2) (λ first before each run.
    let knows = g.C.Consumer.knows first in
    let parsed = run_parsed piece knows before now lines c.args.walk.now w c.args.consumer.now c.parse.ensures.rest run in
    line_fails piece knows before now c.args.self.now.input.count lines line w c.args.consumer.now parsed each w.read c.in_default.ensures.reading c.append.new.script made (g.W.Write.contents c.run_parsed.new.writer.inner) c.run_parsed.new.walk c.run_parsed.new.consumer c.in_err-run_parsed.field-0.0 (c.in_err-run_parsed.ensures.ran first))

pub returns-clause-ran : goal.returns-clause-ran
returns-clause-ran g c first before each run =
    let same : c.self.inside.script ≡ c.args.self.now.script = ap (λ (v : SessionValue g.row.R.Denot). v.script) c.self.view_is in
    let piece = g.C.Consumer.piece in
    let knows = g.C.Consumer.knows first in
    let now = g.W.Write.contents c.args.writer.now.inner in
    let lines = c.args.self.now.script in
    let line = c.args.line.now in
    let w = c.parse.new.self in
    let made = subst (λ x. c.append.new.script ≡ x ++ line ∷ []) same c.in_ok-append.ensures.kept in
    let parsed = run_parsed piece knows before now lines c.args.walk.now w c.args.consumer.now c.parse.ensures.rest run in
    line_goes_on piece knows before now c.args.self.now.input.count lines line w c.args.consumer.now parsed each w.read c.in_default.ensures.reading c.append.new.script made (g.W.Write.contents c.run_parsed.new.writer.inner) c.run_parsed.new.walk c.run_parsed.new.consumer c.run_parsed.ensures.number (c.in_ok-run_parsed.ensures.ran first)
