use Rattle.std.proofs.Common.{◌+◌, ◌∷◌, [], Some, None, ap}
use Rattle.std.specs.Prelude.{option_map}
use Rattle.memchr.proofs.lemmas.ValueLemmas.{FindsNeedle-value}
use Rattle.editor_messages.proofs.frames.header_len.Goals as goal

pub returns-in_err-at-clause-exact : goal.returns-in_err-at-clause-exact
returns-in_err-at-clause-exact c = rw c.from_residual.ensures (ap (option_map (λ n. n + 4)) (FindsNeedle-value c.args.bytes.now (13 ∷ 10 ∷ 13 ∷ 10 ∷ []) None c.in_err-at.ensures))

pub returns-clause-exact : goal.returns-clause-exact
returns-clause-exact c = ap (option_map (λ n. n + 4)) (FindsNeedle-value c.args.bytes.now (13 ∷ 10 ∷ 13 ∷ 10 ∷ []) (Some c.in_ok-at.at) c.in_ok-at.ensures)
