use Rattle.std.proofs.Common.{refl}
use Rattle.mvsjob_lsp.specs.Answering.{capabilities}
use Rattle.mvsjob_lsp.proofs.answers.capabilities.Goals as goal

pub returns : goal.returns
unfolding capabilities
returns c = rw (c.in_ok-extend_from_slice-2.ensures.items, c.in_ok-extend_from_slice.ensures.items, c.as_bytes-2.ensures.value, c.in_ok-text.ensures.items, c.as_bytes.ensures.value) refl
