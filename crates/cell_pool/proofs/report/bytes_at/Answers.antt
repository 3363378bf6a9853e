use Rattle.std.proofs.Common.{sym, ◌∙◌}
use Rattle.mvs_model.specs.Storage.{end_of}
use Rattle.cell_pool.specs.Layout.{byte_of}
use Rattle.cell_pool.proofs.Tallied.{no_entry, other_entry, own_entry}
use Rattle.cell_pool.proofs.report.bytes_at.Goals as goal

pub returns-in_default : goal.returns-in_default
returns-in_default c = no_entry (byte_of c.args.store.now.storage) c.args.subpool (end_of c.args.store.now.storage.regions) _ (sym c.in_default.ensures)

pub returns-then-not-is_of : goal.returns-then-not-is_of
returns-then-not-is_of c = other_entry (byte_of c.args.store.now.storage) c.args.subpool (end_of c.args.store.now.storage.regions) _ c.in-Some.entry.now (sym c.in-Some.ensures) (sym c.is_of.ensures ∙ c.if-not-is_of.true)

pub bytes_of-requires-clause-chain : goal.bytes_of-requires-clause-chain
bytes_of-requires-clause-chain c = c.requires.chains c.args.key c.in-Some.entry.now (sym c.in-Some.ensures)

pub returns : goal.returns
returns c = own_entry (byte_of c.args.store.now.storage) c.args.subpool (end_of c.args.store.now.storage.regions) _ c.in-Some.entry.now (sym c.in-Some.ensures) (sym c.is_of.ensures ∙ c.if-not-is_of.false) _ c.bytes_of.ensures
