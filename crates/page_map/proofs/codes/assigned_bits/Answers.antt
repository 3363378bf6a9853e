use Rattle.std.proofs.Common.{ltb, w16, arith}
use Rattle.std.proofs.lemmas.Simd.{bitmask_splat}
use Rattle.page_map.proofs.codes.assigned_bits.Goals as goal

pub returns : goal.returns
returns c = bitmask_splat w16 ltb c.args.codes 16 32768 c.fits-codes.0 (omega arith)
