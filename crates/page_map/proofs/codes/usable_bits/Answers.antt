use Rattle.page_map.proofs.Marks.{usable_mask}
use Rattle.page_map.proofs.codes.usable_bits.Goals as goal

pub returns : goal.returns
returns g c = usable_mask c.args.own _ c.args.codes c.fits-codes.0 c.requires
