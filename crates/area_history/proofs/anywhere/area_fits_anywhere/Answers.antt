use Rattle.std.proofs.Common.{◌∙◌}
use Rattle.area_history.proofs.Elsewhere.{fits_so}
use Rattle.area_history.proofs.anywhere.area_fits_anywhere.Goals as goal

pub returns : goal.returns
returns c = fits_so _ _ _ _ _ _ _ _ _ _ _ c.in-Obtain.is c.want-want.ensures.want c.room_anywhere-room.ensures (c.from.ensures ∙ c.least.ensures.least) c.fitting.ensures
