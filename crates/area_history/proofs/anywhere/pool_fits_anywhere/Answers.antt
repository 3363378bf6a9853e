use Rattle.std.proofs.Common.{◌≡◌, ap, ◌∙◌}
use Rattle.mvs_model.specs.Want.{WantValue, fixed_want}
use Rattle.mvs_model.specs.declared.want.Side.TheVariants.{Either}
use Rattle.area_history.proofs.Elsewhere.{pool_fits_so}
use Rattle.area_history.proofs.anywhere.pool_fits_anywhere.Goals as goal

pub returns : goal.returns
returns c =
    let wanted : ◌≡◌ {A = WantValue} c.fixed-want.result (fixed_want 8 3 Either) = c.fixed-want.ensures ∙ ap (λ n. fixed_want n c.new-2.result Either) c.new.ensures ∙ ap (λ n. fixed_want 8 n Either) c.new-2.ensures in
    pool_fits_so _ _ _ _ _ _ _ _ _ _ _ _ _ _ c.in-Build.is wanted c.room_anywhere-room.ensures c.part_len.ensures c.fitting.ensures
