-- The REGION statement of a struct of C.
use Rattle.std.specs.Prelude.{ℕ, ◌++◌, List, codes, decimal, if◌then◌else◌}
use Rattle.mvs_model.specs.Texts.{hex}
use Rattle.mvs_c.specs.Asks.{name_text}
use Rattle.mvs_c.specs.declared.region.RegionFields.{RegionFields}

-- the number of bytes of a region by values
abbrev pub region_bytes : ℕ
region_bytes = 24

-- its line
abbrev pub region_line : RegionFields → List ℕ
region_line r = name_text r.task ++ codes " REGION BELOW=" ++ decimal r.below ++ codes ",ABOVE=" ++ decimal r.above ++ codes ",FILL=" ++ hex 2 r.fill
    ++ (if r.resides_above then codes ",RES=ABOVE" else codes ",RES=BELOW")
