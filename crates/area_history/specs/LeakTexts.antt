-- The lines about areas that were never released, and pools that were never deleted.
use Rattle.std.specs.Prelude.{ℕ, ◌==◌, ◌-◌, nat_le, nat_lt, List, [], ◌++◌, length, take, codes, decimal, if◌then◌else◌}
use Rattle.std.specs.List.{flat_map}
use Rattle.mvs_model.specs.Name.{trimmed}
use Rattle.mvs_model.specs.Texts.{hex}
use Rattle.explanation.specs.FactTexts.{subpool_words}
use Rattle.explanation.specs.ReasonTexts.{one_line}
use Rattle.area_history.specs.declared.grant.AreaGrant.{AreaGrant}
use Rattle.area_history.specs.declared.grant.Leak.{Leak}
use Rattle.area_history.specs.declared.largest.Leaks.{Leaks}
use Rattle.area_history.specs.declared.account.Leftovers.{Leftovers}
use Rattle.area_history.specs.declared.pools.PoolLeft.{PoolLeft}
use Rattle.area_history.specs.declared.totals.Group.{Group}
use Rattle.area_history.specs.declared.totals.Group.TheVariants.{Subpool, Task}
use Rattle.area_history.specs.declared.totals.Total.{Total}
use Rattle.area_history.specs.Pools.{pool_bytes}

-- a line that is a comment in the language of scripts
abbrev pub starred : List ℕ → List ℕ
starred text = one_line (codes "* " ++ text)

-- a number, if it is below 2 ^ 32
abbrev pub number_text : ℕ → List ℕ
number_text n = if nat_lt n 4294967296 then decimal n else codes "over 4294967295"

-- a number of areas
abbrev pub areas_text : ℕ → List ℕ
areas_text n = number_text n ++ (if n == 1 then codes " area" else codes " areas")

-- a number of pools
abbrev pub pools_text : ℕ → List ℕ
pools_text n = number_text n ++ (if n == 1 then codes " pool" else codes " pools")

-- a number of parts
abbrev pub parts_text : ℕ → List ℕ
parts_text n = decimal n ++ (if n == 1 then codes " part" else codes " parts")

-- how many areas were never released, and how many bytes they have
abbrev pub heading_text : ℕ → ℕ → List ℕ
heading_text count bytes = codes "Never released: " ++ areas_text count ++ codes ", " ++ number_text bytes ++ codes " bytes."

-- how many bytes are left of an area of a length
abbrev pub left_text : ℕ → ℕ → List ℕ
left_text n len = if n == len then decimal n else decimal n ++ codes " of " ++ decimal len

-- which line obtained an area
abbrev pub origin_text : AreaGrant → List ℕ
origin_text g = codes ", obtained by " ++ trimmed g.task ++ codes " in line " ++ decimal g.line ++ codes "."

-- what is left of an area, where it is, its subpool, and the line that obtained it
abbrev pub leak_text : Leak → List ℕ
leak_text l =
    trimmed l.grant.area ++ codes ": " ++ left_text l.bytes l.grant.place.len ++ codes " bytes at " ++ hex 8 l.grant.place.addr ++ codes " in " ++ subpool_words l.grant.subpool l.grant.owner
    ++ origin_text l.grant

abbrev pub leak_line : Leak → List ℕ
leak_line l = starred (leak_text l)

-- how many areas have no line of their own, if there are some
abbrev pub more_line : ℕ → List ℕ
more_line n = if n == 0 then [] else starred (codes "And " ++ number_text n ++ codes " more.")

-- ---- totals

-- the group of a total
abbrev pub group_text : Group → List ℕ
group_text (Subpool number owner) = codes "In " ++ subpool_words number owner
group_text (Task task) = codes "Obtained by " ++ trimmed task

-- how many areas a total has, and how many bytes
abbrev pub total_text : Total → List ℕ
total_text t = group_text t.group ++ codes ": " ++ areas_text t.count ++ codes ", " ++ number_text t.bytes ++ codes " bytes."

abbrev pub total_line : Total → List ℕ
total_line t = starred (total_text t)

-- the totals, if there are several
abbrev pub totals_text : List Total → List ℕ
totals_text totals = if nat_le (length totals) 1 then [] else flat_map total_line totals

-- the lines about areas: a heading, a line for each of the ten largest areas, one for the others, and the totals by subpool and by task
abbrev pub some_areas : Leaks → List ℕ
some_areas l = starred (heading_text l.count l.bytes) ++ (flat_map leak_line l.largest ++ (more_line (l.count - 10) ++ (totals_text l.subpools ++ totals_text l.tasks)))

-- if there are areas
abbrev pub areas_report : Leaks → List ℕ
areas_report l = if l.count == 0 then [] else some_areas l

-- ---- pools

-- the line that built a pool
abbrev pub built_text : PoolLeft → List ℕ
built_text p = codes ", built by " ++ trimmed p.built.task ++ codes " in line " ++ decimal p.built.line ++ codes "."

-- a pool: its bytes and parts, its subpool, and the line that built it
abbrev pub pool_text : PoolLeft → List ℕ
pool_text p =
    codes "Pool " ++ trimmed p.built.pool ++ codes ": " ++ number_text (pool_bytes p) ++ codes " bytes in " ++ parts_text p.parts ++ codes " in " ++ subpool_words p.built.subpool p.built.owner ++ built_text p

abbrev pub pool_line : PoolLeft → List ℕ
pool_line p = starred (pool_text p)

-- how many pools were never deleted
abbrev pub pools_heading : ℕ → List ℕ
pools_heading count = codes "Never deleted: " ++ pools_text count ++ codes "."

-- the lines about pools: a heading, and a line for each
abbrev pub some_pools : List PoolLeft → List ℕ
some_pools pools = starred (pools_heading (length pools)) ++ flat_map pool_line pools

-- if there are pools
abbrev pub pools_report : List PoolLeft → List ℕ
pools_report pools = if length pools == 0 then [] else some_pools pools

-- the report: areas, and then pools
abbrev pub report_text : Leftovers → List ℕ
report_text left = areas_report left.areas ++ pools_report left.pools
