-- A report of leaks as lines of JSON.
use Rattle.std.specs.Prelude.{ℕ, ◌==◌, nat_lt, List, [], ◌++◌, length, codes, decimal, if◌then◌else◌}
use Rattle.std.specs.List.{flat_map}
use Rattle.mvs_model.specs.declared.name.Name.{Name}
use Rattle.mvs_model.specs.Name.{trimmed}
use Rattle.mvs_model.specs.Place.{PlaceValue}
use Rattle.area_history.specs.declared.grant.Leak.{Leak}
use Rattle.area_history.specs.declared.account.Leftovers.{Leftovers}
use Rattle.area_history.specs.declared.pools.PoolLeft.{PoolLeft}
use Rattle.area_history.specs.declared.totals.Group.{Group}
use Rattle.area_history.specs.declared.totals.Group.TheVariants.{Subpool, Task}
use Rattle.area_history.specs.declared.totals.Total.{Total}
use Rattle.area_history.specs.Pools.{pool_bytes}

-- a number, at most 2 ^ 32 - 1
abbrev pub capped : ℕ → List ℕ
capped n = if nat_lt n 4294967296 then decimal n else codes "4294967295"

-- the line that counts the areas, their bytes, and the pools
abbrev pub leaks_line : ℕ → ℕ → ℕ → List ℕ
leaks_line count bytes pools = codes "{\"event\":\"leaks\",\"areas\":" ++ capped count ++ codes ",\"bytes\":" ++ capped bytes ++ codes ",\"pools\":" ++ capped pools ++ codes "}\n"

-- where an area is
abbrev pub place_members : PlaceValue → List ℕ
place_members p = codes ",\"address\":" ++ decimal p.addr ++ codes ",\"length\":" ++ decimal p.len

-- what is left of it
abbrev pub bytes_member : ℕ → List ℕ
bytes_member bytes = codes ",\"bytes\":" ++ decimal bytes

-- its subpool
abbrev pub subpool_members : ℕ → Name → List ℕ
subpool_members number owner = codes ",\"subpool\":" ++ decimal number ++ codes ",\"owner\":\"" ++ trimmed owner

-- the task and the line that obtained it
abbrev pub origin_members : Name → ℕ → List ℕ
origin_members task number = codes "\",\"task\":\"" ++ trimmed task ++ codes "\",\"line\":" ++ decimal number

-- the line of an area, which begins so
abbrev pub area_object : List ℕ → Leak → List ℕ
area_object head l =
    head ++ trimmed l.grant.area ++ codes "\"" ++ place_members l.grant.place ++ bytes_member l.bytes ++ subpool_members l.grant.subpool l.grant.owner ++ origin_members l.grant.task l.grant.line ++ codes "}\n"

-- how the line of an area begins that was never released
abbrev pub leak_head : List ℕ
leak_head = codes "{\"event\":\"leak\",\"name\":\""

-- ---- totals

-- the group of a total
abbrev pub group_members : Group → List ℕ
group_members (Subpool number owner) = codes "\"subpool\":" ++ decimal number ++ codes ",\"owner\":\"" ++ trimmed owner ++ codes "\""
group_members (Task task) = codes "\"task\":\"" ++ trimmed task ++ codes "\""

-- the line of a total, which begins so
abbrev pub total_object : List ℕ → Total → List ℕ
total_object head t = head ++ group_members t.group ++ codes ",\"areas\":" ++ capped t.count ++ codes ",\"bytes\":" ++ capped t.bytes ++ codes "}\n"

-- how the line of a total begins of areas that were never released
abbrev pub total_head : List ℕ
total_head = codes "{\"event\":\"leak_total\","

-- ---- pools

-- the line of a pool
abbrev pub pool_object : PoolLeft → List ℕ
pool_object p =
    codes "{\"event\":\"pool_left\",\"name\":\"" ++ trimmed p.built.pool ++ codes "\",\"bytes\":" ++ capped (pool_bytes p) ++ codes ",\"parts\":" ++ decimal p.parts ++ subpool_members p.built.subpool p.built.owner
    ++ origin_members p.built.task p.built.line ++ codes "}\n"

-- the lines of a report
abbrev pub json_report : Leftovers → List ℕ
json_report left =
    leaks_line left.areas.count left.areas.bytes (length left.pools)
    ++ (flat_map (area_object leak_head) left.areas.largest ++ (flat_map (total_object total_head) left.areas.subpools ++ (flat_map (total_object total_head) left.areas.tasks ++ flat_map pool_object left.pools)))
