-- What the history of a step says, as lines of JSON.
use Rattle.std.specs.Prelude.{ℕ, ◌==◌, List, [], ◌++◌, take, Option, Some, None, codes, decimal, if◌then◌else◌}
use Rattle.std.specs.List.{flat_map}
use Rattle.mvs_model.specs.declared.name.Name.{Name}
use Rattle.mvs_model.specs.Name.{trimmed}
use Rattle.area_history.specs.declared.events.StorageChange.{StorageChange}
use Rattle.area_history.specs.declared.events.StorageChange.TheVariants.{Released, Emptied, Ended, Attached}
use Rattle.area_history.specs.declared.events.StorageEvent.{StorageEvent}
use Rattle.area_history.specs.declared.findings.AddressHistory.{AddressHistory}
use Rattle.area_history.specs.declared.findings.AreaFate.{AreaFate}
use Rattle.area_history.specs.declared.findings.Findings.{Findings}
use Rattle.area_history.specs.declared.grant.AreaGrant.{AreaGrant}
use Rattle.area_history.specs.declared.grant.Selection.{Selection}
use Rattle.area_history.specs.declared.grant.Selection.TheVariants.{All, EndedWith, Below}
use Rattle.area_history.specs.declared.largest.Leaks.{Leaks}
use Rattle.area_history.specs.HistoryTexts.{earlier}
use Rattle.area_history.specs.JsonReports.{area_object, capped, origin_members, place_members, subpool_members, total_object}

-- ---- an address

-- an area: its name, its place, its subpool, and the line that obtained it
abbrev pub area_members : AreaGrant → List ℕ
area_members g = codes ",\"area\":{\"name\":\"" ++ trimmed g.area ++ codes "\"" ++ place_members g.place ++ subpool_members g.subpool g.owner ++ origin_members g.task g.line ++ codes "}"

-- the address, and an area that has or had it
abbrev pub fate_members : ℕ → AreaGrant → List ℕ
fate_members a g = codes "{\"event\":\"address_history\",\"address\":" ++ decimal a ++ area_members g

-- the task and the line that freed it
abbrev pub by_members : StorageEvent → List ℕ
by_members e = codes ",\"task\":\"" ++ trimmed e.task ++ codes "\",\"line\":" ++ decimal e.line

-- a release of a whole subpool
abbrev pub whole_members : StorageEvent → ℕ → Name → List ℕ
whole_members e number owner = codes "\"by\":\"whole_release\"" ++ by_members e ++ subpool_members number owner ++ codes "\""

-- the end of a task
abbrev pub end_members : StorageEvent → Name → List ℕ
end_members e task = codes "\"by\":\"end\",\"task\":\"" ++ trimmed task ++ codes "\",\"line\":" ++ decimal e.line

-- what freed it
abbrev pub change_members : StorageEvent → StorageChange → List ℕ
change_members e (Released p) = codes "\"by\":\"release\"" ++ by_members e
change_members e (Emptied number owner) = whole_members e number owner
change_members e (Ended task) = end_members e task
change_members e (Attached name gifts areas) = codes "\"by\":\"attach\""

-- if something did
abbrev pub freed_members : Option StorageEvent → List ℕ
freed_members None = codes "}\n"
freed_members (Some e) = codes ",\"freed\":{" ++ change_members e e.change ++ codes "}}\n"

-- the line of an area that has or had an address
abbrev pub fate_object : ℕ → AreaFate → List ℕ
fate_object a f = fate_members a f.grant ++ freed_members f.freed

-- if there is such an area
abbrev pub some_fate_object : ℕ → Option AreaFate → List ℕ
some_fate_object a None = []
some_fate_object a (Some f) = fate_object a f

-- the history of an address: the area that had it before, if it is in another one now, and the last one
abbrev pub history_objects : AddressHistory → List ℕ
history_objects h = some_fate_object h.addr (earlier h) ++ some_fate_object h.addr h.latest

-- if there is an address
abbrev pub address_objects : Option AddressHistory → List ℕ
address_objects None = []
address_objects (Some h) = history_objects h

-- ---- storage that is short

-- the length that fits with LOC=ANY
abbrev pub anywhere_object : ℕ → List ℕ
anywhere_object n = codes "{\"event\":\"with_loc_any\",\"longest\":" ++ decimal n ++ codes ",\"rules\":[14]}\n"

-- if one does
abbrev pub anywhere_objects : Option ℕ → List ℕ
anywhere_objects None = []
anywhere_objects (Some n) = anywhere_object n

-- the word for a side
abbrev pub side_word : Selection → List ℕ
side_word Below = codes "below"
side_word All = codes "any"
side_word (EndedWith tasks) = codes "any"

-- how many areas there are, and how many bytes they have
abbrev pub counts_members : Leaks → List ℕ
counts_members l = codes ",\"areas\":" ++ capped l.count ++ codes ",\"bytes\":" ++ capped l.bytes ++ codes "}\n"

-- how many areas hold storage on a side, and how many bytes
abbrev pub held_object : Selection → Leaks → List ℕ
held_object side held = codes "{\"event\":\"held\",\"side\":\"" ++ side_word side ++ codes "\"" ++ counts_members held

-- how the line of such an area begins, and that of a total of them
abbrev pub holder_head : List ℕ
holder_head = codes "{\"event\":\"holder\",\"name\":\""

abbrev pub held_total_head : List ℕ
held_total_head = codes "{\"event\":\"held_total\","

-- who has the storage on a side: how many areas, the three largest, and the totals by subpool
abbrev pub some_held_objects : Selection → Leaks → List ℕ
some_held_objects side held = held_object side held ++ (flat_map (area_object holder_head) (take 3 held.largest) ++ flat_map (total_object held_total_head) held.subpools)

-- if areas hold some
abbrev pub held_objects : Selection → Leaks → List ℕ
held_objects side held = if held.count == 0 then [] else some_held_objects side held

-- ---- what stays

-- how many areas stay, and how many bytes
abbrev pub stays_object : Leaks → List ℕ
stays_object stays = codes "{\"event\":\"stays\"" ++ counts_members stays

-- how the line of such an area begins
abbrev pub stay_head : List ℕ
stay_head = codes "{\"event\":\"stay\",\"name\":\""

-- the areas that stay: how many, and the ten largest
abbrev pub some_stays_objects : Leaks → List ℕ
some_stays_objects stays = stays_object stays ++ flat_map (area_object stay_head) stays.largest

-- if some do
abbrev pub stays_objects : Leaks → List ℕ
stays_objects stays = if stays.count == 0 then [] else some_stays_objects stays

-- ---- all of it

abbrev pub json_findings : Findings → List ℕ
json_findings f = address_objects f.address ++ (anywhere_objects f.anywhere ++ (held_objects f.side f.held ++ stays_objects f.stays))
