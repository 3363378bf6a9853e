-- The lines about what the history of a step says.
use Rattle.std.specs.Prelude.{ℕ, ◌==◌, ◌-◌, List, [], ◌++◌, length, take, Option, Some, None, option_map, unwrap_or, codes, decimal, if◌then◌else◌}
use Rattle.std.specs.List.{flat_map}
use Rattle.mvs_model.specs.declared.name.Name.{Name}
use Rattle.mvs_model.specs.Name.{trimmed}
use Rattle.mvs_model.specs.Texts.{hex}
use Rattle.explanation.specs.FactTexts.{subpool_words}
use Rattle.area_history.specs.declared.events.StorageChange.{StorageChange}
use Rattle.area_history.specs.declared.events.StorageChange.TheVariants.{Released, Emptied, Ended, Attached}
use Rattle.area_history.specs.declared.events.StorageEvent.{StorageEvent}
use Rattle.area_history.specs.declared.findings.AddressHistory.{AddressHistory}
use Rattle.area_history.specs.declared.findings.AreaFate.{AreaFate}
use Rattle.area_history.specs.declared.findings.Findings.{Findings}
use Rattle.area_history.specs.declared.grant.AreaGrant.{AreaGrant}
use Rattle.area_history.specs.declared.grant.Leak.{Leak}
use Rattle.area_history.specs.declared.grant.Selection.{Selection}
use Rattle.area_history.specs.declared.grant.Selection.TheVariants.{All, EndedWith, Below}
use Rattle.area_history.specs.declared.largest.Leaks.{Leaks}
use Rattle.area_history.specs.LeakTexts.{areas_text, leak_line, left_text, more_line, number_text, origin_text, starred, totals_text}

-- ---- an address

-- the number of a line, at the end of a sentence
abbrev pub number_line : ℕ → List ℕ
number_line n = codes " in line " ++ decimal n ++ codes "."

-- what freed a doubleword
abbrev pub change_text : StorageEvent → StorageChange → List ℕ
change_text e (Released p) = codes ", released by " ++ trimmed e.task ++ number_line e.line
change_text e (Emptied number owner) = codes ", released with all of " ++ subpool_words number owner ++ number_line e.line
change_text e (Ended task) = codes ", freed by the end of " ++ trimmed task ++ number_line e.line
change_text e (Attached name gifts areas) = codes "."

abbrev pub event_text : StorageEvent → List ℕ
event_text e = change_text e e.change

-- if something did
abbrev pub freed_text : Option StorageEvent → List ℕ
freed_text None = codes "."
freed_text (Some e) = event_text e

-- whether an address is still in an area
abbrev pub is_text : Option StorageEvent → List ℕ
is_text None = codes " is in "
is_text (Some e) = codes " was in "

-- an area
abbrev pub area_text : AreaGrant → List ℕ
area_text g =
    trimmed g.area ++ codes ": " ++ decimal g.place.len ++ codes " bytes at " ++ hex 8 g.place.addr ++ codes " in " ++ subpool_words g.subpool g.owner ++ codes ", obtained by " ++ trimmed g.task ++ codes " in line " ++ decimal g.line

-- that an address is or was in an area, and what freed it
abbrev pub fate_text : ℕ → AreaFate → List ℕ
fate_text a f = hex 8 a ++ is_text f.freed ++ area_text f.grant ++ freed_text f.freed

abbrev pub fate_line : ℕ → AreaFate → List ℕ
fate_line a f = starred (fate_text a f)

-- if there is such an area
abbrev pub some_fate_text : ℕ → Option AreaFate → List ℕ
some_fate_text a None = []
some_fate_text a (Some f) = fate_line a f

-- an area that had an address before another one, if that is not freed
abbrev pub earlier_held : Option StorageEvent → Option AreaFate → Option AreaFate
earlier_held None previous = previous
earlier_held (Some e) previous = None

-- the area that had an address before, if it is in another one now
abbrev pub earlier_latest : Option AreaFate → Option AreaFate → Option AreaFate
earlier_latest None previous = None
earlier_latest (Some latest) previous = earlier_held latest.freed previous

abbrev pub earlier : AddressHistory → Option AreaFate
earlier h = earlier_latest h.latest h.previous

-- the history of an address: the area that had it before, if it is in another one now, and the last one
abbrev pub history_text : AddressHistory → List ℕ
history_text h = some_fate_text h.addr (earlier h) ++ some_fate_text h.addr h.latest

-- if there is an address
abbrev pub address_text : Option AddressHistory → List ℕ
address_text None = []
address_text (Some h) = history_text h

-- ---- storage that is short

-- the length that fits with LOC=ANY
abbrev pub anywhere_words : ℕ → List ℕ
anywhere_words n = codes "With LOC=ANY it would fit: the largest area then has " ++ decimal n ++ codes " bytes. (rule 14)"

abbrev pub anywhere_line : ℕ → List ℕ
anywhere_line n = starred (anywhere_words n)

-- if one does
abbrev pub anywhere_text : Option ℕ → List ℕ
anywhere_text None = []
anywhere_text (Some n) = anywhere_line n

-- the words for a side
abbrev pub side_text : Selection → List ℕ
side_text Below = codes "Held below 16 MB: "
side_text All = codes "Held: "
side_text (EndedWith tasks) = codes "Held: "

-- how many areas hold storage on a side, and how many bytes
abbrev pub held_heading : Selection → Leaks → List ℕ
held_heading side held = side_text side ++ areas_text held.count ++ codes ", " ++ number_text held.bytes ++ codes " bytes."

-- who has the storage on a side: a heading, the three largest areas, and the totals by subpool
abbrev pub some_held : Selection → Leaks → List ℕ
some_held side held = starred (held_heading side held) ++ (flat_map leak_line (take 3 held.largest) ++ totals_text held.subpools)

-- if areas hold some
abbrev pub held_text : Selection → Leaks → List ℕ
held_text side held = if held.count == 0 then [] else some_held side held

-- ---- what stays

-- an area that stays after the end of the task that obtained it
abbrev pub stay_text : Leak → List ℕ
stay_text l =
    trimmed l.grant.area ++ codes ": " ++ left_text l.bytes l.grant.place.len ++ codes " bytes at " ++ hex 8 l.grant.place.addr ++ codes " stay in " ++ subpool_words l.grant.subpool l.grant.owner
    ++ origin_text l.grant

abbrev pub stay_line : Leak → List ℕ
stay_line l = starred (stay_text l)

-- the ten largest of them, and how many more
abbrev pub stays_text : Leaks → List ℕ
stays_text stays = flat_map stay_line stays.largest ++ more_line (stays.count - 10)

-- ---- all of it

abbrev pub findings_text : Findings → List ℕ
findings_text f = address_text f.address ++ (anywhere_text f.anywhere ++ (held_text f.side f.held ++ stays_text f.stays))
