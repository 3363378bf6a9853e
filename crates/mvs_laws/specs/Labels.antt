-- The label machine: areas without addresses, each granted in full. What it answers depends on no place.
use Rattle.std.specs.Prelude.{◌≡◌, ℕ, zero, suc, ◌+◌, ◌-◌, Bool, true, false, not, ◌&&◌, ◌==◌, nat_lt, List, [], ◌∷◌, length, map, Option, Some, None, is_some, slice_get, if◌then◌else◌, MatchOption}
use Rattle.std.specs.Bool.{MatchBool}
use Rattle.std.specs.List.{list_all, list_any}
use Rattle.std.specs.Option.{option_map, option_and_then, unwrap_or}
use Rattle.std.specs.FinMap.{FinMap, get, empty, insert}
use Rattle.mvs_model.specs.Causes.{Cause, Passed, Refused, abend_causes, access_causes, attach_causes, number_causes, release_causes, return_causes, whole_causes}
use Rattle.mvs_model.specs.Consequences.{by_form}
use Rattle.mvs_model.specs.declared.refusal.Refusal.{Refusal}
use Rattle.mvs_model.specs.declared.refusal.Consequence.{Consequence}
use Rattle.mvs_model.specs.declared.refusal.Consequence.TheVariants as consequence
use Rattle.mvs_model.specs.declared.code.Form.TheVariants.{Storage}
use Rattle.std.specs.Prelude.{IsTrue, ◌⊎◌}
use Rattle.mvs_model.specs.declared.name.Name.{Name}
use Rattle.mvs_model.specs.declared.code.Form.{Form}
use Rattle.mvs_model.specs.declared.code.Code.{Code}
use Rattle.mvs_model.specs.declared.want.Residence.{Residence}
use Rattle.mvs_model.specs.declared.line.Statement.{Statement}
use Rattle.mvs_model.specs.declared.line.Statement.TheVariants as says
use Rattle.mvs_model.specs.declared.line.Location.{Location}
use Rattle.mvs_model.specs.declared.line.Location.TheVariants.{Absolute, Named}
use Rattle.mvs_model.specs.declared.line.SourceRequest.{SourceRequest}
use Rattle.mvs_model.specs.declared.line.SourceRequest.TheVariants as written
use Rattle.mvs_model.specs.declared.outcome.Outcome.{Outcome}
use Rattle.mvs_model.specs.Place.{PlaceValue, place_at, round8}
use Rattle.mvs_model.specs.Gifts.{GiftsValue}
use Rattle.mvs_model.specs.Card.{CardValue}
use Rattle.mvs_model.specs.Name.{name_cmp}
use Rattle.mvs_model.specs.Finite.{has, all_below, any_below, count_below, total_below}
use Rattle.mvs_model.specs.Storage.{has_address}
use Rattle.mvs_model.specs.Owners.{Owners, is_active, effective_task, subpool_meant, SubpoolOf, Enters, Attach, AreDescendants, Ends, ends_with}
use Rattle.mvs_model.specs.Start.{first_owners}
use Rattle.mvs_model.specs.Requests.{on_doubleword, whole}
use Rattle.mvs_model.specs.Answers.{NoCell, Answer, NotRun, NoName, Rc0, Rc4, Attached, Ended, Done, Data, Abended, Subpools, Event}
use Rattle.mvs_model.specs.Texts.{printing}
use Rattle.mvs_model.specs.Reports.{subpool_lines}
use Rattle.mvs_model.specs.Lines.{lines_of}
use Rattle.mvs_model.specs.Replies.{grant_answer}
use Rattle.mvs_model.specs.Walk.{Machine, Walks, JobEnds}

-- The areas granted so far, under the labels below the count: each one's subpool, its length, and the byte at each offset,
-- none once it is freed and none outside of the area. The tasks with what they own, the label of each name that is set, whether
-- a task has abended, and whether one of a former step has.
pub record Labels : Type 0 where
  pub fill : ℕ
  pub count : ℕ
  pub subpool : ℕ → ℕ
  pub len : ℕ → ℕ
  pub byte : ℕ → ℕ → Option ℕ
  pub owners : Owners
  pub names : FinMap name_cmp ℕ
  pub abended : Bool
  pub former : Bool

-- A place in an area: the area's label, and the offsets.
pub record Spot : Type 0 where
  pub label : ℕ
  pub place : PlaceValue

-- a number of bytes of an area, from an offset on
abbrev pub spot : ℕ → ℕ → ℕ → Spot
spot l k n = record { label = l; place = place_at k n }

-- whether the place has the offset of the label
abbrev pub has_offset : Spot → ℕ → ℕ → Bool
has_offset q l i = (l == q.label) && has_address q.place i

-- the place with its length rounded
abbrev pub rounded : Spot → Spot
rounded q = record { label = q.label; place = whole q.place }

-- whether the places have an offset in common
abbrev pub meets : Spot → Spot → Bool
meets q r = any_below (λ i. has_offset r q.label (q.place.addr + i)) q.place.len

-- whether two of the places do
abbrev pub some_meet : List Spot → Bool
some_meet [] = false
some_meet (q ∷ qs) = if list_any (meets q) qs then true else some_meet qs

-- whether no offset of the place is gone or outside of its area
abbrev pub is_there : Labels → Spot → Bool
is_there m q = all_below (λ i. is_some (m.byte q.label (q.place.addr + i))) q.place.len

-- whether each offset of the place is held by the subpool
abbrev pub is_held : Labels → ℕ → Spot → Bool
is_held m s q = all_below (λ i. is_some (m.byte q.label (q.place.addr + i)) && (m.subpool q.label == s)) q.place.len

-- the place that is written, where its name is set
abbrev pub spot_of : Labels → Location → ℕ → Option Spot
spot_of m (Absolute a) n = None
spot_of m (Named name k) n = option_map (λ l. spot l k n) (get m.names name)

-- the places that are written, where all their names are set
abbrev pub spots_of : Labels → List Location → List ℕ → Option (List Spot)
spots_of m [] lengths = Some []
spots_of m (location ∷ locations) [] = Some []
spots_of m (location ∷ locations) (n ∷ lengths) = option_and_then (λ q. option_map (λ qs. q ∷ qs) (spots_of m locations lengths)) (spot_of m location n)

-- the place of an area that is named
abbrev pub area_of : Labels → Name → Option Spot
area_of m name = option_map (λ l. spot l 0 (m.len l)) (get m.names name)

-- This is answered, and the labels are then these.
abbrev pub AnswersWith : Answer → Labels → Answer → Labels → Type 0
AnswersWith hints after answer new = (answer ≡ hints) × (new ≡ after)

-- the labels without the bytes at the offsets that pass a test
abbrev pub without : Labels → (ℕ → ℕ → Bool) → Labels
without m test = record m { byte = λ l i. if test l i then None else m.byte l i }

-- The task ends with its descendants, and everything in the subpools that they own is removed.
pub record Leaves (old : Labels) (t : Name) (fallen : List Name) (new : Labels) : Type 0 where
  pub owners : Owners
  pub is_fallen : AreDescendants old.owners t fallen
  pub ends : Ends old.owners t fallen owners
  pub is : new ≡ record (without old (λ l i. ends_with old.owners t fallen (old.subpool l))) { owners = owners }

-- An abend, by a code.
abbrev pub Abends : Labels → Name → Code → Answer → Labels → Type 0
Abends old t code answer new =
    (fallen : List Name) × (mid : Labels) × Leaves old t fallen mid × AnswersWith (Abended code fallen) (record mid { abended = true }) answer new

-- A refused statement changes nothing, or ends its task.
abbrev pub Settles : Labels → Name → Consequence → Answer → Labels → Type 0
Settles old t consequence.NotRun answer new = AnswersWith NotRun old answer new
Settles old t consequence.Rc4 answer new = AnswersWith Rc4 old answer new
Settles old t consequence.NoCell answer new = AnswersWith NoCell old answer new
Settles old t (consequence.Abend code) answer new = Abends old t code answer new

-- A statement is refused for one of its causes, and that has its consequence by the codes of its form; or it passes them all, and is
-- done.
abbrev pub Tries : Labels → Name → Form → Bool → List Cause → Type 0 → Answer → Labels → Type 0
Tries old t form obtaining causes done answer new =
    ((refusal : Refusal) × Refused causes refusal × Settles old t (by_form form obtaining refusal) answer new)
    ⊎ (Passed causes × done)

-- the labels with one more area of a subpool, all of fill bytes
abbrev pub with_area : Labels → ℕ → ℕ → Labels
with_area m s n = record m {
  count = m.count + 1;
  subpool = λ l. if l == m.count then s else m.subpool l;
  len = λ l. if l == m.count then n else m.len l;
  byte = λ l i. if l == m.count then (if nat_lt i n then Some m.fill else None) else m.byte l i;
}

-- An area is granted under a number of the task.
pub record Grants (old : Labels) (t : Name) (number n : ℕ) (new : Labels) : Type 0 where
  pub subpool : ℕ
  pub owners : Owners
  pub is_subpool : SubpoolOf old.owners t number subpool
  pub enters : Enters old.owners t number subpool owners
  pub is : new ≡ record (with_area old subpool n) { owners = owners }

-- Areas of these lengths, rounded, are granted one after another.
abbrev pub GrantsEach : Labels → Name → ℕ → List ℕ → Labels → Type 0
GrantsEach old t number [] new = new ≡ old
GrantsEach old t number (n ∷ lengths) new = (mid : Labels) × Grants old t number (round8 n) mid × GrantsEach mid t number lengths new

-- the names with the labels from one on, one for each length
abbrev pub all_named : FinMap name_cmp ℕ → List Name → List ℕ → ℕ → FinMap name_cmp ℕ
all_named names [] lengths l = names
all_named names (name ∷ more) [] l = names
all_named names (name ∷ more) (n ∷ lengths) l = all_named (insert names name l) more lengths (l + 1)

-- Where its number may be named, all is granted, and the names are set: the label machine has storage for everything.
abbrev pub Obtains : Labels → Name → Form → ℕ → List ℕ → List Name → Answer → Answer → Labels → Type 0
Obtains old t form n lengths areas hints answer new =
    Tries old t form true (number_causes n)
    ((mid : Labels) × GrantsEach old (effective_task old.owners t n) n lengths mid × AnswersWith hints (record mid { names = all_named mid.names areas lengths old.count }) answer new)
    answer new

-- All of the places are gone.
abbrev pub Releases : Labels → Name → Form → ℕ → List Spot → Answer → Labels → Type 0
Releases old t form n qs answer new =
    Tries old t form false
    (release_causes n (list_all (λ q. on_doubleword q.place) qs) (is_some (subpool_meant old.owners t n))
    (IsTrue (has (λ s. list_all (is_held old s) (map rounded qs)) (subpool_meant old.owners t n))) (IsTrue (not (some_meet (map rounded qs)))))
    (AnswersWith Rc0 (without old (λ l i. list_any (λ q. has_offset q l i) (map rounded qs))) answer new)
    answer new

-- All of a subpool is gone.
abbrev pub Empties : Labels → Name → Form → ℕ → Answer → Labels → Type 0
Empties old t form n answer new =
    Tries old t form false (whole_causes n) (AnswersWith Rc0 (without old (λ l i. has (λ s. old.subpool l == s) (subpool_meant old.owners t n))) answer new) answer new

-- The subtask is there.
abbrev pub Attaches : Labels → Name → Name → GiftsValue → Residence → Answer → Labels → Type 0
Attaches old t name gifts residence answer new =
    Tries old t Storage false (attach_causes old.owners t name gifts)
    ((o : Owners) × Attach old.owners t name gifts residence o × AnswersWith Attached (record old { owners = o }) answer new)
    answer new

-- The task ends.
abbrev pub Returns : Labels → Name → Answer → Labels → Type 0
Returns old t answer new =
    Tries old t Storage false (return_causes old.owners t) ((fallen : List Name) × (mid : Labels) × Leaves old t fallen mid × AnswersWith Ended mid answer new) answer new

-- the bytes of an area from an offset on
unfoldable pub bytes_in : Labels → ℕ → ℕ → ℕ → List ℕ
bytes_in m l k zero = []
bytes_in m l k (suc n) = unwrap_or (m.byte l k) 0 ∷ bytes_in m l (k + 1) n

-- the labels with other bytes in a place, by their offsets in it
abbrev pub with_bytes : Labels → Spot → (ℕ → Option ℕ) → Labels
with_bytes m q f = record m { byte = λ l i. if has_offset q l i then f (i - q.place.addr) else m.byte l i }

-- An access is done where no offset is gone or outside of its area.
abbrev pub Accesses : Labels → Name → Bool → Type 0 → Answer → Labels → Type 0
Accesses old t allowed done answer new = Tries old t Storage false (access_causes allowed) done answer new

-- what a request may do: where a name in it is not set, it says so
abbrev pub Asks : Labels → Name → SourceRequest → Answer → Labels → Type 0
Asks old t (written.Obtain form n ask variable area) answer new =
    Obtains old t form n (ask.most ∷ []) (area ∷ []) (grant_answer (written.Obtain form n ask variable area) (place_at 0 (round8 ask.most))) answer new
Asks old t (written.ObtainList form n lengths start areas) answer new = Obtains old t form n lengths areas Rc0 answer new
Asks old t (written.Release form n location len) answer new =
    MatchOption (spots_of old (location ∷ []) (len ∷ [])) (AnswersWith NoName old answer new) (λ qs. Releases old t form n qs answer new)
Asks old t (written.ReleaseArea form n area) answer new =
    MatchOption (area_of old area) (AnswersWith NoName old answer new) (λ q. Releases old t form n (q ∷ []) answer new)
Asks old t (written.ReleaseList form n locations lengths) answer new =
    MatchOption (spots_of old locations lengths) (AnswersWith NoName old answer new) (λ qs. Releases old t form n qs answer new)
Asks old t (written.ReleaseWhole form n) answer new = Empties old t form n answer new
Asks old t (written.Build pool n size primary secondary loc) answer new = ⊥
Asks old t (written.Get pool conditional cell) answer new = ⊥
Asks old t (written.Free pool cell) answer new = ⊥
Asks old t (written.Delete pool) answer new = ⊥
Asks old t (written.Attach name gifts residence) answer new = Attaches old t name gifts residence answer new
Asks old t written.Return answer new = Returns old t answer new
Asks old t (written.Abend n) answer new = Tries old t Storage false (abend_causes n) ⊥ answer new
Asks old t (written.Show location n) answer new =
    MatchOption (spot_of old location n) (AnswersWith NoName old answer new)
    (λ q. Accesses old t (is_there old q) (AnswersWith (Data (bytes_in old q.label q.place.addr n)) old answer new) answer new)
Asks old t (written.Put location bytes) answer new =
    MatchOption (spot_of old location (length bytes)) (AnswersWith NoName old answer new)
    (λ q. Accesses old t (is_there old q) (AnswersWith Done (with_bytes old q (slice_get bytes)) answer new) answer new)
Asks old t (written.Move to from n) answer new =
    MatchOption (spot_of old to n) (AnswersWith NoName old answer new)
    (λ q. MatchOption (spot_of old from n) (AnswersWith NoName old answer new)
    (λ r. Accesses old t (is_there old q && is_there old r) (AnswersWith Done (with_bytes old q (λ i. old.byte r.label (r.place.addr + i))) answer new) answer new))

-- how many bytes of a subpool's areas are there
abbrev pub bytes_there : Labels → ℕ → ℕ
bytes_there m s = total_below m.count (λ l. if m.subpool l == s then count_below (m.len l) (λ i. is_some (m.byte l i)) else 0)

-- What a statement of an active task does, where it is tidy. REPORT SP: no subpool has bytes in pools.
abbrev pub AnswersTo : Labels → Name → Statement → Answer → Labels → Type 0
AnswersTo old t (says.Region below above fill residence) answer new = ⊥
AnswersTo old t (says.Request a) answer new = Asks old t a answer new
AnswersTo old t (says.Where name) answer new = MatchOption (get old.names name) (AnswersWith NoName old answer new) (λ l. ⊥)
AnswersTo old t says.ReportSubpools answer new = AnswersWith (Subpools (subpool_lines old.owners (bytes_there old) (λ s. 0) t)) old answer new
AnswersTo old t says.ReportMap answer new = ⊥

-- What a statement does, which is not REGION.
abbrev pub Does : Labels → Name → Statement → Answer → Labels → Type 0
Does old t s answer new = MatchBool (not (is_active old.owners t)) (AnswersWith NotRun old answer new) (AnswersTo old t s answer new)

-- the labels at the start of a step: none
abbrev pub first_labels : CardValue → Bool → Labels
first_labels card former = record {
  fill = card.fill;
  count = 0;
  subpool = λ l. 0;
  len = λ l. 0;
  byte = λ l i. None;
  owners = first_owners card.name card.residence;
  names = empty;
  abended = false;
  former = former;
}

abbrev pub label_machine : Machine Labels
label_machine = record { starts = first_labels; abended = λ m. m.abended; former = λ m. m.former; does = λ number. Does }

-- The label machine has these events for a script, and ends so.
abbrev pub IsLabelRun : List ℕ → List Event → Outcome → Type 0
IsLabelRun script events outcome = Walks label_machine (JobEnds label_machine outcome) 1 None (lines_of script) events

-- The text is the printing of the events of the label machine for a script.
abbrev pub IsLabelText : List ℕ → List ℕ → Type 0
IsLabelText script text = (events : List Event) × (outcome : Outcome) × IsLabelRun script events outcome × (text ≡ printing events)
