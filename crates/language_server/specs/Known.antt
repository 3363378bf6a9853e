-- The names that are set before a line, as a run of the document has them: areas, active tasks and pools.
use Rattle.std.specs.Prelude.{ℕ, ◌==◌, ◌&&◌, ◌||◌, not, nat_eq, nat_lt, Bool, List, filter, find, reverse, length, Option, Some, None, unwrap_or, codes, bytes_eq}
use Rattle.std.specs.List.{after_first, before_first, list_any, slice_split, starts_with}
use Rattle.expected_answers.specs.ExpectedAnswers.{after_prefix}
use Rattle.language_server.specs.declared.names.NameKind.{NameKind}
use Rattle.language_server.specs.declared.names.Occurrence.{Occurrence}
use Rattle.language_server.specs.declared.state.Moment.{Moment}
use Rattle.language_server.specs.Documents.{DocumentValue, answer_at}
use Rattle.language_server.specs.LineOutputs.{task_of}
use Rattle.language_server.specs.References.{kind_number}
use Rattle.language_server.specs.Refusals.{is_refused}
use Rattle.language_server.specs.Spans.{bytes_of, line_bytes}

-- whether a line was executed, and its request was not refused
abbrev pub is_granted : List ℕ → Bool
is_granted answer = not (length answer == 0) && not (is_refused answer)

-- the step of the last name before a line
abbrev pub step_in : Option Occurrence → ℕ
step_in None = 0
step_in (Some name) = name.step

abbrev pub is_before : ℕ → Occurrence → Bool
is_before line name = nat_lt name.line line

abbrev pub moment_before : List Occurrence → ℕ → Moment
moment_before names before = record { before = before; step = step_in (find (is_before before) (reverse names)) }

-- whether a name is set before a line, in its step
abbrev pub is_made : DocumentValue → Moment → Occurrence → Bool
is_made d m name = nat_lt name.line m.before && (name.is_set && ((name.step == m.step) && is_granted (answer_at d name.line)))

-- whether two names are of the same kind, with the same bytes
abbrev pub is_alike : List ℕ → Occurrence → Occurrence → Bool
is_alike text name other = (kind_number name.kind == kind_number other.kind) && bytes_eq (bytes_of text name.span) (bytes_of text other.span)

-- whether a name is set again before the line
abbrev pub is_set_again : DocumentValue → Moment → Occurrence → Occurrence → Bool
is_set_again d m name later = nat_lt name.span.start later.span.start && (is_made d m later && is_alike d.text name later)

-- ---- the ends of tasks

abbrev pub without_blank : List ℕ → List ℕ
without_blank text = unwrap_or (after_prefix (codes " ") text) text

-- whether a text of an answer is `NAME ENDED WITH ..` of a task
abbrev pub is_end_word : List ℕ → List ℕ → Bool
is_end_word task text = bytes_eq (before_first (λ b. b == 32) text) task && starts_with nat_eq (after_first (λ b. b == 32) text) (codes "ENDED WITH ")

abbrev pub is_end_text : List ℕ → List ℕ → Bool
is_end_text task text = is_end_word task (without_blank text)

-- whether an answer is that of the end of the task of its line
abbrev pub is_own_end : List ℕ → Bool
is_own_end answer = starts_with nat_eq answer (codes "ENDED") || starts_with nat_eq answer (codes "ABEND ")

-- whether a task ends with a line, by its answer
abbrev pub ends_task : List ℕ → List ℕ → List ℕ → Bool
ends_task task line answer = (is_own_end answer && bytes_eq (task_of line) task) || list_any (is_end_text task) (slice_split (λ b. b == 47) answer)

-- whether a task ended in the line of another name, after it was begun
abbrev pub is_ended_at : DocumentValue → Moment → Occurrence → Occurrence → Bool
is_ended_at d m name later =
    nat_lt name.line later.line && (nat_lt later.line m.before && ends_task (bytes_of d.text name.span) (line_bytes d.text later.line) (answer_at d later.line))

abbrev pub is_ended : DocumentValue → List Occurrence → Moment → Occurrence → Bool
is_ended d names m name = (kind_number name.kind == 1) && list_any (is_ended_at d m name) names

-- ---- known names

-- whether a name is known before a line: it is set before the line, not again after that, and as a task has not ended
abbrev pub is_known : DocumentValue → List Occurrence → Moment → Occurrence → Bool
is_known d names m name = is_made d m name && (not (list_any (is_set_again d m name) names) && not (is_ended d names m name))

abbrev pub known_names : DocumentValue → List Occurrence → Moment → List Occurrence
known_names d names m = filter (is_known d names m) names

-- whether a known name is of a kind, and has some bytes
abbrev pub is_called : List ℕ → NameKind → List ℕ → Occurrence → Bool
is_called text kind bytes name = (kind_number kind == kind_number name.kind) && bytes_eq (bytes_of text name.span) bytes

-- the known name of a kind with some bytes
abbrev pub known_at : DocumentValue → List Occurrence → Moment → NameKind → List ℕ → Option Occurrence
known_at d names m kind bytes = find (λ name. is_called d.text kind bytes name && is_known d names m name) names

abbrev pub known_name : DocumentValue → List Occurrence → ℕ → NameKind → List ℕ → Option Occurrence
known_name d names before kind bytes = known_at d names (moment_before names before) kind bytes
