-- The text of the item of a line.
use Rattle.std.proofs.Common.{◌≡◌, ℕ, List, ◌++◌, Some, None, refl, ap, ◌∙◌, codes}
use Rattle.mvs_model.specs.declared.line.Fault.{Fault}
use Rattle.mvs_model.specs.declared.line.Line.{Line}
use Rattle.mvs_model.specs.Texts.{printing}
use Rattle.mvs_job.specs.declared.walk.LineEvent.{LineEvent}
use Rattle.mvs_job.specs.declared.walk.LineEvent.TheVariants as line_event
use Rattle.mvs_job.specs.LineEvents.{WalkValue, events_of_line}
use Rattle.page.specs.Changes.{changes_of}
use Rattle.page.specs.Lines.{change_lines}
use Rattle.page.specs.Markup.{class_of, head_of, note_of, reply_of, tail_of}
use Rattle.page.specs.Items.{item_of_event}

-- the item of a line with a fault
pub faulted_is : (number : ℕ) (l : List ℕ) (read : Line) (w : WalkValue) (t : LineEvent) (fault : Fault) (trailing printed : List ℕ) → t ≡ line_event.Faulted fault → printed ≡ printing (events_of_line number w t)
    → head_of number (codes "js") l ++ (reply_of printed ++ codes "<p>The job ends here.</p>\n</article>\n") ≡ item_of_event number l read w t trailing
faulted_is number l read w (line_event.Faulted g) fault trailing printed is e = ap (λ x. head_of number (codes "js") l ++ (reply_of x ++ codes "<p>The job ends here.</p>\n</article>\n")) e
faulted_is number l read w line_event.Nothing fault trailing printed is e = absurd (let f : line_event.Nothing ≡ line_event.Faulted fault = is in cc)
faulted_is number l read w (line_event.StepBegan end card) fault trailing printed is e = absurd (let f : line_event.StepBegan end card ≡ line_event.Faulted fault = is in cc)
faulted_is number l read w (line_event.Answered t a) fault trailing printed is e = absurd (let f : line_event.Answered t a ≡ line_event.Faulted fault = is in cc)

-- the item of a statement
abbrev item_by : ℕ → List ℕ → List ℕ → List ℕ → List ℕ → List ℕ → List ℕ
item_by number l trailing how printed changes = head_of number how l ++ (reply_of printed ++ tail_of trailing changes)

by_parts : (number : ℕ) (l trailing how how' printed printed' changes changes' : List ℕ) → how ≡ how' → printed ≡ printed' → changes ≡ changes' → item_by number l trailing how printed changes ≡ item_by number l trailing how' printed' changes'
by_parts number l trailing how how' printed printed' changes changes' e f g =
    ap (λ x. item_by number l trailing x printed changes) e ∙ ap (λ x. item_by number l trailing how' x changes) f ∙ ap (λ x. item_by number l trailing how' printed' x) g

pub stated_is : (number : ℕ) (l : List ℕ) (read : Line) (w : WalkValue) (t : LineEvent) (trailing how printed changes below : List ℕ) → (t ≡ line_event.Nothing → ⊥) → ((fault : Fault) → t ≡ line_event.Faulted fault → ⊥) → how ≡ class_of (events_of_line number w t) → printed ≡ printing (events_of_line number w t)
    → changes ≡ change_lines w.step (changes_of read (events_of_line number w t) w.step) → below ≡ trailing → item_by number l below how printed changes ≡ item_of_event number l read w t trailing
stated_is number l read w line_event.Nothing trailing how printed changes below some other e f g h = absurd (some refl)
stated_is number l read w (line_event.Faulted fault) trailing how printed changes below some other e f g h = absurd (other fault refl)
stated_is number l read w (line_event.Answered t a) trailing how printed changes below some other e f g h = ap (λ x. item_by number l x how printed changes) h ∙ by_parts number l trailing how _ printed _ changes _ e f g
stated_is number l read w (line_event.StepBegan None card) trailing how printed changes below some other e f g h = ap (λ x. item_by number l x how printed changes) h ∙ by_parts number l trailing how _ printed _ changes _ e f g
stated_is number l read w (line_event.StepBegan (Some abended) card) trailing how printed changes below some other e f g h = ap (λ x. item_by number l x how printed changes) h ∙ by_parts number l trailing how _ printed _ changes _ e f g

-- the item of a line that says nothing
pub noted_is : (number : ℕ) (l : List ℕ) (read : Line) (w : WalkValue) (t : LineEvent) (trailing : List ℕ) → t ≡ line_event.Nothing → note_of number l ≡ item_of_event number l read w t trailing
noted_is number l read w line_event.Nothing trailing is = refl
noted_is number l read w (line_event.Faulted fault) trailing is = absurd (let f : line_event.Faulted fault ≡ line_event.Nothing = is in cc)
noted_is number l read w (line_event.StepBegan end card) trailing is = absurd (let f : line_event.StepBegan end card ≡ line_event.Nothing = is in cc)
noted_is number l read w (line_event.Answered t a) trailing is = absurd (let f : line_event.Answered t a ≡ line_event.Nothing = is in cc)
