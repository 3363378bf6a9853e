use Rattle.std.proofs.Common.{[], ◌∷◌, ◌++◌, ap, ◌∙◌}
use Rattle.language_server.specs.Differences.{arrow_span, difference_note}
use Rattle.language_server.specs.NoteValues.{line_span}
use Rattle.language_server.specs.Spans.{line_bytes}
use Rattle.language_server.proofs.Hovering.{on_ok}
use Rattle.language_server.proofs.document.Document.push_difference_note.Goals as goal

pub returns : goal.returns
returns c =
    on_ok c.push_note.result
    (λ e. e ∙ ap (λ n. c.args.notes.now.items ++ n ∷ [])
    (c.in_ok-note.ensures ∙ ap (λ s. difference_note s c.args.expected.now c.printed.result.now) c.arrow_span-span.ensures
    ∙ ap (difference_note (line_span c.args.self.now.text c.args.number (arrow_span (line_bytes c.args.self.now.text c.args.number))) c.args.expected.now) c.printed.ensures))
    c.push_note.ensures
