use Rattle.std.proofs.Common.{◌++◌, ap, ◌∙◌}
use Rattle.language_server.specs.Actions.{writings_from}
use Rattle.language_server.specs.Spans.{line_at}
use Rattle.language_server.proofs.document.Document.actions.Goals as goal

pub returns : goal.returns
returns c =
    let d = c.args.self.now in
    let span = c.args.span in
    let notes = c.in_ok-notes.notes.items in
    let fixes = c.in_ok-actions.actions.items in (
      notes,
      c.in_ok-notes.ensures,
      c.in_ok-add_writings.ensures ∙ ap (λ n. fixes ++ writings_from d.text 0 n c.line_of-last.result d.outputs) c.line_of-first.ensures.exact
          ∙ ap (λ n. fixes ++ writings_from d.text 0 (line_at d.text span.start) n d.outputs) c.line_of-last.ensures.exact
          ∙ ap (λ fs. fs ++ writings_from d.text 0 (line_at d.text span.start) (line_at d.text span.end) d.outputs)
          (rw (c.line_of-first.ensures.exact, c.line_of-last.ensures.exact, c.deref.ensures.value) at c.in_ok-actions.ensures),
    )
