use Rattle.std.proofs.Common.{ℕ, ◌+◌, ap, arith, sym, ◌∙◌, true, false}
use Rattle.std.proofs.lemmas.Option.{slice_get_within}
use Rattle.editor_messages.specs.declared.query.Position.{Position}
use Rattle.language_server.proofs.Walked.{line_most, character_most, moved}
use Rattle.language_server.proofs.position.Cursor.step.Goals as goal

abbrev position_at : ℕ → ℕ → Position
position_at l k = record { line = l; character = k }

pub overflow_add-self-then-ends_line : goal.overflow_add-self-then-ends_line
overflow_add-self-then-ends_line c =
    let l = line_most c.args.text.now c.args.self.now.at c.args.self.now.position c.requires.on in
    let w = slice_get_within c.args.text.now c.args.self.now.at c.args.byte c.requires.some in
    let s = c.requires.short in
    omega (arith, l, w, s)

pub overflow_add-self-else-ends_line : goal.overflow_add-self-else-ends_line
overflow_add-self-else-ends_line c =
    let l = character_most c.args.text.now c.args.self.now.at c.args.self.now.position c.requires.on c.args.byte in
    let w = slice_get_within c.args.text.now c.args.self.now.at c.args.byte c.requires.some in
    let s = c.requires.short in
    let u = c.units_of.ensures in
    omega (arith, l, w, s, u)

pub returns-then-ends_line-clause-on : goal.returns-then-ends_line-clause-on
returns-then-ends_line-clause-on c = moved c.args.text.now c.args.self.now.at c.args.byte c.args.self.now.position c.requires.some c.requires.on true (sym c.ends_line.ensures ∙ c.if-ends_line.true)

pub returns-else-ends_line-clause-on : goal.returns-else-ends_line-clause-on
returns-else-ends_line-clause-on c =
    ap (λ n. position_at c.args.self.now.position.line (c.args.self.now.position.character + n)) c.units_of.ensures
    ∙ moved c.args.text.now c.args.self.now.at c.args.byte c.args.self.now.position c.requires.some c.requires.on false (sym c.ends_line.ensures ∙ c.if-ends_line.false)
