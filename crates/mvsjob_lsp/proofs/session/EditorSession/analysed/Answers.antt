use Rattle.std.proofs.Common.{◌≡◌, ◌<◌, ◌≤◌, ◌+◌, ℕ, List, length, refl, rules, subst}
use Rattle.std.proofs.lemmas.Result.{err_from_is_err_and}
use Rattle.language_server.specs.Documents.{IsTooLong}
use Rattle.language_server.specs.declared.document.DocumentError.{DocumentError}
use Rattle.language_server.specs.declared.document.DocumentError.TheVariants as error
use Rattle.mvsjob_lsp.specs.Answering.{IsReason, why_of}
use Rattle.mvsjob_lsp.specs.Sessions.{OpenValue, bytes_open}
use Rattle.mvsjob_lsp.proofs.session.EditorSession.analysed.Goals as goal

pub returns-then-not-has_room-clause-reason : goal.returns-then-not-has_room-clause-reason
returns-then-not-has_room-clause-reason c = c.if-not-has_room.ensures.full refl

reason : (others : List OpenValue) (text : List ℕ) (e : DocumentError) → (e ≡ error.TooLong → IsTooLong text) → (e ≡ error.Memory → length text ≤ 1048576) → length others < 100 → length text + bytes_open others ≤ 8388608 → IsReason others text (why_of e)
reason others text error.TooLong long short count bytes = long refl
reason others text error.Memory long short count bytes = (short refl, count, bytes)

pub returns-in_err-new-clause-reason : goal.returns-in_err-new-clause-reason
returns-in_err-new-clause-reason c =
    let p = err_from_is_err_and c.from_residual-in_err-new.result c.from_residual-in_err-new.ensures.1 in
    let same : c.in_ok-text.text.items ≡ c.args.text.now = search rules in
    let e = c.in_err-new.field-0.0 in
    rw (p.1, p.2)
    (reason _ c.args.text.now e (subst (λ t. e ≡ error.TooLong → IsTooLong t) same c.in_err-new.ensures.too_long) (subst (λ t. e ≡ error.Memory → length t ≤ 1048576) same c.in_err-new.ensures.memory) (c.if-not-has_room.ensures.count refl) (c.if-not-has_room.ensures.bytes refl))
