use Rattle.std.proofs.Common.{◌≡◌, ◌<◌, ◌≤◌, ◌+◌, length, rules, subst, sym}
use Rattle.std.proofs.lemmas.Result.{err_from_is_err_and}
use Rattle.mvsjob_lsp.specs.Answering.{IsReason}
use Rattle.mvsjob_lsp.specs.declared.session.Unanswered.TheVariants as why
use Rattle.mvsjob_lsp.specs.Sessions.{IsSession, bytes_open}
use Rattle.mvsjob_lsp.proofs.Opened.{mapped_ok, one_more, opened}
use Rattle.mvsjob_lsp.proofs.session.EditorSession.set.Goals as goal

pub returns-in_err-document : goal.returns-in_err-document
returns-in_err-document c =
    let p = err_from_is_err_and c.from_residual.result c.from_residual.ensures.1 in
    rw (p.1, p.2) (subst (λ d. IsReason d c.args.text.now c.in_err-document.field-0.0) c.close.ensures c.in_err-document.ensures.reason, c.close.ensures)

pub returns-in_err-uri : goal.returns-in_err-uri
returns-in_err-uri c =
    let p = err_from_is_err_and c.from_residual-in_err-uri.result c.from_residual-in_err-uri.ensures.1 in
    let reason : c.in_err-uri.field-0.0 ≡ why.Memory = search rules in
    rw (p.1, p.2, reason) (subst (λ d. IsReason d c.args.text.now why.Memory) c.close.ensures (c.in_ok-document.ensures.short, c.in_ok-document.ensures.count, c.in_ok-document.ensures.bytes), c.close.ensures)

pub invariant_of-self-2 : goal.invariant_of-self-2
invariant_of-self-2 c =
    let count : length c.self.inside.documents.items < 100 = subst (λ s. length s.documents < 100) (sym c.self.view_is) c.in_ok-document.ensures.count in
    let bytes : length c.args.text.now + bytes_open c.self.inside.documents.items ≤ 8388608 = subst (λ s. length c.args.text.now + bytes_open s.documents ≤ 8388608) (sym c.self.view_is) c.in_ok-document.ensures.bytes in
    let pushed = rw (mapped_ok c.push.result c.map_err-2.result _ _ c.map_err-2.ensures.cases c.in_ok-map_err.was) at c.push.ensures.items in
    subst IsSession (sym pushed) (one_more c.self.inside.documents.items (opened c.in_ok-uri.uri.bytes.items c.in_ok-document.document) c.args.text.now c.self.invariant c.in_ok-document.ensures.analysed count bytes)
