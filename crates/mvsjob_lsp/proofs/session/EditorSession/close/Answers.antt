use Rattle.std.proofs.Common.{◌≡◌, ap, not, rules, ◌∙◌}
use Rattle.std.specs.Prelude.{bytes_eq}
use Rattle.std.proofs.lemmas.Fn.{filter_same}
use Rattle.mvsjob_lsp.proofs.Opened.{kept}
use Rattle.mvsjob_lsp.specs.Sessions.{others_than}
use Rattle.mvsjob_lsp.proofs.session.EditorSession.close.Goals as goal

pub invariant_of-self : goal.invariant_of-self
invariant_of-self c = kept (λ o. not (bytes_eq o.uri c.args.uri.now)) c.self.inside.documents.items c.retain.new.self.items (filter_same _ (λ o. not (bytes_eq o.uri c.args.uri.now)) _ (λ x b f k. search rules) _ _ c.retain.ensures.filtered) c.self.invariant

pub returns : goal.returns
returns c =
    let e : c.retain.new.self.items ≡ others_than c.args.uri.now c.self.inside.documents.items = filter_same _ (λ o. not (bytes_eq o.uri c.args.uri.now)) _ (λ x b f k. search rules) _ _ c.retain.ensures.filtered in
    e ∙ ap (λ s. others_than c.args.uri.now s.documents) c.self.view_is
