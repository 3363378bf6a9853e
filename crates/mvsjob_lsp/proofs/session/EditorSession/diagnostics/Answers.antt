use Rattle.std.proofs.Common.{◌≡◌, ap, codes, ◌∙◌}
use Rattle.json.specs.Json.{Items, Members, array, member, no_members}
use Rattle.json.specs.Print.{print}
use Rattle.json.specs.Tree.{json_tokens}
use Rattle.mvsjob_lsp.specs.Tokens.{AddsTokens}
use Rattle.mvsjob_lsp.specs.Values.{diagnostics_value}
use Rattle.mvsjob_lsp.proofs.Chained.{after, together}
use Rattle.mvsjob_lsp.proofs.session.EditorSession.diagnostics.Goals as goal

pub returns : goal.returns
returns c =
    let items : Items = c.in_ok-write_diagnostics.ensures.0 in
    let rest : Members = member (codes "diagnostics") (array items) no_members in
    let all : AddsTokens c.new-objects.result c.end.new.self (json_tokens (diagnostics_value c.args.uri.now c.args.version items)) =
    after c.in_ok-begin.ensures (after c.in_ok-text.ensures (together (after c.in_ok-write_diagnostics.ensures.2 c.in_ok-end.ensures) (c.in_ok-write_version.ensures rest)))
    in
    let is : c.end.new.self ≡ json_tokens (diagnostics_value c.args.uri.now c.args.version items) = rw c.new-objects.ensures at all.tokens in
    (c.args.version, items, c.in_ok-write_diagnostics.ensures.1, c.into_bytes.ensures ∙ ap print is)
