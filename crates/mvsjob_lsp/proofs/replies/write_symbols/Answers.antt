use Rattle.std.proofs.Common.{◌∷◌, subst}
use Rattle.json.specs.Token.{begin_array}
use Rattle.mvsjob_lsp.specs.Tokens.{AddsTokens}
use Rattle.mvsjob_lsp.proofs.Chained.{after, on_ok}
use Rattle.mvsjob_lsp.proofs.Symbols.{symbols_are}
use Rattle.mvsjob_lsp.proofs.replies.write_symbols.Goals as goal

pub returns : goal.returns
returns c =
    on_ok c.end_list.result
    (λ e. subst (λ l. AddsTokens c.args.objects.now c.end_list.new.self (begin_array ∷ l)) (symbols_are c.args.document.now.text c.args.symbols.now).1
    (after c.in_ok-begin_list.ensures (after (rw (c.new-places.ensures c.text.ensures.bound, c.text.ensures.text) at c.in_ok-write_each_symbol.ensures) e)))
    c.end_list.ensures
