-- The tokens of symbols: of the steps, each with its tasks.
use Rattle.std.proofs.Common.{◌≡◌, ℕ, Bool, true, false, not, if◌then◌else◌, List, [], ◌∷◌, ◌++◌, append_assoc, ap, refl, sym, ◌∙◌}
use Rattle.std.specs.Prelude.{◌&&◌, ◌||◌}
use Rattle.json.specs.Json.{Items, no_items, item}
use Rattle.json.specs.Token.{Token, end_array, end_object}
use Rattle.json.specs.Tree.{items_tokens, json_tokens}
use Rattle.language_server.specs.Symbols.{SymbolValue}
use Rattle.mvsjob_lsp.specs.Tokens.{symbol_end, symbol_head, symbols_from}
use Rattle.mvsjob_lsp.specs.Values.{steps_of, symbol_value, tasks_before}

symbol_is : (text : List ℕ) (s : SymbolValue) (children : Items) (rest : List Token) → json_tokens (symbol_value text s children) ++ rest ≡ symbol_head text s ++ (items_tokens children ++ (end_object ∷ rest))
symbol_is text s children rest = ap (λ l. symbol_head text s ++ l) (append_assoc (items_tokens children) (end_object ∷ []) rest)

-- after an open step, and without one
abbrev pub AreOpen : List ℕ → List SymbolValue → Type 0
AreOpen text ss = symbols_from text true ss ++ end_array ∷ [] ≡ items_tokens (tasks_before text ss no_items) ++ (end_object ∷ items_tokens (steps_of text ss))

abbrev pub AreClosed : List ℕ → List SymbolValue → Type 0
AreClosed text ss = symbols_from text false ss ++ end_array ∷ [] ≡ items_tokens (tasks_before text ss (steps_of text ss))

module _ (text : List ℕ) (s : SymbolValue) (ss : List SymbolValue) (is_open : AreOpen text ss) (is_closed : AreClosed text ss) where
  next_open : (b : Bool)
      → ((symbol_end (b && true) ++ (symbol_head text s ++ symbol_end (not b))) ++ symbols_from text (true || b) ss) ++ end_array ∷ []
      ≡ items_tokens (if b then no_items else item (symbol_value text s no_items) (tasks_before text ss no_items))
      ++ (end_object ∷ items_tokens (if b then item (symbol_value text s (tasks_before text ss no_items)) (steps_of text ss) else steps_of text ss))
  next_open true =
      ap (λ l. end_array ∷ end_object ∷ (symbol_head text s ++ l)) is_open
      ∙ sym (ap (λ l. end_array ∷ end_object ∷ l) (symbol_is text s (tasks_before text ss no_items) (items_tokens (steps_of text ss))))
  next_open false = ap (λ l. symbol_head text s ++ (end_array ∷ end_object ∷ l)) is_open

  next_closed : (b : Bool)
      → ((symbol_end (b && false) ++ (symbol_head text s ++ symbol_end (not b))) ++ symbols_from text (false || b) ss) ++ end_array ∷ []
      ≡ items_tokens
      (if b then (if b then item (symbol_value text s (tasks_before text ss no_items)) (steps_of text ss) else steps_of text ss)
      else item (symbol_value text s no_items) (tasks_before text ss (if b then item (symbol_value text s (tasks_before text ss no_items)) (steps_of text ss) else steps_of text ss)))
  next_closed true = ap (λ l. symbol_head text s ++ l) is_open ∙ sym (symbol_is text s (tasks_before text ss no_items) (items_tokens (steps_of text ss)))
  next_closed false = ap (λ l. symbol_head text s ++ (end_array ∷ end_object ∷ l)) is_closed

pub symbols_are : (text : List ℕ) (ss : List SymbolValue) → AreOpen text ss × AreClosed text ss
symbols_are text [] = (refl, refl)
symbols_are text (s ∷ ss) =
    let ih : AreOpen text ss × AreClosed text ss = symbols_are text ss in (next_open text s ss ih.0 ih.1 s.is_step, next_closed text s ss ih.0 ih.1 s.is_step)
