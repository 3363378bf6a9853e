-- Tokens, as they are written.
use Rattle.std.specs.Prelude.{◌≡◌, ℕ, ◌&&◌, ◌||◌, not, Bool, true, false, List, [], ◌∷◌, ◌++◌, codes, decimal}
use Rattle.json.specs.Json.{Json}
use Rattle.json.specs.Token.{Token, begin_array, begin_object, end_array, end_object, key, number, string}
use Rattle.json.specs.Tree.{json_tokens}
use Rattle.language_server.specs.Symbols.{SymbolValue}
use Rattle.mvsjob_lsp.specs.Values.{range_value, shown, symbol_number, symbol_word}

-- These tokens are written after some.
pub record AddsTokens (old new added : List Token) : Type 0 where
  pub tokens : new ≡ old ++ added

-- the tokens of some values
abbrev pub each : {A : Type 0} → (A → Json) → List A → List Token
each f [] = []
each f (x ∷ xs) = json_tokens (f x) ++ each f xs

-- the tokens of a symbol up to its list of symbols, and those after them
abbrev pub symbol_head : List ℕ → SymbolValue → List Token
symbol_head text s =
    begin_object ∷ key (codes "name") ∷ string (shown s.name) ∷ key (codes "detail") ∷ string (symbol_word s.is_step) ∷ key (codes "kind") ∷ number (decimal (symbol_number s.is_step)) ∷ key (codes "range")
    ∷ (json_tokens (range_value text s.whole) ++ key (codes "selectionRange") ∷ (json_tokens (range_value text s.span) ++ key (codes "children") ∷ begin_array ∷ []))

abbrev pub symbol_end : Bool → List Token
symbol_end true = end_array ∷ end_object ∷ []
symbol_end false = []

-- the tokens of a symbol after an open step or without one: a step ends the step before it, and stays open
abbrev pub symbol_tokens : Bool → List ℕ → SymbolValue → List Token
symbol_tokens is_open text s = symbol_end (s.is_step && is_open) ++ (symbol_head text s ++ symbol_end (not s.is_step))

-- the tokens of symbols, after an open step or without one
abbrev pub symbols_from : List ℕ → Bool → List SymbolValue → List Token
symbols_from text is_open [] = symbol_end is_open
symbols_from text is_open (s ∷ symbols) = symbol_tokens is_open text s ++ symbols_from text (is_open || s.is_step) symbols
