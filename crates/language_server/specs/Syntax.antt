-- The syntax of statements, in the notation of the manual: what is in brackets may be left out, and of words between bars one is written.
use Rattle.std.specs.Prelude.{ℕ, ◌==◌, Bool, true, false, if◌then◌else◌, List, [], ◌∷◌, ◌++◌, flat_map, map, codes, decimal, bytes_eq, Option, Some, None}
use Rattle.mvs_model.specs.Grammar as grammar
use Rattle.mvs_model.specs.Reading.{is_empty, row_of, rows_of}

abbrev pub after_bars : List (List ℕ) → List ℕ
after_bars words = flat_map (λ word. codes "|" ++ word) words

-- alternative words
abbrev pub alternatives : List (List ℕ) → List ℕ
alternatives [] = []
alternatives (word ∷ words) = word ++ after_bars words

-- what an operand of a kind looks like
abbrev pub notation : grammar.Kind → List ℕ
notation (grammar.Number least most) = codes "n"
notation grammar.HexByte = codes "hh"
notation (grammar.Word words) = alternatives words
notation grammar.Name = codes "name"
notation grammar.Address = codes "address"
notation (grammar.Bytes most) = codes "X'h..h'"
notation (grammar.Pair least most) = codes "(l,s)"
notation (grammar.NumberOrPair least most) = codes "n|(l,s)"
notation (grammar.Numbers count least most) = codes "(n,..)"
notation (grammar.DistinctNumbers least most) = codes "(n,..)"
notation (grammar.DistinctNames count) = codes "(name,..)"
notation (grammar.Addresses count) = codes "(address,..)"

-- an operand, and whether it is required
pub record OperandItem : Type 0 where
  pub required : Bool
  pub text : List ℕ

abbrev pub keyword_notation : grammar.Keyword → List ℕ
keyword_notation k = k.key ++ codes "=" ++ notation k.kind

abbrev pub positional_item : grammar.Positional → OperandItem
positional_item p = record { required = p.required; text = notation p.kind }

abbrev pub keyword_item : grammar.Keyword → OperandItem
keyword_item k = record { required = k.required; text = keyword_notation k }

abbrev pub comma : Bool → List ℕ
comma true = []
comma false = codes ","

-- an operand, which is the first of a statement or not
abbrev pub item_text : Bool → Bool → List ℕ → List ℕ
item_text first true text = comma first ++ text
item_text first false text = codes "[" ++ comma first ++ text ++ codes "]"

abbrev pub items_text : Bool → List OperandItem → List ℕ
items_text first [] = []
items_text first (i ∷ items) = item_text first i.required i.text ++ items_text false items

-- the operands of a row of the table
abbrev pub operands_text : grammar.Row → List ℕ
operands_text row = items_text true (map positional_item row.positional) ++ items_text (is_empty row.positional) (map keyword_item row.keywords)

-- ---- keywords

abbrev pub range_text : ℕ → ℕ → List ℕ
range_text least most = codes ", " ++ decimal least ++ codes " to " ++ decimal most

-- the limits of an operand of a kind, if it has some
abbrev pub limits_text : grammar.Kind → List ℕ
limits_text (grammar.Number least most) = range_text least most
limits_text grammar.HexByte = []
limits_text (grammar.Word words) = []
limits_text grammar.Name = []
limits_text grammar.Address = []
limits_text (grammar.Bytes most) = []
limits_text (grammar.Pair least most) = range_text least most
limits_text (grammar.NumberOrPair least most) = range_text least most
limits_text (grammar.Numbers count least most) = range_text least most
limits_text (grammar.DistinctNumbers least most) = range_text least most
limits_text (grammar.DistinctNames count) = []
limits_text (grammar.Addresses count) = []

abbrev pub required_text : Bool → List ℕ
required_text true = codes ", required"
required_text false = []

-- a keyword operand with what it looks like, and its limits
abbrev pub keyword_text : grammar.Keyword → List ℕ
keyword_text k = keyword_notation k ++ limits_text k.kind ++ required_text k.required

-- ---- statements

-- whether a text begins with a bracket, or is empty
abbrev pub begins_bracket : List ℕ → Bool
begins_bracket [] = true
begins_bracket (b ∷ text) = b == 91

-- the operands after a form, or after an operation that has none
abbrev pub after_form : List ℕ → List ℕ → List ℕ
after_form form operands = if is_empty form then operands else (if begins_bracket operands then operands else codes "," ++ operands)

abbrev pub statement_text : List ℕ → List ℕ → List ℕ → List ℕ
statement_text operation form operands = operation ++ codes " " ++ form ++ after_form form operands

-- forms that take the same operands, with bars between them
pub record FormsValue : Type 0 where
  pub forms : List ℕ
  pub operands : List ℕ

abbrev pub row_operands : Option grammar.Row → List ℕ
row_operands None = []
row_operands (Some row) = operands_text row

abbrev pub group_of : List ℕ → List ℕ → FormsValue
group_of operation form = record { forms = form; operands = row_operands (row_of operation (form ∷ [])) }

abbrev pub takes_same : FormsValue → FormsValue → Bool
takes_same group next = bytes_eq group.operands next.operands

-- a group with one that takes the same operands, or the other one
abbrev pub joined_groups : Bool → FormsValue → FormsValue → FormsValue
joined_groups true group next = record { forms = group.forms ++ codes "|" ++ next.forms; operands = group.operands }
joined_groups false group next = next

abbrev pub forms_text : List ℕ → FormsValue → List ℕ
forms_text operation f = statement_text operation f.forms f.operands

-- all forms of an operation
abbrev pub all_forms : List ℕ → List (List ℕ)
all_forms operation = flat_map (λ row. row.forms) (rows_of operation)
