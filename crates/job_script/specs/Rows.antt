-- The table of statements, as the language has it.
use Rattle.std.specs.Prelude.{ℕ, List, codes}
use Rattle.mvs_model.specs.Grammar as grammar
use Rattle.job_script.specs.declared.keys.Key.{Key}
use Rattle.job_script.specs.declared.keys.Key.TheVariants as key
use Rattle.job_script.specs.declared.rows.Keyword.{Keyword}
use Rattle.job_script.specs.declared.rows.Positional.{Positional}
use Rattle.job_script.specs.declared.rows.Rule.{Rule}
use Rattle.job_script.specs.declared.rows.Rule.TheVariants as rule
use Rattle.job_script.specs.declared.rows.Row.{Row}
use Rattle.job_script.specs.declared.rows.Row.TheVariants as row
use Rattle.job_script.specs.Kinds.{as_kind}

-- the key as a script writes it
abbrev pub key_text : Key → List ℕ
key_text key.Below = codes "BELOW"
key_text key.Above = codes "ABOVE"
key_text key.Fill = codes "FILL"
key_text key.Res = codes "RES"
key_text key.Lv = codes "LV"
key_text key.A = codes "A"
key_text key.Sp = codes "SP"
key_text key.Bndry = codes "BNDRY"
key_text key.Loc = codes "LOC"
key_text key.Startbdy = codes "STARTBDY"
key_text key.Contbdy = codes "CONTBDY"
key_text key.La = codes "LA"
key_text key.Length = codes "LENGTH"
key_text key.Addr = codes "ADDR"
key_text key.Cond = codes "COND"
key_text key.Cpid = codes "CPID"
key_text key.Csize = codes "CSIZE"
key_text key.Pcellct = codes "PCELLCT"
key_text key.Scellct = codes "SCELLCT"
key_text key.Cell = codes "CELL"
key_text key.Task = codes "TASK"
key_text key.Gspv = codes "GSPV"
key_text key.Gspl = codes "GSPL"
key_text key.Shspv = codes "SHSPV"
key_text key.Shspl = codes "SHSPL"
key_text key.Szero = codes "SZERO"

-- an operand, and what holds between operands
abbrev pub as_keyword : Keyword → grammar.Keyword
as_keyword k = record { key = key_text k.key; kind = as_kind k.kind; required = k.required }

abbrev pub as_positional : Positional → grammar.Positional
as_positional p = record { kind = as_kind p.kind; required = p.required }

abbrev pub as_rule : Rule → grammar.Rule
as_rule (rule.Together one other) = grammar.Together (key_text one) (key_text other)
as_rule (rule.Excludes one other) = grammar.Excludes (key_text one) (key_text other)
as_rule (rule.SameLength one other) = grammar.SameLength (key_text one) (key_text other)
as_rule (rule.Apart a b c d) = grammar.Apart (key_text a) (key_text b) (key_text c) (key_text d)

-- the row
abbrev pub row_at : Row → grammar.Row
row_at row.Region = grammar.region
row_at row.GetmainFixed = grammar.getmain_fixed
row_at row.GetmainFixedPlaced = grammar.getmain_fixed_placed
row_at row.GetmainVariable = grammar.getmain_variable
row_at row.GetmainVariablePlaced = grammar.getmain_variable_placed
row_at row.GetmainList = grammar.getmain_list
row_at row.StorageObtain = grammar.storage_obtain
row_at row.FreemainOrWhole = grammar.freemain_or_whole
row_at row.FreemainPlace = grammar.freemain_place
row_at row.FreemainArea = grammar.freemain_area
row_at row.FreemainList = grammar.freemain_list
row_at row.StorageRelease = grammar.storage_release
row_at row.CpoolBuild = grammar.cpool_build
row_at row.CpoolGet = grammar.cpool_get
row_at row.CpoolFree = grammar.cpool_free
row_at row.CpoolDelete = grammar.cpool_delete
row_at row.Attach = grammar.attach
row_at row.Return = grammar.return_row
row_at row.Abend = grammar.abend
row_at row.Put = grammar.put
row_at row.Show = grammar.show
row_at row.Move = grammar.move
row_at row.Where = grammar.where_row
row_at row.Report = grammar.report
