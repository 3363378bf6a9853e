-- Operations and their forms.
use Rattle.std.specs.Prelude.{ℕ, List, [], ◌∷◌, Option, codes}
use Rattle.mvs_model.specs.Grammar as grammar
use Rattle.mvs_model.specs.Reading.{row_of}
use Rattle.job_script.specs.declared.operations.Operation.{Operation}
use Rattle.job_script.specs.declared.operations.Operation.TheVariants as operation

-- the operation as a script writes it
abbrev pub operation_text : Operation → List ℕ
operation_text operation.Region = codes "REGION"
operation_text operation.Getmain = codes "GETMAIN"
operation_text operation.Freemain = codes "FREEMAIN"
operation_text operation.Storage = codes "STORAGE"
operation_text operation.Cpool = codes "CPOOL"
operation_text operation.Attach = codes "ATTACH"
operation_text operation.Return = codes "RETURN"
operation_text operation.Abend = codes "ABEND"
operation_text operation.Put = codes "PUT"
operation_text operation.Show = codes "SHOW"
operation_text operation.Move = codes "MOVE"
operation_text operation.Where = codes "WHERE"
operation_text operation.Report = codes "REPORT"

-- the row of an operation with a form as its first operand
abbrev pub row_with : Operation → List ℕ → Option grammar.Row
row_with operation form = row_of (operation_text operation) (form ∷ [])
