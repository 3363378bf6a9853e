-- The places of the fields in a request by values.
use Rattle.std.specs.Prelude.{ℕ}
use Rattle.mvs_c.specs.declared.field.RequestField.{RequestField}
use Rattle.mvs_c.specs.declared.field.RequestField.TheVariants.{Size, Kind, Form, Subpool, Length, Least, Boundary, Within, Location, Address, Source, Primary, Secondary, Code, Subpools, Task, Name, Areas}

-- the offset of a field in bytes; the areas of a list, which are no field, come after the struct
abbrev pub offset : RequestField → ℕ
offset Size = 0
offset Kind = 4
offset Form = 8
offset Subpool = 12
offset Length = 16
offset Least = 20
offset Boundary = 24
offset Within = 28
offset Location = 32
offset Address = 36
offset Source = 40
offset Primary = 44
offset Secondary = 48
offset Code = 52
offset Subpools = 64
offset Task = 96
offset Name = 104
offset Areas = 112
