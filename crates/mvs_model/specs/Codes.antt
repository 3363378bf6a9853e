-- The completion codes of the storage requests, and which forms are conditional. (System Codes; that each family has one
-- code for every cause, and which forms are in the third, is this project's choice: 878, B78, 978 and A78 serve all the forms
-- of the third family, CPOOL included)
use Rattle.std.specs.Prelude.{Bool, true, false}
use Rattle.mvs_model.specs.declared.want.Side.{Side}
use Rattle.mvs_model.specs.declared.want.Side.TheVariants.{Below}
use Rattle.mvs_model.specs.declared.code.Form.{Form}
use Rattle.mvs_model.specs.declared.code.Form.TheVariants as form
use Rattle.mvs_model.specs.declared.code.Family.{Family}
use Rattle.mvs_model.specs.declared.code.Family.TheVariants.{E, R, Located}
use Rattle.mvs_model.specs.declared.code.Code.{Code}
use Rattle.mvs_model.specs.declared.code.Code.TheVariants.{System, User}

-- the forms that have one set of codes. (this project's choice)
abbrev pub family : Form → Family
family form.R = R
family form.Rc = Located
family form.Ru = Located
family form.Vrc = Located
family form.Vru = Located
family form.Ec = E
family form.Eu = E
family form.Vc = E
family form.Vu = E
family form.Lc = E
family form.Lu = E
family form.Storage = Located
family form.StorageConditional = Located

-- whether a refusal is answered 4. (Assembler Services Reference, GETMAIN)
abbrev pub is_conditional : Form → Bool
is_conditional form.R = false
is_conditional form.Rc = true
is_conditional form.Ru = false
is_conditional form.Vrc = true
is_conditional form.Vru = false
is_conditional form.Ec = true
is_conditional form.Eu = false
is_conditional form.Vc = true
is_conditional form.Vu = false
is_conditional form.Lc = true
is_conditional form.Lu = false
is_conditional form.Storage = false
is_conditional form.StorageConditional = true

-- the side of a form, where its location would mean one: only the third family may be served above. (Assembler Services
-- Reference, GETMAIN)
abbrev pub form_side : Family → Side → Side
form_side E side = Below
form_side R side = Below
form_side Located side = side

-- shortage. (System Codes)
abbrev pub short : Family → Code
short E = System 0x804
short R = System 0x80A
short Located = System 0x878

-- an invalid subpool number, of a request that obtains and of one that releases. (System Codes)
abbrev pub bad_subpool : Family → Bool → Code
bad_subpool E true = System 0xB04
bad_subpool E false = System 0xB05
bad_subpool R obtaining = System 0xB0A
bad_subpool Located obtaining = System 0xB78

-- an address that is not on a doubleword. (System Codes)
abbrev pub bad_address : Family → Code
bad_address E = System 0x905
bad_address R = System 0x90A
bad_address Located = System 0x978

-- storage that is not held. (System Codes)
abbrev pub not_held : Family → Code
not_held E = System 0xA05
not_held R = System 0xA0A
not_held Located = System 0xA78

-- bytes are read or written that may not be. (System Codes, 0C4)
abbrev pub no_access : Code
no_access = System 0x0C4

-- a task returns that has an active subtask. (System Codes, A03)
abbrev pub active_subtask : Code
active_subtask = System 0xA03

-- CPOOL FREE at an address where no taken cell of the pool begins, and CPOOL of a pool that is not there. (this project's choice)
abbrev pub no_such_cell : Code
no_such_cell = User 4001

abbrev pub no_such_pool : Code
no_such_pool = User 4002

-- ATTACH gives a subpool that the attaching task does not own; ATTACH exceeds the limit of tasks. (this project's choice)
abbrev pub not_owned : Code
not_owned = User 4003

abbrev pub too_many_tasks : Code
too_many_tasks = User 4005

-- a release of the whole of subpool 0. (this project's choice)
abbrev pub whole_of_zero : Code
whole_of_zero = User 4006

-- CPOOL BUILD beyond the most cell pools, and of a name that a pool has. (this project's choice)
abbrev pub too_many_pools : Code
too_many_pools = User 4007

abbrev pub pool_in_use : Code
pool_in_use = User 4008

-- ATTACH of a name that an active task has. (this project's choice)
abbrev pub task_in_use : Code
task_in_use = User 4009
