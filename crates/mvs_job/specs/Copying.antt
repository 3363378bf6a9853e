-- Kinds of requests.
use Rattle.mvs_model.specs.declared.request.Request.{Request}
use Rattle.mvs_model.specs.declared.request.Request.TheVariants.{Obtain, ObtainList, Release, ReleaseList, ReleaseWhole, Build, Get, Free, Delete, Attach, Return, Abend, Show, Put, Move}

-- The request obtains or releases storage.
abbrev pub IsOfStorage : Request → Type 0
IsOfStorage (Obtain form number ask) = Unit {0}
IsOfStorage (ObtainList form number lengths start) = Unit {0}
IsOfStorage (Release form number place) = Unit {0}
IsOfStorage (ReleaseList form number places) = Unit {0}
IsOfStorage (ReleaseWhole form number) = Unit {0}
IsOfStorage (Build pool number size primary secondary loc) = ⊥
IsOfStorage (Get pool conditional) = ⊥
IsOfStorage (Free pool cell) = ⊥
IsOfStorage (Delete pool) = ⊥
IsOfStorage (Attach name gifts residence) = ⊥
IsOfStorage Return = ⊥
IsOfStorage (Abend code) = ⊥
IsOfStorage (Show from len) = ⊥
IsOfStorage (Put to bytes) = ⊥
IsOfStorage (Move to from len) = ⊥

-- The request is for a cell pool.
abbrev pub IsOfCells : Request → Type 0
IsOfCells (Build pool number size primary secondary loc) = Unit {0}
IsOfCells (Get pool conditional) = Unit {0}
IsOfCells (Free pool cell) = Unit {0}
IsOfCells (Delete pool) = Unit {0}
IsOfCells (Obtain form number ask) = ⊥
IsOfCells (ObtainList form number lengths start) = ⊥
IsOfCells (Release form number place) = ⊥
IsOfCells (ReleaseList form number places) = ⊥
IsOfCells (ReleaseWhole form number) = ⊥
IsOfCells (Attach name gifts residence) = ⊥
IsOfCells Return = ⊥
IsOfCells (Abend code) = ⊥
IsOfCells (Show from len) = ⊥
IsOfCells (Put to bytes) = ⊥
IsOfCells (Move to from len) = ⊥
