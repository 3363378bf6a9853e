-- Kinds of requests as they are written.
use Rattle.mvs_model.specs.declared.line.SourceRequest.{SourceRequest}
use Rattle.mvs_model.specs.declared.line.SourceRequest.TheVariants.{Obtain, ObtainList, Build, Get, Free, Delete, Attach, Return, Abend, Release, ReleaseArea, ReleaseList, ReleaseWhole, Show, Put, Move}

-- The request obtains storage.
abbrev pub IsObtain : SourceRequest → Type 0
IsObtain (Obtain form number ask variable area) = Unit {0}
IsObtain (ObtainList form number lengths start areas) = Unit {0}
IsObtain (Release form number location len) = ⊥
IsObtain (ReleaseArea form number area) = ⊥
IsObtain (ReleaseList form number locations lengths) = ⊥
IsObtain (ReleaseWhole form number) = ⊥
IsObtain (Build pool number size primary secondary loc) = ⊥
IsObtain (Get pool conditional cell) = ⊥
IsObtain (Free pool cell) = ⊥
IsObtain (Delete pool) = ⊥
IsObtain (Attach name gifts residence) = ⊥
IsObtain Return = ⊥
IsObtain (Abend code) = ⊥
IsObtain (Show location len) = ⊥
IsObtain (Put location bytes) = ⊥
IsObtain (Move to from len) = ⊥

-- The request begins or ends a task.
abbrev pub IsOfTask : SourceRequest → Type 0
IsOfTask (Attach name gifts residence) = Unit {0}
IsOfTask Return = Unit {0}
IsOfTask (Abend code) = Unit {0}
IsOfTask (Obtain form number ask variable area) = ⊥
IsOfTask (ObtainList form number lengths start areas) = ⊥
IsOfTask (Release form number location len) = ⊥
IsOfTask (ReleaseArea form number area) = ⊥
IsOfTask (ReleaseList form number locations lengths) = ⊥
IsOfTask (ReleaseWhole form number) = ⊥
IsOfTask (Build pool number size primary secondary loc) = ⊥
IsOfTask (Get pool conditional cell) = ⊥
IsOfTask (Free pool cell) = ⊥
IsOfTask (Delete pool) = ⊥
IsOfTask (Show location len) = ⊥
IsOfTask (Put location bytes) = ⊥
IsOfTask (Move to from len) = ⊥

-- The request is for a cell pool.
abbrev pub IsOfPool : SourceRequest → Type 0
IsOfPool (Build pool number size primary secondary loc) = Unit {0}
IsOfPool (Get pool conditional cell) = Unit {0}
IsOfPool (Free pool cell) = Unit {0}
IsOfPool (Delete pool) = Unit {0}
IsOfPool (Obtain form number ask variable area) = ⊥
IsOfPool (ObtainList form number lengths start areas) = ⊥
IsOfPool (Release form number location len) = ⊥
IsOfPool (ReleaseArea form number area) = ⊥
IsOfPool (ReleaseList form number locations lengths) = ⊥
IsOfPool (ReleaseWhole form number) = ⊥
IsOfPool (Attach name gifts residence) = ⊥
IsOfPool Return = ⊥
IsOfPool (Abend code) = ⊥
IsOfPool (Show location len) = ⊥
IsOfPool (Put location bytes) = ⊥
IsOfPool (Move to from len) = ⊥

-- The request releases storage.
abbrev pub IsRelease : SourceRequest → Type 0
IsRelease (Release form number location len) = Unit {0}
IsRelease (ReleaseArea form number area) = Unit {0}
IsRelease (ReleaseList form number locations lengths) = Unit {0}
IsRelease (ReleaseWhole form number) = Unit {0}
IsRelease (Obtain form number ask variable area) = ⊥
IsRelease (ObtainList form number lengths start areas) = ⊥
IsRelease (Build pool number size primary secondary loc) = ⊥
IsRelease (Get pool conditional cell) = ⊥
IsRelease (Free pool cell) = ⊥
IsRelease (Delete pool) = ⊥
IsRelease (Attach name gifts residence) = ⊥
IsRelease Return = ⊥
IsRelease (Abend code) = ⊥
IsRelease (Show location len) = ⊥
IsRelease (Put location bytes) = ⊥
IsRelease (Move to from len) = ⊥

-- The request reads or writes bytes.
abbrev pub IsAccess : SourceRequest → Type 0
IsAccess (Show from len) = Unit {0}
IsAccess (Put to bytes) = Unit {0}
IsAccess (Move to from len) = Unit {0}
IsAccess (Obtain form number ask variable area) = ⊥
IsAccess (ObtainList form number lengths start areas) = ⊥
IsAccess (Release form number location len) = ⊥
IsAccess (ReleaseArea form number area) = ⊥
IsAccess (ReleaseList form number locations lengths) = ⊥
IsAccess (ReleaseWhole form number) = ⊥
IsAccess (Build pool number size primary secondary loc) = ⊥
IsAccess (Get pool conditional cell) = ⊥
IsAccess (Free pool cell) = ⊥
IsAccess (Delete pool) = ⊥
IsAccess (Attach name gifts residence) = ⊥
IsAccess Return = ⊥
IsAccess (Abend code) = ⊥
