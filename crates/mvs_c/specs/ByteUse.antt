-- What needs the bytes of storage, which a session without bytes does not have.
use Rattle.std.specs.Prelude.{◌≡◌, ◌&&◌, ℕ, Bool, true, false, not, List}
use Rattle.mvs_model.specs.declared.line.Line.{Line}
use Rattle.mvs_model.specs.declared.line.Line.TheVariants as line
use Rattle.mvs_model.specs.declared.line.SourceRequest.{SourceRequest}
use Rattle.mvs_model.specs.declared.line.SourceRequest.TheVariants as written
use Rattle.mvs_model.specs.declared.line.Statement.TheVariants as says
use Rattle.mvs_model.specs.declared.request.Request.{Request}
use Rattle.mvs_model.specs.declared.request.Request.TheVariants as request
use Rattle.mvs_model.specs.Reading.{LineOf}
use Rattle.mvs_model.specs.Walk.{is_first}
use Rattle.mvs_c.specs.Opens.{OpenValue, keeps_bytes}

-- whether a request by values reads or writes bytes: SHOW by values returns none
abbrev pub uses_bytes : Request → Bool
uses_bytes (request.Put to bytes) = true
uses_bytes (request.Move to from n) = true
uses_bytes (request.Show from n) = false
uses_bytes (request.Obtain form number ask) = false
uses_bytes (request.ObtainList form number lengths start) = false
uses_bytes (request.Release form number place) = false
uses_bytes (request.ReleaseList form number places) = false
uses_bytes (request.ReleaseWhole form number) = false
uses_bytes (request.Build pool number size primary secondary loc) = false
uses_bytes (request.Get pool conditional) = false
uses_bytes (request.Free pool cell) = false
uses_bytes (request.Delete pool) = false
uses_bytes (request.Attach name gifts residence) = false
uses_bytes request.Return = false
uses_bytes (request.Abend code) = false

-- and a request of a statement: SHOW prints bytes
abbrev pub source_uses_bytes : SourceRequest → Bool
source_uses_bytes (written.Show from n) = true
source_uses_bytes (written.Put to bytes) = true
source_uses_bytes (written.Move to from n) = true
source_uses_bytes (written.Obtain form number ask variable area) = false
source_uses_bytes (written.ObtainList form number lengths start areas) = false
source_uses_bytes (written.Release form number location n) = false
source_uses_bytes (written.ReleaseArea form number area) = false
source_uses_bytes (written.ReleaseList form number locations lengths) = false
source_uses_bytes (written.ReleaseWhole form number) = false
source_uses_bytes (written.Build pool number size primary secondary loc) = false
source_uses_bytes (written.Get pool conditional cell) = false
source_uses_bytes (written.Free pool location) = false
source_uses_bytes (written.Delete pool) = false
source_uses_bytes (written.Attach name gifts residence) = false
source_uses_bytes written.Return = false
source_uses_bytes (written.Abend code) = false

-- and a line
abbrev pub line_uses_bytes : Line → Bool
line_uses_bytes (line.Statement t (says.Request a)) = source_uses_bytes a
line_uses_bytes (line.Statement t (says.Region below above fill residence)) = false
line_uses_bytes (line.Statement t (says.Where name)) = false
line_uses_bytes (line.Statement t says.ReportSubpools) = false
line_uses_bytes (line.Statement t says.ReportMap) = false
line_uses_bytes line.Nothing = false

-- A line, the next of a session, reads or writes bytes, and the session has none.
pub record LineLacksBytes (o : OpenValue) (bytes : List ℕ) : Type 0 where
  pub without : keeps_bytes o ≡ false
  pub said : Line
  pub read : LineOf (is_first o.session.walk.step) bytes said
  pub uses : line_uses_bytes said ≡ true

-- whether it is so of a request by values
abbrev pub request_lacks_bytes : OpenValue → Request → Bool
request_lacks_bytes o r = not (keeps_bytes o) && uses_bytes r
