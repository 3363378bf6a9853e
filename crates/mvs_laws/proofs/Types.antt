-- The types of the model and their variants, passed on from one place. Declares nothing.
pub use Rattle.mvs_model.specs.declared.code.Code.{Code}
pub use Rattle.mvs_model.specs.declared.code.Code.TheVariants.{System, User}
pub use Rattle.mvs_model.specs.declared.code.Family.{Family}
pub use Rattle.mvs_model.specs.declared.code.Family.TheVariants.{E, R, Located}
pub use Rattle.mvs_model.specs.declared.code.Form.{Form}
pub use Rattle.mvs_model.specs.declared.line.Fault.{Fault}
pub use Rattle.mvs_model.specs.declared.line.Fault.TheVariants.{TooLong, InvalidByte, UnknownOperation, InvalidOperand, MissingOperand, OutOfRange, Repeated, Conflicting, OutOfPlace}
pub use Rattle.mvs_model.specs.declared.line.Line.{Line}
pub use Rattle.mvs_model.specs.declared.line.Location.{Location}
pub use Rattle.mvs_model.specs.declared.line.Location.TheVariants.{Absolute, Named}
pub use Rattle.mvs_model.specs.declared.line.Statement.{Statement}
pub use Rattle.mvs_model.specs.declared.line.SourceRequest.{SourceRequest}
pub use Rattle.mvs_model.specs.declared.name.Name.{Name}
pub use Rattle.mvs_model.specs.declared.outcome.Outcome.{Outcome}
pub use Rattle.mvs_model.specs.declared.outcome.Outcome.TheVariants.{Clean, SomeAbend, ScriptFault}
pub use Rattle.mvs_model.specs.declared.report.SubpoolLine.{SubpoolLine}
pub use Rattle.mvs_model.specs.declared.request.Reply.{Reply}
pub use Rattle.mvs_model.specs.declared.request.Reply.TheVariants.{NotRun, Done, Obtained, Rc4, Abended, Rc0, NoCell, Listed, Cell, Attached, Ended}
pub use Rattle.mvs_model.specs.declared.request.Request.{Request}
pub use Rattle.mvs_model.specs.declared.request.Request.TheVariants.{Obtain, ObtainList, Release, ReleaseList, ReleaseWhole, Build, Get, Free, Delete, Attach, Return, Abend, Show, Put, Move}
pub use Rattle.mvs_model.specs.declared.want.Residence.{Residence}
pub use Rattle.mvs_model.specs.declared.want.Side.{Side}
pub use Rattle.mvs_model.specs.declared.want.Side.TheVariants.{Below, Either}
