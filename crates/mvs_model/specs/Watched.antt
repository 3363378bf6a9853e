-- What a contract sees of a reader or a writer that is watched.
use Rattle.std.specs.Prelude.{Bool}

-- The reader or the writer, and whether a call of it has failed.
pub record WatchedValue (T : Type 0) : Type 0 where
  pub inner : T
  pub failed : Bool
