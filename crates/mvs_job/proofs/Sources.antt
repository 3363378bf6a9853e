-- What a read does to the bytes that were read before it.
use Rattle.std.proofs.Common.{ℕ, List, ◌++◌, take, Option, Result, Ok, Err}
use Rattle.std.specs.Io.KnownBytes.{Consumes, ReadConsumes}
use Rattle.std.proofs.KnownBytes.{Consumes-kept, Consumes-trans}
use Rattle.mvs_model.specs.declared.watched.Failed.{Failed}

pub since_read : (start left left' : Option (List ℕ)) (r : Result ℕ Failed) (buf : List ℕ) → ReadConsumes left left' r buf → ((bytes : List ℕ) × Consumes start left bytes) → (bytes : List ℕ) × Consumes start left' bytes
since_read start left left' (Ok n) buf c h = (h.0 ++ take n buf, Consumes-trans start left left' h.0 (take n buf) h.1 c.0)
since_read start left left' (Err failed) buf kept h = (h.0, Consumes-kept start left left' h.0 h.1 kept)
