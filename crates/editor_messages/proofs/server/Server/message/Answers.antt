use Rattle.editor_messages.proofs.Writable.{has_id_of}
use Rattle.editor_messages.proofs.server.Server.message.Goals as goal

pub request-requires : goal.request-requires
request-requires g c = has_id_of _ _ c.in-Request.ensures.meant c.requires

pub error_frame-requires : goal.error_frame-requires
error_frame-requires g c = has_id_of _ _ c.in-Malformed.ensures.meant c.requires
