-- The answer for a reply alone.
use Rattle.mvs_model.specs.declared.request.Reply.{Reply}
use Rattle.mvs_model.specs.declared.request.Reply.TheVariants as reply
use Rattle.mvs_model.specs.Answers.{Answer, NotRun, Rc0, Rc4, Cell, NoCell, Attached, Ended, Done, Abended}

-- the answer for the reply to a request that is neither variable nor SHOW: the answers to these also have a length, or bytes
abbrev pub plain_answer : Reply → Answer
plain_answer reply.NotRun = NotRun
plain_answer reply.Rc0 = Rc0
plain_answer reply.Rc4 = Rc4
plain_answer (reply.Obtained p) = Rc0
plain_answer (reply.Listed ps) = Rc0
plain_answer (reply.Cell p) = Cell
plain_answer reply.NoCell = NoCell
plain_answer reply.Attached = Attached
plain_answer reply.Ended = Ended
plain_answer reply.Done = Done
plain_answer (reply.Abended code fallen) = Abended code fallen
