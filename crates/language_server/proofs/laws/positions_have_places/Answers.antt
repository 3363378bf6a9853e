use Rattle.language_server.proofs.Strict.{is_place}
use Rattle.language_server.proofs.laws.positions_have_places.Goals as goal

pub returns : goal.returns
returns c = is_place
