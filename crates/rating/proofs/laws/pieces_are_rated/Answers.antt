use Rattle.rating.proofs.CutLemmas.{pieces_are_rated}
use Rattle.rating.proofs.laws.pieces_are_rated.Goals as goal

pub returns : goal.returns
returns c = pieces_are_rated
