use Rattle.keeper.proofs.OffersInTurn.{keeper_holds_front}
use Rattle.keeper.proofs.theorems.keeper_holds_front.Goals as goal

pub returns : goal.returns
returns g c = keeper_holds_front g.V.Ranking.good
