use Rattle.keeper.specs.Keepers.{Accepted}
use Rattle.keeper.proofs.FrontUnique.{front_unique}
use Rattle.keeper.proofs.theorems.front_is_unique.Goals as goal

pub returns : goal.returns
returns g c = λ ps. front_unique g.V.Ranking.good (Accepted ps)
