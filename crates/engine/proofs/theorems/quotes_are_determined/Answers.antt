use Rattle.segments.specs.Algebra.{algebra, laws}
use Rattle.engine.proofs.QuoteUnique.{quotes_determined}
use Rattle.engine.proofs.theorems.quotes_are_determined.Goals as goal

pub returns : goal.returns
returns g c = quotes_determined (algebra g.V.Ranking.good g.V.Tariff.joining) (laws g.V.Ranking.good g.V.Tariff.joining g.met.V.Ranking.ranks g.met.V.Tariff.joins)
