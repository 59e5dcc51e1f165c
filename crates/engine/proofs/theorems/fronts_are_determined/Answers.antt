use Rattle.segments.specs.Algebra.{algebra}
use Rattle.engine.proofs.FrontDetermined.{fronts_determined}
use Rattle.engine.proofs.theorems.fronts_are_determined.Goals as goal

pub returns : goal.returns
returns g c = fronts_determined (algebra g.V.Ranking.good g.V.Tariff.joining)
