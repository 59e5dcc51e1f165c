use Rattle.segments.specs.Algebra.{algebra, laws}
use Rattle.segments.proofs.SegmentsFunctional.{lists_functional}
use Rattle.segments.proofs.theorems.lists_are_functional.Goals as goal

pub returns : goal.returns
returns g c = lists_functional (algebra g.V.Ranking.good g.V.Tariff.joining) (laws g.V.Ranking.good g.V.Tariff.joining g.met.V.Ranking.ranks g.met.V.Tariff.joins)
