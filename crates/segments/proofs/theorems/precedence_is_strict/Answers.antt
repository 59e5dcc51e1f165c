use Rattle.segments.specs.Algebra.{algebra, laws}
use Rattle.segments.proofs.PrecedenceStrict.{precedence_strict}
use Rattle.segments.proofs.theorems.precedence_is_strict.Goals as goal

pub returns : goal.returns
returns g c = precedence_strict (algebra g.V.Ranking.good g.V.Tariff.joining) (laws g.V.Ranking.good g.V.Tariff.joining g.met.V.Ranking.ranks g.met.V.Tariff.joins)
