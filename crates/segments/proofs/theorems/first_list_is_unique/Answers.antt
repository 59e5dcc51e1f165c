use Rattle.segments.specs.Algebra.{algebra, laws}
use Rattle.segments.proofs.FirstUnique.{first_unique}
use Rattle.segments.proofs.theorems.first_list_is_unique.Goals as goal

pub returns : goal.returns
returns g c = first_unique (algebra g.V.Ranking.good g.V.Tariff.joining) (laws g.V.Ranking.good g.V.Tariff.joining g.met.V.Ranking.ranks g.met.V.Tariff.joins)
