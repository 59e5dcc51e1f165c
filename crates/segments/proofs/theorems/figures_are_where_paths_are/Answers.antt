use Rattle.segments.specs.Algebra.{algebra, laws}
use Rattle.segments.proofs.FiguresTotal.{figures_where_paths}
use Rattle.segments.proofs.theorems.figures_are_where_paths_are.Goals as goal

pub returns : goal.returns
returns g c = figures_where_paths (algebra g.V.Ranking.good g.V.Tariff.joining) (laws g.V.Ranking.good g.V.Tariff.joining g.met.V.Ranking.ranks g.met.V.Tariff.joins)
