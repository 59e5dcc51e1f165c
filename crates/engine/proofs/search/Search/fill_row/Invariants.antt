use Rattle.segments.specs.Algebra.{algebra}
use Rattle.engine.specs.Cells.{best_of}
use Rattle.engine.proofs.RowFilled.{RowTo}
use Rattle.engine.proofs.search.Search.fill_row.Given as goal

abbrev pub invariant-loop-code : goal.invariant-loop-code
invariant-loop-code g l = RowTo (g.M.Map.meaning l.self.routes.map.now) (algebra g.V.Ranking.good g.V.Tariff.joining) l.self.grain.length.0 l.self.top (best_of l.self.routes.nodes l.self.top l.below l.l) l.v l.code l.row
