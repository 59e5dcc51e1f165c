use Rattle.segments.specs.Algebra.{algebra}
use Rattle.engine.specs.Cells.{FilledTo}
use Rattle.engine.proofs.search.Search.fill.Given as goal

abbrev pub invariant-loop-l : goal.invariant-loop-l
invariant-loop-l g l = FilledTo (g.M.Map.meaning l.self.routes.map.now) (algebra g.V.Ranking.good g.V.Tariff.joining) l.self.grain.length.0 l.target l.self.routes.nodes l.self.top l.l l.table
