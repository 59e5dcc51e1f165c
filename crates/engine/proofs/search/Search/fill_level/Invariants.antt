use Rattle.segments.specs.Algebra.{algebra}
use Rattle.engine.specs.Cells.{LevelTo}
use Rattle.engine.proofs.search.Search.fill_level.Given as goal

abbrev pub invariant-loop-v : goal.invariant-loop-v
invariant-loop-v g l = LevelTo (g.M.Map.meaning l.self.routes.map.now) (algebra g.V.Ranking.good g.V.Tariff.joining) l.self.grain.length.0 l.self.routes.nodes l.self.top l.l l.v l.initial.table l.table
