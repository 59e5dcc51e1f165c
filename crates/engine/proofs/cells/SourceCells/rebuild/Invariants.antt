use Rattle.segments.specs.Algebra.{algebra}
use Rattle.engine.specs.Cells.{best_of}
use Rattle.engine.proofs.ListRebuilt.{RebuiltTo}
use Rattle.engine.proofs.cells.SourceCells.rebuild.Given as goal

abbrev pub invariant-loop-i : goal.invariant-loop-i
invariant-loop-i g l = RebuiltTo (g.M.Map.meaning l.self.search.routes.map.now) (algebra g.V.Ranking.good g.V.Tariff.joining) l.self.search.grain.length.0 l.self.search.top l.choice.0 (best_of l.self.search.routes.nodes l.self.search.top l.self.table.now) l.choice.1.0 l.self.source l.choice.1.1.0 l.prefix l.d l.v l.i l.delay l.initial.list l.list
