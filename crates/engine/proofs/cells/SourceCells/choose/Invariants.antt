use Rattle.segments.specs.Algebra.{algebra}
use Rattle.engine.specs.Cells.{best_of}
use Rattle.engine.specs.Chosen.{LeadOf, Passed}
use Rattle.engine.proofs.cells.SourceCells.choose.Given as goal

abbrev pub invariant-loop-d : goal.invariant-loop-d
invariant-loop-d g l = LeadOf (algebra g.V.Ranking.good g.V.Tariff.joining) (λ m e. best_of l.self.search.routes.nodes l.self.search.top l.self.table.now m e l.self.source) (Passed l.self.limit l.d 0) l.best
