use Rattle.segments.specs.Algebra.{algebra}
use Rattle.engine.specs.Cells.{best_of}
use Rattle.engine.specs.Chosen.{LeadOf, Passed}
use Rattle.engine.proofs.cells.SourceCells.choose_at.Given as goal

abbrev pub invariant-loop-l : goal.invariant-loop-l
invariant-loop-l g l = LeadOf (algebra g.V.Ranking.good g.V.Tariff.joining) (λ m e. best_of l.self.search.routes.nodes l.self.search.top l.self.table.now m e l.self.source) (Passed l.self.limit l.d l.l) l.first
