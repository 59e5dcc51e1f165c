use Rattle.engine.specs.Cells.{best_of}
use Rattle.engine.specs.Chosen.{Passed}
use Rattle.engine.specs.Offers.{Gathered}
use Rattle.engine.proofs.cells.SourceCells.gather.Given as goal

abbrev pub invariant-loop-d : goal.invariant-loop-d
invariant-loop-d g l = Gathered g.V.Ranking.good (λ m e. best_of l.self.search.routes.nodes l.self.search.top l.self.table.now m e l.self.source) (Passed l.self.limit l.d 0) l.slots
