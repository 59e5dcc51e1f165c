use Rattle.engine.specs.Cells.{best_of}
use Rattle.engine.specs.Chosen.{Passed}
use Rattle.engine.specs.Offers.{Gathered}
use Rattle.engine.proofs.cells.SourceCells.offer_column.Given as goal

abbrev pub invariant-loop-l : goal.invariant-loop-l
invariant-loop-l g l = Gathered g.V.Ranking.good (λ m e. best_of l.self.search.routes.nodes l.self.search.top l.self.table.now m e l.self.source) (Passed l.self.limit l.d l.l) l.slots
