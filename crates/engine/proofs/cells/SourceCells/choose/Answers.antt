use Rattle.std.proofs.Common.{arith}
use Rattle.segments.specs.Algebra.{algebra}
use Rattle.engine.specs.Cells.{best_of}
use Rattle.engine.proofs.SourceScanned.{lead_all}
use Rattle.engine.proofs.cells.SourceCells.choose.Goals as goal

pub returns : goal.returns
returns g c = lead_all (algebra g.V.Ranking.good g.V.Tariff.joining) (λ m e. best_of c.args.self.now.search.routes.nodes c.args.self.now.search.top c.args.self.now.table.now m e c.args.self.now.source) c.args.self.now.limit c.args.self.now.search.top c.loop-d.d c.loop-d.best (omega (arith, c.loop-d-test.false, c.loop-d.auto.d-end)) c.loop-d.invariant
