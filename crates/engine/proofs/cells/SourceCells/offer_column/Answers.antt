use Rattle.std.proofs.Common.{ℕ, ◌+◌, sym, subst, arith}
use Rattle.engine.specs.Cells.{best_of}
use Rattle.engine.specs.Chosen.{Passed}
use Rattle.engine.specs.Offers.{Gathered}
use Rattle.engine.proofs.FrontGathered.{gather_none, gather_some, gather_next}
use Rattle.engine.proofs.cells.SourceCells.offer_column.Goals as goal
use Rattle.engine.proofs.cells.SourceCells.offer_column.Goals.{in-Some, in_default}

pub loop-l-preserved : goal.loop-l-preserved
loop-l-preserved g c =
    let good = g.V.Ranking.good in
    let best : ℕ → ℕ → _ = λ m e. best_of c.args.self.now.search.routes.nodes c.args.self.now.search.top c.args.self.now.table.now m e c.args.self.now.source in
    let limit = c.args.self.now.limit in
    let d = c.args.d in
    let l = c.loop-l.l in
    elim c.match-read.branch [
      | in-Some w ↦
          subst (Gathered good best (Passed limit d (l + 1))) (sym w.slots-is)
          (gather_some good best limit d l w.in-Some.value c.loop-l.slots w.offer.new.slots w.offer.result (omega (arith, c.loop-l-test.true)) (sym w.in-Some.ensures) (omega (arith, c.requires.grains, c.requires.long, c.loop-l.auto.slots)) w.offer.ensures c.loop-l.invariant)
      | in_default w ↦
          subst (Gathered good best (Passed limit d (l + 1))) (sym w.slots-is)
          (gather_none good best limit d l c.loop-l.slots (sym w.in_default.ensures) c.loop-l.invariant)
    ]

pub returns : goal.returns
returns g c = gather_next g.V.Ranking.good (λ m e. best_of c.args.self.now.search.routes.nodes c.args.self.now.search.top c.args.self.now.table.now m e c.args.self.now.source) c.args.self.now.limit c.args.d c.loop-l.l c.loop-l.slots (omega (arith, c.loop-l-test.false)) c.loop-l.invariant
