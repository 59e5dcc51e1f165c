use Rattle.std.proofs.Common.{ℕ, ◌+◌, Some, sym, ap, ◌∙◌, subst, arith}
use Rattle.segments.specs.Algebra.{algebra, laws}
use Rattle.engine.specs.Cells.{best_of}
use Rattle.engine.specs.Chosen.{LeadOf, Passed}
use Rattle.engine.proofs.SourceScanned.{lead_none, lead_some, lead_next}
use Rattle.engine.proofs.cells.SourceCells.choose_at.Goals as goal
use Rattle.engine.proofs.cells.SourceCells.choose_at.Goals.{in-Some, in_default}

pub loop-l-preserved : goal.loop-l-preserved
loop-l-preserved g c =
    let alg = algebra g.V.Ranking.good g.V.Tariff.joining in
    let best : ℕ → ℕ → _ = λ m e. best_of c.args.self.now.search.routes.nodes c.args.self.now.search.top c.args.self.now.table.now m e c.args.self.now.source in
    let limit = c.args.self.now.limit in
    let d = c.args.d in
    let l = c.loop-l.l in
    elim c.match-read.branch [
      | in-Some w ↦
          subst (LeadOf alg best (Passed limit d (l + 1))) (ap Some (sym w.lead.ensures) ∙ sym w.first-is)
          (lead_some alg best limit d l (laws g.V.Ranking.good g.V.Tariff.joining g.met.V.Ranking.ranks g.met.V.Tariff.joins) w.in-Some.value (omega (arith, c.loop-l-test.true)) (sym w.in-Some.ensures) c.loop-l.first c.loop-l.invariant)
      | in_default w ↦
          subst (LeadOf alg best (Passed limit d (l + 1))) (sym w.first-is)
          (lead_none alg best limit d l c.loop-l.first (sym w.in_default.ensures) c.loop-l.invariant)
    ]

pub returns : goal.returns
returns g c = lead_next (algebra g.V.Ranking.good g.V.Tariff.joining) (λ m e. best_of c.args.self.now.search.routes.nodes c.args.self.now.search.top c.args.self.now.table.now m e c.args.self.now.source) c.args.self.now.limit c.args.d c.loop-l.l c.loop-l.first (omega (arith, c.loop-l-test.false)) c.loop-l.invariant
