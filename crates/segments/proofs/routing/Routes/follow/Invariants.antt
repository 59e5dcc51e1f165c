use Rattle.segments.specs.Algebra.{algebra}
use Rattle.segments.proofs.WalkSteps.{WalkedTo}
use Rattle.segments.proofs.routing.Routes.follow.Given as goal

abbrev pub invariant-loop-i : goal.invariant-loop-i
invariant-loop-i g l = WalkedTo (g.M.Map.meaning l.self.map.now) (algebra g.V.Ranking.good g.V.Tariff.joining) l.source l.grain.length.0 l.list l.i l.walked
