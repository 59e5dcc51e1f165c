use Rattle.segments.specs.Distances.{delays}
use Rattle.segments.proofs.RoundMade.{RoundTo}
use Rattle.segments.proofs.distances.round.Given as goal

abbrev pub invariant-loop-place : goal.invariant-loop-place
invariant-loop-place g l = RoundTo (g.M.Map.meaning l.map) l.n l.dist (delays l.spread) l.place
