use Rattle.segments.specs.Distances.{Same, delays}
use Rattle.segments.proofs.distances.take_over.Given as goal

abbrev pub invariant-loop-i : goal.invariant-loop-i
invariant-loop-i g l = Same l.i l.dist (delays l.spread)
