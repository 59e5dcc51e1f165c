use Rattle.segments.specs.Distances.{delays}
use Rattle.segments.proofs.LinkSwept.{SweptTo}
use Rattle.segments.proofs.distances.sweep.Given as goal

abbrev pub invariant-loop-v : goal.invariant-loop-v
invariant-loop-v g l = SweptTo l.n l.link l.dist (delays l.initial.spread) (delays l.spread) l.v
