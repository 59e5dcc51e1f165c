use Rattle.std.proofs.Common.{◌≡◌, ℕ, ◌<◌, length}
use Rattle.segments.specs.Distances.{cell, delays}
use Rattle.segments.proofs.distances.is_settled.Given as goal

abbrev pub invariant-loop-distance : goal.invariant-loop-distance
invariant-loop-distance g l = (k : ℕ) → k < length l.yielded → cell l.dist k ≡ cell (delays l.spread) k
