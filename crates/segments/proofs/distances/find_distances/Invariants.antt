use Rattle.std.proofs.Common.{ℕ, ◌*◌, ◌≤◌}
use Rattle.segments.specs.Distances.{Same, delays}
use Rattle.segments.specs.Relaxations.{Found, Enough}
use Rattle.segments.proofs.distances.find_distances.Given as goal

abbrev pub invariant-loop-k : goal.invariant-loop-k
invariant-loop-k g l =
    record {
      found : Found (g.M.Map.meaning l.map) l.k l.n l.dist;
      fewest : (j : ℕ) → Enough (g.M.Map.meaning l.map) j → l.k ≤ j;
      carried : Same (l.n * l.n) l.dist (delays l.spread);
    }
