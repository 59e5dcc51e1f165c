use Rattle.segments.specs.Algebra.{algebra}
use Rattle.segments.proofs.FiguresGathered.{Gathered}
use Rattle.segments.proofs.ecmp.Distances.gather.Given as goal

abbrev pub invariant-loop-place : goal.invariant-loop-place
invariant-loop-place g l = Gathered (g.M.Map.meaning l.self.map.now) (algebra g.V.Ranking.good g.V.Tariff.joining) l.u l.v l.place l.found
