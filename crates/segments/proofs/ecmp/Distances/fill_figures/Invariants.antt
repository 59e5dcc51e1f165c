use Rattle.std.proofs.Common.{◌≡◌, length}
use Rattle.segments.specs.Algebra.{algebra}
use Rattle.segments.proofs.ColumnsFilled.{ColumnsTo}
use Rattle.segments.proofs.ecmp.Distances.fill_figures.Given as goal

abbrev pub invariant-loop-v : goal.invariant-loop-v
invariant-loop-v g l =
    ColumnsTo (g.M.Map.meaning l.self.map.now) (algebra g.V.Ranking.good g.V.Tariff.joining) l.self.nodes l.self.slots.now l.v l.spread
    × (length l.column ≡ 64)
