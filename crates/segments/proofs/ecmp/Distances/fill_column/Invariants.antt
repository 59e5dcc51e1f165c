use Rattle.std.proofs.Common.{◌-◌}
use Rattle.segments.specs.Algebra.{algebra}
use Rattle.segments.specs.Spreads.{InNet, Spared, bar_of}
use Rattle.segments.proofs.ColumnsFilled.{FilledTo}
use Rattle.segments.proofs.ecmp.Distances.fill_column.Given as goal

abbrev pub invariant-loop-near : goal.invariant-loop-near
invariant-loop-near g l =
    FilledTo (g.M.Map.meaning l.self.map.now) (algebra g.V.Ranking.good g.V.Tariff.joining) l.self.nodes l.self.slots.now l.v (bar_of l.last) l.spread
    × Spared l.self.nodes l.v l.initial.spread l.spread
    × InNet l.last

-- no rank passes this number
abbrev pub decreases-loop-near : goal.decreases-loop-near
decreases-loop-near g l = 264237184 - bar_of l.last
