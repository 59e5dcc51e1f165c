use Rattle.std.proofs.Common.{ℕ}
use Rattle.segments.specs.Distances.{LeastOf}
use Rattle.segments.specs.Spreads.{ColumnOf, InNet, bar_of, rank_of}
use Rattle.segments.proofs.NearestKeys.{KeyedTo}
use Rattle.segments.proofs.ecmp.Distances.nearest.Given as goal

abbrev pub invariant-loop-node : goal.invariant-loop-node
invariant-loop-node g l =
    ((v : ℕ) → ColumnOf l.self.nodes l.self.slots.now v l.column → LeastOf (KeyedTo l.self.nodes l.self.slots.now v (bar_of l.last) l.node) (rank_of l.least))
    × InNet l.least
