use Rattle.std.proofs.Common.{◌≡◌, ℕ, ◌<◌}
use Rattle.segments.specs.Distances.{cell, table_of}
use Rattle.segments.proofs.ecmp.Distances.read_column.Given as goal

abbrev pub invariant-loop-node : goal.invariant-loop-node
invariant-loop-node g l = (u : ℕ) → u < l.node → cell l.column u ≡ table_of l.self.nodes l.self.slots.now u l.v
