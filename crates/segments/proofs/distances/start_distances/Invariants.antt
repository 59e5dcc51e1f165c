use Rattle.std.proofs.Common.{◌≡◌, ℕ, ◌<◌, Some, None}
use Rattle.segments.specs.Distances.{table_of}
use Rattle.segments.proofs.distances.start_distances.Given as goal

abbrev pub invariant-loop-u : goal.invariant-loop-u
invariant-loop-u l =
    ((a : ℕ) → a < l.u → table_of l.n l.dist a a ≡ Some 0)
    × ((a b : ℕ) → a < l.n → b < l.n → (a ≡ b → ⊥) → table_of l.n l.dist a b ≡ None)
