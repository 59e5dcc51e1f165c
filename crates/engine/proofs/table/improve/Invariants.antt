use Rattle.std.proofs.Common.{◌≡◌, ℕ, ◌<◌, ◌≤◌, get_or, None}
use Rattle.segments.specs.Algebra.{algebra}
use Rattle.engine.specs.Cells.{merge}
use Rattle.engine.proofs.table.improve.Given as goal

abbrev pub invariant-loop-d : goal.invariant-loop-d
invariant-loop-d g l =
    ((k : ℕ) → k < l.d → get_or l.row k None ≡ merge (algebra g.V.Ranking.good g.V.Tariff.joining) (get_or l.initial.row k None) l.value (get_or l.rests k None))
    × ((k : ℕ) → l.d ≤ k → get_or l.row k None ≡ get_or l.initial.row k None)
