use Rattle.std.proofs.Common.{◌≡◌, ℕ, ◌<◌, ◌≤◌, get_or, None}
use Rattle.keeper.specs.Keepers.{left_beside}
use Rattle.keeper.proofs.clear.Given as goal

abbrev pub invariant-loop-slot : goal.invariant-loop-slot
invariant-loop-slot g l =
    ((k : ℕ) → k < l.slot-index → get_or l.slots k None ≡ left_beside g.V.Ranking.good l.value (get_or l.initial.slots k None))
    × ((k : ℕ) → l.slot-index ≤ k → get_or l.slots k None ≡ get_or l.initial.slots k None)
