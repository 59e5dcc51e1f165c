use Rattle.std.proofs.Common.{◌≡◌, take, drop}
use Rattle.segments.specs.Algebra.{algebra}
use Rattle.engine.specs.Calls.{room_in, SameSlices}
use Rattle.engine.specs.Runs.{Runs}
use Rattle.engine.proofs.running.run.Given as goal

abbrev pub invariant-loop-step : goal.invariant-loop-step
invariant-loop-step g l =
    Runs (algebra g.V.Ranking.good g.V.Tariff.joining) (room_in l.initial.work) (g.M.Map.meaning l.initial.map) (take l.step-index l.initial.steps) (take l.step-index l.steps) (g.M.Map.meaning l.map)
    × (drop l.step-index l.steps ≡ drop l.step-index l.initial.steps)
    × SameSlices l.initial.work l.work
