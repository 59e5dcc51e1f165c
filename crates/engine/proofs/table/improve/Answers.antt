use Rattle.std.proofs.Common.{arith}
use Rattle.std.proofs.lemmas.Grind.{common_steps}
use Rattle.engine.proofs.table.improve.Goals as goal
use Rattle.engine.proofs.table.improve.Goals.{in-Some, in_default}

pub loop-d-preserved : goal.loop-d-preserved
loop-d-preserved g c =
    elim c.match-rests-d.branch [ in-Some w ↦ grind (arith, common_steps) | in_default w ↦ grind (arith, common_steps) ]
