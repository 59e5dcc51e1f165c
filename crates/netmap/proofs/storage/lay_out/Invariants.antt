use Rattle.netmap.proofs.Storing.{Filled}
use Rattle.netmap.proofs.storage.lay_out.Given as goal

abbrev pub invariant-loop-place : goal.invariant-loop-place
invariant-loop-place g l = Filled l.initial.space l.space (g.M.Map.meaning l.map) l.place
