use Rattle.std.proofs.Common.{string_bytes}
use Rattle.netmap.proofs.Texts.{LinesTo}
use Rattle.netmap.proofs.listing.listing.Given as goal

abbrev pub invariant-loop-place : goal.invariant-loop-place
invariant-loop-place g l = LinesTo (g.M.Map.meaning l.map) (string_bytes l.initial.text) l.place (string_bytes l.text)
