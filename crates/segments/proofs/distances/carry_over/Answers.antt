use Rattle.std.proofs.Common.{◌≡◌, ◌<◌, length, take, None, sym, ◌∙◌, arith, rules}
use Rattle.std.proofs.lemmas.List.{get_or-take, length-take-le}
use Rattle.segments.specs.Distances.{cell, delay_in}
use Rattle.segments.proofs.TableSlots.{delays_more}
use Rattle.segments.proofs.distances.carry_over.Goals as goal

pub loop-i-preserved : goal.loop-i-preserved
loop-i-preserved g c =
    let i = c.loop-i.i in
    let m = c.args.cells in
    let xs = c.args.dist.now in
    let low : i < m = omega (arith, c.loop-i-test.true, length-take-le m xs c.requires.sized) in
    let within : i < length c.loop-i.spread = omega (arith, low, c.loop-i.auto.spread, c.requires.space) in
    let here : cell (take m xs) i ≡ delay_in c.keep.result = search rules in
    delays_more (λ k w. cell xs k ≡ w) c.keep.result c.loop-i.spread i within c.loop-i.invariant (sym (get_or-take m xs i None low) ∙ here)
