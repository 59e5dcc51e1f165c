use Rattle.std.proofs.Common.{◌≡◌, ◌<◌, length, set, None, ◌∙◌, get_or-set_other, get_or-set_same, below_more, arith}
use Rattle.segments.specs.Distances.{cell, table_of}
use Rattle.segments.proofs.ecmp.Distances.read_column.Goals as goal

pub loop-node-preserved : goal.loop-node-preserved
loop-node-preserved g c =
    let n = c.args.self.now.nodes in
    let dist = c.args.self.now.slots.now in
    let u = c.loop-node.node in
    let xs = c.loop-node.column in
    let x = c.between.result in
    let within : u < length xs = omega (arith, c.loop-node.auto.column, c.loop-node-test.true, c.requires.long) in
    below_more (λ k. cell (set xs u x) k ≡ table_of n dist k c.args.v) u
    (λ k h. get_or-set_other xs u k x None (λ z. omega (arith, z, h)) ∙ c.loop-node.invariant k h)
    (get_or-set_same xs u x None within ∙ c.between.ensures)
