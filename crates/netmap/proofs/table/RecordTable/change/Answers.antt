use mathlib.Core.Logic.{∥∥₁_map}
use Rattle.netmap.proofs.Tables.{over_sound}
use Rattle.netmap.proofs.table.RecordTable.change.Goals as goal

pub invariant_of-self : goal.invariant_of-self
invariant_of-self c =
    let t = c.args.self.now in
    record { ok = ∥∥₁_map t.ok (over_sound t.nodes t.records.now c.args.place c.args.held c.requires.within c.requires.fit) }
