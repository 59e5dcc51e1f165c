-- What a record table means.
use Rattle.std.proofs.Math.Logic.{∥∥₁_elim}
use Rattle.std.specs.Prelude.{List, Option}
use Rattle.netmap.specs.declared.link.Link.{Link}
use Rattle.netmap.specs.declared.table.RecordTable.{RecordTable}
use Rattle.netmap.specs.Net.{Net, Sound}
use Rattle.netmap.specs.Opening.{net_over}
use Rattle.netmap.specs.Soundness.{sound_prop}

-- the caller's records
abbrev pub records_of : RecordTable → List (Option Link)
records_of t = t.records.now

abbrev pub table_net : RecordTable → Net
table_net t = net_over t.nodes t.records.now

pub table_sound : (t : RecordTable) → Sound (table_net t)
table_sound t = ∥∥₁_elim t.ok (sound_prop (table_net t)) (λ s. s)
