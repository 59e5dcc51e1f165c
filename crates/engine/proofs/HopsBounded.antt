-- What a code does at a node, with bounds on where it leads and on its delay.
use Rattle.std.proofs.Common.{◌≡◌, ℕ, ◌<◌, Some}
use Rattle.netmap.specs.Net.{Net, Sound}
use Rattle.segments.specs.declared.figures.Leg.{Leg}
use Rattle.segments.specs.Algebra.{Algebra}
use Rattle.segments.specs.Entries.{Entry}
use Rattle.segments.specs.Segments.{grains_of}
use Rattle.segments.proofs.FiguresSmall.{segment_small}
use Rattle.segments.proofs.NodesReached.{segment_node}
use Rattle.engine.specs.Hops.{Hops}

pub hop_at : {V : Type 0} (net : Net) (alg : Algebra V) → Sound net → (grain u c g : ℕ) (h : Leg V) → u < net.nodes → Entry net alg u c (Some h) → g ≡ grains_of grain h.delay.0 → Hops net alg grain u c (record { leg = h; grains = g })
hop_at net alg sound grain u c g h node s is = record { segment = s; grains = is; on = segment_node net alg sound u c h node s; small = segment_small net alg sound u c h node s }
