-- The figures of segments are small.
use Rattle.std.proofs.Common.{ℕ, ◌-◌, ◌<◌, ◌≤◌, ap, inl, inr, arith}
use Rattle.netmap.specs.Net.{Net, Sound}
use Rattle.segments.specs.declared.figures.Leg.{Leg}
use Rattle.segments.specs.Algebra.{Algebra}
use Rattle.segments.specs.Paths.{Ecmp}
use Rattle.segments.specs.Segments.{Segment}
use Rattle.segments.proofs.BestPathsShort.{best_small}

module _ {V : Type 0} (net : Net) (alg : Algebra V) where
  pub ecmp_small : Sound net → (u v d : ℕ) (x : V) → u < net.nodes → Ecmp net alg u v d x → d ≤ 6300000
  ecmp_small sound u v d x nu e = omega (arith, (best_small net sound u v e.delay_met.0 nu e.delay_met.1).1, e.delay_met.2)

  pub segment_small : Sound net → (u c : ℕ) (h : Leg V) → u < net.nodes → Segment net alg u c h → h.delay.0 ≤ 6300000
  segment_small sound u c h nu (inl s) = ecmp_small sound u c h.delay.0 h.value nu s.spread
  segment_small sound u c h nu (inr s) = omega (arith, (sound.each (c - 256) s.link s.filled).delay, ap (λ d. d.0) s.delay)
