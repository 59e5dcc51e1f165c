-- What a code does at a node, in grains.
use Rattle.std.specs.Prelude.{◌≡◌, ℕ, ◌<◌, ◌≤◌, Some, None, Option}
use Rattle.netmap.specs.Net.{Net}
use Rattle.segments.specs.declared.figures.Leg.{Leg}
use Rattle.segments.specs.Algebra.{Algebra}
use Rattle.segments.specs.Segments.{Segment, grains_of}
use Rattle.engine.specs.declared.hops.Hop.{Hop}

module _ {V : Type 0} (net : Net) (alg : Algebra V) (grain : ℕ) where
  -- the code does the leg at u, with bounds on where it leads and on its delay
  pub record Hops (u c : ℕ) (h : Hop V) : Type 0 where
    pub segment : Segment net alg u c h.leg
    pub grains : h.grains ≡ grains_of grain h.leg.delay.0
    pub on : h.leg.to < net.nodes
    pub small : h.leg.delay.0 ≤ 6300000

  -- what the code does at u, or nothing where it is illegal
  abbrev pub HopOf : ℕ → ℕ → Option (Hop V) → Type 0
  HopOf u c (Some h) = Hops u c h
  HopOf u c None = (h : Leg V) → Segment net alg u c h → ⊥
