-- What the entry of a segment list does at a node, and what it adds to the figures of the entries before it.
use Rattle.std.specs.Prelude.{◌≡◌, ℕ, ◌+◌, Bool, true, false, Some, None, Option, ◌≢◌}
use Rattle.netmap.specs.declared.link.Link.{Link}
use Rattle.netmap.specs.Net.{Net, link_at}
use Rattle.segments.specs.declared.figures.Leg.{Leg}
use Rattle.segments.specs.declared.figures.Spread.{Spread}
use Rattle.segments.specs.declared.figures.Walk.{Walk}
use Rattle.segments.specs.Algebra.{Algebra}
use Rattle.segments.specs.Segments.{Segment, grains_of}

-- does the place hold a link that begins at u?
abbrev pub Leaves : Net → ℕ → ℕ → Bool → Type 0
Leaves net place u true = (l : Link) × (link_at net place ≡ Some l) × (l.tail ≡ u)
Leaves net place u false = (l : Link) → link_at net place ≡ Some l → l.tail ≢ u

module _ {V : Type 0} where
  -- what the code does at u, or nothing where it is illegal
  abbrev pub Entry : Net → Algebra V → ℕ → ℕ → Option (Leg V) → Type 0
  Entry net alg u c (Some h) = Segment net alg u c h
  Entry net alg u c None = (h : Leg V) → Segment net alg u c h → ⊥

  -- to the node of the code, with the figures of a slot, if it holds any
  abbrev pub node_leg : ℕ → Option (Spread V) → Option (Leg V)
  node_leg c None = None
  node_leg c (Some s) = Some (record { to = c; delay = s.delay; value = s.value })

  pub record Along (net : Net) (alg : Algebra V) (place : ℕ) (h : Leg V) : Type 0 where
    pub link : Link
    pub filled : link_at net place ≡ Some link
    pub to : h.to ≡ link.head
    pub delay : h.delay ≡ link.delay
    pub value : h.value ≡ alg.of_link link

  -- the link at a place, if there is one
  abbrev pub LinkLeg : Net → Algebra V → ℕ → Option (Leg V) → Type 0
  LinkLeg net alg place (Some h) = Along net alg place h
  LinkLeg net alg place None = link_at net place ≡ None

  -- no entry
  pub record Stays (alg : Algebra V) (source : ℕ) (r : Walk V) : Type 0 where
    pub end : r.end ≡ source
    pub value : r.figures.value ≡ alg.neutral
    pub grains : r.figures.grains.0 ≡ 0
    pub delay : r.figures.delay.0 ≡ 0
    pub labels : r.figures.labels.0 ≡ 0

  -- one entry more
  pub record Extended (alg : Algebra V) (grain : ℕ) (w : Walk V) (h : Leg V) (r : Walk V) : Type 0 where
    pub end : r.end ≡ h.to
    pub value : r.figures.value ≡ alg.join w.figures.value h.value
    pub grains : r.figures.grains.0 ≡ w.figures.grains.0 + grains_of grain h.delay.0
    pub delay : r.figures.delay.0 ≡ w.figures.delay.0 + h.delay.0
    pub labels : r.figures.labels.0 ≡ w.figures.labels.0 + 1
