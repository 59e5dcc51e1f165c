-- Segments (RFC 8402) and segment lists: where they are legal, where they lead, and their figures.
use Rattle.std.specs.Prelude.{◌≡◌, ℕ, ◌+◌, ◌-◌, ◌/◌, ◌<◌, ◌≤◌, ◌⊎◌, List, [], ◌∷◌, map, Some}
use Rattle.netmap.specs.declared.link.Link.{Link}
use Rattle.netmap.specs.Net.{Net, link_at}
use Rattle.segments.specs.declared.figures.Leg.{Leg}
use Rattle.segments.specs.Algebra.{Algebra, joined}
use Rattle.segments.specs.Paths.{Ecmp}

module _ {V : Type 0} (net : Net) (alg : Algebra V) where
  -- codes 0 to 63 name a node: the traffic is split over all best paths to it
  pub record NodeSegment (u code : ℕ) (h : Leg V) : Type 0 where
    pub range : code < 64
    pub other : u ≡ code → ⊥
    pub to : h.to ≡ code
    pub spread : Ecmp net alg u code h.delay.0 h.value

  -- codes 256 to 511 name the link at the place code − 256
  pub record AdjacencySegment (u code : ℕ) (h : Leg V) : Type 0 where
    pub low : 256 ≤ code
    pub high : code < 512
    pub link : Link
    pub filled : link_at net (code - 256) ≡ Some link
    pub tail : link.tail ≡ u
    pub to : h.to ≡ link.head
    pub delay : h.delay ≡ link.delay
    pub value : h.value ≡ alg.of_link link

  -- the code is legal at u, and does h there
  abbrev pub Segment : ℕ → ℕ → Leg V → Type 0
  Segment u code h = NodeSegment u code h ⊎ AdjacencySegment u code h

  -- each code of the list is legal where the one before ended
  abbrev pub SegmentList : ℕ → List ℕ → List (Leg V) → Type 0
  SegmentList u [] [] = Unit {0}
  SegmentList u [] (h ∷ hs) = ⊥
  SegmentList u (c ∷ cs) [] = ⊥
  SegmentList u (c ∷ cs) (h ∷ hs) = Segment u c h × SegmentList h.to cs hs

-- the node where a list from u ends
abbrev pub list_end : {V : Type 0} → ℕ → List (Leg V) → ℕ
list_end u [] = u
list_end u (h ∷ hs) = list_end h.to hs

abbrev pub list_value : {V : Type 0} → Algebra V → List (Leg V) → V
list_value alg hs = joined alg (map (λ h. h.value) hs)

abbrev pub list_delay : {V : Type 0} → List (Leg V) → ℕ
list_delay [] = 0
list_delay (h ∷ hs) = h.delay.0 + list_delay hs

-- microseconds in grains, rounded up
abbrev pub grains_of : ℕ → ℕ → ℕ
grains_of grain delay = (delay + (grain - 1)) / grain

-- each entry is rounded by itself
abbrev pub list_grains : {V : Type 0} → ℕ → List (Leg V) → ℕ
list_grains grain [] = 0
list_grains grain (h ∷ hs) = grains_of grain h.delay.0 + list_grains grain hs
