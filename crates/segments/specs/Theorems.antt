-- What holds of segment lists, of their precedence and of best paths, whatever the network.
use Rattle.std.specs.Prelude.{◌≡◌, ℕ, ◌-◌, ◌<◌, ◌≤◌, ◌⊎◌, List, length, ◌≢◌}
use Rattle.netmap.specs.declared.link.Link.{Link}
use Rattle.netmap.specs.Net.{Net, Sound}
use Rattle.tariff.specs.Costs.{cheaper, costs}
use Rattle.tariff.specs.declared.cost.Cost.{Cost}
use Rattle.segments.specs.declared.figures.Leg.{Leg}
use Rattle.segments.specs.declared.order.Order.{Order}
use Rattle.segments.specs.Algebra.{Algebra, algebra}
use Rattle.segments.specs.Orders.{Precedes, First}
use Rattle.segments.specs.Paths.{Reached, IsBest, Ecmp}
use Rattle.segments.specs.Segments.{NodeSegment, Segment, SegmentList, list_value}

module _ {V : Type 0} (alg : Algebra V) where
  -- a code does at most one thing at a node
  abbrev pub SegmentsFunctional : Type 0
  SegmentsFunctional = (net : Net) (u c : ℕ) (h k : Leg V) → Segment net alg u c h → Segment net alg u c k → h ≡ k

  -- a list has at most one row of legs, and so one end and one set of figures
  abbrev pub ListsFunctional : Type 0
  ListsFunctional = (net : Net) (u : ℕ) (cs : List ℕ) (hs ks : List (Leg V)) → SegmentList net alg u cs hs → SegmentList net alg u cs ks → hs ≡ ks

  -- a strict order, total on lists that differ
  pub record StrictTotal (grain : ℕ) : Type 0 where
    pub irreflexive : (cs : List ℕ) (hs : List (Leg V)) → Precedes alg grain cs hs cs hs → ⊥
    pub transitive : (bs cs ds : List ℕ) (hs ks ls : List (Leg V)) → Precedes alg grain bs hs cs ks → Precedes alg grain cs ks ds ls → Precedes alg grain bs hs ds ls
    pub total : (cs ds : List ℕ) (hs ks : List (Leg V)) → (cs ≢ ds) → Precedes alg grain cs hs ds ks ⊎ Precedes alg grain ds ks cs hs

  abbrev pub PrecedenceStrict : Type 0
  PrecedenceStrict = (grain : ℕ) → StrictTotal grain

  -- at most one list within an order precedes every other
  abbrev pub FirstUnique : Type 0
  FirstUnique = (net : Net) (o : Order) (cs ds : List ℕ) (hs ks : List (Leg V)) → First net alg o cs hs → First net alg o ds ks → (cs ≡ ds) × (hs ≡ ks)

  -- a path from u to v, and figures of all best paths
  pub record FiguresExist (net : Net) (u v : ℕ) : Type 0 where
    pub of_path : Reached net u v → (d : ℕ) × (x : V) × Ecmp net alg u v d x
    pub of_figures : (d : ℕ) (x : V) → Ecmp net alg u v d x → Reached net u v

  -- figures are where a path is, and nowhere else
  abbrev pub FiguresWherePaths : Type 0
  FiguresWherePaths = (net : Net) → Sound net → (u v : ℕ) → FiguresExist net u v

  -- a code of a node is legal at every other node from which there is a path, and nowhere else
  pub record NodeCodeLegal (net : Net) (u c : ℕ) : Type 0 where
    pub of_path : c < 64 → (u ≢ c) → Reached net u c → (h : Leg V) × NodeSegment net alg u c h
    pub of_segment : (h : Leg V) → NodeSegment net alg u c h → (c < 64) × (u ≢ c) × Reached net u c

  abbrev pub NodeCodesWherePaths : Type 0
  NodeCodesWherePaths = (net : Net) → Sound net → (u c : ℕ) → NodeCodeLegal net u c

-- a best path has fewer links than the network has nodes
abbrev pub BestPathsShort : Type 0
BestPathsShort = (net : Net) → Sound net → (u v : ℕ) (ls : List Link) → IsBest net u ls v → length ls ≤ net.nodes - 1

-- at most 10 entries, each over at most 63 links, each of a weight of at most 65,535
abbrev pub CostsBounded : Type 0
CostsBounded = (net : Net) → Sound net → (u : ℕ) (cs : List ℕ) (hs : List (Leg Cost)) → SegmentList net (algebra cheaper costs) u cs hs → length cs ≤ 10 → (list_value (algebra cheaper costs) hs).weight ≤ 41287050
