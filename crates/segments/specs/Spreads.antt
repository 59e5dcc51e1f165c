-- The figures of node segments, as the second working slice holds them, and the order in which it is filled.
use Rattle.std.specs.Prelude.{◌≡◌, ℕ, ◌+◌, ◌*◌, ◌<◌, ◌≤◌, max, cond, List, length, Some, None, Option, ◌≢◌, slice_index_or}
use Rattle.netmap.specs.declared.link.Link.{Link}
use Rattle.netmap.specs.Net.{Net, link_at}
use Rattle.segments.specs.declared.figures.Spread.{Spread}
use Rattle.segments.specs.declared.near.Near.{Near}
use Rattle.segments.specs.Algebra.{Algebra}
use Rattle.segments.specs.Distances.{cell, table_of}
use Rattle.segments.specs.Paths.{Reached, Tight, Ecmp}

-- the link at a place if it begins a best path, else nothing
abbrev pub TightAt : Net → ℕ → ℕ → ℕ → Option Link → Type 0
TightAt net u v p (Some l) = (link_at net p ≡ Some l) × Tight net u v l
TightAt net u v p None = (l : Link) → link_at net p ≡ Some l → Tight net u v l → ⊥

-- a node and its distance as one number, which the order of both gives: no network has more than 64 nodes
abbrev pub rank : Near → ℕ
rank k = k.far * 64 + k.node

abbrev pub rank_of : Option Near → Option ℕ
rank_of None = None
rank_of (Some k) = Some (rank k)

-- the rank from which nodes come after the last one, if there was one
abbrev pub bar_of : Option Near → ℕ
bar_of None = 0
bar_of (Some k) = rank k + 1

abbrev pub InNet : Option Near → Type 0
InNet None = Unit {0}
InNet (Some k) = k.node < 64

-- the distances from each of n nodes to v
abbrev pub ColumnOf : ℕ → List (Option ℕ) → ℕ → List (Option ℕ) → Type 0
ColumnOf n xs v ys = (u : ℕ) → u < n → cell ys u ≡ table_of n xs u v

-- a node with a distance to v, by its rank
pub record Keyed (n : ℕ) (xs : List (Option ℕ)) (v bar key : ℕ) : Type 0 where
  pub node : ℕ
  pub below : node < n
  pub far : ℕ
  pub at : table_of n xs node v ≡ Some far
  pub is : far * 64 + node ≡ key
  pub from : bar ≤ key

module _ {V : Type 0} where
  abbrev pub slot : List (Option (Spread V)) → ℕ → Option (Spread V)
  slot xs i = slice_index_or xs i None

  -- the larger delay and the worse value
  abbrev pub worse_of : Algebra V → Option (Spread V) → Spread V → Spread V
  worse_of alg None b = b
  worse_of alg (Some a) b = record { delay = record { 0 = max a.delay.0 b.delay.0 }; value = cond (alg.as_good a.value b.value) b.value a.value }

  -- along a link, and then what the rest comes to
  abbrev pub onward : Algebra V → Link → Spread V → Spread V
  onward alg l rest = record {
    delay = record { 0 = l.delay.0 + rest.delay.0 };
    value = alg.join (alg.of_link l) rest.value;
  }

  -- the figures of all best paths from u to v, or nothing where there is no path
  abbrev pub FiguresOf : Net → Algebra V → ℕ → ℕ → Option (Spread V) → Type 0
  FiguresOf net alg u v (Some s) = Ecmp net alg u v s.delay.0 s.value
  FiguresOf net alg u v None = Reached net u v → ⊥

  -- what the best paths from u to v along the link at a place come to if it begins one, else nothing
  abbrev pub WayAt : Net → Algebra V → ℕ → ℕ → ℕ → Option (Spread V) → Type 0
  WayAt net alg u v p (Some s) = (l : Link) × (rest : Spread V) × (link_at net p ≡ Some l) × Tight net u v l × Ecmp net alg l.head v rest.delay.0 rest.value × (s ≡ onward alg l rest)
  WayAt net alg u v p None = (l : Link) → link_at net p ≡ Some l → Tight net u v l → ⊥

  -- the slot of u and v among n * n has them
  abbrev pub HasFigures : Net → Algebra V → ℕ → List (Option (Spread V)) → ℕ → ℕ → Type 0
  HasFigures net alg n xs u v = FiguresOf net alg u v (slot xs (u * n + v))

  -- so have those of the heads of the links that begin a best path
  abbrev pub HeadsFigured : Net → Algebra V → ℕ → List (Option (Spread V)) → ℕ → ℕ → Type 0
  HeadsFigured net alg n xs u v = (l : Link) → Tight net u v l → HasFigures net alg n xs l.head v

  -- so have those of each node to v
  abbrev pub ColumnFigured : Net → Algebra V → ℕ → List (Option (Spread V)) → ℕ → Type 0
  ColumnFigured net alg n xs v = (u : ℕ) → u < n → HasFigures net alg n xs u v

  -- so have those of each pair of n nodes
  abbrev pub Figured : Net → Algebra V → ℕ → List (Option (Spread V)) → Type 0
  Figured net alg n xs = (u v : ℕ) → u < n → v < n → HasFigures net alg n xs u v

  -- all columns but one are as they were
  abbrev pub Spared : ℕ → ℕ → List (Option (Spread V)) → List (Option (Spread V)) → Type 0
  Spared n v before after = (a b : ℕ) → b < n → (b ≢ v) → slot after (a * n + b) ≡ slot before (a * n + b)

-- a slot is empty where no distance is
abbrev pub EmptyAt : {V : Type 0} → ℕ → List (Option ℕ) → List (Option (Spread V)) → ℕ → Type 0
EmptyAt n dist spread v = (u : ℕ) → u < n → table_of n dist u v ≡ None → slot spread (u * n + v) ≡ None

abbrev pub AllEmpty : {V : Type 0} → ℕ → List (Option ℕ) → List (Option (Spread V)) → Type 0
AllEmpty n dist spread = (v : ℕ) → v < n → EmptyAt n dist spread v

-- the working slice holds the figures of the network's n nodes
pub record Routed {V : Type 0} (net : Net) (alg : Algebra V) (n : ℕ) (spread : List (Option (Spread V))) : Type 0 where
  pub nodes : n ≡ net.nodes
  pub space : n * n ≤ length spread
  pub figured : Figured net alg n spread
