-- Rounds of relaxation (Bellman and Ford): from the distances over at most k links to those over one link more.
use Rattle.std.specs.Prelude.{◌≡◌, ℕ, ◌+◌, ◌*◌, ◌<◌, ◌≤◌, cond, ◌⊎◌, List, length, Some, None, Option, ◌==◌, ◌≢◌}
use Rattle.netmap.specs.declared.link.Link.{Link}
use Rattle.netmap.specs.Net.{Net}
use Rattle.segments.specs.Distances.{LeastOf, lesser_of, cell, table_of}
use Rattle.segments.specs.Paths.{Holds, IsPath, Reached, total_weight, IsBest}

module _ (net : Net) where
  -- a path of at most k links has the weight
  pub record Near (k u v w : ℕ) : Type 0 where
    pub links : List Link
    pub path : IsPath net u links v
    pub short : length links ≤ k
    pub weight : total_weight links ≡ w

  -- a link at u and then the distance from its head
  pub record Relaxed (old : ℕ → ℕ → Option ℕ) (u v w : ℕ) : Type 0 where
    pub link : Link
    pub holds : Holds net link
    pub tail : link.tail ≡ u
    pub rest : ℕ
    pub below : old link.head v ≡ Some rest
    pub weight : link.weight + rest ≡ w

  -- what a round tries
  abbrev pub Tried : (ℕ → ℕ → Option ℕ) → ℕ → ℕ → ℕ → Type 0
  Tried old u v w = (old u v ≡ Some w) ⊎ Relaxed old u v w

  -- what a round has tried once it has passed the places below p
  abbrev pub TriedTo : (ℕ → ℕ → Option ℕ) → ℕ → ℕ → ℕ → ℕ → Type 0
  TriedTo old p u v w = (old u v ≡ Some w) ⊎ ((r : Relaxed old u v w) × (r.holds.0 < p))

-- each pair of n nodes has its least over at most k links
abbrev pub Found : Net → ℕ → ℕ → List (Option ℕ) → Type 0
Found net k n xs = (u v : ℕ) → u < n → v < n → LeastOf (Near net k u v) (table_of n xs u v)

-- a round from one table to the next
abbrev pub Round : Net → ℕ → List (Option ℕ) → List (Option ℕ) → Type 0
Round net n old new = (u v : ℕ) → u < n → v < n → LeastOf (Tried net (table_of n old) u v) (table_of n new u v)

-- the lesser of what a slot holds and a weight with the distance behind it
abbrev pub nearer : Option ℕ → ℕ → Option ℕ → Option ℕ
nearer best weight None = best
nearer best weight (Some rest) = Some (lesser_of best (weight + rest))

-- a link is tried in the row of its tail, and the other rows stay
pub record Swept (n : ℕ) (l : Link) (old new after : List (Option ℕ)) : Type 0 where
  pub row : (v : ℕ) → v < n → cell after (l.tail * n + v) ≡ nearer (cell new (l.tail * n + v)) l.weight (cell old (l.head * n + v))
  pub others : (u v : ℕ) → v < n → (u ≢ l.tail) → cell after (u * n + v) ≡ cell new (u * n + v)

-- before the first round: the way from each node to itself, and no other
abbrev pub Started : ℕ → List (Option ℕ) → Type 0
Started n xs = (u v : ℕ) → u < n → v < n → table_of n xs u v ≡ cond (u == v) (Some 0) None

-- where a path is, a best path of at most k links is
abbrev pub Enough : Net → ℕ → Type 0
Enough net k = (u v : ℕ) → u < net.nodes → Reached net u v → (ms : List Link) × IsBest net u ms v × (length ms ≤ k)

-- one round more than the fewest links that are enough
pub record Rounds (net : Net) (r : ℕ) : Type 0 where
  pub links : ℕ
  pub made : r ≡ links + 1
  pub enough : Enough net links
  pub least : (k : ℕ) → Enough net k → links ≤ k
