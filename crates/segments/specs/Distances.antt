-- The distances of all pairs of nodes, as the first working slice holds them.
use Rattle.std.specs.Prelude.{◌≡◌, ℕ, ◌+◌, ◌*◌, ◌<◌, ◌≤◌, min, List, map, length, Some, None, Option, slice_index_or}
use Rattle.netmap.specs.declared.link.Link.{Link}
use Rattle.netmap.specs.Net.{Net}
use Rattle.segments.specs.declared.figures.Spread.{Spread}
use Rattle.segments.specs.Paths.{IsPath, total_weight}

-- o is the least number of P, or nothing where P has none
abbrev pub LeastOf : (ℕ → Type 0) → Option ℕ → Type 0
LeastOf P (Some w) = P w × ((y : ℕ) → P y → w ≤ y)
LeastOf P None = (y : ℕ) → P y → ⊥

-- the lesser of a number, if there is one, and another
abbrev pub lesser_of : Option ℕ → ℕ → ℕ
lesser_of None b = b
lesser_of (Some a) b = min a b

-- some path from u to v has the weight
pub record Far (net : Net) (u v w : ℕ) : Type 0 where
  pub links : List Link
  pub path : IsPath net u links v
  pub weight : total_weight links ≡ w

-- what a slot holds: a number, or nothing where there is no path
abbrev pub cell : List (Option ℕ) → ℕ → Option ℕ
cell xs i = slice_index_or xs i None

-- the slice as a table of n columns, where u and v have the slot u * n + v
abbrev pub table_of : ℕ → List (Option ℕ) → ℕ → ℕ → Option ℕ
table_of n xs u v = cell xs (u * n + v)

-- each pair of n nodes has its distance
abbrev pub Exact : Net → ℕ → List (Option ℕ) → Type 0
Exact net n xs = (u v : ℕ) → u < n → v < n → LeastOf (Far net u v) (table_of n xs u v)

-- the slice holds the distances of the network's n nodes
pub record Measured (net : Net) (n : ℕ) (xs : List (Option ℕ)) : Type 0 where
  pub nodes : n ≡ net.nodes
  pub sized : n * n ≤ length xs
  pub exact : Exact net n xs

-- the weights of at most 63 links, or no path
abbrev pub Known : Option ℕ → Type 0
Known None = Unit {0}
Known (Some w) = w ≤ 4128705

-- each slot below n * n
abbrev pub AllKnown : ℕ → List (Option ℕ) → Type 0
AllKnown n xs = (i : ℕ) → i < n * n → Known (cell xs i)

-- two tables agree below a slot
abbrev pub Same : ℕ → List (Option ℕ) → List (Option ℕ) → Type 0
Same m xs ys = (i : ℕ) → i < m → cell xs i ≡ cell ys i

-- the delay that a slot of the second working slice holds
abbrev pub delay_in : {V : Type 0} → Option (Spread V) → Option ℕ
delay_in None = None
delay_in (Some s) = Some s.delay.0

-- the delays of the second working slice, which hold the distances of the round that is made
abbrev pub delays : {V : Type 0} → List (Option (Spread V)) → List (Option ℕ)
delays xs = map delay_in xs
