-- Paths, the best of them by IGP weight, and what traffic that is split over all best paths (ECMP) may meet.
use Rattle.std.specs.Prelude.{◌≡◌, ℕ, ◌+◌, ◌≤◌, List, [], ◌∷◌, map, Some}
use Rattle.netmap.specs.declared.link.Link.{Link}
use Rattle.netmap.specs.Net.{Net, link_at}
use Rattle.segments.specs.Algebra.{Algebra, AsGood, joined}

-- some place of the network holds the link
abbrev pub Holds : Net → Link → Type 0
Holds net l = (p : ℕ) × (link_at net p ≡ Some l)

-- a chain of links of the network from u to v, each starting where the one before ended
abbrev pub IsPath : Net → ℕ → List Link → ℕ → Type 0
IsPath net u [] v = u ≡ v
IsPath net u (l ∷ ls) v = Holds net l × (l.tail ≡ u) × IsPath net l.head ls v

-- some path leads from u to v
abbrev pub Reached : Net → ℕ → ℕ → Type 0
Reached net u v = (ls : List Link) × IsPath net u ls v

abbrev pub total_weight : List Link → ℕ
total_weight [] = 0
total_weight (l ∷ ls) = l.weight + total_weight ls

abbrev pub total_delay : List Link → ℕ
total_delay [] = 0
total_delay (l ∷ ls) = l.delay.0 + total_delay ls

abbrev pub path_value : {V : Type 0} → Algebra V → List Link → V
path_value alg ls = joined alg (map alg.of_link ls)

-- a path of the least total weight
pub record IsBest (net : Net) (u : ℕ) (ls : List Link) (v : ℕ) : Type 0 where
  pub path : IsPath net u ls v
  pub least : (ms : List Link) → IsPath net u ms v → total_weight ls ≤ total_weight ms

-- the link begins a best path
pub record Tight (net : Net) (u v : ℕ) (l : Link) : Type 0 where
  pub rest : List Link
  pub best : IsBest net u (l ∷ rest) v

-- over all best paths from u to v: the largest total delay, and the worst value
pub record Ecmp {V : Type 0} (net : Net) (alg : Algebra V) (u v : ℕ) (delay : ℕ) (value : V) : Type 0 where
  pub delay_met : (ls : List Link) × IsBest net u ls v × (total_delay ls ≡ delay)
  pub delay_largest : (ls : List Link) → IsBest net u ls v → total_delay ls ≤ delay
  pub value_met : (ls : List Link) × IsBest net u ls v × (path_value alg ls ≡ value)
  pub value_worst : (ls : List Link) → IsBest net u ls v → AsGood alg (path_value alg ls) value
