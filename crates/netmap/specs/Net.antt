-- What a map means: a network, with nothing or one link at each place.
use Rattle.std.specs.Prelude.{◌≡◌, ℕ, ◌<◌, ◌≤◌, List, length, Some, None, Option, slice_index_or}
use Rattle.netmap.specs.declared.link.Link.{Link}

-- nodes and places count from 0
pub record Net : Type 0 where
  pub nodes : ℕ
  pub links : List (Option Link)

abbrev pub places : Net → ℕ
places net = length net.links

-- the link at a place, or nothing where the place is empty or there is no such place
abbrev pub link_at : Net → ℕ → Option Link
link_at net p = slice_index_or net.links p None

-- a link that a network of n nodes may hold
pub record SoundLink (n : ℕ) (l : Link) : Type 0 where
  pub tail : l.tail < n
  pub head : l.head < n
  pub apart : l.tail ≡ l.head → ⊥
  pub weight_low : 1 ≤ l.weight
  pub weight_high : l.weight ≤ 65535
  pub delay : l.delay.0 ≤ 100000
  pub figure : l.figure ≤ 1000000

-- what a place may hold among n nodes: nothing, or a sound link
abbrev pub Fit : ℕ → Option Link → Type 0
Fit n o = (l : Link) → o ≡ Some l → SoundLink n l

-- a network within the limits
pub record Sound (net : Net) : Type 0 where
  pub nodes_low : 1 ≤ net.nodes
  pub nodes_high : net.nodes ≤ 64
  pub few : places net ≤ 256
  pub each : (p : ℕ) → Fit net.nodes (link_at net p)
