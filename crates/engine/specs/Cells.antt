-- The table of best values by number of entries, grains and node, and how it lies in a slice.
use Rattle.std.specs.Prelude.{◌≡◌, ℕ, ◌+◌, ◌*◌, ◌<◌, ◌≤◌, cond, List, length, Some, None, Option, slice_index_or}
use Rattle.netmap.specs.Net.{Net}
use Rattle.segments.specs.Algebra.{Algebra, AsGood}
use Rattle.segments.specs.declared.figures.Leg.{Leg}
use Rattle.segments.specs.Segments.{Segment, SegmentList, list_end, list_value, list_grains, grains_of}

module _ {V : Type 0} (net : Net) (alg : Algebra V) (grain target : ℕ) where
  -- a list of l entries and d grains from v to the target has the value
  pub record Listed (l d v : ℕ) (x : V) : Type 0 where
    pub codes : List ℕ
    pub legs : List (Leg V)
    pub legal : SegmentList net alg v codes legs
    pub ends : list_end v legs ≡ target
    pub count : length codes ≡ l
    pub grains : list_grains grain legs ≡ d
    pub value : list_value alg legs ≡ x

-- o is the best of P, or nothing where P has none
abbrev pub BestOf : {V : Type 0} → Algebra V → (V → Type 0) → Option V → Type 0
BestOf {V} alg P (Some x) = P x × ((y : V) → P y → AsGood alg x y)
BestOf {V} alg P None = (y : V) → P y → ⊥

module _ {V : Type 0} (net : Net) (alg : Algebra V) (grain target : ℕ) where
  abbrev pub Cell : ℕ → ℕ → ℕ → Option V → Type 0
  Cell l d v = BestOf alg (Listed net alg grain target l d v)

  -- the cells of up to top grains, at each node
  abbrev pub Row : ℕ → ℕ → (ℕ → ℕ → Option V) → Type 0
  Row top l row = (d v : ℕ) → d ≤ top → v < net.nodes → Cell l d v (row d v)

module _ {V : Type 0} (net : Net) (alg : Algebra V) (grain : ℕ) where
  -- one entry at v and then the best that the row below has
  pub record Candidate (row : ℕ → ℕ → Option V) (d v : ℕ) (z : V) : Type 0 where
    pub code : ℕ
    pub leg : Leg V
    pub rest : ℕ
    pub suffix : V
    pub segment : Segment net alg v code leg
    pub grains : grains_of grain leg.delay.0 + rest ≡ d
    pub below : row rest leg.to ≡ Some suffix
    pub value : alg.join leg.value suffix ≡ z

-- where the cell of l entries at the node v with d grains lies: rows of grains for each number of entries and node
abbrev pub slot : ℕ → ℕ → ℕ → ℕ → ℕ → ℕ
slot n top l v d = (l * n + v) * (top + 1) + d

-- the slice as a table
abbrev pub best_of : {V : Type 0} → ℕ → ℕ → List (Option V) → ℕ → ℕ → ℕ → Option V
best_of n top table l d v = slice_index_or table (slot n top l v d) None

-- the cells of one node, by number of entries and of grains
abbrev pub cells_at : {V : Type 0} → ℕ → ℕ → List (Option V) → ℕ → ℕ → ℕ → Option V
cells_at n top table v l d = best_of n top table l d v

-- the better of what a slot holds and a value; what is held stays at a tie
abbrev pub better_of : {V : Type 0} → Algebra V → Option V → V → Option V
better_of alg None y = Some y
better_of alg (Some x) y = cond (alg.as_good x y) (Some x) (Some y)

-- the same with an entry's value joined with what a slot of the row below holds
abbrev pub merge : {V : Type 0} → Algebra V → Option V → V → Option V → Option V
merge alg held value None = held
merge alg held value (Some x) = better_of alg held (alg.join value x)

-- all before the place stays
abbrev pub Kept : {V : Type 0} → ℕ → List (Option V) → List (Option V) → Type 0
Kept at before after = (i : ℕ) → i < at → slice_index_or after i None ≡ slice_index_or before i None

-- a row took what the entry makes of the rests
abbrev pub Improved : {V : Type 0} → Algebra V → V → List (Option V) → List (Option V) → List (Option V) → Type 0
Improved alg value rests before after = (d : ℕ) → d < length before → slice_index_or after d None ≡ merge alg (slice_index_or before d None) value (slice_index_or rests d None)

module _ {V : Type 0} (net : Net) (alg : Algebra V) (grain target n top : ℕ) where
  -- the rows of up to l entries are filled
  abbrev pub FilledTo : ℕ → List (Option V) → Type 0
  FilledTo l table = (m : ℕ) → m ≤ l → Row net alg grain target top m (best_of n top table m)

-- the rows of l + 1 entries at the nodes below v are filled from those of l entries, and all before them stays
pub record LevelTo {V : Type 0} (net : Net) (alg : Algebra V) (grain n top l v : ℕ) (before xs : List (Option V)) : Type 0 where
  pub kept : Kept (slot n top (l + 1) 0 0) before xs
  pub cells : (target : ℕ) → Row net alg grain target top l (best_of n top before l) → (d u : ℕ) → d ≤ top → u < v → Cell net alg grain target (l + 1) d u (best_of n top xs (l + 1) d u)
