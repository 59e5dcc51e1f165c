-- The cell at the source that a quote takes.
use Rattle.std.specs.Prelude.{◌≡◌, ℕ, ◌<◌, ◌≤◌, cond, ◌⊎◌, Some, None, Option}
use Rattle.netmap.specs.Net.{Net}
use Rattle.segments.specs.Algebra.{Algebra, AsGood}
use Rattle.segments.specs.declared.order.Order.{Order}
use Rattle.engine.specs.declared.choosing.Choice.{Choice}
use Rattle.engine.specs.Fronts.{most_grains_of}

module _ {V : Type 0} (net : Net) (alg : Algebra V) (o : Order) where
  -- of the cells at the source: the best value, then the fewest grains, then the fewest entries
  pub record Chosen (best : ℕ → ℕ → ℕ → Option V) (x : V) (d l : ℕ) : Type 0 where
    pub labels : l ≤ o.limit.0
    pub small : d ≤ most_grains_of o
    pub cell : best l d o.source ≡ Some x
    pub value : (m e : ℕ) (y : V) → m ≤ o.limit.0 → e ≤ most_grains_of o → best m e o.source ≡ Some y → AsGood alg x y
    pub grains : (m e : ℕ) → m ≤ o.limit.0 → e ≤ most_grains_of o → best m e o.source ≡ Some x → d ≤ e
    pub entries : (m : ℕ) → m ≤ o.limit.0 → best m d o.source ≡ Some x → l ≤ m

-- fewer grains, or as many and no more entries
abbrev pub Before : ℕ → ℕ → ℕ → ℕ → Type 0
Before d l e m = (d < e) ⊎ ((d ≡ e) × (l ≤ m))

-- of the cells (entries, grains) of S: the best value, then the fewest grains, then the fewest entries; or all are empty
abbrev pub LeadOf : {V : Type 0} → Algebra V → (ℕ → ℕ → Option V) → (ℕ → ℕ → Type 0) → Option (Choice V) → Type 0
LeadOf {V} alg best S None = (m e : ℕ) → S m e → best m e ≡ None
LeadOf {V} alg best S (Some c) =
    S c.entries c.grains × (best c.entries c.grains ≡ Some c.value)
    × ((m e : ℕ) (y : V) → S m e → best m e ≡ Some y → AsGood alg c.value y × (y ≡ c.value → Before c.grains c.entries e m))

-- the cells of fewer than d grains, and those of d grains and fewer than l entries
abbrev pub Passed : ℕ → ℕ → ℕ → ℕ → ℕ → Type 0
Passed limit d l m e = (m ≤ limit) × ((e < d) ⊎ ((e ≡ d) × (m < l)))

-- all cells at the source
abbrev pub Whole : ℕ → ℕ → ℕ → ℕ → Type 0
Whole limit top m e = (m ≤ limit) × (e ≤ top)

-- the better of two, and the first at a tie
abbrev pub lead_of : {V : Type 0} → Algebra V → Option (Choice V) → Choice V → Choice V
lead_of alg None c = c
lead_of alg (Some b) c = cond (alg.as_good b.value c.value) b c
