-- The pairs of grains and value that the lists within an order have, and how many slots of a front hold one.
use Rattle.std.specs.Prelude.{◌≡◌, ℕ, ◌/◌, List, count_by, is_some, Option}
use Rattle.netmap.specs.Net.{Net}
use Rattle.segments.specs.Algebra.{Algebra}
use Rattle.segments.specs.declared.order.Order.{Order}
use Rattle.segments.specs.declared.figures.Leg.{Leg}
use Rattle.segments.specs.Segments.{list_value, list_grains}
use Rattle.segments.specs.Orders.{Within}

-- how many slots hold a value
abbrev pub held : {V : Type 0} → List (Option V) → ℕ
held slots = count_by is_some slots

-- a list within the order has the pair
pub record Had {V : Type 0} (net : Net) (alg : Algebra V) (o : Order) (d : ℕ) (x : V) : Type 0 where
  pub codes : List ℕ
  pub legs : List (Leg V)
  pub within : Within net alg o codes legs
  pub grains : list_grains o.grain.0 legs ≡ d
  pub value : list_value alg legs ≡ x

-- the largest number of grains that an order leaves
abbrev pub most_grains_of : Order → ℕ
most_grains_of o = o.bound.0 / o.grain.0
