-- The front of the values in a set of cells, which are offered one by one.
use Rattle.std.specs.Prelude.{◌≡◌, ℕ, Bool, List, Some, Option}
use Rattle.keeper.specs.Fronts.{Front}
use Rattle.keeper.specs.Keepers.{Pair, Accepted}

-- the slots hold the front of the cells (entries, grains) of S
pub record Gathered {V : Type 0} (good : V → V → Bool) (best : ℕ → ℕ → Option V) (S : ℕ → ℕ → Type 0) (slots : List (Option V)) : Type 0 where
  pub pairs : List (Pair V)
  pub front : Front good (Accepted pairs) slots
  pub only : (e : ℕ) (y : V) → Accepted pairs e y → (m : ℕ) × S m e × (best m e ≡ Some y)
  pub all : (m e : ℕ) (y : V) → S m e → best m e ≡ Some y → Accepted pairs e y
