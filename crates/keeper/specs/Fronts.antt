-- The Pareto front of pairs of grains and value, as a row of slots holds it.
use Rattle.std.specs.Prelude.{◌≡◌, ℕ, ◌≤◌, Bool, T, List, Some, None, Option, slice_index_or}

-- the slots of a front as the pairs of grains and value that they hold
abbrev pub InSlot : {V : Type 0} → List (Option V) → ℕ → V → Type 0
InSlot slots d x = slice_index_or slots d None ≡ Some x

-- no different pair of P is as good in both; better-or-equal is the ranking of values
pub record Optimal {V : Type 0} (as_good : V → V → Bool) (P : ℕ → V → Type 0) (d : ℕ) (x : V) : Type 0 where
  pub member : P d x
  pub best : (e : ℕ) (y : V) → P e y → e ≤ d → T (as_good y x) → (e ≡ d) × (y ≡ x)

-- the slots hold the Pareto front of P, and no other pair
pub record Front {V : Type 0} (as_good : V → V → Bool) (P : ℕ → V → Type 0) (slots : List (Option V)) : Type 0 where
  pub sound : (d : ℕ) (x : V) → InSlot slots d x → Optimal as_good P d x
  pub complete : (d : ℕ) (x : V) → Optimal as_good P d x → InSlot slots d x
