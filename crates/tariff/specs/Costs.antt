-- The cost tariff.
use Rattle.std.specs.Prelude.{ℕ, ◌+◌, ◌≤◌, min, Bool, nat_le}
use Rattle.std.proofs.Common.{arith}
use Rattle.tariff.specs.declared.cost.Cost.{Cost}
use Rattle.tariff.specs.Joinings.{Joining}

pub capped : (n : ℕ) → min n 4294967295 ≤ 4294967295
capped n = omega arith

-- a sum above the largest number becomes that number
abbrev pub cost_of : ℕ → Cost
cost_of n = record { weight = min n 4294967295; fits = capped n }

abbrev pub cheaper : Cost → Cost → Bool
cheaper a b = nat_le a.weight b.weight

abbrev pub costs : Joining Cost
costs = record {
  neutral = cost_of 0;
  of_link = λ l. cost_of l.weight;
  join = λ a b. cost_of (a.weight + b.weight);
}
