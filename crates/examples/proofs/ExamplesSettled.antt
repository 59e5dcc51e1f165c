-- The examples, each by a test that is computed.
use Rattle.std.proofs.Common.{ℕ, List, [], ◌∷◌, refl, inl, inr, arith}
use Rattle.examples.proofs.ComputedTests.{the}
use Rattle.tariff.specs.Costs.{cheaper, costs}
use Rattle.tariff.specs.Scarcities.{less_scarce, scarcities}
use Rattle.tariff.specs.CostLaws.{cost_ranks, cost_joins}
use Rattle.tariff.specs.ScarcityLaws.{scarcity_ranks, scarcity_joins}
use Rattle.tariff.specs.declared.cost.Cost.{Cost}
use Rattle.segments.specs.declared.figures.Leg.{Leg}
use Rattle.segments.specs.Algebra.{Laws, laws}
use Rattle.segments.specs.Segments.{Segment}
use Rattle.examples.specs.Examples.{Settled, cost, scarcity, net_a, net_b, net_c, net_d}
use Rattle.examples.proofs.PathPlans.{Plan, Planned, planned}
use Rattle.examples.proofs.SoundNets.{sound}
use Rattle.examples.proofs.ListsTried.{quoted_by, unserved_by, front_by}

cost_lawful : Laws cost
cost_lawful = laws cheaper costs cost_ranks cost_joins

scarcity_lawful : Laws scarcity
scarcity_lawful = laws less_scarce scarcities scarcity_ranks scarcity_joins

-- for each two nodes, the places of a best path from the first to the second: one is the slowest and the poorest at once
abbrev one : List ℕ → List ℕ × List ℕ
one ps = (ps, ps)

abbrev plan_a : Plan
plan_a = (one [] ∷ one (0 ∷ []) ∷ one (2 ∷ []) ∷ one (0 ∷ 1 ∷ []) ∷ []) ∷ (one [] ∷ one [] ∷ one [] ∷ one (1 ∷ []) ∷ []) ∷ (one [] ∷ one [] ∷ one [] ∷ one (3 ∷ []) ∷ []) ∷ []

-- of the two best paths from 0 to 3 the slow one
abbrev plan_b : Plan
plan_b = (one [] ∷ one (0 ∷ []) ∷ one (2 ∷ []) ∷ one (2 ∷ 3 ∷ []) ∷ []) ∷ (one [] ∷ one [] ∷ one [] ∷ one (1 ∷ []) ∷ []) ∷ (one [] ∷ one [] ∷ one [] ∷ one (3 ∷ []) ∷ []) ∷ []

abbrev plan_c : Plan
plan_c = (one [] ∷ one (0 ∷ []) ∷ one (3 ∷ []) ∷ []) ∷ (one [] ∷ one [] ∷ one (2 ∷ []) ∷ []) ∷ []

-- the slow one, and the poor one
abbrev plan_d : Plan
plan_d = (one [] ∷ one (0 ∷ []) ∷ one (2 ∷ []) ∷ (2 ∷ 3 ∷ [], 0 ∷ 1 ∷ []) ∷ []) ∷ (one [] ∷ one [] ∷ one [] ∷ one (1 ∷ []) ∷ []) ∷ (one [] ∷ one [] ∷ one [] ∷ one (3 ∷ []) ∷ []) ∷ []

cost_a : Planned net_a cost plan_a
cost_a = the (planned net_a cost plan_a cost_lawful) tt

scarcity_a : Planned net_a scarcity plan_a
scarcity_a = the (planned net_a scarcity plan_a scarcity_lawful) tt

cost_b : Planned net_b cost plan_b
cost_b = the (planned net_b cost plan_b cost_lawful) tt

scarcity_d : Planned net_d scarcity plan_d
scarcity_d = the (planned net_d scarcity plan_d scarcity_lawful) tt

scarcity_c : Planned net_c scarcity plan_c
scarcity_c = the (planned net_c scarcity plan_c scarcity_lawful) tt

-- the codes that lead to the values of the slots 1, 4 and 8
abbrev codes_a : List (List ℕ)
codes_a = [] ∷ (260 ∷ []) ∷ [] ∷ [] ∷ (2 ∷ 3 ∷ []) ∷ [] ∷ [] ∷ [] ∷ (3 ∷ []) ∷ []

own_node : (h : Leg Cost) → Segment net_a cost 0 0 h → ⊥
own_node h (inl s) = s.other refl
own_node h (inr s) = omega (arith, s.low)

pub settled : Settled
settled =
    let a = quoted_by net_a cost cost_lawful plan_a cost_a in
    let b = quoted_by net_b cost cost_lawful plan_b cost_b in
    record {
      sound = (the (sound net_a) tt, the (sound net_b) tt, the (sound net_c) tt, the (sound net_d) tt);
      a_8000 = a _ _ _ tt;
      a_7999 = a _ _ _ tt;
      a_4000 = a _ _ _ tt;
      a_3999 = a _ _ _ tt;
      a_1000 = a _ _ _ tt;
      a_999 = unserved_by net_a cost cost_lawful plan_a cost_a _ tt;
      a_short = a _ _ _ tt;
      a_self = a _ _ _ tt;
      a_scarce = quoted_by net_a scarcity scarcity_lawful plan_a scarcity_a _ _ _ tt;
      a_front = front_by net_a cost cost_lawful plan_a cost_a _ codes_a _ tt;
      b_two = b _ _ _ tt;
      b_one = b _ _ _ tt;
      b_999 = unserved_by net_b cost cost_lawful plan_b cost_b _ tt;
      d_scarce = quoted_by net_d scarcity scarcity_lawful plan_d scarcity_d _ _ _ tt;
      c_scarce = quoted_by net_c scarcity scarcity_lawful plan_c scarcity_c _ _ _ tt;
      a_own = record { inside = omega arith; legs = []; legal = tt; illegal = own_node };
    }
