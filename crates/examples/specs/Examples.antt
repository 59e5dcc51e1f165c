-- Examples of quotes, fronts and walks on small networks.
use Rattle.std.specs.Prelude.{ℕ, List, [], ◌∷◌, Some, None, Option}
use Rattle.netmap.specs.declared.link.Link.{Link}
use Rattle.netmap.specs.Net.{Net, Sound}
use Rattle.tariff.specs.declared.cost.Cost.{Cost}
use Rattle.tariff.specs.declared.scarcity.Scarcity.{Scarcity}
use Rattle.tariff.specs.Costs.{cheaper, costs, cost_of}
use Rattle.tariff.specs.Scarcities.{less_scarce, scarcities, scarcity_of}
use Rattle.segments.specs.Algebra.{Algebra, algebra}
use Rattle.segments.specs.Walks.{Stuck}
use Rattle.segments.specs.declared.order.Order.{Order}
use Rattle.segments.specs.declared.figures.Figures.{Figures}
use Rattle.engine.specs.Quotes.{Quoted, Unserved}
use Rattle.engine.specs.Fronts.{Had}
use Rattle.keeper.specs.Fronts.{Front}

abbrev pub cost : Algebra Cost
cost = algebra cheaper costs

abbrev pub scarcity : Algebra Scarcity
scarcity = algebra less_scarce scarcities

-- from tail to head: weight, delay and figure
abbrev link : ℕ → ℕ → ℕ → ℕ → ℕ → Option Link
link tail head weight delay figure = Some (record { tail = tail; head = head; weight = weight; delay = record { 0 = delay }; figure = figure })

abbrev net_of : ℕ → List (Option Link) → Net
net_of nodes links = record { nodes = nodes; links = links }

-- two ways of two links, and a direct one
abbrev pub net_a : Net
net_a = net_of 4 (link 0 1 1 4000 10 ∷ link 1 3 1 4000 40 ∷ link 0 2 1 1500 20 ∷ link 2 3 2 1500 20 ∷ link 0 3 5 900 30 ∷ [])

-- two best paths, one of them slow
abbrev pub net_b : Net
net_b = net_of 4 (link 0 1 1 100 1 ∷ link 1 3 1 100 1 ∷ link 0 2 1 100 1 ∷ link 2 3 1 900 1 ∷ [])

-- two links side by side
abbrev pub net_c : Net
net_c = net_of 3 (link 0 1 1 1000 5 ∷ link 0 1 2 1000 2 ∷ link 1 2 1 1000 9 ∷ link 0 2 1 5000 20 ∷ [])

-- two best paths, one of them slow and the other scarce
abbrev pub net_d : Net
net_d = net_of 4 (link 0 1 1 100 1 ∷ link 1 3 1 100 7 ∷ link 0 2 1 100 1 ∷ link 2 3 1 900 1 ∷ [])

abbrev pub order : ℕ → ℕ → ℕ → ℕ → ℕ → Order
order source target limit grain bound = record { index = 0; source = source; target = target; bound = record { 0 = bound }; limit = record { 0 = limit }; grain = record { 0 = grain } }

abbrev pub figures : {V : Type 0} → V → ℕ → ℕ → ℕ → Figures V
figures value grains delay labels = record { value = value; grains = record { 0 = grains }; delay = record { 0 = delay }; labels = record { 0 = labels } }

abbrev pub slots_a : List (Option Cost)
slots_a = None ∷ Some (cost_of 5) ∷ None ∷ None ∷ Some (cost_of 3) ∷ None ∷ None ∷ None ∷ Some (cost_of 2) ∷ None ∷ None ∷ []

pub record Settled : Type 0 where
  pub sound : Sound net_a × Sound net_b × Sound net_c × Sound net_d
  pub a_8000 : Quoted net_a cost (order 0 3 2 1000 8000) (3 ∷ []) (figures (cost_of 2) 8 8000 1)
  pub a_7999 : Quoted net_a cost (order 0 3 2 1000 7999) (2 ∷ 3 ∷ []) (figures (cost_of 3) 4 3000 2)
  pub a_4000 : Quoted net_a cost (order 0 3 2 1000 4000) (2 ∷ 3 ∷ []) (figures (cost_of 3) 4 3000 2)
  pub a_3999 : Quoted net_a cost (order 0 3 2 1000 3999) (260 ∷ []) (figures (cost_of 5) 1 900 1)
  pub a_1000 : Quoted net_a cost (order 0 3 2 1000 1000) (260 ∷ []) (figures (cost_of 5) 1 900 1)
  pub a_999 : Unserved net_a cost (order 0 3 2 1000 999)
  pub a_short : Quoted net_a cost (order 0 3 1 1000 7999) (260 ∷ []) (figures (cost_of 5) 1 900 1)
  pub a_self : Quoted net_a cost (order 0 0 2 1000 0) [] (figures (cost_of 0) 0 0 0)
  pub a_scarce : Quoted net_a scarcity (order 0 3 2 1000 10000) (2 ∷ 3 ∷ []) (figures (scarcity_of 20) 4 3000 2)
  pub a_front : Front cost.as_good (Had net_a cost (order 0 3 2 1000 10000)) slots_a
  pub b_two : Quoted net_b cost (order 0 3 2 100 1000) (1 ∷ 3 ∷ []) (figures (cost_of 2) 2 200 2)
  pub b_one : Quoted net_b cost (order 0 3 1 100 1000) (3 ∷ []) (figures (cost_of 2) 10 1000 1)
  pub b_999 : Unserved net_b cost (order 0 3 1 100 999)
  pub c_scarce : Quoted net_c scarcity (order 0 2 2 1000 2000) (1 ∷ 2 ∷ []) (figures (scarcity_of 9) 2 2000 2)
  pub d_scarce : Quoted net_d scarcity (order 0 3 1 100 1000) (3 ∷ []) (figures (scarcity_of 7) 10 1000 1)
  -- a node code is illegal at its own node
  pub a_own : Stuck net_a cost 0 1000 (0 ∷ []) 0
