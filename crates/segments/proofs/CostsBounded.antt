-- Under the cost tariff a list costs at most the weights of the links on its best paths.
use Rattle.std.proofs.Common.{ℕ, ◌+◌, ◌-◌, ◌*◌, ◌≤◌, List, [], ◌∷◌, map, length, ap, inl, inr, arith}
use Rattle.netmap.specs.declared.link.Link.{Link}
use Rattle.netmap.specs.Net.{Net, Sound}
use Rattle.tariff.specs.Costs.{cheaper, costs, cost_of}
use Rattle.tariff.specs.declared.cost.Cost.{Cost}
use Rattle.segments.specs.declared.figures.Leg.{Leg}
use Rattle.segments.specs.Algebra.{Algebra, algebra, joined_from}
use Rattle.segments.specs.Paths.{total_weight, path_value}
use Rattle.segments.specs.Segments.{Segment, SegmentList}
use Rattle.segments.specs.Theorems.{CostsBounded}
use Rattle.segments.proofs.BestPathsShort.{best_small}
use Rattle.segments.proofs.NodesReached.{tail_node}

abbrev cost_algebra : Algebra Cost
cost_algebra = algebra cheaper costs

abbrev weights : List Cost → ℕ
weights [] = 0
weights (x ∷ xs) = x.weight + weights xs

joined_weights : (a : Cost) (xs : List Cost) → (joined_from cost_algebra a xs).weight ≤ a.weight + weights xs
joined_weights a [] = omega arith
joined_weights a (x ∷ xs) = omega (arith, joined_weights (cost_of (a.weight + x.weight)) xs)

link_weights : (ls : List Link) → weights (map (λ l. cost_of l.weight) ls) ≤ total_weight ls
link_weights [] = omega arith
link_weights (l ∷ ls) = omega (arith, link_weights ls)

path_cost : (ls : List Link) → (path_value cost_algebra ls).weight ≤ total_weight ls
path_cost ls = omega (arith, joined_weights (cost_of 0) (map (λ l. cost_of l.weight) ls), link_weights ls)

module _ (net : Net) (sound : Sound net) where
  -- 63 links of a weight of 65,535
  segment_cost : (u c : ℕ) (h : Leg Cost) → Segment net cost_algebra u c h → h.value.weight ≤ 4128705
  segment_cost u c h (inl s) =
      let b = s.spread.value_met in
      let nu = tail_node net sound u c b.0 s.other b.1.path in
      omega (arith, ap (λ x. x.weight) b.2, path_cost b.0, (best_small net sound u c b.0 nu b.1).0)
  segment_cost u c h (inr s) = omega (arith, ap (λ x. x.weight) s.value, (sound.each (c - 256) s.link s.filled).weight_high)

  list_weights : (u : ℕ) (cs : List ℕ) (hs : List (Leg Cost)) → SegmentList net cost_algebra u cs hs → weights (map (λ h. h.value) hs) ≤ 4128705 * length cs
  list_weights u [] [] p = omega arith
  list_weights u [] (h ∷ hs) p = absurd p
  list_weights u (c ∷ cs) [] p = absurd p
  list_weights u (c ∷ cs) (h ∷ hs) p = omega (arith, segment_cost u c h p.0, list_weights h.to cs hs p.1)

pub costs_bounded : CostsBounded
costs_bounded net sound u cs hs p short = omega (arith, joined_weights (cost_of 0) (map (λ h. h.value) hs), list_weights net sound u cs hs p)
