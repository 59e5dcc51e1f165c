use Rattle.segments.proofs.CostsBounded.{costs_bounded}
use Rattle.segments.proofs.theorems.list_costs_are_bounded.Goals as goal

pub returns : goal.returns
returns c = costs_bounded
