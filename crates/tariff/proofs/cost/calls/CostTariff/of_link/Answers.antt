use Rattle.std.proofs.Common.{rules}
use Rattle.tariff.specs.CostLaws.{cost_path}
use Rattle.tariff.proofs.cost.calls.CostTariff.of_link.Goals as goal

pub returns : goal.returns
returns c = cost_path _ _ (search rules)
