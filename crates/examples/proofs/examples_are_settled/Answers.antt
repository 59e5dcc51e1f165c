use Rattle.examples.proofs.ExamplesSettled.{settled}
use Rattle.examples.proofs.examples_are_settled.Goals as goal

pub returns : goal.returns
returns c = settled
