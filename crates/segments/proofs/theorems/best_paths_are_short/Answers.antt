use Rattle.segments.proofs.BestPathsShort.{best_paths_short}
use Rattle.segments.proofs.theorems.best_paths_are_short.Goals as goal

pub returns : goal.returns
returns c = best_paths_short
