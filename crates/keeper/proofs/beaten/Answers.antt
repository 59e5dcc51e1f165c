use Rattle.std.proofs.Common.{◌≡◌, ◌+◌, true, false, take, rules}
use Rattle.std.proofs.lemmas.Iterator.{cases_from_any, YieldsList-from_slice}
use borrow.Author.Tests.{tests}
use Rattle.keeper.proofs.SlotsCleared.{beats, beaten_answer}
use Rattle.keeper.proofs.beaten.Goals as goal

pub returns : goal.returns
returns g c =
    let test = beats g.V.Ranking.good c.args.value in
    let found = cases_from_any _ _ _ (λ s. test s ≡ true) (λ s. test s ≡ false) c.any.ensures.ran (YieldsList-from_slice (take (c.args.d + 1) c.args.slots.now) cc) (λ s q k. search (rules, tests)) (λ s q k. search (rules, tests)) in
    let told = beaten_answer g.V.Ranking.good c.args.value c.args.slots.now c.args.d c.any.result c.requires found in
    record { yes = told.0; none = told.1 }
