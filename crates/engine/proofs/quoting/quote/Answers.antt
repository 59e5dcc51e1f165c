use Rattle.std.proofs.Common.{subst}
use Rattle.segments.specs.Algebra.{algebra, laws}
use Rattle.engine.specs.Calls.{room_in, Searched}
use Rattle.engine.proofs.OrderAdmitted.{asked_of}
use Rattle.engine.proofs.QuoteAnswered.{quote_searched}
use Rattle.engine.proofs.quoting.quote.Goals as goal

pub returns-clause-call : goal.returns-clause-call
returns-clause-call g c =
    let net = g.M.Map.meaning c.args.map.now in
    let lawful = laws g.V.Ranking.good g.V.Tariff.joining g.met.V.Ranking.ranks g.met.V.Tariff.joins in
    let o = c.args.order in
    let room = room_in c.args.work.now in
    let none = asked_of net o c.of.result room _ c.of.ensures c.in_ok-terms.ensures.0 in
    let alg = algebra g.V.Ranking.good g.V.Tariff.joining in
    let told = subst (λ p. Searched net alg p c.args.list.now c.search_list.new.list c.search_list.result) c.in_ok-terms.ensures.1 c.search_list.ensures in
    quote_searched net alg o room c.args.list.now c.search_list.new.list c.search_list.result lawful none c.if-list-order.false told
