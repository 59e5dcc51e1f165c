use Rattle.std.proofs.Common.{◌≡◌, ap, ◌∙◌, subst}
use Rattle.netmap.specs.declared.link.Microseconds.{Microseconds}
use Rattle.segments.specs.declared.units.Grain.{Grain}
use Rattle.segments.specs.Algebra.{algebra, laws}
use Rattle.engine.specs.Calls.{room_of}
use Rattle.engine.specs.Cells.{cells_at, FilledTo}
use Rattle.engine.specs.Chosen.{Whole}
use Rattle.engine.specs.Offers.{Gathered}
use Rattle.engine.proofs.FrontFilled.{front_returned}
use Rattle.engine.proofs.pareto.search_front.Goals as goal

pub returns : goal.returns
returns g c =
    let net = g.M.Map.meaning c.args.map.now in
    let alg = algebra g.V.Ranking.good g.V.Tariff.joining in
    let lawful = laws g.V.Ranking.good g.V.Tariff.joining g.met.V.Ranking.ranks g.met.V.Tariff.joins in
    let o = c.args.terms.order in
    let room = room_of c.args.dist.now c.args.spread.now c.args.table.now in
    let cells = c.of-cells.result in
    let is = c.of-cells.ensures in
    let n = cells.search.routes.nodes in
    let top = c.args.terms.top in
    let grain : cells.search.grain.length.0 ≡ o.grain.0 = ap (λ (k : Grain). k.length.0) is.grain ∙ ap (λ (m : Microseconds). m.0) c.args.terms.grain_is in
    let filled = subst (λ m. FilledTo (g.M.Map.meaning m) alg cells.search.grain.length.0 o.target n cells.search.top cells.limit cells.table.now) is.map is.filled in
    let filled' = subst (λ t. FilledTo net alg cells.search.grain.length.0 o.target n t cells.limit cells.table.now) is.top filled in
    let gathered = subst (λ t. Gathered alg.as_good (cells_at n t cells.table.now cells.source) (Whole cells.limit t) c.gather.new.slots) is.top c.gather.ensures in
    front_returned net alg lawful (g.M.Map.sound c.args.map.now) o room cells.search.grain.length.0 n top cells.limit cells.source cells.table.now c.args.slots.now c.gather.new.slots c.count_held.result
    c.requires.granted grain c.args.terms.top_is is.limit is.source c.requires.space filled' gathered c.gather.auto.slots c.count_held.ensures
