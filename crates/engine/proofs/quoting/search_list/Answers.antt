use Rattle.std.proofs.Common.{◌≡◌, ◌<◌, ◌≤◌, Ok, Err, ap, ◌∙◌, subst, arith}
use Rattle.netmap.specs.declared.link.Microseconds.{Microseconds}
use Rattle.segments.specs.declared.units.Grain.{Grain}
use Rattle.segments.specs.declared.figures.Figures.{Figures}
use Rattle.segments.specs.Algebra.{algebra, laws}
use Rattle.engine.specs.Calls.{Searched}
use Rattle.engine.proofs.QuoteAnswered.{searched_none, searched_some}
use Rattle.engine.proofs.quoting.search_list.Goals as goal

pub rebuild-delay-requires-clause-filled : goal.rebuild-delay-requires-clause-filled
rebuild-delay-requires-clause-filled g c = (c.args.terms.order.target, λ m h. c.of-cells.ensures.filled m (omega (arith, h, c.in-Some.ensures.0.0)))

pub returns-in_default : goal.returns-in_default
returns-in_default g c =
    let net = g.M.Map.meaning c.of-cells.result.search.routes.map.now in
    let alg = algebra g.V.Ranking.good g.V.Tariff.joining in
    let lawful = laws g.V.Ranking.good g.V.Tariff.joining g.met.V.Ranking.ranks g.met.V.Tariff.joins in
    let t = c.args.terms in
    let cells = c.of-cells.result in
    let s = cells.search in
    let is = c.of-cells.ensures in
    let grain : s.grain.length.0 ≡ t.order.grain.0 = ap (λ (k : Grain). k.length.0) is.grain ∙ ap (λ (m : Microseconds). m.0) t.grain_is in
    let node : t.order.source < net.nodes = omega (arith, cells.node, is.source, is.routed.nodes) in
    let one : 1 ≤ t.order.grain.0 = omega (arith, s.grain.some, grain) in
    subst (λ m. Searched (g.M.Map.meaning m) alg t.order c.args.list.now c.args.list.now (Err c.new.result)) is.map
    (searched_none net alg lawful (g.M.Map.sound s.routes.map.now) t.order s.grain.length.0 s.routes.nodes s.top cells.limit cells.source grain (is.top ∙ t.top_is) is.limit is.source node one cells.table.now is.filled c.args.list.now c.new.result c.new.ensures c.in_default.ensures)

pub returns : goal.returns
returns g c =
    let net = g.M.Map.meaning c.of-cells.result.search.routes.map.now in
    let alg = algebra g.V.Ranking.good g.V.Tariff.joining in
    let lawful = laws g.V.Ranking.good g.V.Tariff.joining g.met.V.Ranking.ranks g.met.V.Tariff.joins in
    let t = c.args.terms in
    let cells = c.of-cells.result in
    let s = cells.search in
    let is = c.of-cells.ensures in
    let grain : s.grain.length.0 ≡ t.order.grain.0 = ap (λ (k : Grain). k.length.0) is.grain ∙ ap (λ (m : Microseconds). m.0) t.grain_is in
    let node : t.order.source < net.nodes = omega (arith, cells.node, is.source, is.routed.nodes) in
    let one : 1 ≤ t.order.grain.0 = omega (arith, s.grain.some, grain) in
    let k = c.in-Some.choice in
    let figures : Figures g.row.V.Denot = record { value = k.value; grains = record { 0 = k.grains }; delay = record { 0 = c.rebuild-delay.result }; labels = record { 0 = k.entries } } in
    subst (λ m. Searched (g.M.Map.meaning m) alg t.order c.args.list.now c.rebuild-delay.new.list (Ok figures)) is.map
    (searched_some net alg lawful (g.M.Map.sound s.routes.map.now) t.order s.grain.length.0 s.routes.nodes s.top cells.limit cells.source grain (is.top ∙ t.top_is) is.limit is.source node one cells.table.now is.filled k c.rebuild-delay.result c.args.list.now c.rebuild-delay.new.list c.in-Some.ensures c.rebuild-delay.ensures)
