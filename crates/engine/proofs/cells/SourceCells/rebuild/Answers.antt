use Rattle.std.proofs.Common.{arith}
use Rattle.segments.specs.Algebra.{algebra, laws}
use Rattle.engine.specs.Cells.{best_of}
use Rattle.engine.proofs.ListRebuilt.{list_start, list_some, list_step, list_end_of}
use Rattle.engine.proofs.cells.SourceCells.rebuild.Goals as goal

pub loop-i-init : goal.loop-i-init
loop-i-init g c =
    list_start (g.M.Map.meaning c.args.self.now.search.routes.map.now) (algebra g.V.Ranking.good g.V.Tariff.joining) (laws g.V.Ranking.good g.V.Tariff.joining g.met.V.Ranking.ranks g.met.V.Tariff.joins) (g.M.Map.sound c.args.self.now.search.routes.map.now) c.args.self.now.search.grain.length.0 c.args.self.now.search.top c.args.choice.value (best_of c.args.self.now.search.routes.nodes c.args.self.now.search.top c.args.self.now.table.now) c.args.choice.grains c.args.self.now.source c.args.choice.entries
    c.neutral-prefix.result c.args.list.now c.neutral-prefix.ensures (omega (arith, c.args.self.now.node, c.requires.routed.nodes)) c.requires.few c.requires.cell

pub seek-found-requires-clause-some : goal.seek-found-requires-clause-some
seek-found-requires-clause-some g c =
    list_some (g.M.Map.meaning c.args.self.now.search.routes.map.now) (algebra g.V.Ranking.good g.V.Tariff.joining) (laws g.V.Ranking.good g.V.Tariff.joining g.met.V.Ranking.ranks g.met.V.Tariff.joins) (g.M.Map.sound c.args.self.now.search.routes.map.now) c.args.self.now.search.grain.length.0 c.args.self.now.search.top c.args.choice.value (best_of c.args.self.now.search.routes.nodes c.args.self.now.search.top c.args.self.now.table.now) c.args.choice.grains c.args.self.now.source c.args.choice.entries c.loop-i.prefix c.loop-i.d c.loop-i.v c.loop-i.i c.loop-i.delay c.args.list.now c.loop-i.list c.loop-i.invariant c.loop-i-test.true c.requires.filled.0 c.requires.filled.1

pub loop-i-preserved : goal.loop-i-preserved
loop-i-preserved g c =
    list_step (g.M.Map.meaning c.args.self.now.search.routes.map.now) (algebra g.V.Ranking.good g.V.Tariff.joining) (laws g.V.Ranking.good g.V.Tariff.joining g.met.V.Ranking.ranks g.met.V.Tariff.joins) (g.M.Map.sound c.args.self.now.search.routes.map.now) c.args.self.now.search.grain.length.0 c.args.self.now.search.top c.args.choice.value (best_of c.args.self.now.search.routes.nodes c.args.self.now.search.top c.args.self.now.table.now) c.args.choice.grains c.args.self.now.source c.args.choice.entries
    c.loop-i.prefix c.loop-i.d c.loop-i.v c.loop-i.i c.loop-i.delay c.args.list.now c.loop-i.list c.loop-i.invariant c.loop-i-test.true
    c.seek-found.result c.join-prefix.result (omega (arith, c.loop-i-test.true, c.loop-i.auto.list, c.requires.space)) c.seek-found.ensures c.join-prefix.ensures

pub returns : goal.returns
returns g c =
    list_end_of (g.M.Map.meaning c.args.self.now.search.routes.map.now) (algebra g.V.Ranking.good g.V.Tariff.joining) (laws g.V.Ranking.good g.V.Tariff.joining g.met.V.Ranking.ranks g.met.V.Tariff.joins) (g.M.Map.sound c.args.self.now.search.routes.map.now) c.args.self.now.search.grain.length.0 c.args.self.now.search.top c.args.choice.value (best_of c.args.self.now.search.routes.nodes c.args.self.now.search.top c.args.self.now.table.now) c.args.choice.grains c.args.self.now.source c.args.choice.entries
    c.loop-i.prefix c.loop-i.d c.loop-i.v c.loop-i.i c.loop-i.delay c.args.list.now c.loop-i.list c.loop-i.invariant c.loop-i-test.false
