use Rattle.std.proofs.Common.{◌≡◌, sym, subst, arith}
use Rattle.segments.specs.Algebra.{algebra}
use Rattle.engine.specs.Cells.{Row, best_of}
use Rattle.engine.proofs.LevelsFilled.{fill_step}
use Rattle.engine.proofs.search.Search.fill.Goals as goal

pub loop-l-init : goal.loop-l-init
loop-l-init g c m h =
    let net = g.M.Map.meaning c.args.self.now.routes.map.now in
    let e : m ≡ 0 = omega arith in
    subst (λ j. Row net (algebra g.V.Ranking.good g.V.Tariff.joining) c.args.self.now.grain.length.0 c.args.target c.args.self.now.top j (best_of c.args.self.now.routes.nodes c.args.self.now.top c.fill_first.new.table j)) (sym e) (c.fill_first.ensures net c.args.self.now.grain.length.0 c.requires.routed.nodes)

pub loop-l-preserved : goal.loop-l-preserved
loop-l-preserved g c = fill_step (g.M.Map.meaning c.args.self.now.routes.map.now) (algebra g.V.Ranking.good g.V.Tariff.joining) c.args.self.now.grain.length.0 c.args.target c.args.self.now.routes.nodes c.args.self.now.top c.loop-l.l c.loop-l.table c.fill_level.new.table c.requires.routed.nodes c.loop-l.invariant c.fill_level.ensures
