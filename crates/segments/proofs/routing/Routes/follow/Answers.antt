use Rattle.std.proofs.Common.{get_or, rules}
use Rattle.segments.specs.Algebra.{algebra}
use Rattle.segments.proofs.FiguresSmall.{segment_small}
use Rattle.segments.proofs.WalkSteps.{walked_more, walked_stuck}
use Rattle.segments.proofs.routing.Routes.follow.Goals as goal

pub extend-walked-requires-clause-step : goal.extend-walked-requires-clause-step
extend-walked-requires-clause-step g c =
    let net = g.M.Map.meaning c.args.self.now.map.now in
    let sound = g.M.Map.sound c.args.self.now.map.now in
    let alg = algebra g.V.Ranking.good g.V.Tariff.joining in
    segment_small net alg sound c.loop-i.walked.end (get_or c.args.list.now c.loop-i.i 0) c.in-Some.leg c.loop-i.invariant.end c.in-Some.ensures

pub returns-in_default : goal.returns-in_default
returns-in_default g c =
    let net = g.M.Map.meaning c.args.self.now.map.now in
    let sound = g.M.Map.sound c.args.self.now.map.now in
    let alg = algebra g.V.Ranking.good g.V.Tariff.joining in
    (c.loop-i.i, c.new.ensures, walked_stuck net alg c.args.source c.args.grain.length.0 c.args.list.now sound (search rules) c.loop-i.i c.loop-i-test.true c.loop-i.walked c.loop-i.invariant c.in_default.ensures)

pub loop-i-preserved : goal.loop-i-preserved
loop-i-preserved g c =
    let net = g.M.Map.meaning c.args.self.now.map.now in
    let sound = g.M.Map.sound c.args.self.now.map.now in
    let alg = algebra g.V.Ranking.good g.V.Tariff.joining in
    walked_more net alg c.args.source c.args.grain.length.0 c.args.list.now sound (search rules) c.loop-i.i c.loop-i-test.true c.loop-i.walked c.loop-i.invariant c.in-Some.leg c.extend-walked.result c.in-Some.ensures c.extend-walked.ensures
