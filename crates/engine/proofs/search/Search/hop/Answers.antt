use Rattle.std.proofs.Common.{arith}
use Rattle.segments.specs.Algebra.{algebra}
use Rattle.engine.proofs.HopsBounded.{hop_at}
use Rattle.engine.proofs.search.Search.hop.Goals as goal

pub returns : goal.returns
returns g c =
    hop_at (g.M.Map.meaning c.args.self.now.routes.map.now) (algebra g.V.Ranking.good g.V.Tariff.joining) (g.M.Map.sound c.args.self.now.routes.map.now) c.args.self.now.grain.length.0 c.args.v c.args.code c.round_up-grains.result.0 c.in_ok-leg.leg (omega (arith, c.requires.node, c.requires.routed.nodes)) c.in_ok-leg.ensures c.round_up-grains.ensures
