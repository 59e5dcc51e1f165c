use Rattle.std.proofs.Common.{subst}
use Rattle.segments.specs.Algebra.{algebra}
use Rattle.segments.specs.Walks.{WalkReply}
use Rattle.segments.proofs.WalkGranted.{walk_granted}
use Rattle.segments.proofs.walking.walk.Goals as goal

pub returns : goal.returns
returns g c =
    let net = g.M.Map.meaning c.args.map.now in
    let alg = algebra g.V.Ranking.good g.V.Tariff.joining in
    walk_granted net alg c.args.source c.args.grain.0 c.args.list.now c.args.dist.now c.route.new.dist c.args.spread.now c.route.new.spread c.nodes-nodes.result c.nodes-nodes.ensures c.follow.result c.in_ok-grain.ensures.0
    (subst (λ m. WalkReply net alg c.args.source m.0 c.args.list.now c.follow.result) c.in_ok-grain.ensures.1 c.follow.ensures)
