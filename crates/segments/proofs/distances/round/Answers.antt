use Rattle.std.proofs.Common.{arith}
use Rattle.segments.specs.Distances.{delays}
use Rattle.segments.proofs.RoundMade.{round_first, round_all, place_empty, place_filled}
use Rattle.segments.proofs.distances.round.Goals as goal
use Rattle.segments.proofs.distances.round.Goals.{in-Some, in_default}

pub loop-place-init : goal.loop-place-init
loop-place-init g c =
    let net = g.M.Map.meaning c.args.map.now in
    round_first net c.args.n c.args.dist.now (delays c.args.spread.now) c.requires.carried

pub loop-place-preserved : goal.loop-place-preserved
loop-place-preserved g c =
    let net = g.M.Map.meaning c.args.map.now in
    elim c.match-held.branch [
      | in-Some w ↦ place_filled net c.args.n c.args.dist.now c.loop-place.spread c.match-held.spread c.loop-place.place c.loop-place.invariant w.in-Some.link w.sweep.new.spread w.spread-is w.in-Some.ensures w.sweep.ensures
      | in_default w ↦ place_empty net c.args.n c.args.dist.now c.loop-place.spread c.match-held.spread c.loop-place.place c.loop-place.invariant w.spread-is w.in_default.ensures
    ]

pub returns : goal.returns
returns g c =
    let net = g.M.Map.meaning c.args.map.now in
    round_all net c.args.n c.args.dist.now (delays c.loop-place.spread) c.loop-place.place (omega (arith, c.loop-place-test.false, c.places-place-end.ensures)) c.loop-place.invariant
