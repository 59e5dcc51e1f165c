use Rattle.std.proofs.Common.{arith}
use Rattle.segments.specs.Algebra.{algebra, laws}
use Rattle.segments.proofs.FiguresGathered.{gathered_same, gathered_more, gathered_figures}
use Rattle.segments.proofs.ecmp.Distances.gather.Goals as goal
use Rattle.segments.proofs.ecmp.Distances.gather.Goals.{in-Some, in_default}

pub loop-place-preserved : goal.loop-place-preserved
loop-place-preserved g c =
    let net = g.M.Map.meaning c.args.self.now.map.now in
    let alg = algebra g.V.Ranking.good g.V.Tariff.joining in
    let lawful = laws g.V.Ranking.good g.V.Tariff.joining g.met.V.Ranking.ranks g.met.V.Tariff.joins in
    let u = c.args.u in
    let v = c.args.v in
    let p = c.loop-place.place in
    let found = c.loop-place.found in
    elim c.match-way.branch [
      | in-Some w ↦ gathered_more net alg u v lawful p found c.match-way.found w.in-Some.way w.worse.result w.in-Some.ensures w.worse.ensures w.found-is c.loop-place.invariant
      | in_default w ↦ gathered_same net alg u v p found c.match-way.found w.in_default.ensures w.found-is c.loop-place.invariant
    ]

pub returns : goal.returns
returns g c =
    let net = g.M.Map.meaning c.args.self.now.map.now in
    let sound = g.M.Map.sound c.args.self.now.map.now in
    let alg = algebra g.V.Ranking.good g.V.Tariff.joining in
    let lawful = laws g.V.Ranking.good g.V.Tariff.joining g.met.V.Ranking.ranks g.met.V.Tariff.joins in
    gathered_figures net alg c.args.u c.args.v lawful sound c.args.self.now.nodes c.args.self.now.slots.now c.args.spread.now c.requires.measured c.requires.heads c.requires.from c.requires.to c.requires.other
    c.loop-place.place (omega (arith, c.loop-place-test.false, c.places-place-end.ensures)) c.loop-place.found c.loop-place.invariant
