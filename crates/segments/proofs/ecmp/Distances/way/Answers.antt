use Rattle.std.proofs.Common.{sym, subst}
use Rattle.segments.specs.Algebra.{algebra}
use Rattle.segments.specs.Spreads.{FiguresOf}
use Rattle.segments.proofs.FiguresSmall.{ecmp_small}
use Rattle.segments.proofs.ecmp.Distances.way.Goals as goal

pub go_on-requires-clause-own : goal.go_on-requires-clause-own
go_on-requires-clause-own g c =
    let net = g.M.Map.meaning c.args.self.now.map.now in
    let sound = g.M.Map.sound c.args.self.now.map.now in
    (sound.each c.args.place c.in_ok-link.link c.in_ok-link.ensures.0).delay

pub go_on-requires-clause-rest : goal.go_on-requires-clause-rest
go_on-requires-clause-rest g c =
    let net = g.M.Map.meaning c.args.self.now.map.now in
    let sound = g.M.Map.sound c.args.self.now.map.now in
    let alg = algebra g.V.Ranking.good g.V.Tariff.joining in
    let l = c.in_ok-link.link in
    let t = c.in_ok-link.ensures in
    let rest = c.in_ok-rest.rest in
    let f = subst (FiguresOf net alg l.head c.args.v) (sym c.in_ok-rest.ensures) (c.requires.heads l t.1) in
    ecmp_small net alg sound l.head c.args.v rest.delay.0 rest.value (sound.each c.args.place l t.0).head f

pub returns : goal.returns
returns g c =
    let net = g.M.Map.meaning c.args.self.now.map.now in
    let alg = algebra g.V.Ranking.good g.V.Tariff.joining in
    let l = c.in_ok-link.link in
    let t = c.in_ok-link.ensures in
    let f = subst (FiguresOf net alg l.head c.args.v) (sym c.in_ok-rest.ensures) (c.requires.heads l t.1) in
    (l, c.in_ok-rest.rest, t.0, t.1, f, c.go_on.ensures)
