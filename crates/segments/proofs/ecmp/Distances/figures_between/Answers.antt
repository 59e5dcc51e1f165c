use Rattle.std.proofs.Common.{sym, subst}
use Rattle.segments.specs.Algebra.{algebra, laws}
use Rattle.segments.specs.Paths.{Ecmp}
use Rattle.segments.proofs.EcmpFromHeads.{ecmp_self}
use Rattle.segments.proofs.ecmp.Distances.figures_between.Goals as goal

pub returns : goal.returns
returns g c =
    let net = g.M.Map.meaning c.args.self.now.map.now in
    let sound = g.M.Map.sound c.args.self.now.map.now in
    let alg = algebra g.V.Ranking.good g.V.Tariff.joining in
    let lawful = laws g.V.Ranking.good g.V.Tariff.joining g.met.V.Ranking.ranks g.met.V.Tariff.joins in
    let v = c.args.v in
    subst (λ u. Ecmp net alg u v 0 c.neutral.result) (sym c.if-u-v.false)
    (subst (λ x. Ecmp net alg v v 0 x) (sym c.neutral.ensures) (ecmp_self net alg lawful sound v))
