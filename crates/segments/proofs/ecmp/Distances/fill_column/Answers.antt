use Rattle.std.proofs.Common.{◌+◌, ◌*◌, ◌<◌, ◌≤◌, sym, refl, subst, arith, lt_of_lt_of_le}
use lib.Arith.{digits_lt}
use Rattle.segments.specs.Algebra.{algebra}
use Rattle.segments.specs.Spreads.{Spared, bar_of, rank}
use Rattle.segments.proofs.ColumnsFilled.{FilledTo, key_small, filled_all, key_heads, filled_more, spared_more}
use Rattle.segments.proofs.NearestKeys.{key_node}
use Rattle.segments.proofs.NodesReached.{few_nodes}
use Rattle.segments.proofs.ecmp.Distances.fill_column.Goals as goal

pub figures_between-figures-requires-clause-heads : goal.figures_between-figures-requires-clause-heads
figures_between-figures-requires-clause-heads g c =
    let net = g.M.Map.meaning c.args.self.now.map.now in
    let sound = g.M.Map.sound c.args.self.now.map.now in
    let alg = algebra g.V.Ranking.good g.V.Tariff.joining in
    let few = few_nodes net sound c.args.self.now.nodes c.requires.measured.nodes in
    let l = c.loop-near in
    key_heads net alg c.args.self.now.nodes c.args.self.now.slots.now c.args.v sound c.requires.measured c.requires.to (bar_of l.last) l.spread l.invariant.0 few c.in-Some.near c.in-Some.ensures.node (c.in-Some.ensures.least c.args.v c.requires.column)

pub write_slot-requires : goal.write_slot-requires
write_slot-requires g c =
    let few = few_nodes (g.M.Map.meaning c.args.self.now.map.now) (g.M.Map.sound c.args.self.now.map.now) c.args.self.now.nodes c.requires.measured.nodes in
    let k = (c.in-Some.ensures.least c.args.v c.requires.column).0 in
    let n = c.args.self.now.nodes in
    let on : c.in-Some.near.node < n = omega (arith, (key_node few k c.in-Some.near c.in-Some.ensures.node refl).0, k.below) in
    lt_of_lt_of_le (digits_lt on c.requires.to) (subst (λ m. n * n ≤ m) (sym c.loop-near.auto.spread) c.requires.space)

pub loop-near-smaller : goal.loop-near-smaller
loop-near-smaller g c =
    let k = (c.in-Some.ensures.least c.args.v c.requires.column).0 in
    omega (arith, k.from, key_small (g.M.Map.meaning c.args.self.now.map.now) (g.M.Map.sound c.args.self.now.map.now) c.requires.measured c.requires.to k)

pub loop-near-preserved : goal.loop-near-preserved
loop-near-preserved g c =
    let net = g.M.Map.meaning c.args.self.now.map.now in
    let sound = g.M.Map.sound c.args.self.now.map.now in
    let alg = algebra g.V.Ranking.good g.V.Tariff.joining in
    let n = c.args.self.now.nodes in
    let dist = c.args.self.now.slots.now in
    let v = c.args.v in
    let few = few_nodes net sound n c.requires.measured.nodes in
    let l = c.loop-near in
    let k = c.in-Some.near in
    let small = c.in-Some.ensures.node in
    let least = c.in-Some.ensures.least c.args.v c.requires.column in
    let s = c.figures_between-figures.result in
    let wide = subst (λ m. n * n ≤ m) (sym l.auto.spread) c.requires.space in (
      subst (FilledTo net alg n dist v (rank k + 1)) (sym c.write_slot.ensures) (filled_more net alg n dist v sound c.requires.measured c.requires.to (bar_of l.last) l.spread l.invariant.0 few k small least s wide c.figures_between-figures.ensures),
      subst (Spared n v c.args.spread.now) (sym c.write_slot.ensures) (spared_more net alg n dist v sound c.requires.measured c.requires.to (bar_of l.last) l.spread l.invariant.0 few k small least s wide c.figures_between-figures.ensures c.args.spread.now l.invariant.1),
      small,
    )

pub returns-clause-done : goal.returns-clause-done
returns-clause-done g c =
    let net = g.M.Map.meaning c.args.self.now.map.now in
    let sound = g.M.Map.sound c.args.self.now.map.now in
    let alg = algebra g.V.Ranking.good g.V.Tariff.joining in
    filled_all net alg c.args.self.now.nodes c.args.self.now.slots.now c.args.v sound c.requires.measured c.requires.to (bar_of c.loop-near.last) c.loop-near.spread c.loop-near.invariant.0 (c.in_default.ensures.least c.args.v c.requires.column)
