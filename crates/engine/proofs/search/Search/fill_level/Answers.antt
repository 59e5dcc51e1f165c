use Rattle.std.proofs.Common.{◌≡◌, ◌+◌, ◌≤◌, length, drop, ◌∙◌, subst, arith}
use Rattle.std.proofs.lemmas.List.{length-take-le}
use Rattle.segments.specs.Algebra.{algebra}
use Rattle.engine.specs.Cells.{LevelTo}
use Rattle.engine.proofs.CellPlaces.{slot_end}
use Rattle.engine.proofs.LevelsFilled.{level_more}
use Rattle.engine.proofs.search.Search.fill_level.Goals as goal

pub loop-v-preserved : goal.loop-v-preserved
loop-v-preserved g c =
    let n = c.args.self.now.routes.nodes in
    let top = c.args.self.now.top in
    let l = c.args.l in
    let v = c.loop-v.v in
    let room : top + 1 ≤ length c.split_at_mut-below.result.1.now = omega (arith, c.place.ensures, slot_end n top (l + 1) v top (l + 2) (omega arith) c.loop-v-test.true (omega arith), c.requires.room, c.loop-v.auto.table, c.split_at_mut-below.ensures.back_len) in
    let parts = c.split_at_mut-below.result in
    let cut : length c.fill_row.new.row ≡ top + 1 = c.fill_row.auto.row ∙ length-take-le (top + 1) parts.1.now room in
    level_more (g.M.Map.meaning c.args.self.now.routes.map.now) (algebra g.V.Ranking.good g.V.Tariff.joining) c.args.self.now.grain.length.0 n top l v c.place.result c.args.table.now c.loop-v.table parts.0.now c.fill_row.new.row (drop (top + 1) parts.1.now)
    c.requires.routed.nodes c.place.ensures c.split_at_mut-below.ensures.front c.split_at_mut-below.ensures.front_len cut c.loop-v.invariant c.fill_row.ensures

pub returns : goal.returns
returns g c =
    let e : c.loop-v.v ≡ c.args.self.now.routes.nodes = omega (arith, c.loop-v-test.false, c.loop-v.auto.v-end) in
    subst (λ v. LevelTo (g.M.Map.meaning c.args.self.now.routes.map.now) (algebra g.V.Ranking.good g.V.Tariff.joining) c.args.self.now.grain.length.0 c.args.self.now.routes.nodes c.args.self.now.top c.args.l v c.args.table.now c.loop-v.table) e c.loop-v.invariant
