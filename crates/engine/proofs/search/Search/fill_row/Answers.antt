use Rattle.std.proofs.Common.{◌≡◌, ◌+◌, ◌-◌, ◌≤◌, length, take, drop, sym, ◌∙◌, subst, arith}
use borrow.Author.Rules.{scaled_fits≤}
use borrow.Rule.Slice.PartMut.{mid_len}
use Rattle.segments.specs.Algebra.{algebra, laws}
use Rattle.engine.specs.Cells.{slot, best_of}
use Rattle.engine.proofs.CellPlaces.{rests_below, rests_read}
use Rattle.engine.proofs.RowFilled.{RowTo, row_none, row_far, row_more, row_cells}
use Rattle.engine.proofs.search.Search.fill_row.Goals as goal
use Rattle.engine.proofs.search.Search.fill_row.Goals.{in-Some+then-hop-self, in-Some+else-hop-self, in_default}

pub offset_bounds-row-hop : goal.offset_bounds-row-hop
offset_bounds-row-hop g c =
    let h : c.in-Some.hop.grains ≤ length c.args.row.now = omega (arith, c.if-hop-self.true, c.requires.long) in
    scaled_fits≤ c.in-Some.hop.grains (length c.args.row.now) _ h (omega arith)

pub improve-requires : goal.improve-requires
improve-requires g c =
    let n = c.args.self.now.routes.nodes in
    let top = c.args.self.now.top in
    let l = c.args.l in
    let below = c.args.below.now in
    let xs = c.loop-code.row in
    let from = c.place-rests.result in
    let h = c.in-Some.hop in
    let is : from ≡ slot n top l h.leg.to 0 = c.place-rests.ensures in
    let inside = rests_below n top l h.leg.to from (length below) (omega (arith, c.in-Some.ensures.on, c.requires.routed.nodes)) is c.requires.room in
    let long : length xs ≡ top + 1 = c.loop-code.auto.row ∙ c.fill.auto.self ∙ c.requires.long in
    omega (arith, inside, long, c.if-hop-self.true, mid_len from (length below) below (omega arith), mid_len h.grains (length xs) xs (omega arith))

pub loop-code-preserved : goal.loop-code-preserved
loop-code-preserved g c =
    let net = g.M.Map.meaning c.args.self.now.routes.map.now in
    let alg = algebra g.V.Ranking.good g.V.Tariff.joining in
    let lawful = laws g.V.Ranking.good g.V.Tariff.joining g.met.V.Ranking.ranks g.met.V.Tariff.joins in
    let grain = c.args.self.now.grain.length.0 in
    let n = c.args.self.now.routes.nodes in
    let top = c.args.self.now.top in
    let l = c.args.l in
    let v = c.args.v in
    let k = c.loop-code.code in
    let below = c.args.below.now in
    let xs = c.loop-code.row in
    let row = best_of n top below l in
    elim c.match-hop.branch [
      | in-Some+then-hop-self w ↦
          let from = w.place-rests.result in
          let h = w.in-Some.hop in
          let is : from ≡ slot n top l h.leg.to 0 = w.place-rests.ensures in
          let inside = rests_below n top l h.leg.to from (length below) (omega (arith, w.in-Some.ensures.on, c.requires.routed.nodes)) is c.requires.room in
          let long : length xs ≡ top + 1 = c.loop-code.auto.row ∙ c.fill.auto.self ∙ c.requires.long in
          let cut : length w.improve.new.row ≡ length xs - h.grains = w.improve.auto.row ∙ mid_len h.grains (length xs) xs (omega arith) in
          subst (RowTo net alg grain top row v (k + 1)) (sym w.row-is)
          (row_more net alg lawful grain top row v k xs c.loop-code.invariant h w.in-Some.ensures (take (length below - from) (drop from below)) w.improve.new.row w.if-hop-self.true long cut (rests_read n top l h.leg.to from below is inside) w.improve.ensures)
      | in-Some+else-hop-self w ↦
          subst (RowTo net alg grain top row v (k + 1)) (sym w.row-is)
          (row_far net alg lawful grain top row v k xs c.loop-code.invariant w.in-Some.hop w.in-Some.ensures w.if-hop-self.false)
      | in_default w ↦ subst (RowTo net alg grain top row v (k + 1)) (sym w.row-is) (row_none net alg lawful grain top row v k xs c.loop-code.invariant w.in_default.ensures)
    ]

pub returns : goal.returns
returns g c =
    row_cells (g.M.Map.meaning c.args.self.now.routes.map.now) (algebra g.V.Ranking.good g.V.Tariff.joining) (laws g.V.Ranking.good g.V.Tariff.joining g.met.V.Ranking.ranks g.met.V.Tariff.joins) (g.M.Map.sound c.args.self.now.routes.map.now)
    c.args.self.now.grain.length.0 c.args.self.now.top c.args.l c.args.v c.loop-code.code (best_of c.args.self.now.routes.nodes c.args.self.now.top c.args.below.now c.args.l) c.loop-code.row (omega (arith, c.requires.node, c.requires.routed.nodes)) c.loop-code-test.false c.loop-code.invariant
