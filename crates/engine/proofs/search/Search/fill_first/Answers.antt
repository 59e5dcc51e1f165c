use Rattle.std.proofs.Common.{◌≡◌, ℕ, ◌+◌, ◌*◌, ◌<◌, ◌++◌, length, drop, get_or, None, length-append, ◌∙◌, arith, rules}
use Rattle.std.proofs.lemmas.List.{length-take-le, get_or_append_left}
use Rattle.std.proofs.lemmas.Grind.{common_steps}
use Rattle.segments.specs.Algebra.{algebra, laws}
use Rattle.engine.proofs.LevelsFilled.{first_within, first_row}
use Rattle.engine.proofs.search.Search.fill_first.Goals as goal

pub offset_bounds-table-place : goal.offset_bounds-table-place
offset_bounds-table-place g c =
    let n = c.args.self.now.routes.nodes in
    let top = c.args.self.now.top in
    let t = c.args.target in
    let h : c.place.result < length c.args.table.now = omega (arith, c.place.ensures, first_within n top t c.requires.node, c.requires.room) in
    search rules

pub returns : goal.returns
returns g c =
    let n = c.args.self.now.routes.nodes in
    let top = c.args.self.now.top in
    let t = c.args.target in
    let k = n * (top + 1) in
    let table = c.args.table.now in
    let blank = c.fill.new.self in
    let empty : (d : ℕ) → get_or blank d None ≡ None = grind (arith, common_steps) in
    let cut : length blank ≡ k = c.fill.auto.self ∙ length-take-le k table c.requires.room in
    λ net grain nodes.
    first_row net (algebra g.V.Ranking.good g.V.Tariff.joining) (laws g.V.Ranking.good g.V.Tariff.joining g.met.V.Ranking.ranks g.met.V.Tariff.joins) grain t n top c.place.result c.neutral.result (blank ++ drop k table) nodes c.requires.node c.place.ensures c.neutral.ensures
    (omega (arith, cut, length-append blank (drop k table))) (λ i h. get_or_append_left blank (drop k table) None i (omega (arith, cut, h)) ∙ empty i)
