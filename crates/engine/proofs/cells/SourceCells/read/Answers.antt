use Rattle.std.proofs.Common.{◌<◌, length, get_or, None, sym, ap, ◌∙◌, arith}
use Rattle.std.proofs.lemmas.List.{get_or_read}
use borrow.Author.Rules.{scaled_fits≤}
use Rattle.engine.proofs.CellPlaces.{room_slot}
use Rattle.engine.proofs.cells.SourceCells.read.Goals as goal

pub offset_bounds-self-place : goal.offset_bounds-self-place
offset_bounds-self-place g c =
    let h : c.place.result < length c.args.self.now.table.now = omega (arith, c.place.ensures, room_slot c.args.self.now.search.routes.nodes c.args.self.now.search.top c.args.l c.args.v c.args.d c.args.self.now.limit (length c.args.self.now.table.now) c.requires.labels c.requires.node c.requires.grains c.args.self.now.room) in
    scaled_fits≤ c.place.result (length c.args.self.now.table.now) _ (omega arith) (omega arith)

pub returns : goal.returns
returns g c =
    let xs = c.args.self.now.table.now in
    let at = c.place.result in
    let within : at < length xs = omega (arith, c.place.ensures, room_slot c.args.self.now.search.routes.nodes c.args.self.now.search.top c.args.l c.args.v c.args.d c.args.self.now.limit (length xs) c.requires.labels c.requires.node c.requires.grains c.args.self.now.room) in
    sym c.index-self-place.is ∙ get_or_read xs at c.index-self-place.result within c.index-self-place.is None ∙ ap (λ i. get_or xs i None) c.place.ensures

pub bounds-self-place : goal.bounds-self-place
bounds-self-place g c = omega (arith, c.place.ensures, room_slot c.args.self.now.search.routes.nodes c.args.self.now.search.top c.args.l c.args.v c.args.d c.args.self.now.limit (length c.args.self.now.table.now) c.requires.labels c.requires.node c.requires.grains c.args.self.now.room)
