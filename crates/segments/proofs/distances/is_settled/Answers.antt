use Rattle.std.proofs.Common.{◌≡◌, length, None, sym, ap, ◌∙◌, rules}
use Rattle.std.proofs.lemmas.Slice.Zip.{zip_turn}
use Rattle.segments.specs.Distances.{delay_in}
use Rattle.segments.proofs.TableSlots.{delays_read}
use Rattle.segments.proofs.distances.is_settled.Goals as goal

pub returns-then-ne-clause-no : goal.returns-then-ne-clause-no
returns-then-ne-clause-no g c =
    let ks = c.args.dist.now in
    let vs = c.args.spread.now in
    let i = length c.loop-distance.yielded in
    let turn = zip_turn ks vs c.loop-distance.yielded _ c.loop-distance.distance-iterator c.next.new.self c.next.result (search rules) (search rules) c.loop-distance.yielded_by (c.in-Some.distance, c.in-Some.slot) c.in-Some.is c.next.ensures.steps in
    λ _ same.
    let e : c.in-Some.distance.now ≡ c.kept.result = turn.2 None ∙ same i turn.0 ∙ delays_read vs i turn.1 ∙ ap delay_in (sym (turn.3 None)) ∙ sym c.kept.ensures in
    search rules
