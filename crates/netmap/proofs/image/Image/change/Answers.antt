use Rattle.std.proofs.Common.{sym, ap, ◌∙◌, arith, rules}
use Rattle.netmap.specs.Changes.{with_place}
use Rattle.netmap.specs.Layout.{encode}
use Rattle.netmap.proofs.ImageNets.{image_room, image_changed}
use Rattle.netmap.proofs.image.Image.change.Goals as goal

pub write_place-requires-clause-room : goal.write_place-requires-clause-room
write_place-requires-clause-room c = omega (arith, c.sizes-sizes.ensures.places, image_room c.args.self.now c.args.place c.requires.within)

pub invariant_of-self-2 : goal.invariant_of-self-2
invariant_of-self-2 c =
    let is = c.sizes-sizes.ensures in
    let w = image_changed c.args.self.now c.sizes-sizes.result c.write_place.new.bytes c.args.place c.args.held is.means is.places c.requires.within c.requires.fit c.write_place.ensures in
    record { ok = ∣ w.sound ∣₁; whole = λ h. w.whole }

pub returns : goal.returns
returns c =
    let is = c.sizes-sizes.ensures in
    let w = image_changed c.args.self.now c.sizes-sizes.result c.write_place.new.bytes c.args.place c.args.held is.means is.places c.requires.within c.requires.fit c.write_place.ensures in
    let means = w.means ∙ sym (ap (λ net. with_place net c.args.place c.args.held) is.means) in
    record { means = means; holds = sym w.whole ∙ ap encode means; named = search rules }
