use Rattle.std.proofs.Common.{◌≡◌, ◌+◌, ◌-◌, Bool, length, set, Some, Ok, sym, refl, ◌∙◌, subst, arith}
use Rattle.std.proofs.lemmas.Bool.{lt-ltb}
use borrow.Rule.Slice.PartMut.{put_mid, mid_len}
use Rattle.keeper.specs.Keepers.{OfferBy}
use Rattle.keeper.proofs.SlotsCleared.{placed}
use Rattle.keeper.proofs.FrontKept.{front_same, front_more}
use Rattle.keeper.proofs.offer.Goals as goal

pub returns-then-beaten : goal.returns-then-beaten
returns-then-beaten g c =
    let ranks = g.met.V.Ranking.ranks in
    let good = g.V.Ranking.good in
    let d = c.args.grains.0 in
    let before = c.args.slots.now in
    subst (λ (b : Bool). OfferBy good d c.args.value b before before (Ok tt)) (sym (lt-ltb d (length before) c.if-d-slots.false))
    (refl, λ ps f. front_same good ranks ps d c.args.value before f (c.beaten.ensures.yes c.if-beaten.true))

pub returns : goal.returns
returns g c =
    let ranks = g.met.V.Ranking.ranks in
    let good = g.V.Ranking.good in
    let d = c.args.grains.0 in
    let x = c.args.value in
    let before = c.args.slots.now in
    let within = c.if-d-slots.false in
    let k = length (set before d (Some x)) - (d + 1) in
    let after = put_mid (d + 1) k (set before d (Some x)) c.clear.new.slots in
    let long : length c.clear.new.slots ≡ k = c.clear.auto.slots ∙ mid_len (d + 1) (length (set before d (Some x))) (set before d (Some x)) (omega arith) in
    let p = placed good x d before c.clear.new.slots within long c.clear.ensures (c.beaten.ensures.none c.if-beaten.false) in
    subst (λ (b : Bool). OfferBy good d x b before after (Ok tt)) (sym (lt-ltb d (length before) within))
    (refl, λ ps f. front_more good ranks ps d x before f after p)
