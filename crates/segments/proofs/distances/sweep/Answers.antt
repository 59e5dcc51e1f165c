use Rattle.std.proofs.Common.{◌+◌, ◌*◌, ◌≤◌, sym, ap, ◌∙◌, subst, lt_of_lt_of_le}
use lib.Arith.{digits_lt}
use Rattle.segments.specs.Distances.{delay_in, delays}
use Rattle.segments.proofs.LinkSwept.{SweptTo, swept_same, swept_more}
use Rattle.segments.proofs.TableSlots.{delays_read}
use Rattle.segments.proofs.distances.sweep.Goals as goal
use Rattle.segments.proofs.distances.sweep.Goals.{in-Some, in_default}

pub loop-v-preserved : goal.loop-v-preserved
loop-v-preserved g c =
    let n = c.args.n in
    let l = c.args.link in
    let old = c.args.dist.now in
    let new = delays c.args.spread.now in
    let v = c.loop-v.v in
    let xs = c.loop-v.spread in
    let nv = c.loop-v-test.true in
    let best = delay_in c.read_slot.result in
    let within = lt_of_lt_of_le (digits_lt c.requires.tail nv) (subst (λ m. n * n ≤ m) (sym c.loop-v.auto.spread) c.requires.space) in
    let was = ap delay_in c.read_slot.ensures ∙ sym (delays_read xs (l.tail * n + v) within) in
    elim c.match-shorter.branch [
      | in-Some w ↦ subst (λ ys. SweptTo n l old new (delays ys) (v + 1)) (sym (w.spread-is ∙ w.write_slot.ensures)) (swept_more n l old new v xs nv c.loop-v.invariant best was w.keep.result within (w.keep.ensures ∙ sym w.in-Some.ensures))
      | in_default w ↦ subst (λ ys. SweptTo n l old new (delays ys) (v + 1)) (sym w.spread-is) (swept_same n l old new v xs nv c.loop-v.invariant best was w.in_default.ensures)
    ]
