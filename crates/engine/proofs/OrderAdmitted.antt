-- What an order keeps whose questions are all answered yes.
use Rattle.std.proofs.Common.{◌≡◌, ◌<◌, ◌≤◌, ltb, leb, None, Option, sym, ap, ◌∙◌}
use Rattle.std.proofs.lemmas.Bool.{and_parts, ltb-true, leb-true}
use Rattle.netmap.specs.Net.{Net}
use Rattle.questions.specs.declared.denial.Denial.{Denial}
use Rattle.questions.proofs.Asking.{all_yes}
use Rattle.segments.specs.declared.order.Order.{Order}
use Rattle.engine.specs.declared.checks.Room.{Room}
use Rattle.engine.specs.Calls.{order_questions, order_denial}

pub record Admitted (net : Net) (o : Order) : Type 0 where
  pub source : o.source < net.nodes
  pub grain_low : 1 ≤ o.grain.0

pub admitted : (net : Net) (o : Order) (room : Room) → order_denial net o room ≡ None → Admitted net o
admitted net o room e =
    let y = all_yes (order_questions net o room) e in
    let ends = and_parts (ltb o.source net.nodes) (ltb o.target net.nodes) y.0 in
    let grain = and_parts (leb 1 o.grain.0) (leb o.grain.0 10000) y.1.1.0 in
    record { source = ltb-true _ _ ends.0; grain_low = leb-true _ _ grain.0 }

-- what was asked of a room, asked of the lengths of the slices
pub asked_of : (net : Net) (o : Order) (a b : Room) (d : Option Denial) → a ≡ b → order_denial net o a ≡ d → order_denial net o b ≡ d
asked_of net o a b d is e = ap (order_denial net o) (sym is) ∙ e
