use Rattle.std.proofs.Common.{◌≡◌, ◌+◌, ◌*◌, Some, sym, subst, rules}
use lib.Arith.{digits_lt}
use Rattle.segments.specs.Distances.{table_of}
use Rattle.segments.specs.Spreads.{TightAt}
use Rattle.segments.proofs.ExactDistances.{exact_known}
use Rattle.segments.proofs.LeastNumbers.{known_is}
use Rattle.segments.proofs.NodesReached.{link_sound}
use Rattle.segments.proofs.NumbersFit.{fits_sum}
use Rattle.segments.proofs.TightTest.{tight_rest, tight_sum, tight_yes}
use Rattle.segments.proofs.ecmp.Distances.tight.Goals as goal

pub returns-in_err-rest : goal.returns-in_err-rest
returns-in_err-rest g c =
    let net = g.M.Map.meaning c.args.self.now.map.now in
    let sound = g.M.Map.sound c.args.self.now.map.now in
    subst (TightAt net c.args.u c.args.v c.args.place) (sym c.from_residual-in_err-rest.ensures)
    (tight_rest net sound c.args.self.now.nodes c.args.self.now.slots.now c.requires.measured c.args.u c.args.v c.args.place c.requires.from c.requires.to c.in_ok-link.link (sym c.in_ok-link.ensures) (sym c.in_err-rest.ensures))

pub overflow_add-link : goal.overflow_add-link
overflow_add-link g c =
    let net = g.M.Map.meaning c.args.self.now.map.now in
    let sound = g.M.Map.sound c.args.self.now.map.now in
    let n = c.args.self.now.nodes in
    let xs = c.args.self.now.slots.now in
    let l = c.in_ok-link.link in
    let at = sym c.in_ok-link.ensures in
    let s = link_sound net sound n c.requires.measured.nodes c.args.place l at in
    fits_sum l.weight c.in_ok-rest.rest s.weight_high
    (known_is (table_of n xs l.head c.args.v) c.in_ok-rest.rest (exact_known net sound n xs c.requires.measured (l.head * n + c.args.v) (digits_lt s.head c.requires.to)) (sym c.in_ok-rest.ensures))

pub returns-then-eq : goal.returns-then-eq
returns-then-eq g c =
    let net = g.M.Map.meaning c.args.self.now.map.now in
    let sound = g.M.Map.sound c.args.self.now.map.now in
    let sum : table_of c.args.self.now.nodes c.args.self.now.slots.now c.args.u c.args.v ≡ Some (c.in_ok-link.link.weight + c.in_ok-rest.rest) = search rules in
    (sym c.in_ok-link.ensures, tight_yes net sound c.args.self.now.nodes c.args.self.now.slots.now c.requires.measured c.args.u c.args.v c.args.place c.requires.from c.requires.to c.in_ok-link.link (sym c.in_ok-link.ensures) c.in_ok-rest.rest (sym c.in_ok-rest.ensures) c.if-link-u.false sum)

pub returns-else-eq : goal.returns-else-eq
returns-else-eq g c =
    let net = g.M.Map.meaning c.args.self.now.map.now in
    let sound = g.M.Map.sound c.args.self.now.map.now in
    tight_sum net sound c.args.self.now.nodes c.args.self.now.slots.now c.requires.measured c.args.u c.args.v c.args.place c.requires.from c.requires.to c.in_ok-link.link (sym c.in_ok-link.ensures) c.in_ok-rest.rest (sym c.in_ok-rest.ensures)
    (λ (e : table_of c.args.self.now.nodes c.args.self.now.slots.now c.args.u c.args.v ≡ Some (c.in_ok-link.link.weight + c.in_ok-rest.rest)). search rules)
