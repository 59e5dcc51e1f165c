use Rattle.std.proofs.Common.{arith}
use Rattle.segments.specs.Algebra.{algebra}
use Rattle.segments.proofs.EntryMeaning.{entry_none}
use Rattle.segments.proofs.routing.Routes.entry.Goals as goal
use Rattle.segments.proofs.routing.Routes.entry.Goals.{in_default-via-in-0-to-63+then-index-self+else-index-u, in_default-via-in-0-to-63+else-index-self, in_default-via-else-code-lt64+then-code-lt256, in_default-via-in-256-to-511+else-leaves, in_default-via-else-code-lt64+else-code-lt256+else-code-lt512}

pub returns-in_default : goal.returns-in_default
returns-in_default g c =
    let net = g.M.Map.meaning c.args.self.now.map.now in
    let sound = g.M.Map.sound c.args.self.now.map.now in
    let alg = algebra g.V.Ranking.good g.V.Tariff.joining in
    let none = entry_none net alg sound c.args.self.now.nodes c.args.self.now.spread.now c.requires.routed c.args.u c.args.code c.requires.from in
    elim c.in_default.branch [
      | in_default-via-in-0-to-63+then-index-self+else-index-u w ↦ none (λ r k ne. ne w.if-index-u.false) (λ low high l. omega arith)
      | in_default-via-in-0-to-63+else-index-self w ↦ none (λ r k ne. omega (arith, w.if-index-self.false)) (λ low high l. omega arith)
      | in_default-via-else-code-lt64+then-code-lt256 w ↦ none (λ r k ne. omega arith) (λ low high l. omega arith)
      | in_default-via-in-256-to-511+else-leaves w ↦ none (λ r k ne. omega arith) (λ low high l. w.if-leaves.ensures l.0 l.1 l.2)
      | in_default-via-else-code-lt64+else-code-lt256+else-code-lt512 w ↦ none (λ r k ne. omega arith) (λ low high l. omega arith)
    ]
