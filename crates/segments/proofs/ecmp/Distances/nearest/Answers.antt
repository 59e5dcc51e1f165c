use Rattle.std.proofs.Common.{ℕ, ◌+◌, Some, sym, ◌∙◌, subst}
use Rattle.segments.specs.Distances.{LeastOf}
use Rattle.segments.specs.Spreads.{ColumnOf, InNet, bar_of, rank_of}
use Rattle.segments.proofs.NearestKeys.{KeyedTo, keys_unknown, keys_before, keys_take, keys_all}
use Rattle.segments.proofs.ecmp.Distances.nearest.Goals as goal
use Rattle.segments.proofs.ecmp.Distances.nearest.Goals.{in-Some+then-follows, in-Some+else-follows, in_default}

pub loop-node-preserved : goal.loop-node-preserved
loop-node-preserved g c =
    let n = c.args.self.now.nodes in
    let xs = c.args.self.now.slots.now in
    let ys = c.args.column.now in
    let bar = bar_of c.args.last in
    let u = c.loop-node.node in
    let nu = c.loop-node-test.true in
    let o = rank_of c.loop-node.least in
    let so = c.loop-node.invariant in
    elim c.match-column-node.branch [
      | in-Some+then-follows w ↦
          subst (λ k. ((v : ℕ) → ColumnOf n xs v ys → LeastOf (KeyedTo n xs v bar (u + 1)) (rank_of k)) × InNet k) (sym w.least-is) (
            λ v is. subst (λ m. LeastOf (KeyedTo n xs v bar (u + 1)) (Some m)) (sym w.nearer.ensures.rank)
                (keys_take n xs v bar u w.in-Some.far (sym (is u nu) ∙ w.in-Some.is) o nu (w.follows.ensures.yes w.if-follows.true) (so.0 v is)),
            w.nearer.ensures.node,
          )
      | in-Some+else-follows w ↦
          subst (λ k. ((v : ℕ) → ColumnOf n xs v ys → LeastOf (KeyedTo n xs v bar (u + 1)) (rank_of k)) × InNet k) (sym w.least-is)
          (λ v is. keys_before n xs v bar u w.in-Some.far (sym (is u nu) ∙ w.in-Some.is) o (w.follows.ensures.no w.if-follows.false) (so.0 v is), so.1)
      | in_default w ↦
          subst (λ k. ((v : ℕ) → ColumnOf n xs v ys → LeastOf (KeyedTo n xs v bar (u + 1)) (rank_of k)) × InNet k) (sym w.least-is)
          (λ v is. keys_unknown n xs v bar u o (sym (is u nu) ∙ w.in_default.is) (so.0 v is), so.1)
    ]

pub returns-clause-least : goal.returns-clause-least
returns-clause-least g c =
    let n = c.args.self.now.nodes in
    let xs = c.args.self.now.slots.now in
    λ v is. keys_all n xs v (bar_of c.args.last) c.loop-node.node (rank_of c.loop-node.least) c.loop-node-test.false (c.loop-node.invariant.0 v is)
