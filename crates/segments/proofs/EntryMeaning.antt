-- What is read of a code is what it does at the node.
use Rattle.std.proofs.Common.{◌≡◌, ℕ, ◌+◌, ◌-◌, ◌*◌, ◌<◌, ◌≤◌, true, List, Some, None, Option, sym, refl, ap, ◌∙◌, subst, inl, inr, arith}
use Rattle.netmap.specs.Net.{Net, Sound, link_at}
use Rattle.segments.specs.declared.figures.Leg.{Leg}
use Rattle.segments.specs.declared.figures.Spread.{Spread}
use Rattle.segments.specs.Algebra.{Algebra}
use Rattle.segments.specs.Entries.{Leaves, Entry, node_leg, LinkLeg}
use Rattle.segments.specs.Segments.{NodeSegment, Segment}
use Rattle.segments.specs.Spreads.{slot, FiguresOf, Routed}
use Rattle.segments.proofs.NodesReached.{path_node}
use Rattle.segments.proofs.OptionValues.{some_same, none_some}

module _ {V : Type 0} (net : Net) (alg : Algebra V) (sound : Sound net) (n : ℕ) (spread : List (Option (Spread V))) (routed : Routed net alg n spread) (u c : ℕ) (nu : u < n) where
  node_below : (h : Leg V) → NodeSegment net alg u c h → c < n
  node_below h s = subst (λ m. c < m) (sym routed.nodes) (path_node net sound u c s.spread.delay_met.0 (subst (λ m. u < m) routed.nodes nu) s.spread.delay_met.1.path)

  -- a code of a node
  pub entry_node : c < 64 → c < n → (c ≡ u → ⊥) → (s : Option (Spread V)) → slot spread (u * n + c) ≡ s → Entry net alg u c (node_leg c s)
  entry_node range nc ne (Some s) e = inl (record { range = range; other = λ z. ne (sym z); to = refl; spread = subst (FiguresOf net alg u c) e (routed.figured u c nu nc) })
  entry_node range nc ne None e = λ h t. no h t
    where
      no : (h : Leg V) → Segment net alg u c h → ⊥
      no h (inl t) = subst (FiguresOf net alg u c) e (routed.figured u c nu nc) (t.spread.delay_met.0, t.spread.delay_met.1.path)
      no h (inr t) = omega (arith, t.low, range)

  -- a code of a place
  pub entry_link : 256 ≤ c → c < 512 → Leaves net (c - 256) u true → (o : Option (Leg V)) → LinkLeg net alg (c - 256) o → Entry net alg u c o
  entry_link low high leaves (Some h) s = inr (record {
    low = low;
    high = high;
    link = s.link;
    filled = s.filled;
    tail = ap (λ l. l.tail) (some_same (link_at net (c - 256)) s.link leaves.0 s.filled leaves.1) ∙ leaves.2;
    to = s.to;
    delay = s.delay;
    value = s.value;
  })
  entry_link low high leaves None s = λ h t. none_some (link_at net (c - 256)) leaves.0 s leaves.1

  -- any other code
  pub entry_none : (c < 64 → c < n → (c ≡ u → ⊥) → ⊥) → (256 ≤ c → c < 512 → Leaves net (c - 256) u true → ⊥) → Entry net alg u c None
  entry_none a b h (inl t) = a t.range (node_below h t) (λ e. t.other (sym e))
  entry_none a b h (inr t) = b t.low t.high (t.link, t.filled, t.tail)
