-- A code does at most one thing at a node, and a list has at most one row of legs.
use Rattle.std.proofs.Common.{◌≡◌, ℕ, ◌-◌, ◌≤◌, [], ◌∷◌, sym, refl, ap, ◌∙◌, subst, inl, inr, arith}
use Rattle.netmap.specs.Net.{Net, link_at}
use Rattle.segments.specs.declared.figures.Leg.{Leg}
use Rattle.segments.specs.Algebra.{Algebra, AsGood, Laws}
use Rattle.segments.specs.Paths.{Ecmp}
use Rattle.segments.specs.Segments.{NodeSegment, AdjacencySegment, SegmentList}
use Rattle.segments.specs.Theorems.{SegmentsFunctional, ListsFunctional}
use Rattle.segments.proofs.OptionValues.{some_same}

leg_path : {V : Type 0} (h k : Leg V) → h.to ≡ k.to → h.delay.0 ≡ k.delay.0 → h.value ≡ k.value → h ≡ k
leg_path h k p q r = λ i. record { to = p i; delay = record { 0 = q i }; value = r i }

module _ {V : Type 0} (net : Net) (alg : Algebra V) (lawful : Laws alg) where
  pub ecmp_delay : (u v d e : ℕ) (x y : V) → Ecmp net alg u v d x → Ecmp net alg u v e y → d ≤ e
  ecmp_delay u v d e x y p q = subst (λ n. n ≤ e) p.delay_met.2 (q.delay_largest p.delay_met.0 p.delay_met.1)

  pub ecmp_value : (u v d e : ℕ) (x y : V) → Ecmp net alg u v d x → Ecmp net alg u v e y → AsGood alg x y
  ecmp_value u v d e x y p q = subst (λ z. AsGood alg z y) p.value_met.2 (q.value_worst p.value_met.0 p.value_met.1)

  node_once : (u c : ℕ) (h k : Leg V) → NodeSegment net alg u c h → NodeSegment net alg u c k → h ≡ k
  node_once u c h k p q =
      let l = ecmp_delay u c h.delay.0 k.delay.0 h.value k.value p.spread q.spread in
      let m = ecmp_delay u c k.delay.0 h.delay.0 k.value h.value q.spread p.spread in
      let a = ecmp_value u c h.delay.0 k.delay.0 h.value k.value p.spread q.spread in
      let b = ecmp_value u c k.delay.0 h.delay.0 k.value h.value q.spread p.spread in
      leg_path h k (p.to ∙ sym q.to) (omega arith) (lawful.antisymmetric h.value k.value a b)

  link_once : (u c : ℕ) (h k : Leg V) → AdjacencySegment net alg u c h → AdjacencySegment net alg u c k → h ≡ k
  link_once u c h k p q =
      let e = some_same (link_at net (c - 256)) p.link q.link p.filled q.filled in
      leg_path h k (p.to ∙ ap (λ l. l.head) e ∙ sym q.to) (ap (λ d. d.0) (p.delay ∙ ap (λ l. l.delay) e ∙ sym q.delay)) (p.value ∙ ap alg.of_link e ∙ sym q.value)

module _ {V : Type 0} (alg : Algebra V) (lawful : Laws alg) where
  pub segments_functional : SegmentsFunctional alg
  segments_functional net u c h k (inl p) (inl q) = node_once net alg lawful u c h k p q
  segments_functional net u c h k (inl p) (inr q) = absurd (omega (arith, p.range, q.low))
  segments_functional net u c h k (inr p) (inl q) = absurd (omega (arith, q.range, p.low))
  segments_functional net u c h k (inr p) (inr q) = link_once net alg lawful u c h k p q

  pub lists_functional : ListsFunctional alg
  lists_functional net u [] [] [] p q = refl
  lists_functional net u [] [] (k ∷ ks) p q = absurd q
  lists_functional net u [] (h ∷ hs) ks p q = absurd p
  lists_functional net u (c ∷ cs) [] ks p q = absurd p
  lists_functional net u (c ∷ cs) (h ∷ hs) [] p q = absurd q
  lists_functional net u (c ∷ cs) (h ∷ hs) (k ∷ ks) p q =
      let e = segments_functional net u c h k p.0 q.0 in
      let t = lists_functional net h.to cs hs ks p.1 (subst (λ n. SegmentList net alg n cs ks) (sym (ap (λ z. z.to) e)) q.1) in
      λ i. e i ∷ t i
