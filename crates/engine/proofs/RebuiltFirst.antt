-- The rebuilt list has the smallest codes of all lists that attain the total.
use Rattle.std.proofs.Common.{◌≡◌, ℕ, suc, ◌+◌, ◌<◌, ◌≤◌, ◌⊎◌, List, [], ◌∷◌, length, Some, Option, sym, refl, ap, ◌∙◌, subst, inl, inr, ⊎_elim, arith}
use Rattle.std.proofs.lemmas.Bool.{cases_order}
use Rattle.netmap.specs.Net.{Net, Sound}
use Rattle.segments.specs.Algebra.{Algebra, Laws, AsGood}
use Rattle.segments.specs.declared.figures.Leg.{Leg}
use Rattle.segments.specs.Segments.{Segment, SegmentList, list_end, list_value, list_grains, grains_of}
use Rattle.segments.specs.Orders.{Smaller}
use Rattle.engine.specs.Cells.{Listed, Cell, Row}
use Rattle.engine.specs.Rebuilds.{Attains, Rebuilt}
use Rattle.segments.proofs.JoinedValues.{list_value_cons}
use Rattle.segments.proofs.NodesReached.{segment_node}
use Rattle.segments.proofs.SegmentsFunctional.{segments_functional}
use Rattle.engine.proofs.CellExtended.{found}

module _ {V : Type 0} (net : Net) (alg : Algebra V) (grain : ℕ) where
  module _ (lawful : Laws alg) (sound : Sound net) (target top limit : ℕ) (best : ℕ → ℕ → ℕ → Option V) (good : (l : ℕ) → l < limit → Row net alg grain target top l (best l)) (total : V) where
    -- no rest of l entries and d grains at v makes more of the prefix than the total
    abbrev pub Unbeaten : V → ℕ → ℕ → ℕ → Type 0
    Unbeaten p l d v = (z : V) → Listed net alg grain target l d v z → AsGood alg total (alg.join p z)

    unbeaten_rest : (p : V) (m d e v c : ℕ) (h : Leg V) → Segment net alg v c h → grains_of grain h.delay.0 + e ≡ d → Unbeaten p (suc m) d v → Unbeaten (alg.join p h.value) m e h.to
    unbeaten_rest p m d e v c h s g u z k =
        subst (AsGood alg total) (sym (lawful.associative p h.value z))
        (u (alg.join h.value z) (record {
          codes = c ∷ k.codes;
          legs = h ∷ k.legs;
          legal = (s, k.legal);
          ends = k.ends;
          count = ap suc k.count;
          grains = ap (λ n. grains_of grain h.delay.0 + n) k.grains ∙ g;
          value = list_value_cons alg lawful h k.legs ∙ ap (alg.join h.value) k.value;
        }))

    -- every other list of as many entries and grains that attains the total comes later
    pub rebuilt_first : (p : V) (d v l : ℕ) (cs : List ℕ) (hs : List (Leg V)) (ds : List ℕ) (ks : List (Leg V))
        → l ≤ limit → d ≤ top → v < net.nodes → Unbeaten p l d v
        → Rebuilt net alg grain total best p d v l cs hs
        → SegmentList net alg v ds ks → list_end v ks ≡ target → length ds ≡ l → list_grains grain ks ≡ d → alg.join p (list_value alg ks) ≡ total
        → (ds ≡ cs) ⊎ Smaller cs ds
    rebuilt_first p d v l [] [] [] ks lim small node u r s e n g w = inl refl
    rebuilt_first p d v l [] [] (b ∷ ds) ks lim small node u r s e n g w = absurd (omega (arith, r, n))
    rebuilt_first p d v l [] (h ∷ hs) ds ks lim small node u r s e n g w = absurd r
    rebuilt_first p d v l (c ∷ cs) [] ds ks lim small node u r s e n g w = absurd r
    rebuilt_first p d v l (c ∷ cs) (h ∷ hs) [] ks lim small node u r s e n g w = absurd (omega (arith, r.1, n))
    rebuilt_first p d v l (c ∷ cs) (h ∷ hs) (b ∷ ds) [] lim small node u r s e n g w = absurd s
    rebuilt_first p d v l (c ∷ cs) (h ∷ hs) (b ∷ ds) (k ∷ ks) lim small node u r s e n g w =
        let m = r.0 in
        let is : l ≡ suc m = r.1 in
        let rest = list_grains grain ks in
        let on = segment_node net alg sound v b k node s.0 in
        let tail : Listed net alg grain target m rest k.to (list_value alg ks) = record { codes = ds; legs = ks; legal = s.1; ends = e; count = omega (arith, is, n); grains = refl; value = refl } in
        let f = found net alg grain target m rest k.to (best m rest k.to) (list_value alg ks) (good m (omega (arith, is, lim)) rest k.to (omega arith) on) tail in
        let q = alg.join p k.value in
        let whole : alg.join q (list_value alg ks) ≡ total = lawful.associative p k.value (list_value alg ks) ∙ ap (alg.join p) (sym (list_value_cons alg lawful k ks)) ∙ w in
        let up : Unbeaten p (suc m) d v = subst (λ j. Unbeaten p j d v) is u in
        let not_more = unbeaten_rest p m d rest v b k s.0 g up f.0 (cell_listed m rest k.to (best m rest k.to) f.0 (good m (omega (arith, is, lim)) rest k.to (omega arith) on) f.1) in
        let not-less = subst (AsGood alg (alg.join q f.0)) whole (lawful.monotone_right f.0 (list_value alg ks) q f.2) in
        let att : Attains net alg grain total (best m) p d v b = record { leg = k; rest = rest; suffix = f.0; segment = s.0; grains = g; below = f.1; attained = lawful.antisymmetric _ _ not-less not_more } in
        let a = r.2 in
        ⊎_elim
        (λ (same : b ≡ c).
        let leg-is : k ≡ h = segments_functional alg lawful net v c k h (subst (λ x. Segment net alg v x k) same s.0) (subst (λ x. Segment net alg v c x) r.3 a.segment) in
        let rest-is : rest ≡ a.rest = omega (arith, g, a.grains, ap (λ x. grains_of grain x.delay.0) (leg-is ∙ sym r.3)) in
        let next = rebuilt_first (alg.join p h.value) a.rest h.to m cs hs ds ks
        (omega (arith, is, lim)) (omega (arith, a.grains)) (subst (λ x. x.to < net.nodes) leg-is on)
        (unbeaten_rest p m d a.rest v c h (subst (λ x. Segment net alg v c x) r.3 a.segment) (ap (λ x. grains_of grain x.delay.0 + a.rest) (sym r.3) ∙ a.grains) up)
        r.5 (subst (λ x. SegmentList net alg x.to ds ks) leg-is s.1) (subst (λ x. list_end x.to ks ≡ target) leg-is e) (omega (arith, is, n)) rest-is (ap (λ x. alg.join (alg.join p x.value) (list_value alg ks)) (sym leg-is) ∙ whole) in
        ⊎_elim (λ t. inl (λ i. same i ∷ t i)) (λ t. inr (inr (sym same, t))) next)
        (⊎_elim (λ (less : b < c). absurd (r.4 b less att)) (λ (more : c < b). inr (inl more)))
        (cases_order b c)
      where
        cell_listed : (m d v : ℕ) (o : Option V) (x : V) → Cell net alg grain target m d v o → o ≡ Some x → Listed net alg grain target m d v x
        cell_listed m d v o x c e = (subst (Cell net alg grain target m d v) e c).0
