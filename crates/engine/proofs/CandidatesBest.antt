-- The best of the candidates of one more code.
use Rattle.std.proofs.Common.{◌≡◌, ℕ, ◌+◌, ◌<◌, Bool, true, false, cond, ◌⊎◌, Some, None, Option, sym, refl, ap, ◌∙◌, subst, inl, inr, ⊎_elim, arith}
use Rattle.netmap.specs.Net.{Net}
use Rattle.segments.specs.Algebra.{Algebra, Laws, AsGood}
use Rattle.segments.specs.declared.figures.Leg.{Leg}
use Rattle.segments.specs.Segments.{Segment, grains_of}
use Rattle.engine.specs.Cells.{better_of, merge, BestOf, Candidate}
use Rattle.segments.proofs.SegmentsFunctional.{segments_functional}
use Rattle.segments.proofs.OptionValues.{some_same, none_some}
use Rattle.keeper.proofs.IndexSplit.{last_or}
use Rattle.segments.proofs.JoinedValues.{as_good_refl}

module _ {V : Type 0} (alg : Algebra V) where
  pub best_same : (P Q : V → Type 0) (o : Option V) → ((z : V) → P z → Q z) → ((z : V) → Q z → P z) → BestOf alg P o → BestOf alg Q o
  best_same P Q (Some x) f g b = (f x b.0, λ y q. b.1 y (g y q))
  best_same P Q None f g b = λ y q. b y (g y q)

  module _ (lawful : Laws alg) where
    not_good : (x y : V) → alg.as_good x y ≡ false → AsGood alg y x
    not_good x y e = ⊎_elim (λ h. absurd (subst lib.Dec.T e h)) (λ h. h) (lawful.total x y)

    is_good : (x y : V) → alg.as_good x y ≡ true → AsGood alg x y
    is_good x y e = subst lib.Dec.T (sym e) tt

    -- one value more
    pub best_add : (P Q : V → Type 0) (o : Option V) (y : V) → ((z : V) → P z → Q z) → Q y → ((z : V) → Q z → P z ⊎ (z ≡ y)) → BestOf alg P o → BestOf alg Q (better_of alg o y)
    best_add P Q None y f q g b = (q, λ z k. ⊎_elim (λ p. absurd (b z p)) (λ e. subst (AsGood alg y) (sym e) (as_good_refl alg lawful y)) (g z k))
    best_add P Q (Some x) y f q g b = go (alg.as_good x y) refl
      where
        go : (t : Bool) → alg.as_good x y ≡ t → BestOf alg Q (cond t (Some x) (Some y))
        go true e = (f x b.0, λ z k. ⊎_elim (λ p. b.1 z p) (λ h. subst (AsGood alg x) (sym h) (is_good x y e)) (g z k))
        go false e = (q, λ z k. ⊎_elim (λ p. lawful.transitive y x z (not_good x y e) (b.1 z p)) (λ h. subst (AsGood alg y) (sym h) (as_good_refl alg lawful y)) (g z k))

-- a candidate whose code is below c
abbrev pub CandidateTo : {V : Type 0} → Net → Algebra V → ℕ → (ℕ → ℕ → Option V) → ℕ → ℕ → ℕ → V → Type 0
CandidateTo net alg grain row d v c z = (k : Candidate net alg grain row d v z) × (k.code < c)

module _ {V : Type 0} (net : Net) (alg : Algebra V) (lawful : Laws alg) (grain : ℕ) (row : ℕ → ℕ → Option V) (d v c : ℕ) (o : Option V) (best : BestOf alg (CandidateTo net alg grain row d v c) o) where
  wider : (z : V) → CandidateTo net alg grain row d v c z → CandidateTo net alg grain row d v (c + 1) z
  wider z k = (k.0, omega (arith, k.1))

  pub cand_none : ((h : Leg V) → Segment net alg v c h → ⊥) → BestOf alg (CandidateTo net alg grain row d v (c + 1)) o
  cand_none none = best_same alg (CandidateTo net alg grain row d v c) (CandidateTo net alg grain row d v (c + 1)) o wider
      (λ z k. ⊎_elim (λ (e : k.0.code ≡ c). absurd (none k.0.leg (subst (λ m. Segment net alg v m k.0.leg) e k.0.segment))) (λ h. (k.0, h)) (last_or k.0.code c k.1)) best

  module _ (h : Leg V) (segment : Segment net alg v c h) where
    same_leg : (m : ℕ) (k : Leg V) → m ≡ c → Segment net alg v m k → k ≡ h
    same_leg m k e s = segments_functional alg lawful net v c k h (subst (λ j. Segment net alg v j k) e s) segment

    pub cand_far : d < grains_of grain h.delay.0 → BestOf alg (CandidateTo net alg grain row d v (c + 1)) o
    cand_far far = best_same alg (CandidateTo net alg grain row d v c) (CandidateTo net alg grain row d v (c + 1)) o wider
        (λ z k. ⊎_elim
        (λ (e : k.0.code ≡ c). absurd (omega (arith, far, k.0.grains, ap (λ (x : Leg V). grains_of grain x.delay.0) (same_leg k.0.code k.0.leg e k.0.segment))))
        (λ t. (k.0, t)) (last_or k.0.code c k.1)) best

    pub cand_merge : (rest : ℕ) → grains_of grain h.delay.0 + rest ≡ d → (b : Option V) → row rest h.to ≡ b → BestOf alg (CandidateTo net alg grain row d v (c + 1)) (merge alg o h.value b)
    cand_merge rest g None below = best_same alg (CandidateTo net alg grain row d v c) (CandidateTo net alg grain row d v (c + 1)) o wider
        (λ z k. ⊎_elim
        (λ (e : k.0.code ≡ c).
        let is = same_leg k.0.code k.0.leg e k.0.segment in
        let rest-is : k.0.rest ≡ rest = omega (arith, g, k.0.grains, ap (λ (x : Leg V). grains_of grain x.delay.0) is) in
        let two : row rest h.to ≡ Some k.0.suffix = ap (λ (x : Leg V). row rest x.to) (sym is) ∙ ap (λ j. row j k.0.leg.to) (sym rest-is) ∙ k.0.below in
        absurd (none_some (row rest h.to) k.0.suffix below two))
        (λ t. (k.0, t)) (last_or k.0.code c k.1)) best
    cand_merge rest g (Some x) below =
        best_add alg lawful (CandidateTo net alg grain row d v c) (CandidateTo net alg grain row d v (c + 1)) o (alg.join h.value x) wider
        (record { code = c; leg = h; rest = rest; suffix = x; segment = segment; grains = g; below = below; value = refl }, omega arith)
        (λ z k. ⊎_elim
        (λ (e : k.0.code ≡ c).
        let is = same_leg k.0.code k.0.leg e k.0.segment in
        let rest-is : k.0.rest ≡ rest = omega (arith, g, k.0.grains, ap (λ (y : Leg V). grains_of grain y.delay.0) is) in
        let two : row rest h.to ≡ Some k.0.suffix = ap (λ (y : Leg V). row rest y.to) (sym is) ∙ ap (λ j. row j k.0.leg.to) (sym rest-is) ∙ k.0.below in
        let same : x ≡ k.0.suffix = some_same (row rest h.to) x k.0.suffix below two in
        inr (sym k.0.value ∙ ap (λ (y : Leg V). alg.join y.value k.0.suffix) is ∙ ap (alg.join h.value) (sym same)))
        (λ t. inl (k.0, t)) (last_or k.0.code c k.1))
        best
