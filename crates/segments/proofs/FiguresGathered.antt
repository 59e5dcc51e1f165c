-- Figures are gathered over the links that begin a best path, place by place.
use Rattle.std.proofs.Common.{◌≡◌, ℕ, ◌+◌, ◌*◌, ◌<◌, ◌≤◌, max, Bool, true, false, cond, T, ◌⊎◌, List, [], ◌∷◌, Some, None, Option, sym, refl, ap, ◌∙◌, subst, inl, inr, ⊎_elim, arith}
use Rattle.std.proofs.lemmas.List.{get_or_past}
use Rattle.std.proofs.lemmas.Bool.{cases_eq, cases_lt, cases_Bool}
use Rattle.netmap.specs.declared.link.Link.{Link}
use Rattle.netmap.specs.Net.{Net, Sound, link_at, places}
use Rattle.segments.specs.declared.figures.Spread.{Spread}
use Rattle.segments.specs.Algebra.{Algebra, AsGood, Laws}
use Rattle.segments.specs.Distances.{Measured}
use Rattle.segments.specs.Paths.{IsBest, Tight}
use Rattle.segments.specs.Spreads.{slot, worse_of, onward, FiguresOf, WayAt, HeadsFigured}
use Rattle.segments.proofs.EcmpFromHeads.{Onward, ecmp_step}
use Rattle.segments.proofs.ExactDistances.{path_far, far_path}
use Rattle.segments.proofs.JoinedValues.{as_good_refl}
use Rattle.segments.proofs.OptionValues.{some_same, none_some}
use Rattle.segments.proofs.SegmentsFunctional.{ecmp_delay, ecmp_value}

module _ {V : Type 0} (net : Net) (alg : Algebra V) (u v : ℕ) where
  pub record GatheredOf (p : ℕ) (s : Spread V) : Type 0 where
    pub delay_met : (l : Link) × (e : ℕ) × (y : V) × Onward net alg u v l e y × (l.delay.0 + e ≡ s.delay.0)
    pub delay_most : (q : ℕ) (l : Link) (e : ℕ) (y : V) → q < p → link_at net q ≡ Some l → Onward net alg u v l e y → l.delay.0 + e ≤ s.delay.0
    pub value_met : (l : Link) × (e : ℕ) × (y : V) × Onward net alg u v l e y × (alg.join (alg.of_link l) y ≡ s.value)
    pub value_worst : (q : ℕ) (l : Link) (e : ℕ) (y : V) → q < p → link_at net q ≡ Some l → Onward net alg u v l e y → AsGood alg (alg.join (alg.of_link l) y) s.value

  -- over the links that begin a best path, at the places below p
  abbrev pub Gathered : ℕ → Option (Spread V) → Type 0
  Gathered p None = (q : ℕ) (l : Link) → q < p → link_at net q ≡ Some l → Tight net u v l → ⊥
  Gathered p (Some s) = GatheredOf p s

  last_or : (q p : ℕ) → q < p + 1 → (q ≡ p) ⊎ (q < p)
  last_or q p h = ⊎_elim inl (λ (ne : q ≡ p → ⊥). inr (omega arith)) (cases_eq q p)

  gathered_none : (p : ℕ) (o : Option (Spread V)) → WayAt net alg u v p None → Gathered p o → Gathered (p + 1) o
  gathered_none p None ne g = λ q l h at t. ⊎_elim (λ (e : q ≡ p). ne l (subst (λ m. link_at net m ≡ Some l) e at) t) (λ k. g q l k at t) (last_or q p h)
  gathered_none p (Some s) ne g = record {
    delay_met = g.delay_met;
    delay_most = λ q l d y h at o. ⊎_elim (λ (e : q ≡ p). absurd (ne l (subst (λ m. link_at net m ≡ Some l) e at) o.tight)) (λ k. g.delay_most q l d y k at o) (last_or q p h);
    value_met = g.value_met;
    value_worst = λ q l d y h at o. ⊎_elim (λ (e : q ≡ p). absurd (ne l (subst (λ m. link_at net m ≡ Some l) e at) o.tight)) (λ k. g.value_worst q l d y k at o) (last_or q p h);
  }

  pub gathered_same : (p : ℕ) (o r : Option (Spread V)) → WayAt net alg u v p None → r ≡ o → Gathered p o → Gathered (p + 1) r
  gathered_same p o r t e g = subst (Gathered (p + 1)) (sym e) (gathered_none p o t g)

  module _ (lawful : Laws alg) where
    module _ (p : ℕ) (l : Link) (rest : Spread V) (at_p : link_at net p ≡ Some l) (on : Onward net alg u v l rest.delay.0 rest.value) where
      -- what the link at p makes is no more than what is joined
      own : (q : ℕ) (k : Link) (e : ℕ) (y : V) → q ≡ p → link_at net q ≡ Some k → Onward net alg u v k e y → (k.delay.0 + e ≤ l.delay.0 + rest.delay.0) × AsGood alg (alg.join (alg.of_link k) y) (alg.join (alg.of_link l) rest.value)
      own q k e y is at o =
          let s : k ≡ l = some_same (link_at net p) k l (subst (λ m. link_at net m ≡ Some k) is at) at_p in
          let t : Onward net alg u v l e y = subst (λ j. Onward net alg u v j e y) s o in (
            omega (arith, ap (λ j. j.delay.0) s, ecmp_delay net alg lawful l.head v e rest.delay.0 y rest.value t.ecmp on.ecmp),
            subst (λ j. AsGood alg (alg.join (alg.of_link j) y) (alg.join (alg.of_link l) rest.value)) (sym s) (lawful.monotone_right y rest.value (alg.of_link l) (ecmp_value net alg lawful l.head v e rest.delay.0 y rest.value t.ecmp on.ecmp)),
          )

      gathered_one : (o : Option (Spread V)) → Gathered p o → Gathered (p + 1) (Some (worse_of alg o (onward alg l rest)))
      gathered_one None g = record {
        delay_met = (l, rest.delay.0, rest.value, on, refl);
        delay_most = λ q k e y h at o. ⊎_elim
            (λ (z : q ≡ p). omega (arith, (own q k e y z at o).0))
            (λ b. absurd (g q k b at o.tight)) (last_or q p h);
        value_met = (l, rest.delay.0, rest.value, on, refl);
        value_worst = λ q k e y h at o. ⊎_elim
            (λ (z : q ≡ p). (own q k e y z at o).1)
            (λ b. absurd (g q k b at o.tight)) (last_or q p h);
      }
      gathered_one (Some r) g = record {
        delay_met = ⊎_elim
            (λ (h : r.delay.0 < d). (l, rest.delay.0, rest.value, on, upper r.delay.0 d h))
            (λ (h : d ≤ r.delay.0). (g.delay_met.0, g.delay_met.1, g.delay_met.2, g.delay_met.3, g.delay_met.4 ∙ lower r.delay.0 d h))
            (cases_lt r.delay.0 d);
        delay_most = λ q k e y h at o. ⊎_elim
            (λ (z : q ≡ p). omega (arith, (own q k e y z at o).0))
            (λ b. omega (arith, g.delay_most q k e y b at o)) (last_or q p h);
        value_met = ⊎_elim
            (λ (h : alg.as_good r.value x ≡ true). (l, rest.delay.0, rest.value, on, ap (λ (b : Bool). cond b x r.value) (sym h)))
            (λ (h : alg.as_good r.value x ≡ false). (g.value_met.0, g.value_met.1, g.value_met.2, g.value_met.3, g.value_met.4 ∙ ap (λ (b : Bool). cond b x r.value) (sym h)))
            (cases_Bool (alg.as_good r.value x));
        value_worst = λ q k e y h at o. ⊎_elim
            (λ (z : q ≡ p). lawful.transitive (alg.join (alg.of_link k) y) x worst (own q k e y z at o).1 (pick r.value x (alg.as_good r.value x) refl).1)
            (λ b. lawful.transitive (alg.join (alg.of_link k) y) r.value worst (g.value_worst q k e y b at o) (pick r.value x (alg.as_good r.value x) refl).0) (last_or q p h);
      }
        where
          d : ℕ
          d = l.delay.0 + rest.delay.0

          x : V
          x = alg.join (alg.of_link l) rest.value

          worst : V
          worst = cond (alg.as_good r.value x) x r.value

          upper : (a b : ℕ) → a < b → b ≡ max a b
          upper a b h = omega arith

          lower : (a b : ℕ) → b ≤ a → a ≡ max a b
          lower a b h = omega arith

          pick : (x y : V) (b : Bool) → alg.as_good x y ≡ b → AsGood alg x (cond b y x) × AsGood alg y (cond b y x)
          pick x y true e = (subst T (sym e) tt, as_good_refl alg lawful y)
          pick x y false e = (as_good_refl alg lawful x, ⊎_elim (λ h. absurd (subst T e h)) (λ h. h) (lawful.total x y))

    pub gathered_more : (p : ℕ) (o r : Option (Spread V)) (s w : Spread V) → WayAt net alg u v p (Some s) → w ≡ worse_of alg o s → r ≡ Some w → Gathered p o → Gathered (p + 1) r
    gathered_more p o r s w t f k g = subst (Gathered (p + 1)) (sym (k ∙ ap Some (f ∙ ap (worse_of alg o) t.5))) (gathered_one p t.0 t.1 t.2 (record { tight = t.3; ecmp = t.4 }) o g)

    -- behind the last place they are the figures
    pub gathered_figures : (sound : Sound net) (n : ℕ) (dist : List (Option ℕ)) (xs : List (Option (Spread V))) → Measured net n dist → HeadsFigured net alg n xs u v → u < n → v < n → (u ≡ v → ⊥) → (p : ℕ) → places net ≤ p → (o : Option (Spread V)) → Gathered p o → FiguresOf net alg u v o
    gathered_figures sound n dist xs m heads nu nv other p past (Some s) g =
        ecmp_step net alg lawful sound u v s.delay.0 s.value other
        (λ l t. from_head l t (slot xs (l.head * n + v)) (heads l t))
        (λ l e y o. g.delay_most o.tight.best.path.0.0 l e y (inside o.tight.best.path.0.0 l o.tight.best.path.0.1) o.tight.best.path.0.1 o)
        g.delay_met
        (λ l e y o. g.value_worst o.tight.best.path.0.0 l e y (inside o.tight.best.path.0.0 l o.tight.best.path.0.1) o.tight.best.path.0.1 o)
        g.value_met
      where
        inside : (q : ℕ) (l : Link) → link_at net q ≡ Some l → q < p
        inside q l at = ⊎_elim (λ (h : q < p). h) (λ (h : p ≤ q). absurd (none_some (link_at net q) l (get_or_past net.links q None (omega arith)) at)) (cases_lt q p)

        from_head : (l : Link) → Tight net u v l → (s : Option (Spread V)) → FiguresOf net alg l.head v s → (e : ℕ) × (y : V) × Onward net alg u v l e y
        from_head l t (Some s) f = (s.delay.0, s.value, record { tight = t; ecmp = f })
        from_head l t None f = absurd (f (t.rest, t.best.path.2))
    gathered_figures sound n dist xs m heads nu nv other p past None g = λ r.
        let f = path_far net sound n dist m u v r.0 nu nv r.1 in
        let b = far_path net sound n dist m u v f.0 nu nv f.1 in
        no_best b.0 b.1
      where
        -- a path to another node begins with some link
        no_best : (ls : List Link) → IsBest net u ls v → ⊥
        no_best [] b = other b.path
        no_best (l ∷ ls) b =
            let q = b.path.0.0 in
            let at = b.path.0.1 in
            ⊎_elim (λ (h : q < p). g q l h at (record { rest = ls; best = b })) (λ (h : p ≤ q). none_some (link_at net q) l (get_or_past net.links q None (omega arith)) at) (cases_lt q p)
