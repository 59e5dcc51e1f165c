-- Rounding each entry up keeps the bound, and loses less than a grain for each entry.
use Rattle.std.proofs.Common.{◌≡◌, ℕ, ◌+◌, ◌-◌, ◌*◌, ◌≤◌, List, [], ◌∷◌, length, Ok, Err, Result, sym, ap, subst, inl, inr, le_trans, add-mul, mul-zero, zero-mul, mul-suc, div-mul-le_self, arith}
use native.Mathlib.Nat.{lt-div-mul-add}
use Rattle.questions.specs.declared.denial.Denial.{Denial}
use Rattle.netmap.specs.Net.{Net}
use Rattle.segments.specs.Algebra.{Algebra, Laws, Better}
use Rattle.segments.specs.declared.figures.Figures.{Figures}
use Rattle.segments.specs.declared.order.Order.{Order}
use Rattle.segments.specs.declared.figures.Leg.{Leg}
use Rattle.segments.specs.Segments.{SegmentList, grains_of, list_grains, list_delay, list_value}
use Rattle.segments.specs.Orders.{Within, Precedes}
use Rattle.engine.specs.Quotes.{Rival, KeepsBound}
use Rattle.engine.specs.Calls.{Searched}
use Rattle.segments.proofs.SegmentsFunctional.{lists_functional}

-- one entry
round_low : (g m : ℕ) → 1 ≤ g → m ≤ grains_of g m * g
round_low g m h =
    let k = lt-div-mul-add {a = m + (g - 1)} {b = g} h in
    omega arith

round_high : (g m : ℕ) → grains_of g m * g ≤ m + (g - 1)
round_high g m = div-mul-le_self (m + (g - 1)) g

module _ {V : Type 0} where
  list_low : (g : ℕ) (hs : List (Leg V)) → 1 ≤ g → list_delay hs ≤ list_grains g hs * g
  list_low g [] h = omega (arith, zero-mul g)
  list_low g (k ∷ hs) h =
      omega (arith, add-mul (grains_of g k.delay.0) (list_grains g hs) g, round_low g k.delay.0 h, list_low g hs h)

  list_high : (net : Net) (alg : Algebra V) (g u : ℕ) (cs : List ℕ) (hs : List (Leg V)) → SegmentList net alg u cs hs → list_grains g hs * g ≤ list_delay hs + (g - 1) * length cs
  list_high net alg g u [] [] p = omega (arith, zero-mul g, mul-zero (g - 1))
  list_high net alg g u [] (h ∷ hs) p = absurd p
  list_high net alg g u (c ∷ cs) [] p = absurd p
  list_high net alg g u (c ∷ cs) (h ∷ hs) p =
      omega (arith, add-mul (grains_of g h.delay.0) (list_grains g hs) g, round_high g h.delay.0, list_high net alg g h.to cs hs p.1, mul-suc (g - 1) (length cs))

module _ {V : Type 0} (net : Net) (alg : Algebra V) (lawful : Laws alg) (o : Order) where
  -- a rival is within the order
  pub rival_within : (cs : List ℕ) (hs : List (Leg V)) → Rival net alg o cs hs → Within net alg o cs hs
  rival_within cs hs r = record {
    serves = r.serves;
    bound = le_trans (list_high net alg o.grain.0 o.source cs hs r.serves.legal) r.bound;
  }

  -- no list that precedes another is worse in value
  not_worse : (cs ds : List ℕ) (hs ks : List (Leg V)) → Precedes alg o.grain.0 cs hs ds ks → Better alg (list_value alg ks) (list_value alg hs) → ⊥
  not_worse cs ds hs ks (inl b) w = w.1 (lawful.antisymmetric _ _ w.0 b.0)
  not_worse cs ds hs ks (inr e) w = w.1 (sym e.0)

  pub bound_kept : (before after : List ℕ) (r : Result (Figures V) Denial) → 1 ≤ o.grain.0 → Searched net alg o before after r → KeepsBound net alg o r
  bound_kept before after (Ok q) one s =
      let quoted = s.1 in (
        omega (arith, quoted.delay, list_low o.grain.0 quoted.legs one, quoted.first.within.bound),
        λ ds ks rival better.
            let w : Better alg (list_value alg ks) (list_value alg quoted.legs) = subst (λ x. Better alg (list_value alg ks) x) quoted.value better in
            let other : ds ≡ s.0 → ⊥ = λ e. w.1 (ap (list_value alg) (lists_functional alg lawful net o.source s.0 ks quoted.legs (subst (λ l. SegmentList net alg o.source l ks) e rival.serves.legal) quoted.first.within.serves.legal)) in
            not_worse s.0 ds quoted.legs ks (quoted.first.first ds ks (rival_within ds ks rival) other) w,
      )
  bound_kept before after (Err d) one s = λ ds ks rival. s.1 ds ks (rival_within ds ks rival)
