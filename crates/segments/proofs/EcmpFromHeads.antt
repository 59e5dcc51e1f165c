-- The figures of all best paths from a node, from those at the heads of the links that begin one.
use Rattle.std.proofs.Common.{◌≡◌, ℕ, ◌+◌, ◌≤◌, List, [], ◌∷◌, sym, refl, ap, ◌∙◌, subst, arith}
use Rattle.netmap.specs.declared.link.Link.{Link}
use Rattle.netmap.specs.Net.{Net, Sound}
use Rattle.segments.specs.Algebra.{Algebra, AsGood, Laws}
use Rattle.segments.specs.Paths.{total_delay, path_value, IsBest, Tight, Ecmp}
use Rattle.segments.proofs.JoinedValues.{path_value_cons, as_good_refl}
use Rattle.segments.proofs.TightLinks.{best_rest, tight_best}

-- a tight link with the figures from its head on
pub record Onward {V : Type 0} (net : Net) (alg : Algebra V) (u v : ℕ) (l : Link) (d : ℕ) (x : V) : Type 0 where
  pub tight : Tight net u v l
  pub ecmp : Ecmp net alg l.head v d x

module _ {V : Type 0} (net : Net) (alg : Algebra V) (lawful : Laws alg) (sound : Sound net) where
  only_empty : (v : ℕ) (ls : List Link) → IsBest net v ls v → ls ≡ []
  only_empty v [] b = refl
  only_empty v (l ∷ ls) b = absurd (omega (arith, b.least [] refl, (sound.each b.path.0.0 l b.path.0.1).weight_low))

  -- from a node to itself the one best path is empty
  pub ecmp_self : (v : ℕ) → Ecmp net alg v v 0 alg.neutral
  ecmp_self v =
      let b : IsBest net v [] v = record { path = refl; least = λ ms p. omega arith } in
      record {
        delay_met = ([], b, refl);
        delay_largest = λ ls h. subst (λ x. total_delay x ≤ 0) (sym (only_empty v ls h)) (omega arith);
        value_met = ([], b, refl);
        value_worst = λ ls h. subst (λ x. AsGood alg (path_value alg x) alg.neutral) (sym (only_empty v ls h)) (as_good_refl alg lawful alg.neutral);
      }

  -- the figures at u from those at the heads of its tight links
  pub ecmp_step : (u v d : ℕ) (x : V) → (u ≡ v → ⊥)
      → ((l : Link) → Tight net u v l → (e : ℕ) × (y : V) × Onward net alg u v l e y)
      → ((l : Link) (e : ℕ) (y : V) → Onward net alg u v l e y → l.delay.0 + e ≤ d)
      → (l : Link) × (e : ℕ) × (y : V) × Onward net alg u v l e y × (l.delay.0 + e ≡ d)
      → ((l : Link) (e : ℕ) (y : V) → Onward net alg u v l e y → AsGood alg (alg.join (alg.of_link l) y) x)
      → (l : Link) × (e : ℕ) × (y : V) × Onward net alg u v l e y × (alg.join (alg.of_link l) y ≡ x)
      → Ecmp net alg u v d x
  ecmp_step u v d x other has d-most d-met x-worst x-met =
      let md = d-met.3.ecmp.delay_met in
      let mx = x-met.3.ecmp.value_met in
      record {
        delay_met = (d-met.0 ∷ md.0, tight_best net u v d-met.0 md.0 d-met.3.tight md.1, ap (λ n. d-met.0.delay.0 + n) md.2 ∙ d-met.4);
        delay_largest = largest;
        value_met = (x-met.0 ∷ mx.0, tight_best net u v x-met.0 mx.0 x-met.3.tight mx.1, path_value_cons alg lawful x-met.0 mx.0 ∙ ap (alg.join (alg.of_link x-met.0)) mx.2 ∙ x-met.4);
        value_worst = worst;
      }
    where
      largest : (ls : List Link) → IsBest net u ls v → total_delay ls ≤ d
      largest [] b = absurd (other b.path)
      largest (l ∷ ls) b =
          let o = has l (record { rest = ls; best = b }) in
          omega (arith, o.2.ecmp.delay_largest ls (best_rest net u v l ls b), d-most l o.0 o.1 o.2)

      worst : (ls : List Link) → IsBest net u ls v → AsGood alg (path_value alg ls) x
      worst [] b = absurd (other b.path)
      worst (l ∷ ls) b =
          let o = has l (record { rest = ls; best = b }) in
          subst (λ z. AsGood alg z x) (sym (path_value_cons alg lawful l ls))
          (lawful.transitive _ (alg.join (alg.of_link l) o.1) x (lawful.monotone_right (path_value alg ls) o.1 (alg.of_link l) (o.2.ecmp.value_worst ls (best_rest net u v l ls b))) (x-worst l o.0 o.1 o.2))
