-- Offering the table's cells gives the front of all lists.
use Rattle.std.proofs.Common.{ℕ, ◌≤◌, subst, arith}
use Rattle.segments.specs.Algebra.{Algebra, Laws, AsGood}
use Rattle.keeper.specs.Fronts.{Optimal}

-- Q has only pairs of P, and for each pair of P one as good in both
pub record Covers {V : Type 0} (alg : Algebra V) (P Q : ℕ → V → Type 0) : Type 0 where
  pub inside : (d : ℕ) (x : V) → Q d x → P d x
  pub covered : (d : ℕ) (x : V) → P d x → (e : ℕ) × (y : V) × Q e y × (e ≤ d) × AsGood alg y x

module _ {V : Type 0} (alg : Algebra V) (lawful : Laws alg) (P Q : ℕ → V → Type 0) (c : Covers alg P Q) where
  pub optimal_down : (d : ℕ) (x : V) → Optimal alg.as_good P d x → Optimal alg.as_good Q d x
  optimal_down d x o =
      let k = c.covered d x o.member in
      let same = o.best k.0 k.1 (c.inside k.0 k.1 k.2) k.3 k.4 in
      record {
        member = subst (λ z. Q d z) same.1 (subst (λ n. Q n k.1) same.0 k.2);
        best = λ e y q. o.best e y (c.inside e y q);
      }

  pub optimal_up : (d : ℕ) (x : V) → Optimal alg.as_good Q d x → Optimal alg.as_good P d x
  optimal_up d x o = record {
    member = c.inside d x o.member;
    best = λ e y p le good.
        let k = c.covered e y p in
        let same = o.best k.0 k.1 k.2 (omega (arith, k.3, le)) (lawful.transitive k.1 y x k.4 good) in
        (omega (arith, same.0, k.3, le), lawful.antisymmetric y x good (subst (λ z. AsGood alg z y) same.1 k.4));
  }
