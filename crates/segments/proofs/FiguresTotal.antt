-- Figures of all best paths exist exactly where a path does, and so node codes are legal there.
use Rattle.std.proofs.Common.{◌≡◌, ◌<◌, ◌≤◌, refl, subst, inl, inr, ⊎_elim, arith}
use Rattle.std.proofs.lemmas.Bool.{cases_eq, cases_lt}
use Rattle.segments.specs.Algebra.{Algebra, AsGood, Laws}
use Rattle.segments.specs.Paths.{total_delay, path_value, Ecmp}
use Rattle.segments.specs.Theorems.{FiguresWherePaths, NodeCodesWherePaths}
use Rattle.segments.proofs.EcmpFromHeads.{ecmp_self}
use Rattle.segments.proofs.FirstBestPath.{first_best}
use Rattle.segments.proofs.FirstShortPath.{Preorder}
use Rattle.segments.proofs.NodesReached.{tail_node}

module _ {V : Type 0} (alg : Algebra V) (lawful : Laws alg) where
  longer_order : Preorder (λ x y. total_delay y ≤ total_delay x)
  longer_order = record {
    total = λ x y. ⊎_elim (λ (h : total_delay x < total_delay y). inr (omega arith)) inl (cases_lt (total_delay x) (total_delay y));
    trans = λ x y z p q. omega arith;
  }

  worse_order : Preorder (λ x y. AsGood alg (path_value alg y) (path_value alg x))
  worse_order = record {
    total = λ x y. lawful.total (path_value alg y) (path_value alg x);
    trans = λ x y z p q. lawful.transitive (path_value alg z) (path_value alg y) (path_value alg x) q p;
  }

  pub figures_where_paths : FiguresWherePaths alg
  figures_where_paths net sound u v = record {
    of_path = λ r. ⊎_elim
        (λ (e : u ≡ v). (0, alg.neutral, subst (λ w. Ecmp net alg u w 0 alg.neutral) e (ecmp_self net alg lawful sound u)))
        (λ (ne : u ≡ v → ⊥).
        let nu = tail_node net sound u v r.0 ne r.1 in
        let d = first_best net sound (λ x y. total_delay y ≤ total_delay x) longer_order u v r.0 nu r.1 in
        let x = first_best net sound (λ x y. AsGood alg (path_value alg y) (path_value alg x)) worse_order u v r.0 nu r.1 in
        (total_delay d.0, path_value alg x.0, record { delay_met = (d.0, d.1, refl); delay_largest = d.2; value_met = (x.0, x.1, refl); value_worst = x.2 }))
        (cases_eq u v);
    of_figures = λ d x e. (e.delay_met.0, e.delay_met.1.path);
  }

  pub node_codes_where_paths : NodeCodesWherePaths alg
  node_codes_where_paths net sound u c = record {
    of_path = λ range other r.
        let f = (figures_where_paths net sound u c).of_path r in
        (record { to = c; delay = record { 0 = f.0 }; value = f.1 }, record { range = range; other = other; to = refl; spread = f.2 });
    of_segment = λ h s. (s.range, s.other, (s.spread.delay_met.0, s.spread.delay_met.1.path));
  }
