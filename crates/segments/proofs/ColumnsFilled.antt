-- The figures to a node are filled in nearest first, and column by column.
use Rattle.std.proofs.Common.{◌≡◌, ℕ, ◌+◌, ◌*◌, ◌/◌, ◌%◌, ◌<◌, ◌≤◌, List, ◌∷◌, length, set, Some, None, Option, sym, refl, ap, ◌∙◌, subst, ⊎_elim, lt_of_lt_of_le, arith, get_or-set_other, get_or-set_same}
use lib.Arith.{digits_lt, digits_div, digits_mod}
use Rattle.std.proofs.lemmas.Bool.{cases_eq, cases_lt}
use Rattle.netmap.specs.Net.{Net, Sound}
use Rattle.segments.specs.declared.figures.Spread.{Spread}
use Rattle.segments.specs.declared.near.Near.{Near}
use Rattle.segments.specs.Algebra.{Algebra}
use Rattle.segments.specs.Distances.{LeastOf, table_of, Measured}
use Rattle.segments.specs.Spreads.{Keyed, rank, slot, FiguresOf, EmptyAt, HasFigures, HeadsFigured, ColumnFigured, Spared}
use Rattle.segments.proofs.ExactDistances.{exact_known, path_far}
use Rattle.segments.proofs.LeastNumbers.{known_is}
use Rattle.segments.proofs.NearestKeys.{key_node}
use Rattle.segments.proofs.NodesReached.{link_sound, few_nodes}
use Rattle.segments.proofs.OptionValues.{some_same, none_some}
use Rattle.segments.proofs.TightLinks.{tight_nearer}

module _ (net : Net) (sound : Sound net) {n : ℕ} {dist : List (Option ℕ)} (m : Measured net n dist) {v bar key : ℕ} (nv : v < n) (k : Keyed n dist v bar key) where
  pub key_small : key < 264237184
  key_small =
      let small = known_is (table_of n dist k.node v) k.far (exact_known net sound n dist m (k.node * n + v) (digits_lt k.below nv)) k.at in
      omega (arith, small, few_nodes net sound n m.nodes, k.below, k.is)

module _ {V : Type 0} (net : Net) (alg : Algebra V) (n : ℕ) (dist : List (Option ℕ)) (v : ℕ) where
  -- the figures of all nodes whose keys are below the bar, and nothing where there is no path
  pub record FilledTo (bar : ℕ) (xs : List (Option (Spread V))) : Type 0 where
    pub near : (u w : ℕ) → u < n → table_of n dist u v ≡ Some w → w * 64 + u < bar → HasFigures net alg n xs u v
    pub empty : EmptyAt n dist xs v

  module _ (sound : Sound net) (m : Measured net n dist) (nv : v < n) (bar : ℕ) (xs : List (Option (Spread V))) (filled : FilledTo bar xs) where
    pub filled_all : LeastOf (Keyed n dist v bar) None → ColumnFigured net alg n xs v
    filled_all none u nu = pick (table_of n dist u v) refl
      where
        pick : (o : Option ℕ) → table_of n dist u v ≡ o → HasFigures net alg n xs u v
        pick (Some w) e = ⊎_elim (λ (h : w * 64 + u < bar). filled.near u w nu e h)
            (λ (h : bar ≤ w * 64 + u). absurd (none (w * 64 + u) (record { node = u; below = nu; far = w; at = e; is = refl; from = h })))
            (cases_lt (w * 64 + u) bar)
        pick None e = subst (FiguresOf net alg u v) (sym (filled.empty u nu e))
            (λ r. let f = path_far net sound n dist m u v r.0 nu nv r.1 in none_some (table_of n dist u v) f.0 e f.1)

    module _ (few : n ≤ 64) (k : Near) (small : k.node < 64) (least : LeastOf (Keyed n dist v bar) (Some (rank k))) where
      node_is : k.node ≡ least.0.node
      node_is = (key_node few least.0 k small refl).0

      pub node_below : k.node < n
      node_below = subst (λ j. j < n) (sym node_is) least.0.below

      node_at : table_of n dist k.node v ≡ Some k.far
      node_at = subst (λ j. table_of n dist j v ≡ Some k.far) (sym node_is) (least.0.at ∙ ap Some (sym (key_node few least.0 k small refl).1))

      -- what is nearer is filled
      nearer : (u w : ℕ) → u < n → table_of n dist u v ≡ Some w → w * 64 + u < rank k → HasFigures net alg n xs u v
      nearer u w nu e h = ⊎_elim (λ (b : w * 64 + u < bar). filled.near u w nu e b)
          (λ (b : bar ≤ w * 64 + u). absurd (omega (arith, h, least.1 (w * 64 + u) (record { node = u; below = nu; far = w; at = e; is = refl; from = b }))))
          (cases_lt (w * 64 + u) bar)

      pub key_heads : HeadsFigured net alg n xs k.node v
      key_heads l t =
          let u = k.node in
          let nh = (link_sound net sound n m.nodes t.best.path.0.0 l t.best.path.0.1).head in
          let f = path_far net sound n dist m l.head v t.rest nh nv t.best.path.2 in
          let d = path_far net sound n dist m u v (l ∷ t.rest) node_below nv t.best.path in
          let q = tight_nearer net sound u v l d.0 f.0 t d.2 f.2 in
          let w : d.0 ≡ k.far = some_same (table_of n dist u v) d.0 k.far d.1 node_at in
          nearer l.head f.0 nh f.1 (omega (arith, q.1, w, nh, few))

      module _ (s : Option (Spread V)) (wide : n * n ≤ length xs) (figures : FiguresOf net alg (k.node) v s) where
        own_slot : slot (set xs (k.node * n + v) s) (k.node * n + v) ≡ s
        own_slot = get_or-set_same xs (k.node * n + v) s None (lt_of_lt_of_le (digits_lt node_below nv) wide)

        other_slot : (i : ℕ) → (i ≡ k.node * n + v → ⊥) → slot (set xs (k.node * n + v) s) i ≡ slot xs i
        other_slot i ne = get_or-set_other xs (k.node * n + v) i s None ne

        other_row : (u : ℕ) → (u ≡ k.node → ⊥) → slot (set xs (k.node * n + v) s) (u * n + v) ≡ slot xs (u * n + v)
        other_row u ne = other_slot (u * n + v) (λ z. ne (sym (digits_div u nv) ∙ ap (λ j. j / n) z ∙ digits_div (k.node) nv))

        pub filled_more : FilledTo (rank k + 1) (set xs (k.node * n + v) s)
        filled_more = record {
          near = λ u w nu e h. ⊎_elim
              (λ (o : u ≡ k.node). subst (λ j. HasFigures net alg n (set xs (k.node * n + v) s) j v) (sym o) (subst (FiguresOf net alg k.node v) (sym own_slot) figures))
              (λ (o : u ≡ k.node → ⊥).
              let low : u < 64 = omega (arith, nu, few) in
              subst (FiguresOf net alg u v) (sym (other_row u o)) (nearer u w nu e (omega (arith, h, o, low, small))))
              (cases_eq u k.node);
          empty = λ u nu e. other_row u (λ o. none_some (table_of n dist k.node v) k.far (subst (λ j. table_of n dist j v ≡ None) o e) node_at) ∙ filled.empty u nu e;
        }

        pub spared_more : (before : List (Option (Spread V))) → Spared n v before xs → Spared n v before (set xs (k.node * n + v) s)
        spared_more before kept a b nb ne = other_slot (a * n + b) (λ z. ne (sym (digits_mod a nb) ∙ ap (λ j. j % n) z ∙ digits_mod (k.node) nv)) ∙ kept a b nb ne

module _ {V : Type 0} (net : Net) (alg : Algebra V) (n : ℕ) where
  -- the columns below a number are filled, and the others are empty where there is no path
  pub record ColumnsTo (dist : List (Option ℕ)) (m : ℕ) (xs : List (Option (Spread V))) : Type 0 where
    pub filled : (u v : ℕ) → u < n → v < m → HasFigures net alg n xs u v
    pub empty : (v : ℕ) → m ≤ v → v < n → EmptyAt n dist xs v
