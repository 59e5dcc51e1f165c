-- The test on distances finds the links that begin a best path.
use Rattle.std.proofs.Common.{◌≡◌, ℕ, ◌+◌, ◌<◌, List, ◌∷◌, Some, None, Option, sym, refl, ap, ◌∙◌, subst}
use Rattle.netmap.specs.declared.link.Link.{Link}
use Rattle.netmap.specs.Net.{Net, Sound, link_at}
use Rattle.segments.specs.Distances.{LeastOf, Far, table_of, Measured}
use Rattle.segments.specs.Paths.{IsPath, Tight}
use Rattle.segments.specs.Spreads.{TightAt}
use Rattle.segments.proofs.ExactDistances.{path_far}
use Rattle.segments.proofs.NodesReached.{link_sound}
use Rattle.segments.proofs.OptionValues.{some_same, none_some}
use Rattle.segments.proofs.TightLinks.{tight_test, tight_nearer}

module _ (net : Net) (sound : Sound net) (n : ℕ) (xs : List (Option ℕ)) (m : Measured net n xs) where
  module _ (u v p : ℕ) (nu : u < n) (nv : v < n) where
    module _ (l : Link) (at : link_at net p ≡ Some l) where
      pub tight_rest : table_of n xs l.head v ≡ None → TightAt net u v p None
      tight_rest e k here t =
          let s = some_same (link_at net p) k l here at in
          let f = path_far net sound n xs m l.head v t.rest (link_sound net sound n m.nodes p l at).head nv (subst (λ j. IsPath net j.head t.rest v) s t.best.path.2) in
          none_some (table_of n xs l.head v) f.0 e f.1

      module _ (rest : ℕ) (below : table_of n xs l.head v ≡ Some rest) where
        pub tight_sum : (table_of n xs u v ≡ Some (l.weight + rest) → ⊥) → TightAt net u v p None
        tight_sum ne k here k-tight =
            let t : Tight net u v l = subst (Tight net u v) (some_same (link_at net p) k l here at) k-tight in
            let f = path_far net sound n xs m l.head v t.rest (link_sound net sound n m.nodes p l at).head nv t.best.path.2 in
            let d = path_far net sound n xs m u v (l ∷ t.rest) nu nv t.best.path in
            let q = tight_nearer net sound u v l d.0 f.0 t d.2 f.2 in
            ne (d.1 ∙ ap Some (sym q.0 ∙ ap (λ k. l.weight + k) (some_same (table_of n xs l.head v) f.0 rest f.1 below)))

        pub tight_yes : l.tail ≡ u → table_of n xs u v ≡ Some (l.weight + rest) → Tight net u v l
        tight_yes tail sum = tight_test net u v l (l.weight + rest) rest (p, at) tail
            (subst (LeastOf (Far net u v)) sum (m.exact u v nu nv))
            (subst (LeastOf (Far net l.head v)) below (m.exact l.head v (link_sound net sound n m.nodes p l at).head nv))
            refl
