-- Where distances are exact, each stands for a path, each path has one, and all are small.
use Rattle.std.proofs.Common.{◌≡◌, ℕ, ◌<◌, List, Some, None, Option, refl, subst, arith}
use Rattle.netmap.specs.declared.link.Link.{Link}
use Rattle.netmap.specs.Net.{Net, Sound}
use Rattle.segments.specs.Distances.{LeastOf, Far, cell, table_of, Measured, Known, AllKnown}
use Rattle.segments.specs.Paths.{IsPath, total_weight, IsBest}
use Rattle.segments.proofs.BestPathsShort.{best_small}
use Rattle.segments.proofs.TableSlots.{by_slot}

module _ (net : Net) (sound : Sound net) (n : ℕ) (xs : List (Option ℕ)) (m : Measured net n xs) where
  far_best : (u v w : ℕ) → LeastOf (Far net u v) (Some w) → (ls : List Link) × IsBest net u ls v × (total_weight ls ≡ w)
  far_best u v w l = (l.0.links, record { path = l.0.path; least = λ ms p. omega (arith, l.0.weight, l.1 (total_weight ms) (record { links = ms; path = p; weight = refl })) }, l.0.weight)

  -- distances are small
  pub exact_known : AllKnown n xs
  exact_known = by_slot n (λ u v i. Known (cell xs i)) (λ u v nu nv. known_at u v nu (table_of n xs u v) (m.exact u v nu nv))
    where
      known_at : (u v : ℕ) → u < n → (o : Option ℕ) → LeastOf (Far net u v) o → Known o
      known_at u v nu (Some w) l = let b = far_best u v w l in omega (arith, (best_small net sound u v b.0 (subst (λ k. u < k) m.nodes nu) b.1).0, b.2)
      known_at u v nu None l = tt

  -- where a path is, so is a distance
  pub path_far : (u v : ℕ) (ls : List Link) → u < n → v < n → IsPath net u ls v → (w : ℕ) × (table_of n xs u v ≡ Some w) × LeastOf (Far net u v) (Some w)
  path_far u v ls nu nv p = pick (table_of n xs u v) refl
    where
      pick : (o : Option ℕ) → table_of n xs u v ≡ o → (w : ℕ) × (table_of n xs u v ≡ Some w) × LeastOf (Far net u v) (Some w)
      pick (Some w) e = (w, e, subst (LeastOf (Far net u v)) e (m.exact u v nu nv))
      pick None e = absurd (subst (LeastOf (Far net u v)) e (m.exact u v nu nv) (total_weight ls) (record { links = ls; path = p; weight = refl }))

  -- and the other way about
  pub far_path : (u v w : ℕ) → u < n → v < n → table_of n xs u v ≡ Some w → (ls : List Link) × IsBest net u ls v × (total_weight ls ≡ w)
  far_path u v w nu nv e = far_best u v w (subst (LeastOf (Far net u v)) e (m.exact u v nu nv))
