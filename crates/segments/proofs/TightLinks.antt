-- A link begins a best path where its weight and the distance behind it make the distance.
use Rattle.std.proofs.Common.{◌≡◌, ℕ, ◌+◌, ◌<◌, ◌≤◌, List, ◌∷◌, Some, refl, arith}
use Rattle.netmap.specs.declared.link.Link.{Link}
use Rattle.netmap.specs.Net.{Net, Sound}
use Rattle.segments.specs.Distances.{LeastOf, Far}
use Rattle.segments.specs.Paths.{Holds, total_weight, IsBest, Tight}

module _ (net : Net) where
  pub best_rest : (u v : ℕ) (l : Link) (ls : List Link) → IsBest net u (l ∷ ls) v → IsBest net l.head ls v
  best_rest u v l ls b = record {
    path = b.path.2;
    least = λ ms p. omega (arith, b.least (l ∷ ms) (b.path.0, b.path.1, p));
  }

  -- after a tight link each best path goes on
  pub tight_best : (u v : ℕ) (l : Link) (ls : List Link) → Tight net u v l → IsBest net l.head ls v → IsBest net u (l ∷ ls) v
  tight_best u v l ls t b = record {
    path = (t.best.path.0, t.best.path.1, b.path);
    least = λ ms p. omega (arith, b.least t.rest t.best.path.2, t.best.least ms p);
  }

  -- the test on distances
  pub tight_test : (u v : ℕ) (l : Link) (w y : ℕ) → Holds net l → l.tail ≡ u → LeastOf (Far net u v) (Some w) → LeastOf (Far net l.head v) (Some y) → l.weight + y ≡ w → Tight net u v l
  tight_test u v l w y holds tail d e same = record {
    rest = e.0.links;
    best = record {
      path = (holds, tail, e.0.path);
      least = λ ms p. omega (arith, d.1 (total_weight ms) (record { links = ms; path = p; weight = refl }), e.0.weight, same);
    };
  }

  -- a tight link leads nearer
  pub tight_nearer : (sound : Sound net) (u v : ℕ) (l : Link) (w y : ℕ) → Tight net u v l → LeastOf (Far net u v) (Some w) → LeastOf (Far net l.head v) (Some y) → (l.weight + y ≡ w) × (y < w)
  tight_nearer sound u v l w y t d e =
      let low : w ≤ l.weight + y = omega (arith, d.1 (total_weight (l ∷ e.0.links)) (record { links = l ∷ e.0.links; path = (t.best.path.0, t.best.path.1, e.0.path); weight = refl }), e.0.weight) in
      let high : l.weight + y ≤ w = omega (arith, e.1 (total_weight t.rest) (record { links = t.rest; path = t.best.path.2; weight = refl }), t.best.least d.0.links d.0.path, d.0.weight) in
      (omega arith, omega (arith, (sound.each t.best.path.0.0 l t.best.path.0.1).weight_low))
