-- A best path visits no node twice, so it has fewer links than there are nodes, and its totals are small.
use Rattle.std.proofs.Common.{ℕ, ◌*◌, ◌<◌, ◌≤◌, List, [], ◌∷◌, length, subst, ⊎_elim, arith}
use Rattle.netmap.specs.declared.link.Link.{Link}
use Rattle.netmap.specs.Net.{Net, Sound}
use Rattle.segments.specs.Paths.{IsPath, total_weight, total_delay, IsBest}
use Rattle.segments.specs.Theorems.{BestPathsShort}
use Rattle.segments.proofs.Pigeonhole.{NoDup, pigeonhole}
use Rattle.segments.proofs.SimplePaths.{heads, heads_below, heads_length, Simple, hit_simple}
use Rattle.segments.proofs.TightLinks.{best_rest}

module _ (net : Net) (sound : Sound net) where
  best_apart : (u v : ℕ) (ls : List Link) → IsBest net u ls v → NoDup (u ∷ heads ls)
  best_apart u v [] b = (tt, tt)
  best_apart u v (l ∷ ls) b =
      let rest = best_rest net u v l ls b in
      let w = (sound.each b.path.0.0 l b.path.0.1).weight_low in
      let apart = best_apart l.head v ls rest in
      (⊎_elim (λ a. a) (λ (m : Simple net sound u v (total_weight ls)). absurd (omega (arith, b.least m.links m.path, m.lighter, w))) (hit_simple net sound u l.head v ls b.path.2 apart), apart)

  pub best_short : (u v : ℕ) (ls : List Link) → u < net.nodes → IsBest net u ls v → length ls < net.nodes
  best_short u v ls nu b = omega (arith, pigeonhole net.nodes (u ∷ heads ls) (best_apart u v ls b) (nu, heads_below net sound u v ls b.path), heads_length net sound ls)

  pub path_small : (u v : ℕ) (ls : List Link) → IsPath net u ls v → (total_weight ls ≤ 65535 * length ls) × (total_delay ls ≤ 100000 * length ls)
  path_small u v [] p = (omega arith, omega arith)
  path_small u v (l ∷ ls) p =
      let s = sound.each p.0.0 l p.0.1 in
      let t = path_small l.head v ls p.2 in
      (omega (arith, s.weight_high, t.0), omega (arith, s.delay, t.1))

  -- 63 links at most
  pub best_small : (u v : ℕ) (ls : List Link) → u < net.nodes → IsBest net u ls v → (total_weight ls ≤ 4128705) × (total_delay ls ≤ 6300000)
  best_small u v ls nu b =
      let s = best_short u v ls nu b in
      let t = path_small u v ls b.path in
      let n = sound.nodes_high in
      (omega arith, omega arith)

pub best_paths_short : BestPathsShort
best_paths_short net sound u v [] b = omega arith
best_paths_short net sound u v (l ∷ ls) b =
    let nu = subst (λ n. n < net.nodes) b.path.1 (sound.each b.path.0.0 l b.path.0.1).tail in
    omega (arith, best_short net sound u v (l ∷ ls) nu b)
