-- Paths and segments stay among the nodes of the network.
use Rattle.std.proofs.Common.{◌≡◌, ℕ, ◌-◌, ◌<◌, ◌≤◌, List, [], ◌∷◌, Some, sym, subst, inl, inr}
use Rattle.netmap.specs.declared.link.Link.{Link}
use Rattle.netmap.specs.Net.{Net, Sound, link_at, SoundLink}
use Rattle.segments.specs.declared.figures.Leg.{Leg}
use Rattle.segments.specs.Algebra.{Algebra}
use Rattle.segments.specs.Paths.{IsPath}
use Rattle.segments.specs.Segments.{Segment}

pub path_node : (net : Net) → Sound net → (u v : ℕ) (ls : List Link) → u < net.nodes → IsPath net u ls v → v < net.nodes
path_node net sound u v [] h p = subst (λ n. n < net.nodes) p h
path_node net sound u v (l ∷ ls) h p = path_node net sound l.head v ls (sound.each p.0.0 l p.0.1).head p.2

pub segment_node : {V : Type 0} (net : Net) (alg : Algebra V) → Sound net → (u c : ℕ) (h : Leg V) → u < net.nodes → Segment net alg u c h → h.to < net.nodes
segment_node net alg sound u c h node (inl s) =
    subst (λ n. n < net.nodes) (sym s.to) (path_node net sound u c s.spread.delay_met.0 node s.spread.delay_met.1.path)
segment_node net alg sound u c h node (inr s) =
    subst (λ n. n < net.nodes) (sym s.to) (sound.each (c - 256) s.link s.filled).head

-- where a path to another node begins
pub tail_node : (net : Net) → Sound net → (u v : ℕ) (ls : List Link) → (u ≡ v → ⊥) → IsPath net u ls v → u < net.nodes
tail_node net sound u v [] other p = absurd (other p)
tail_node net sound u v (l ∷ ls) other p = subst (λ n. n < net.nodes) p.1 (sound.each p.0.0 l p.0.1).tail

-- the same of the links, where n is the number of nodes
pub link_sound : (net : Net) → Sound net → (n : ℕ) → n ≡ net.nodes → (p : ℕ) (l : Link) → link_at net p ≡ Some l → SoundLink n l
link_sound net sound n same p l at = subst (λ m. SoundLink m l) (sym same) (sound.each p l at)

pub few_nodes : (net : Net) → Sound net → (n : ℕ) → n ≡ net.nodes → n ≤ 64
few_nodes net sound n same = subst (λ m. m ≤ 64) (sym same) sound.nodes_high
