-- The list rebuilt from the table of best values.
use Rattle.std.specs.Prelude.{◌≡◌, ℕ, suc, ◌+◌, ◌<◌, ◌≤◌, List, [], ◌∷◌, ◌++◌, drop, Some, None, Option}
use Rattle.netmap.specs.Net.{Net}
use Rattle.segments.specs.Algebra.{Algebra}
use Rattle.engine.specs.declared.rebuilding.Found.{Found}
use Rattle.segments.specs.declared.figures.Leg.{Leg}
use Rattle.segments.specs.Segments.{Segment, list_delay, grains_of}

module _ {V : Type 0} (net : Net) (alg : Algebra V) (grain : ℕ) where
  -- after a prefix of value p, the code goes on to the total: p, its own value and the best rest join to it
  pub record Attains (total : V) (row : ℕ → ℕ → Option V) (p : V) (d v code : ℕ) : Type 0 where
    pub leg : Leg V
    pub rest : ℕ
    pub suffix : V
    pub segment : Segment net alg v code leg
    pub grains : grains_of grain leg.delay.0 + rest ≡ d
    pub below : row rest leg.to ≡ Some suffix
    pub attained : alg.join (alg.join p leg.value) suffix ≡ total

  -- at each entry the smallest code that attains the total
  abbrev pub Rebuilt : V → (ℕ → ℕ → ℕ → Option V) → V → ℕ → ℕ → ℕ → List ℕ → List (Leg V) → Type 0
  Rebuilt total best p d v l [] [] = l ≡ 0
  Rebuilt total best p d v l [] (h ∷ hs) = ⊥
  Rebuilt total best p d v l (c ∷ cs) [] = ⊥
  Rebuilt total best p d v l (c ∷ cs) (h ∷ hs) =
      (m : ℕ) × (l ≡ suc m) × (a : Attains total (best m) p d v c) × (a.leg ≡ h) × ((b : ℕ) → b < c → Attains total (best m) p d v b → ⊥) × Rebuilt total best (alg.join p h.value) a.rest h.to m cs hs

  -- the smallest code that attains the total, with what it does
  pub record FoundAt (total : V) (row : ℕ → ℕ → Option V) (p : V) (d v : ℕ) (f : Found V) : Type 0 where
    pub attains : Attains total row p d v f.code
    pub leg : attains.leg ≡ f.leg
    pub rest : attains.rest ≡ f.rest
    pub least : (b : ℕ) → b < f.code → Attains total row p d v b → ⊥
    pub on : f.leg.to < net.nodes
    pub delay : f.leg.delay.0 ≤ 6300000

  -- whether a code attains the total, with what it does
  abbrev pub TriedCode : V → (ℕ → ℕ → Option V) → V → ℕ → ℕ → ℕ → Option (Found V) → Type 0
  TriedCode total row p d v code (Some f) =
      (f.code ≡ code) × (a : Attains total row p d v code) × (a.leg ≡ f.leg) × (a.rest ≡ f.rest) × (f.leg.to < net.nodes) × (f.leg.delay.0 ≤ 6300000)
  TriedCode total row p d v code None = Attains total row p d v code → ⊥

  -- the list written into the first places, with its delay
  pub record Written (total : V) (best : ℕ → ℕ → ℕ → Option V) (d v l delay : ℕ) (before after : List ℕ) : Type 0 where
    pub codes : List ℕ
    pub legs : List (Leg V)
    pub rebuilt : Rebuilt total best alg.neutral d v l codes legs
    pub list : after ≡ codes ++ drop l before
    pub total_delay : delay ≡ list_delay legs
