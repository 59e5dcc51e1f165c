-- The segment lists within an order, and which of two lists precedes the other.
use Rattle.std.specs.Prelude.{◌≡◌, ℕ, ◌*◌, ◌<◌, ◌≤◌, ◌⊎◌, List, [], ◌∷◌, length, ◌≢◌}
use Rattle.netmap.specs.Net.{Net}
use Rattle.segments.specs.declared.figures.Leg.{Leg}
use Rattle.segments.specs.declared.order.Order.{Order}
use Rattle.segments.specs.Algebra.{Algebra, Better}
use Rattle.segments.specs.Segments.{SegmentList, list_end, list_value, list_grains}

module _ {V : Type 0} (net : Net) (alg : Algebra V) (o : Order) where
  -- a segment list from the order's source to its target that keeps its label limit
  pub record Serves (cs : List ℕ) (hs : List (Leg V)) : Type 0 where
    pub legal : SegmentList net alg o.source cs hs
    pub ends : list_end o.source hs ≡ o.target
    pub labels : length cs ≤ o.limit.0

  -- and whose grains keep the bound
  pub record Within (cs : List ℕ) (hs : List (Leg V)) : Type 0 where
    pub serves : Serves cs hs
    pub bound : list_grains o.grain.0 hs * o.grain.0 ≤ o.bound.0

-- the smaller code at the first entry that differs
abbrev pub Smaller : List ℕ → List ℕ → Type 0
Smaller [] ds = ⊥
Smaller (c ∷ cs) [] = ⊥
Smaller (c ∷ cs) (d ∷ ds) = (c < d) ⊎ ((c ≡ d) × Smaller cs ds)

-- by value, then grains, then entries, then codes
abbrev pub Precedes : {V : Type 0} → Algebra V → ℕ → List ℕ → List (Leg V) → List ℕ → List (Leg V) → Type 0
Precedes alg grain cs hs ds ks =
    Better alg (list_value alg hs) (list_value alg ks)
    ⊎ ((list_value alg hs ≡ list_value alg ks)
    × ((list_grains grain hs < list_grains grain ks)
    ⊎ ((list_grains grain hs ≡ list_grains grain ks)
    × ((length cs < length ds)
    ⊎ ((length cs ≡ length ds) × Smaller cs ds)))))

-- within the order, and before every other list within it
pub record First {V : Type 0} (net : Net) (alg : Algebra V) (o : Order) (cs : List ℕ) (hs : List (Leg V)) : Type 0 where
  pub within : Within net alg o cs hs
  pub first : (ds : List ℕ) (ks : List (Leg V)) → Within net alg o ds ks → (ds ≢ cs) → Precedes alg o.grain.0 cs hs ds ks
