-- What a quote answers: the list within the order that precedes every other, and how it keeps the bound.
use Rattle.std.specs.Prelude.{◌≡◌, ℕ, ◌+◌, ◌-◌, ◌*◌, ◌≤◌, List, length, Ok, Err, Result}
use Rattle.questions.specs.declared.denial.Denial.{Denial}
use Rattle.netmap.specs.Net.{Net}
use Rattle.segments.specs.declared.figures.Figures.{Figures}
use Rattle.segments.specs.declared.figures.Leg.{Leg}
use Rattle.segments.specs.declared.order.Order.{Order}
use Rattle.segments.specs.Algebra.{Algebra, Better}
use Rattle.segments.specs.Orders.{Serves, Within, First}
use Rattle.segments.specs.Segments.{list_value, list_delay, list_grains}

module _ {V : Type 0} (net : Net) (alg : Algebra V) (o : Order) where
  -- cs is the list within the order that precedes every other, and q its figures
  pub record Quoted (cs : List ℕ) (q : Figures V) : Type 0 where
    pub legs : List (Leg V)
    pub first : First net alg o cs legs
    pub value : q.value ≡ list_value alg legs
    pub grains : q.grains.0 ≡ list_grains o.grain.0 legs
    pub delay : q.delay.0 ≡ list_delay legs
    pub labels : q.labels.0 ≡ length cs

  -- no list is within the order
  abbrev pub Unserved : Type 0
  Unserved = (cs : List ℕ) (hs : List (Leg V)) → Within net alg o cs hs → ⊥

  -- a list that keeps the bound even if rounding adds all but one microsecond of a grain to each entry
  pub record Rival (cs : List ℕ) (hs : List (Leg V)) : Type 0 where
    pub serves : Serves net alg o cs hs
    pub bound : list_delay hs + (o.grain.0 - 1) * length cs ≤ o.bound.0

  -- the quoted list keeps the bound in microseconds, and no rival is better; where none is quoted there is no rival
  abbrev pub KeepsBound : Result (Figures V) Denial → Type 0
  KeepsBound (Ok q) = (q.delay.0 ≤ o.bound.0) × ((ds : List ℕ) (ks : List (Leg V)) → Rival ds ks → Better alg (list_value alg ks) q.value → ⊥)
  KeepsBound (Err d) = (ds : List ℕ) (ks : List (Leg V)) → Rival ds ks → ⊥
