-- What the contracts of the calls leave: one outcome, whatever the code.
use Rattle.std.specs.Prelude.{◌≡◌, ℕ, List, Option, Result}
use Rattle.questions.specs.declared.denial.Denial.{Denial}
use Rattle.netmap.specs.Net.{Net}
use Rattle.segments.specs.declared.figures.Figures.{Figures}
use Rattle.segments.specs.declared.order.Order.{Order}
use Rattle.segments.specs.Algebra.{Algebra}
use Rattle.engine.specs.declared.checks.Room.{Room}
use Rattle.engine.specs.Calls.{QuoteCall, FrontCall}

module _ {V : Type 0} (alg : Algebra V) where
  -- one reply, and one content of the list space
  abbrev pub QuotesDetermined : Type 0
  QuotesDetermined = (net : Net) (o : Order) (room : Room) (before a b : List ℕ) (r s : Result (Figures V) Denial)
      → QuoteCall net alg o room before a r → QuoteCall net alg o room before b s → (a ≡ b) × (r ≡ s)

  -- one reply, and one content of the front slots
  abbrev pub FrontsDetermined : Type 0
  FrontsDetermined = (net : Net) (o : Order) (room : Room) (before a b : List (Option V)) (r s : Result ℕ Denial)
      → FrontCall net alg o room before a r → FrontCall net alg o room before b s → (a ≡ b) × (r ≡ s)
