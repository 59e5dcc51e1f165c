-- The questions that a quote and a front ask, and what either call replies and writes.
use Rattle.std.specs.Prelude.{◌≡◌, ℕ, ◌+◌, ◌*◌, Bool, ◌&&◌, List, [], ◌∷◌, ◌++◌, length, take, drop, Some, None, Ok, Err, Option, Result, ◌≢◌, nat_le, nat_lt}
use Rattle.questions.specs.declared.denial.Denial.{Denial}
use Rattle.questions.specs.declared.denial.Question.{Question}
use Rattle.questions.specs.declared.denial.Question.TheVariants.{OrderNodes, LabelLimit, GrainRange, BoundGrains, WorkingSpace, ListSpace, AnyList, FrontSpace}
use Rattle.questions.specs.Asking.{Asked, asks, first_no}
use Rattle.questions.specs.Denials.{of_order}
use Rattle.netmap.specs.Net.{Net}
use Rattle.segments.specs.declared.figures.Figures.{Figures}
use Rattle.segments.specs.declared.figures.Spread.{Spread}
use Rattle.segments.specs.declared.order.Order.{Order}
use Rattle.segments.specs.Algebra.{Algebra}
use Rattle.engine.specs.declared.checks.Room.{Room}
use Rattle.engine.specs.declared.workspace.Workspace.{Workspace}
use Rattle.keeper.specs.Fronts.{Front}
use Rattle.engine.specs.Fronts.{Had, held, most_grains_of}
use Rattle.engine.specs.Quotes.{Quoted, Unserved, KeepsBound}

-- the lengths of the three working slices
abbrev pub room_of : {A B C : Type 0} → List A → List B → List C → Room
room_of dist spread table = record { dist = length dist; spread = length spread; table = length table }

-- a question whose denial carries the order's index
abbrev pub of_one : Order → Question → Bool → Asked
of_one o question = asks (of_order question o.index)

-- n × n slots of either slice of routing, and a cell for each number of entries, node and number of grains
abbrev pub fits_room : Net → Order → Room → Bool
fits_room net o room =
    nat_le (net.nodes * net.nodes) room.dist
    && nat_le (net.nodes * net.nodes) room.spread
    && nat_le ((o.limit.0 + 1) * (most_grains_of o + 1) * net.nodes) room.table

-- what both calls ask first
abbrev pub order_questions : Net → Order → Room → List Asked
order_questions net o room =
    of_one o OrderNodes (nat_lt o.source net.nodes && nat_lt o.target net.nodes)
    ∷ of_one o LabelLimit (nat_le 1 o.limit.0 && nat_le o.limit.0 10)
    ∷ of_one o GrainRange (nat_le 1 o.grain.0 && nat_le o.grain.0 10000)
    ∷ of_one o BoundGrains (nat_le (most_grains_of o) 1000)
    ∷ of_one o WorkingSpace (fits_room net o room)
    ∷ []

abbrev pub order_denial : Net → Order → Room → Option Denial
order_denial net o room = first_no (order_questions net o room)

-- and then of the list space, or of the front slots
abbrev pub quote_denial : Net → Order → Room → ℕ → Option Denial
quote_denial net o room space = first_no (order_questions net o room ++ of_one o ListSpace (nat_le o.limit.0 space) ∷ [])

abbrev pub front_denial : Net → Order → Room → ℕ → Option Denial
front_denial net o room slots = first_no (order_questions net o room ++ of_one o FrontSpace (nat_le (most_grains_of o + 1) slots) ∷ [])

-- what the three working slices hold
pub record Working (V : Type 0) : Type 0 where
  pub dist : List (Option ℕ)
  pub spread : List (Option (Spread V))
  pub table : List (Option V)

abbrev pub working : {V : Type 0} → List (Option ℕ) → List (Option (Spread V)) → List (Option V) → Working V
working dist spread table = record { dist = dist; spread = spread; table = table }

-- the lengths of a workspace's slices, and what they hold
abbrev pub room_in : {V : Type 0} → Workspace V → Room
room_in w = room_of w.dist.now w.spread.now w.table.now

abbrev pub held_in : {V : Type 0} → Workspace V → Working V
held_in w = working w.dist.now w.spread.now w.table.now

-- the same slices, whatever they hold
pub record SameSlices {V : Type 0} (was is : Workspace V) : Type 0 where
  pub dist : is.dist.ghost_name ≡ was.dist.ghost_name
  pub spread : is.spread.ghost_name ≡ was.spread.ghost_name
  pub table : is.table.ghost_name ≡ was.table.ghost_name
  pub room : room_in is ≡ room_in was

-- every denial leaves the working slices as they were
abbrev pub Untouched : {V A : Type 0} → Result A Denial → Working V → Working V → Type 0
Untouched r before after = (d : Denial) → r ≡ Err d → after ≡ before

-- every denial but the one that no list is within the order
abbrev pub UntouchedBefore : {V A : Type 0} → Result A Denial → Working V → Working V → Type 0
UntouchedBefore r before after = (d : Denial) → r ≡ Err d → (d.question ≢ AnyList) → after ≡ before

module _ {V : Type 0} (net : Net) (alg : Algebra V) (o : Order) where
  -- the list stands in the first places, and the others stay
  abbrev pub Searched : List ℕ → List ℕ → Result (Figures V) Denial → Type 0
  Searched before after (Ok q) = (cs : List ℕ) × Quoted net alg o cs q × (after ≡ cs ++ drop (length cs) before)
  Searched before after (Err d) = (d ≡ of_order AnyList o.index) × Unserved net alg o × (after ≡ before)

  -- denied by one of the questions before the search, or searched
  abbrev pub QuoteBy : Option Denial → List ℕ → List ℕ → Result (Figures V) Denial → Type 0
  QuoteBy (Some d) before after r = (r ≡ Err d) × (after ≡ before)
  QuoteBy None before after r = Searched before after r × KeepsBound net alg o r

  -- the list space before and after, and the reply
  abbrev pub QuoteCall : Room → List ℕ → List ℕ → Result (Figures V) Denial → Type 0
  QuoteCall room before after r = QuoteBy (quote_denial net o room (length before)) before after r

  -- a slot for each number of grains holds the front, the others stay, and the reply counts the pairs
  pub record Filled (before after : List (Option V)) (r : Result ℕ Denial) : Type 0 where
    pub front : Front alg.as_good (Had net alg o) (take (most_grains_of o + 1) after)
    pub count : r ≡ Ok (held (take (most_grains_of o + 1) after))
    pub rest : drop (most_grains_of o + 1) after ≡ drop (most_grains_of o + 1) before
    pub long : length after ≡ length before

  abbrev pub FrontBy : Option Denial → List (Option V) → List (Option V) → Result ℕ Denial → Type 0
  FrontBy (Some d) before after r = (r ≡ Err d) × (after ≡ before)
  FrontBy None before after r = Filled before after r

  -- the front slots before and after, and the reply
  abbrev pub FrontCall : Room → List (Option V) → List (Option V) → Result ℕ Denial → Type 0
  FrontCall room before after r = FrontBy (front_denial net o room (length before)) before after r
