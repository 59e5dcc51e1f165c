-- Walking a given segment list: the questions that a walk asks, and its reply.
use Rattle.std.specs.Prelude.{◌≡◌, ℕ, ◌*◌, ◌<◌, Bool, ◌&&◌, List, [], ◌∷◌, length, take, Some, None, Ok, Err, Option, Result, nat_le, nat_lt, slice_index}
use Rattle.questions.specs.declared.denial.Denial.{Denial}
use Rattle.questions.specs.declared.denial.Question.{Question}
use Rattle.questions.specs.declared.denial.Question.TheVariants.{OrderNodes, GrainRange, WorkingSpace, WalkLength, EntryLegal}
use Rattle.netmap.specs.Net.{Net}
use Rattle.questions.specs.Denials.{of_order, of_list}
use Rattle.questions.specs.Asking.{Asked, asks, first_no}
use Rattle.segments.specs.declared.figures.Leg.{Leg}
use Rattle.segments.specs.declared.figures.Spread.{Spread}
use Rattle.segments.specs.declared.figures.Walk.{Walk}
use Rattle.segments.specs.Algebra.{Algebra}
use Rattle.segments.specs.Segments.{Segment, SegmentList, list_end, list_value, list_delay, list_grains}

-- of the order, outside a sheet
abbrev pub of_walk : Question → Bool → Asked
of_walk question = asks (of_order question 0)

-- of the source, the grain, the lengths of the working slices and that of the list
abbrev pub walk_questions : ℕ → ℕ → ℕ → ℕ → ℕ → ℕ → List Asked
walk_questions n source grain dist spread count =
    of_walk OrderNodes (nat_lt source n)
    ∷ of_walk GrainRange (nat_le 1 grain && nat_le grain 10000)
    ∷ of_walk WorkingSpace (nat_le (n * n) dist && nat_le (n * n) spread)
    ∷ of_walk WalkLength (nat_le count 10)
    ∷ []

abbrev pub walk_denial : ℕ → ℕ → ℕ → ℕ → ℕ → ℕ → Option Denial
walk_denial n source grain dist spread count = first_no (walk_questions n source grain dist spread count)

module _ {V : Type 0} (net : Net) (alg : Algebra V) (source grain : ℕ) (cs : List ℕ) where
  -- the list is legal, and w has its end and its figures
  pub record Walked (w : Walk V) : Type 0 where
    pub legs : List (Leg V)
    pub legal : SegmentList net alg source cs legs
    pub end : w.end ≡ list_end source legs
    pub value : w.figures.value ≡ list_value alg legs
    pub grains : w.figures.grains.0 ≡ list_grains grain legs
    pub delay : w.figures.delay.0 ≡ list_delay legs
    pub labels : w.figures.labels.0 ≡ length cs

  -- the entries before the index are legal, and the one there is not
  pub record Stuck (i : ℕ) : Type 0 where
    pub inside : i < length cs
    pub legs : List (Leg V)
    pub legal : SegmentList net alg source (take i cs) legs
    pub illegal : (h : Leg V) → Segment net alg (list_end source legs) (slice_index cs i) h → ⊥

  abbrev pub WalkReply : Result (Walk V) Denial → Type 0
  WalkReply (Ok w) = Walked w
  WalkReply (Err d) = (i : ℕ) × (d ≡ of_list EntryLegal i) × Stuck i

  -- denied by one of the questions, which leaves the working slices as they were, or walked
  abbrev pub WalkBy : Option Denial → List (Option ℕ) → List (Option ℕ) → List (Option (Spread V)) → List (Option (Spread V)) → Result (Walk V) Denial → Type 0
  WalkBy (Some d) dist dist_after spread spread_after r = (r ≡ Err d) × (dist_after ≡ dist) × (spread_after ≡ spread)
  WalkBy None dist dist_after spread spread_after r = WalkReply r

  -- the working slices before and after, and the reply
  abbrev pub WalkCall : List (Option ℕ) → List (Option ℕ) → List (Option (Spread V)) → List (Option (Spread V)) → Result (Walk V) Denial → Type 0
  WalkCall dist dist_after spread spread_after r = WalkBy (walk_denial net.nodes source grain (length dist) (length spread) (length cs)) dist dist_after spread spread_after r
