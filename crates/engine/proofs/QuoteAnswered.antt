-- From the searched table to the quote, and the denials of a quote.
use Rattle.std.proofs.Common.{◌≡◌, ℕ, ◌<◌, ◌≤◌, leb, List, [], ◌∷◌, ◌++◌, length, drop, Some, None, Ok, Err, Option, Result, sym, refl, ap, ◌∙◌, subst}
use Rattle.std.proofs.lemmas.Bool.{le-leb, lt-leb}
use Rattle.questions.specs.declared.denial.Denial.{Denial}
use Rattle.questions.specs.declared.denial.Question.TheVariants.{ListSpace, AnyList}
use Rattle.questions.specs.Asking.{first_no}
use Rattle.questions.specs.Denials.{of_order}
use Rattle.netmap.specs.Net.{Net, Sound}
use Rattle.questions.proofs.Asking.{first_after, first_before}
use Rattle.segments.specs.declared.figures.Figures.{Figures}
use Rattle.segments.specs.declared.order.Order.{Order}
use Rattle.segments.specs.Algebra.{Algebra, Laws}
use Rattle.engine.specs.declared.checks.Room.{Room}
use Rattle.engine.specs.declared.choosing.Choice.{Choice}
use Rattle.engine.specs.Calls.{of_one, order_questions, order_denial, Searched, QuoteBy, QuoteCall}
use Rattle.engine.specs.Cells.{best_of, cells_at, FilledTo, Row}
use Rattle.engine.specs.Chosen.{LeadOf, Whole}
use Rattle.engine.specs.Fronts.{most_grains_of}
use Rattle.engine.specs.Rebuilds.{Written}
use Rattle.engine.proofs.BoundKept.{bound_kept}
use Rattle.engine.proofs.ChosenFirst.{unserved}
use Rattle.engine.proofs.OrderAdmitted.{admitted}
use Rattle.engine.proofs.QuoteFromTable.{quoted}
use Rattle.engine.proofs.SourceScanned.{lead_chosen}

-- whatever the counts of the search are called
module _ {V : Type 0} (net : Net) (alg : Algebra V) (lawful : Laws alg) (sound : Sound net) (o : Order) (grain n top limit source : ℕ) (grain-is : grain ≡ o.grain.0) (top-is : top ≡ most_grains_of o) (limit-is : limit ≡ o.limit.0) (source-is : source ≡ o.source)
    (node : o.source < net.nodes) (one : 1 ≤ o.grain.0) (table : List (Option V)) (filled : FilledTo net alg grain o.target n top limit table) where
  abbrev best : ℕ → ℕ → ℕ → Option V
  best = best_of n top table

  all : (l : ℕ) → l ≤ o.limit.0 → Row net alg o.grain.0 o.target (most_grains_of o) l (best l)
  all l h =
      let row = subst (λ k. Row net alg k o.target top l (best l)) grain-is (filled l (subst (λ m. l ≤ m) (sym limit-is) h)) in
      subst (λ t. Row net alg o.grain.0 o.target t l (best l)) top-is row

  lead_to : (k : Option (Choice V)) → LeadOf alg (cells_at n top table source) (Whole limit top) k → LeadOf alg (cells_at n top table o.source) (Whole o.limit.0 (most_grains_of o)) k
  lead_to k lead =
      let begun = subst (λ v. LeadOf alg (cells_at n top table v) (Whole limit top) k) source-is lead in
      let limited = subst (λ l. LeadOf alg (cells_at n top table o.source) (Whole l top) k) limit-is begun in
      subst (λ t. LeadOf alg (cells_at n top table o.source) (Whole o.limit.0 t) k) top-is limited

  pub searched_none : (before : List ℕ) (x : Denial) → x ≡ of_order AnyList o.index → LeadOf alg (cells_at n top table source) (Whole limit top) None → Searched net alg o before before (Err x)
  searched_none before x is lead = (is, unserved net alg o lawful sound node one best all (λ l d hl hd. lead_to None lead l d (hl, hd)), refl)

  pub searched_some : (c : Choice V) (delay : ℕ) (before after : List ℕ) → LeadOf alg (cells_at n top table source) (Whole limit top) (Some c) → Written net alg grain c.value best c.grains source c.entries delay before after
      → Searched net alg o before after (Ok (record { value = c.value; grains = record { 0 = c.grains }; delay = record { 0 = delay }; labels = record { 0 = c.entries } }))
  searched_some c delay before after lead written =
      let begun = subst (λ v. Written net alg grain c.value best c.grains v c.entries delay before after) source-is written in
      let w = subst (λ k. Written net alg k c.value best c.grains o.source c.entries delay before after) grain-is begun in
      let q : Figures V = record { value = c.value; grains = record { 0 = c.grains }; delay = record { 0 = delay }; labels = record { 0 = c.entries } } in
      let k = quoted net alg lawful sound o node one best all c.value c.grains c.entries w.codes w.legs q (lead_chosen net alg o best c (lead_to (Some c) lead)) w.rebuilt refl refl w.total_delay refl in
      (w.codes, k, w.list ∙ ap (λ j. w.codes ++ drop j before) k.labels)

module _ {V : Type 0} (net : Net) (alg : Algebra V) (o : Order) (room : Room) (before after : List ℕ) (r : Result (Figures V) Denial) where
  pub quote_searched : Laws alg → order_denial net o room ≡ None → o.limit.0 ≤ length before → Searched net alg o before after r → QuoteCall net alg o room before after r
  quote_searched lawful none space s =
      let last = of_one o ListSpace (leb o.limit.0 (length before)) in
      let yes-last : first_no (last ∷ []) ≡ None = ap (λ b. first_no (of_one o ListSpace b ∷ [])) (le-leb o.limit.0 (length before) space) in
      subst (λ d. QuoteBy net alg o d before after r) (sym (first_after (order_questions net o room) (last ∷ []) none ∙ yes-last))
      (s, bound_kept net alg lawful o before after r (admitted net o room none).grain_low s)

-- denied by what both calls ask, or by what the quote asks of the list space
module _ {V : Type 0} (net : Net) (alg : Algebra V) (o : Order) (room : Room) (before : List ℕ) (r : Result (Figures V) Denial) where
  pub quote_denied : (x : Denial) → order_denial net o room ≡ Some x → r ≡ Err x → QuoteCall net alg o room before before r
  quote_denied x e q =
      let last = of_one o ListSpace (leb o.limit.0 (length before)) in
      subst (λ d. QuoteBy net alg o d before before r) (sym (first_before (order_questions net o room) (last ∷ []) x e)) (q, refl)

  pub quote_cramped : order_denial net o room ≡ None → length before < o.limit.0 → r ≡ Err (of_order ListSpace o.index) → QuoteCall net alg o room before before r
  quote_cramped none short q =
      let last = of_one o ListSpace (leb o.limit.0 (length before)) in
      let no_last : first_no (last ∷ []) ≡ Some (of_order ListSpace o.index) = ap (λ b. first_no (of_one o ListSpace b ∷ [])) (lt-leb o.limit.0 (length before) short) in
      subst (λ d. QuoteBy net alg o d before before r) (sym (first_after (order_questions net o room) (last ∷ []) none ∙ no_last)) (q, refl)
