-- From the gathered cells to the front of an order, and the denials of a front.
use Rattle.std.proofs.Common.{◌≡◌, ℕ, ◌+◌, ◌<◌, ◌≤◌, Bool, leb, List, [], ◌∷◌, ◌++◌, length, take, drop, Some, None, Ok, Err, Option, Result, sym, refl, ap, ◌∙◌, subst, arith, length-append, length-drop}
use Rattle.std.proofs.lemmas.Bool.{le-leb, lt-leb}
use Rattle.std.proofs.lemmas.List.{take_at, drop_at, length-take-le}
use Rattle.questions.specs.declared.denial.Denial.{Denial}
use Rattle.netmap.specs.Net.{Net, Sound}
use Rattle.segments.specs.Algebra.{Algebra, Laws}
use Rattle.segments.specs.declared.order.Order.{Order}
use Rattle.engine.specs.Cells.{best_of, cells_at, FilledTo}
use Rattle.engine.specs.Chosen.{Whole}
use Rattle.engine.specs.Fronts.{Had, held, most_grains_of}
use Rattle.keeper.specs.Fronts.{Optimal, Front}
use Rattle.keeper.specs.Keepers.{Accepted}
use Rattle.engine.proofs.FrontCovered.{optimal_up, optimal_down}
use Rattle.engine.proofs.OrderAdmitted.{admitted}
use Rattle.engine.proofs.QuoteFromTable.{Offered, offers_cover}
use Rattle.engine.specs.Offers.{Gathered}
use Rattle.questions.specs.declared.denial.Question.TheVariants.{FrontSpace}
use Rattle.questions.specs.Asking.{first_no}
use Rattle.questions.specs.Denials.{of_order}
use Rattle.questions.proofs.Asking.{first_after, first_before}
use Rattle.engine.specs.declared.checks.Room.{Room}
use Rattle.engine.specs.Calls.{of_one, order_questions, order_denial, Filled, FrontBy, FrontCall}

optimal_same : {V : Type 0} (good : V → V → Bool) (P Q : ℕ → V → Type 0) → ((d : ℕ) (x : V) → P d x → Q d x) → ((d : ℕ) (x : V) → Q d x → P d x) → (d : ℕ) (x : V) → Optimal good P d x → Optimal good Q d x
optimal_same good P Q f g d x o = record { member = f d x o.member; best = λ e y q. o.best e y (g e y q) }

module _ {V : Type 0} (net : Net) (alg : Algebra V) (lawful : Laws alg) (sound : Sound net) (o : Order) (n : ℕ) (node : o.source < net.nodes) (one : 1 ≤ o.grain.0) (table : List (Option V))
    (filled : FilledTo net alg o.grain.0 o.target n (most_grains_of o) o.limit.0 table) (slots : List (Option V))
    (gathered : Gathered alg.as_good (λ m e. best_of n (most_grains_of o) table m e o.source) (Whole o.limit.0 (most_grains_of o)) slots) where
  abbrev Offers : ℕ → V → Type 0
  Offers = Offered net alg lawful sound o node one (best_of n (most_grains_of o) table) filled

  to_offer : (e : ℕ) (y : V) → Accepted gathered.pairs e y → Offers e y
  to_offer e y a = let k = gathered.only e y a in record { entries = k.0; labels = k.1.0; small = k.1.1; cell = k.2 }

  of_offer : (e : ℕ) (y : V) → Offers e y → Accepted gathered.pairs e y
  of_offer e y k = gathered.all k.entries e y (k.labels, k.small) k.cell

  pub front_had : Front alg.as_good (Had net alg o) slots
  front_had =
      let cover = offers_cover net alg lawful sound o node one (best_of n (most_grains_of o) table) filled in
      record {
        sound = λ d x s. optimal_up alg lawful (Had net alg o) Offers cover d x (optimal_same alg.as_good (Accepted gathered.pairs) Offers to_offer of_offer d x (gathered.front.sound d x s));
        complete = λ d x k. gathered.front.complete d x (optimal_same alg.as_good Offers (Accepted gathered.pairs) of_offer to_offer d x (optimal_down alg lawful (Had net alg o) Offers cover d x k));
      }

-- the first slots, as a part of the slice is read
pub front_filled : {V : Type 0} (net : Net) (alg : Algebra V) (o : Order) (before part : List (Option V)) (cut count : ℕ) → cut ≡ most_grains_of o + 1 → cut ≤ length before → length part ≡ most_grains_of o + 1 → Front alg.as_good (Had net alg o) part → count ≡ held part
    → Filled net alg o before (part ++ drop cut before) (Ok count)
front_filled net alg o before part cut count cut-is fits long front count-is =
    let first : take (most_grains_of o + 1) (part ++ drop cut before) ≡ part = take_at part (drop cut before) (most_grains_of o + 1) long in
    record {
      front = subst (Front alg.as_good (Had net alg o)) (sym first) front;
      count = ap Ok (count-is ∙ ap held (sym first));
      rest = drop_at part (drop cut before) (most_grains_of o + 1) long ∙ ap (λ j. drop j before) cut-is;
      long = length-append part (drop cut before) ∙ simp length-drop (omega (arith, long, cut-is, fits));
    }

module _ {V : Type 0} (net : Net) (alg : Algebra V) (o : Order) (room : Room) (before after : List (Option V)) (r : Result ℕ Denial) where
  pub front_call : order_denial net o room ≡ None → most_grains_of o + 1 ≤ length before → Filled net alg o before after r → FrontCall net alg o room before after r
  front_call none space filled =
      let last = of_one o FrontSpace (leb (most_grains_of o + 1) (length before)) in
      let yes-last : first_no (last ∷ []) ≡ None = ap (λ b. first_no (of_one o FrontSpace b ∷ [])) (le-leb (most_grains_of o + 1) (length before) space) in
      subst (λ d. FrontBy net alg o d before after r) (sym (first_after (order_questions net o room) (last ∷ []) none ∙ yes-last)) filled

-- the slots that the code counts to are those that the order leaves
pub front_returned : {V : Type 0} (net : Net) (alg : Algebra V) → Laws alg → Sound net → (o : Order) (room : Room) (grain n top limit source : ℕ) (table before part : List (Option V)) (count : ℕ)
    → order_denial net o room ≡ None → grain ≡ o.grain.0 → top ≡ most_grains_of o → limit ≡ o.limit.0 → source ≡ o.source → top + 1 ≤ length before
    → FilledTo net alg grain o.target n top limit table → Gathered alg.as_good (cells_at n top table source) (Whole limit top) part
    → length part ≡ length (take (top + 1) before) → count ≡ held part
    → FrontCall net alg o room before (part ++ drop (top + 1) before) (Ok count)
front_returned net alg lawful sound o room grain n top limit source table before part count none grain-is top-is limit-is source-is space filled gathered long count-is =
    let a = admitted net o room none in
    let aimed = subst (λ k. FilledTo net alg k o.target n top limit table) grain-is filled in
    let filled' = subst (λ t. FilledTo net alg o.grain.0 o.target n t o.limit.0 table) top-is (subst (λ l. FilledTo net alg o.grain.0 o.target n top l table) limit-is aimed) in
    let begun = subst (λ v. Gathered alg.as_good (cells_at n top table v) (Whole limit top) part) source-is gathered in
    let gathered' = subst (λ t. Gathered alg.as_good (cells_at n t table o.source) (Whole o.limit.0 t) part) top-is (subst (λ l. Gathered alg.as_good (cells_at n top table o.source) (Whole l top) part) limit-is begun) in
    let had = front_had net alg lawful sound o n a.source a.grain_low table filled' part gathered' in
    let all : length part ≡ most_grains_of o + 1 = long ∙ length-take-le (top + 1) before space ∙ ap (λ t. t + 1) top-is in
    front_call net alg o room before (part ++ drop (top + 1) before) (Ok count) none (subst (λ t. t + 1 ≤ length before) top-is space)
    (front_filled net alg o before part (top + 1) count (ap (λ t. t + 1) top-is) space all had count-is)

-- denied by what both calls ask, or by what the front asks of its slots
module _ {V : Type 0} (net : Net) (alg : Algebra V) (o : Order) (room : Room) (before : List (Option V)) (r : Result ℕ Denial) where
  pub front_denied : (x : Denial) → order_denial net o room ≡ Some x → r ≡ Err x → FrontCall net alg o room before before r
  front_denied x e q =
      let last = of_one o FrontSpace (leb (most_grains_of o + 1) (length before)) in
      subst (λ d. FrontBy net alg o d before before r) (sym (first_before (order_questions net o room) (last ∷ []) x e)) (q, refl)

  pub front_cramped : order_denial net o room ≡ None → length before < most_grains_of o + 1 → r ≡ Err (of_order FrontSpace o.index) → FrontCall net alg o room before before r
  front_cramped none short q =
      let last = of_one o FrontSpace (leb (most_grains_of o + 1) (length before)) in
      let no_last : first_no (last ∷ []) ≡ Some (of_order FrontSpace o.index) = ap (λ b. first_no (of_one o FrontSpace b ∷ [])) (lt-leb (most_grains_of o + 1) (length before) short) in
      subst (λ d. FrontBy net alg o d before before r) (sym (first_after (order_questions net o room) (last ∷ []) none ∙ no_last)) (q, refl)
