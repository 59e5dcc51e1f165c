-- A front has one outcome.
use Rattle.std.proofs.Common.{◌≡◌, ℕ, ◌+◌, min, List, ◌++◌, length, take, drop, Some, None, Ok, Option, Result, sym, ap, ◌∙◌, take-append-drop}
use Rattle.std.proofs.lemmas.List.{length-take}
use Rattle.questions.specs.declared.denial.Denial.{Denial}
use Rattle.netmap.specs.Net.{Net}
use Rattle.segments.specs.declared.order.Order.{Order}
use Rattle.segments.specs.Algebra.{Algebra}
use Rattle.keeper.proofs.FrontUnique.{front_unique}
use Rattle.engine.specs.Calls.{FrontBy, front_denial}
use Rattle.engine.specs.Fronts.{Had, held, most_grains_of}
use Rattle.engine.specs.Theorems.{FrontsDetermined}

module _ {V : Type 0} (alg : Algebra V) where
  by_denial : (net : Net) (o : Order) (d : Option Denial) (before a b : List (Option V)) (r s : Result ℕ Denial) → FrontBy net alg o d before a r → FrontBy net alg o d before b s → (a ≡ b) × (r ≡ s)
  by_denial net o (Some d) before a b r s p q = (p.1 ∙ sym q.1, p.0 ∙ sym q.0)
  by_denial net o None before a b r s p q =
      let n = most_grains_of o + 1 in
      let long : length (take n a) ≡ length (take n b) = length-take n a ∙ ap (min n) (p.long ∙ sym q.long) ∙ sym (length-take n b) in
      let first : take n a ≡ take n b = front_unique alg.as_good (Had net alg o) (take n a) (take n b) long p.front q.front in
      (sym (take-append-drop n a) ∙ ap (λ l. l ++ drop n a) first ∙ ap (λ l. take n b ++ l) (p.rest ∙ sym q.rest) ∙ take-append-drop n b, p.count ∙ ap (λ l. Ok (held l)) first ∙ sym q.count)

  pub fronts_determined : FrontsDetermined alg
  fronts_determined net o room before a b r s = by_denial net o (front_denial net o room (length before)) before a b r s
