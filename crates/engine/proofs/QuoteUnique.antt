-- An order has one quote at most, and a quote one outcome.
use Rattle.std.proofs.Common.{◌≡◌, ℕ, List, ◌++◌, length, drop, Some, None, Ok, Err, Option, Result, sym, ap, ◌∙◌}
use Rattle.questions.specs.declared.denial.Denial.{Denial}
use Rattle.netmap.specs.Net.{Net}
use Rattle.segments.specs.declared.figures.Figures.{Figures}
use Rattle.segments.specs.declared.order.Order.{Order}
use Rattle.segments.specs.Algebra.{Algebra, Laws}
use Rattle.segments.specs.Segments.{list_value, list_delay, list_grains}
use Rattle.segments.proofs.FirstUnique.{first_unique}
use Rattle.engine.specs.Calls.{Searched, QuoteBy, quote_denial}
use Rattle.engine.specs.Quotes.{Quoted}
use Rattle.engine.specs.Theorems.{QuotesDetermined}

module _ {V : Type 0} (alg : Algebra V) (lawful : Laws alg) (net : Net) (o : Order) where
  quote_unique : (cs ds : List ℕ) (q r : Figures V) → Quoted net alg o cs q → Quoted net alg o ds r → (cs ≡ ds) × (q ≡ r)
  quote_unique cs ds q r p s =
      let e = first_unique alg lawful net o cs ds p.legs s.legs p.first s.first in
      let h = e.1 in (
        e.0,
        λ i. record {
          value = (p.value ∙ ap (list_value alg) h ∙ sym s.value) i;
          grains = record { 0 = (p.grains ∙ ap (list_grains o.grain.0) h ∙ sym s.grains) i };
          delay = record { 0 = (p.delay ∙ ap list_delay h ∙ sym s.delay) i };
          labels = record { 0 = (p.labels ∙ ap length e.0 ∙ sym s.labels) i };
        },
      )

  searched_once : (before a b : List ℕ) (r s : Result (Figures V) Denial) → Searched net alg o before a r → Searched net alg o before b s → (a ≡ b) × (r ≡ s)
  searched_once before a b (Ok q) (Ok r) x y =
      let u = quote_unique x.0 y.0 q r x.1 y.1 in
      (x.2 ∙ ap (λ cs. cs ++ drop (length cs) before) u.0 ∙ sym y.2, ap Ok u.1)
  searched_once before a b (Ok q) (Err e) x y = absurd (y.1 x.0 x.1.legs x.1.first.within)
  searched_once before a b (Err d) (Ok r) x y = absurd (x.1 y.0 y.1.legs y.1.first.within)
  searched_once before a b (Err d) (Err e) x y = (x.2 ∙ sym y.2, ap Err (x.0 ∙ sym y.0))

  by_denial : (d : Option Denial) (before a b : List ℕ) (r s : Result (Figures V) Denial) → QuoteBy net alg o d before a r → QuoteBy net alg o d before b s → (a ≡ b) × (r ≡ s)
  by_denial (Some d) before a b r s p q = (p.1 ∙ sym q.1, p.0 ∙ sym q.0)
  by_denial None before a b r s p q = searched_once before a b r s p.0 q.0

pub quotes_determined : {V : Type 0} (alg : Algebra V) → Laws alg → QuotesDetermined alg
quotes_determined alg lawful net o room before a b r s = by_denial alg lawful net o (quote_denial net o room (length before)) before a b r s
