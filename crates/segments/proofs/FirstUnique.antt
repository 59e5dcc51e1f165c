-- At most one list within an order precedes every other.
use Rattle.std.proofs.Common.{◌≡◌, ℕ, List, sym, subst}
use mathlib.Core.List.{List-discrete}
use native.Mathlib.Decide.{ℕ_discrete}
use Rattle.netmap.specs.Net.{Net}
use Rattle.segments.specs.declared.figures.Leg.{Leg}
use Rattle.segments.specs.declared.order.Order.{Order}
use Rattle.segments.specs.Algebra.{Algebra, Laws}
use Rattle.segments.specs.Orders.{First}
use Rattle.segments.specs.Segments.{SegmentList}
use Rattle.segments.specs.Theorems.{FirstUnique}
use Rattle.segments.proofs.PrecedenceStrict.{precedence_strict}
use Rattle.segments.proofs.SegmentsFunctional.{lists_functional}

module _ {V : Type 0} (alg : Algebra V) (lawful : Laws alg) where
  same_list : (net : Net) (o : Order) (cs ds : List ℕ) (hs ks : List (Leg V)) → First net alg o cs hs → First net alg o ds ks → cs ≡ ds
  same_list net o cs ds hs ks p s =
      let strict = precedence_strict alg lawful o.grain.0 in
      elim (List-discrete ℕ_discrete cs ds) [ yes e ↦ e | no n ↦ absurd (strict.irreflexive cs hs (strict.transitive cs ds cs hs ks hs (p.first ds ks s.within (λ e. n (sym e))) (s.first cs hs p.within n))) ]

  pub first_unique : FirstUnique alg
  first_unique net o cs ds hs ks p s =
      let e = same_list net o cs ds hs ks p s in
      (e, lists_functional alg lawful net o.source ds hs ks (subst (λ l. SegmentList net alg o.source l hs) e p.within.serves.legal) s.within.serves.legal)
