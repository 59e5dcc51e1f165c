-- A walk that no question denies replies as the list goes on.
use Rattle.std.proofs.Common.{◌≡◌, ℕ, List, length, None, Option, Result, sym, subst}
use Rattle.questions.specs.declared.denial.Denial.{Denial}
use Rattle.netmap.specs.Net.{Net}
use Rattle.segments.specs.declared.figures.Spread.{Spread}
use Rattle.segments.specs.declared.figures.Walk.{Walk}
use Rattle.segments.specs.Algebra.{Algebra}
use Rattle.segments.specs.Walks.{walk_denial, WalkReply, WalkBy, WalkCall}

pub walk_granted : {V : Type 0} (net : Net) (alg : Algebra V) (source grain : ℕ) (cs : List ℕ) (dist dist_after : List (Option ℕ)) (spread spread_after : List (Option (Spread V))) (n : ℕ) → n ≡ net.nodes → (r : Result (Walk V) Denial)
    → walk_denial n source grain (length dist) (length spread) (length cs) ≡ None → WalkReply net alg source grain cs r → WalkCall net alg source grain cs dist dist_after spread spread_after r
walk_granted net alg source grain cs dist dist_after spread spread_after n nodes r e w =
    subst (λ k. WalkBy net alg source grain cs (walk_denial k source grain (length dist) (length spread) (length cs)) dist dist_after spread spread_after r) nodes
    (subst (λ o. WalkBy net alg source grain cs o dist dist_after spread spread_after r) (sym e) w)
