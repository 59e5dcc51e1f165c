-- The list rebuilt from the chosen cell precedes every other within the order.
use Rattle.std.proofs.Common.{◌≡◌, ℕ, ◌*◌, ◌<◌, ◌≤◌, List, length, Some, None, Option, sym, refl, ap, ◌∙◌, subst, inl, inr, ⊎_elim, le-div_iff_mul-le, arith}
use Rattle.std.proofs.lemmas.Bool.{cases_order}
use Rattle.netmap.specs.Net.{Net, Sound}
use Rattle.segments.specs.Algebra.{Algebra, Laws, AsGood, Better}
use Rattle.segments.specs.declared.order.Order.{Order}
use Rattle.segments.specs.declared.figures.Leg.{Leg}
use Rattle.segments.specs.Segments.{SegmentList, list_end, list_value, list_grains}
use Rattle.segments.specs.Orders.{Within, Precedes}
use Rattle.engine.specs.Quotes.{Unserved}
use Rattle.engine.specs.Fronts.{most_grains_of}
use Rattle.engine.specs.Chosen.{Chosen}
use Rattle.segments.proofs.PrecedenceStrict.{compared}
use Rattle.engine.specs.Cells.{Listed, Cell, Row}
use Rattle.engine.proofs.CellExtended.{found}
use Rattle.engine.specs.Rebuilds.{Rebuilt}
use Rattle.engine.proofs.RebuiltFirst.{rebuilt_first}

module _ {V : Type 0} (net : Net) (alg : Algebra V) (o : Order) where
  -- the list's cell in the table
  pub within_listed : (cs : List ℕ) (hs : List (Leg V)) → Within net alg o cs hs → Listed net alg o.grain.0 o.target (length cs) (list_grains o.grain.0 hs) o.source (list_value alg hs)
  within_listed cs hs w = record { codes = cs; legs = hs; legal = w.serves.legal; ends = w.serves.ends; count = refl; grains = refl; value = refl }

  pub within_grains : (cs : List ℕ) (hs : List (Leg V)) → 0 < o.grain.0 → Within net alg o cs hs → list_grains o.grain.0 hs ≤ most_grains_of o
  within_grains cs hs one w = (le-div_iff_mul-le one).1 w.bound

  pub listed_within : (l d : ℕ) (x : V) → 0 < o.grain.0 → l ≤ o.limit.0 → d ≤ most_grains_of o → (k : Listed net alg o.grain.0 o.target l d o.source x) → Within net alg o k.codes k.legs
  listed_within l d x one lim small k = record {
    serves = record { legal = k.legal; ends = k.ends; labels = omega (arith, k.count, lim) };
    bound = subst (λ n. n * o.grain.0 ≤ o.bound.0) (sym k.grains) ((le-div_iff_mul-le one).0 small);
  }

  module _ (lawful : Laws alg) (sound : Sound net) (node : o.source < net.nodes) (one : 0 < o.grain.0) (best : ℕ → ℕ → ℕ → Option V)
      (good : (l : ℕ) → l ≤ o.limit.0 → Row net alg o.grain.0 o.target (most_grains_of o) l (best l)) where
    -- no cell at the source: no list within the order
    pub unserved : ((l d : ℕ) → l ≤ o.limit.0 → d ≤ most_grains_of o → best l d o.source ≡ None) → Unserved net alg o
    unserved none cs hs w =
        let d = list_grains o.grain.0 hs in
        let small = within_grains cs hs one w in
        subst (Cell net alg o.grain.0 o.target (length cs) d o.source) (none (length cs) d w.serves.labels small) (good (length cs) w.serves.labels d o.source small node) (list_value alg hs) (within_listed cs hs w)

    module _ (x : V) (d l : ℕ) (chosen : Chosen net alg o best x d l) (cs : List ℕ) (hs : List (Leg V)) (rebuilt : Rebuilt net alg o.grain.0 x best alg.neutral d o.source l cs hs)
        (made : SegmentList net alg o.source cs hs) (ends : list_end o.source hs ≡ o.target) (count : length cs ≡ l) (grains : list_grains o.grain.0 hs ≡ d) (value : list_value alg hs ≡ x) where
      -- the list rebuilt from the chosen cell precedes every other
      pub rebuilt_precedes : (ds : List ℕ) (ks : List (Leg V)) → Within net alg o ds ks → (ds ≡ cs → ⊥) → Precedes alg o.grain.0 cs hs ds ks
      rebuilt_precedes ds ks w other =
          let g = o.grain.0 in
          let e = list_grains g ks in
          let m = length ds in
          let small = within_grains ds ks one w in
          let f = found net alg g o.target m e o.source (best m e o.source) (list_value alg ks) (good m w.serves.labels e o.source small node) (within_listed ds ks w) in
          let xy : AsGood alg x f.0 = chosen.value m e f.0 w.serves.labels small f.1 in
          ⊎_elim
          (λ (same : x ≡ list_value alg ks).
          let y-is : f.0 ≡ x = lawful.antisymmetric f.0 x (subst (AsGood alg f.0) (sym same) f.2) xy in
          let cell : best m e o.source ≡ Some x = f.1 ∙ ap Some y-is in
          let de : d ≤ e = chosen.grains m e w.serves.labels small cell in
          inr (
            value ∙ same,
            ⊎_elim
                (λ (ge : d ≡ e).
                let lm : l ≤ m = chosen.entries m w.serves.labels (subst (λ n. best m n o.source ≡ Some x) (sym ge) cell) in
                inr (
                  grains ∙ ge,
                  ⊎_elim
                      (λ (le : l ≡ m).
                      inr (
                        count ∙ le,
                        ⊎_elim (λ t. absurd (other t)) (λ t. t)
                            (rebuilt_first net alg g lawful sound o.target (most_grains_of o) o.limit.0 best (λ j h. good j (omega arith)) x alg.neutral d o.source l cs hs ds ks chosen.labels chosen.small node
                            (λ z k. subst (AsGood alg x) (sym (lawful.neutral_left z)) (not_better z k)) rebuilt w.serves.legal w.serves.ends (sym le) (sym ge) (lawful.neutral_left (list_value alg ks) ∙ sym same)),
                      ))
                      (⊎_elim (λ (h : l < m). inl (omega (arith, count, h))) (λ (h : m < l). absurd (omega (arith, h, lm))))
                      (cases_order l m),
                ))
                (⊎_elim (λ (h : d < e). inl (omega (arith, grains, h))) (λ (h : e < d). absurd (omega (arith, h, de))))
                (cases_order d e),
          ))
          (⊎_elim
          (λ (b : Better alg x (list_value alg ks)). inl (subst (λ z. Better alg z (list_value alg ks)) (sym value) b))
          (λ (b : Better alg (list_value alg ks) x). absurd (b.1 (lawful.antisymmetric _ _ b.0 (lawful.transitive x f.0 (list_value alg ks) xy f.2)))))
          (compared alg lawful x (list_value alg ks))
        where
          not_better : (z : V) → Listed net alg o.grain.0 o.target l d o.source z → AsGood alg x z
          not_better z k = (subst (Cell net alg o.grain.0 o.target l d o.source) chosen.cell (good l chosen.labels d o.source chosen.small node)).1 z k
