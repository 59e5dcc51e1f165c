-- Some code always attains the total, and the rebuilt list has the figures of its cell.
use Rattle.std.proofs.Common.{◌≡◌, ℕ, suc, ◌+◌, ◌<◌, ◌≤◌, List, [], ◌∷◌, length, Some, Option, sym, refl, ap, ◌∙◌, subst, arith}
use Rattle.netmap.specs.Net.{Net, Sound}
use Rattle.segments.specs.Algebra.{Algebra, Laws}
use Rattle.segments.specs.declared.figures.Leg.{Leg}
use Rattle.segments.specs.Segments.{Segment, SegmentList, list_end, list_value, list_grains, grains_of}
use Rattle.segments.proofs.JoinedValues.{list_value_cons}
use Rattle.segments.proofs.NodesReached.{segment_node}
use Rattle.engine.specs.Cells.{Listed, Cell, Row}
use Rattle.engine.proofs.CellExtended.{candidate_listed, listed_candidate}
use Rattle.engine.specs.Rebuilds.{Attains, Rebuilt}

-- the list has these figures from v, after a prefix of value p
pub record Made {V : Type 0} (net : Net) (alg : Algebra V) (grain target : ℕ) (total p : V) (d v l : ℕ) (cs : List ℕ) (hs : List (Leg V)) : Type 0 where
  pub legal : SegmentList net alg v cs hs
  pub ends : list_end v hs ≡ target
  pub count : length cs ≡ l
  pub grains : list_grains grain hs ≡ d
  pub value : alg.join p (list_value alg hs) ≡ total

module _ {V : Type 0} (net : Net) (alg : Algebra V) (grain : ℕ) (lawful : Laws alg) (sound : Sound net) (target top limit : ℕ) (best : ℕ → ℕ → ℕ → Option V) (good : (l : ℕ) → l ≤ limit → Row net alg grain target top l (best l)) (total : V) where
  -- some code attains the total where the cell does
  pub attains_some : (p : V) (m d v : ℕ) (y : V) → suc m ≤ limit → d ≤ top → v < net.nodes → best (suc m) d v ≡ Some y → alg.join p y ≡ total → (c : ℕ) × Attains net alg grain total (best m) p d v c
  attains_some p m d v y lim small node cell whole =
      let row = good m (omega arith) in
      let cells = subst (Cell net alg grain target (suc m) d v) cell (good (suc m) lim d v small node) in
      let c = listed_candidate net alg grain target lawful sound top m (best m) row d v y small node cells.0 in
      let k = c.1 in
      let same : c.0 ≡ y = lawful.antisymmetric c.0 y c.2 (cells.1 c.0 (candidate_listed net alg grain target lawful sound top m (best m) row d v c.0 small node k)) in
      (k.code, record { leg = k.leg; rest = k.rest; suffix = k.suffix; segment = k.segment; grains = k.grains; below = k.below; attained = lawful.associative p k.leg.value k.suffix ∙ ap (alg.join p) (k.value ∙ same) ∙ whole })

  empty_made : (p : V) (d v : ℕ) (y : V) (k : Listed net alg grain target 0 d v y) → alg.join p y ≡ total → Made net alg grain target total p d v 0 [] []
  empty_made p d v y k whole = go k.codes k.legs k.legal k.ends k.count k.grains k.value
    where
      go : (cs : List ℕ) (hs : List (Leg V)) → SegmentList net alg v cs hs → list_end v hs ≡ target → length cs ≡ 0 → list_grains grain hs ≡ d → list_value alg hs ≡ y → Made net alg grain target total p d v 0 [] []
      go [] [] s e n g w = record { legal = tt; ends = e; count = refl; grains = g; value = ap (alg.join p) w ∙ whole }
      go [] (h ∷ hs) s e n g w = absurd s
      go (c ∷ cs) hs s e n g w = absurd (omega arith)

  pub rebuilt_made : (p : V) (d v l : ℕ) (y : V) (cs : List ℕ) (hs : List (Leg V)) → l ≤ limit → d ≤ top → v < net.nodes → best l d v ≡ Some y → alg.join p y ≡ total → Rebuilt net alg grain total best p d v l cs hs → Made net alg grain target total p d v l cs hs
  rebuilt_made p d v l y [] [] lim small node cell whole r =
      subst (λ j. Made net alg grain target total p d v j [] []) (sym r)
      (empty_made p d v y (subst (λ j. Listed net alg grain target j d v y) r (subst (Cell net alg grain target l d v) cell (good l lim d v small node)).0) whole)
  rebuilt_made p d v l y [] (h ∷ hs) lim small node cell whole r = absurd r
  rebuilt_made p d v l y (c ∷ cs) [] lim small node cell whole r = absurd r
  rebuilt_made p d v l y (c ∷ cs) (h ∷ hs) lim small node cell whole r =
      let m = r.0 in
      let a = r.2 in
      let is : l ≡ suc m = r.1 in
      let seg : Segment net alg v c h = subst (λ x. Segment net alg v c x) r.3 a.segment in
      let gr : grains_of grain h.delay.0 + a.rest ≡ d = ap (λ x. grains_of grain x.delay.0 + a.rest) (sym r.3) ∙ a.grains in
      let t = rebuilt_made (alg.join p h.value) a.rest h.to m a.suffix cs hs (omega (arith, is, lim)) (omega (arith, gr, small)) (segment_node net alg sound v c h node seg)
      (subst (λ x. best m a.rest x.to ≡ Some a.suffix) r.3 a.below) (subst (λ x. alg.join (alg.join p x.value) a.suffix ≡ total) r.3 a.attained) r.5 in
      record {
        legal = (seg, t.legal);
        ends = t.ends;
        count = ap suc t.count ∙ sym is;
        grains = ap (λ n. grains_of grain h.delay.0 + n) t.grains ∙ gr;
        value = ap (alg.join p) (list_value_cons alg lawful h hs) ∙ sym (lawful.associative p h.value (list_value alg hs)) ∙ t.value;
      }
