-- A cell of one entry more, from the row of one entry less.
use Rattle.std.proofs.Common.{◌≡◌, ℕ, suc, ◌+◌, ◌<◌, ◌≤◌, List, [], ◌∷◌, length, Some, None, Option, sym, refl, ap, ◌∙◌, subst, arith}
use Rattle.netmap.specs.Net.{Net, Sound}
use Rattle.segments.specs.Algebra.{Algebra, Laws, AsGood}
use Rattle.segments.specs.declared.figures.Leg.{Leg}
use Rattle.segments.specs.Segments.{SegmentList, list_end, list_value, list_grains, grains_of}
use Rattle.engine.specs.Cells.{Listed, BestOf, Cell, Candidate, Row}
use Rattle.segments.proofs.NodesReached.{segment_node}
use Rattle.segments.proofs.JoinedValues.{list_value_cons, as_good_refl}

module _ {V : Type 0} (net : Net) (alg : Algebra V) (grain target : ℕ) where
  cell_some : (l d v : ℕ) (o : Option V) (x : V) → Cell net alg grain target l d v o → o ≡ Some x → Listed net alg grain target l d v x × ((y : V) → Listed net alg grain target l d v y → AsGood alg x y)
  cell_some l d v o x c e = subst (Cell net alg grain target l d v) e c

  -- what the row below has for the rest of a list
  pub found : (l d v : ℕ) (o : Option V) (y : V) → Cell net alg grain target l d v o → Listed net alg grain target l d v y → (x : V) × (o ≡ Some x) × AsGood alg x y
  found l d v (Some x) y c h = (x, refl, c.1 y h)
  found l d v None y c h = absurd (c y h)

  module _ (lawful : Laws alg) (sound : Sound net) (top l : ℕ) (row : ℕ → ℕ → Option V) (good : Row net alg grain target top l row) where
    -- a candidate is had by a list
    pub candidate_listed : (d v : ℕ) (z : V) → d ≤ top → v < net.nodes → Candidate net alg grain row d v z → Listed net alg grain target (suc l) d v z
    candidate_listed d v z small node k =
        let g = k.grains in
        let on = segment_node net alg sound v k.code k.leg node k.segment in
        let s = (cell_some l k.rest k.leg.to (row k.rest k.leg.to) k.suffix (good k.rest k.leg.to (omega arith) on) k.below).0 in
        record {
          codes = k.code ∷ s.codes;
          legs = k.leg ∷ s.legs;
          legal = (k.segment, s.legal);
          ends = s.ends;
          count = ap suc s.count;
          grains = ap (λ n. grains_of grain k.leg.delay.0 + n) s.grains ∙ k.grains;
          value = list_value_cons alg lawful k.leg s.legs ∙ ap (alg.join k.leg.value) s.value ∙ k.value;
        }

    -- each list is matched by a candidate as good
    pub listed_candidate : (d v : ℕ) (y : V) → d ≤ top → v < net.nodes → Listed net alg grain target (suc l) d v y → (z : V) × Candidate net alg grain row d v z × AsGood alg z y
    listed_candidate d v y small node h = go h.codes h.legs h.legal h.ends h.count h.grains h.value
      where
        go : (cs : List ℕ) (hs : List (Leg V)) → SegmentList net alg v cs hs → list_end v hs ≡ target → length cs ≡ suc l → list_grains grain hs ≡ d → list_value alg hs ≡ y → (z : V) × Candidate net alg grain row d v z × AsGood alg z y
        go [] hs p e n g w = absurd (omega arith)
        go (c ∷ cs) [] p e n g w = absurd p
        go (c ∷ cs) (k ∷ hs) p e n g w =
            let rest = list_grains grain hs in
            let tail : Listed net alg grain target l rest k.to (list_value alg hs) = record { codes = cs; legs = hs; legal = p.1; ends = e; count = omega arith; grains = refl; value = refl } in
            let f = found l rest k.to (row rest k.to) (list_value alg hs) (good rest k.to (omega arith) (segment_node net alg sound v c k node p.0)) tail in (
              alg.join k.value f.0,
              record { code = c; leg = k; rest = rest; suffix = f.0; segment = p.0; grains = g; below = f.1; value = refl },
              subst (λ u. AsGood alg (alg.join k.value f.0) u) (sym (list_value_cons alg lawful k hs) ∙ w) (lawful.monotone_right f.0 (list_value alg hs) k.value f.2),
            )

    -- the best candidate is the best list of one entry more
    pub cell_more : (d v : ℕ) (o : Option V) → d ≤ top → v < net.nodes → BestOf alg (Candidate net alg grain row d v) o → Cell net alg grain target (suc l) d v o
    cell_more d v (Some x) small node b = (candidate_listed d v x small node b.0, λ y h. let c = listed_candidate d v y small node h in lawful.transitive x c.0 y (b.1 c.0 c.1) c.2)
    cell_more d v None small node b = λ y h. let c = listed_candidate d v y small node h in b c.0 c.1

  -- no entry: the neutral value at the target, with no grain
  pub cell_none : (lawful : Laws alg) → Cell net alg grain target 0 0 target (Some alg.neutral)
  cell_none lawful = (record { codes = []; legs = []; legal = tt; ends = refl; count = refl; grains = refl; value = refl }, λ y h. go h.codes h.legs y h.legal h.count h.value)
    where
      go : (cs : List ℕ) (hs : List (Leg V)) (y : V) → SegmentList net alg target cs hs → length cs ≡ 0 → list_value alg hs ≡ y → AsGood alg alg.neutral y
      go [] [] y p n w = subst (AsGood alg alg.neutral) w (as_good_refl alg lawful alg.neutral)
      go [] (h ∷ hs) y p n w = absurd p
      go (c ∷ cs) hs y p n w = absurd (omega arith)
