-- A row of the table, filled code by code.
use Rattle.std.proofs.Common.{◌≡◌, ℕ, ◌+◌, ◌-◌, ◌<◌, ◌≤◌, List, length, take, drop, get_or, None, Option, sym, refl, ap, ◌∙◌, subst, inl, inr, ⊎_elim, add-one, arith}
use Rattle.std.proofs.lemmas.Bool.{cases_lt}
use Rattle.std.proofs.lemmas.List.{get_or-take, get_or-drop}
use borrow.Rule.Slice.PartMut.{put_mid, mid_len}
use Rattle.netmap.specs.Net.{Net, Sound}
use Rattle.segments.specs.Algebra.{Algebra, Laws}
use Rattle.segments.specs.declared.figures.Leg.{Leg}
use Rattle.segments.specs.Segments.{Segment}
use Rattle.keeper.proofs.PartsWritten.{before_part, within_part}
use Rattle.engine.specs.declared.hops.Hop.{Hop}
use Rattle.engine.specs.Hops.{Hops, HopOf}
use Rattle.engine.specs.Cells.{merge, Improved, Row, Cell, BestOf, Candidate}
use Rattle.engine.proofs.CellExtended.{cell_more}
use Rattle.engine.proofs.CandidatesBest.{CandidateTo, best_same, cand_none, cand_far, cand_merge}

-- the row holds the best candidates of the codes below c
abbrev pub RowTo : {V : Type 0} → Net → Algebra V → ℕ → ℕ → (ℕ → ℕ → Option V) → ℕ → ℕ → List (Option V) → Type 0
RowTo net alg grain top row v c xs = (d : ℕ) → d ≤ top → BestOf alg (CandidateTo net alg grain row d v c) (get_or xs d None)

module _ {V : Type 0} (net : Net) (alg : Algebra V) (lawful : Laws alg) (grain top : ℕ) (row : ℕ → ℕ → Option V) (v c : ℕ) (xs : List (Option V)) (inv : RowTo net alg grain top row v c xs) where
  pub row_none : HopOf net alg grain v c None → RowTo net alg grain top row v (c + 1) xs
  row_none none d small = cand_none net alg lawful grain row d v c (get_or xs d None) (inv d small) none

  module _ (h : Hop V) (does : Hops net alg grain v c h) where
    far_at : (d : ℕ) → d ≤ top → d < h.grains → BestOf alg (CandidateTo net alg grain row d v (c + 1)) (get_or xs d None)
    far_at d small far = cand_far net alg lawful grain row d v c (get_or xs d None) (inv d small) h.leg does.segment (omega (arith, far, does.grains))

    pub row_far : top < h.grains → RowTo net alg grain top row v (c + 1) xs
    row_far far d small = far_at d small (omega arith)

    pub row_more : (rests part : List (Option V)) → h.grains ≤ top → length xs ≡ top + 1 → length part ≡ length xs - h.grains → ((j : ℕ) → j ≤ top → get_or rests j None ≡ row j h.leg.to)
        → Improved alg h.leg.value rests (take (length xs - h.grains) (drop h.grains xs)) part → RowTo net alg grain top row v (c + 1) (put_mid h.grains (length xs - h.grains) xs part)
    row_more rests part near long cut read improved d small = ⊎_elim
        (λ (far : d < h.grains). subst (BestOf alg (CandidateTo net alg grain row d v (c + 1))) (sym (before_part h.grains k xs part None inside cut d far)) (far_at d small far))
        (λ (at : h.grains ≤ d).
        let j = d - h.grains in
        let there : h.grains + j ≡ d = omega arith in
        let few : j < k = omega arith in
        let old : get_or (take k (drop h.grains xs)) j None ≡ get_or xs d None = get_or-take k (drop h.grains xs) j None few ∙ get_or-drop h.grains xs j None ∙ ap (λ i. get_or xs i None) there in
        let is : get_or after d None ≡ merge alg (get_or xs d None) h.leg.value (row j h.leg.to) =
        ap (λ i. get_or after i None) (sym there) ∙ within_part h.grains k xs part None inside cut j few ∙ improved j (omega (arith, held)) ∙ ap (λ o. merge alg o h.leg.value (get_or rests j None)) old ∙ ap (merge alg (get_or xs d None) h.leg.value) (read j (omega arith)) in
        subst (BestOf alg (CandidateTo net alg grain row d v (c + 1))) (sym is) (cand_merge net alg lawful grain row d v c (get_or xs d None) (inv d small) h.leg does.segment j (omega (arith, does.grains)) (row j h.leg.to) refl))
        (cases_lt d h.grains)
      where
        k : ℕ
        k = length xs - h.grains

        after : List (Option V)
        after = put_mid h.grains k xs part

        inside : h.grains + k ≤ length xs
        inside = omega arith

        held : length (take k (drop h.grains xs)) ≡ k
        held = mid_len h.grains (length xs) xs (omega arith)

pub segment_below : {V : Type 0} (net : Net) (alg : Algebra V) (v code : ℕ) (h : Leg V) → Segment net alg v code h → code < 512
segment_below net alg v code h (inl s) = omega (arith, s.range)
segment_below net alg v code h (inr s) = s.high

pub row_cells : {V : Type 0} (net : Net) (alg : Algebra V) (lawful : Laws alg) (sound : Sound net) (grain top l v c : ℕ) (row : ℕ → ℕ → Option V) (xs : List (Option V)) → v < net.nodes → 512 ≤ c → RowTo net alg grain top row v c xs
    → (target : ℕ) → Row net alg grain target top l row → (d : ℕ) → d ≤ top → Cell net alg grain target (l + 1) d v (get_or xs d None)
row_cells net alg lawful sound grain top l v c row xs node past inv target good d small =
    let all : BestOf alg (Candidate net alg grain row d v) (get_or xs d None) =
    best_same alg (CandidateTo net alg grain row d v c) (Candidate net alg grain row d v) (get_or xs d None) (λ z k. k.0) (λ z k. (k, omega (arith, segment_below net alg v k.code k.leg k.segment))) (inv d small) in
    subst (λ m. Cell net alg grain target m d v (get_or xs d None)) (sym (add-one l)) (cell_more net alg grain target lawful sound top l row good d v (get_or xs d None) small node all)
