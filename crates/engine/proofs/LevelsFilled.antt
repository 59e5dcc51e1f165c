-- The rows of one number of entries filled node by node, and the levels in turn.
use Rattle.std.proofs.Common.{◌≡◌, ℕ, ◌+◌, ◌*◌, ◌<◌, ◌≤◌, ◌⊎◌, List, [], ◌∷◌, ◌++◌, length, take, set, get_or, Some, None, Option, sym, ap, ◌∙◌, subst, inl, inr, ⊎_elim, zero-mul, arith, get_or-set_other, get_or-set_same}
use Rattle.std.proofs.lemmas.Bool.{cases_eq}
use Rattle.std.proofs.lemmas.List.{get_or-take, get_or-append-add, get_or_append_left}
use Rattle.netmap.specs.Net.{Net}
use Rattle.segments.specs.Algebra.{Algebra, Laws}
use Rattle.segments.specs.declared.figures.Leg.{Leg}
use Rattle.segments.specs.Segments.{SegmentList, list_end, list_grains}
use Rattle.engine.specs.Cells.{slot, best_of, Kept, LevelTo, FilledTo, Row, Cell}
use Rattle.engine.proofs.CellExtended.{cell_none}
use Rattle.keeper.proofs.IndexSplit.{last_or}
use Rattle.engine.proofs.CellPlaces.{row_before, slot_before, slot_left, level_first}

pub level_step : {V : Type 0} (net : Net) (alg : Algebra V) (grain n top l v : ℕ) (before xs ys : List (Option V)) → n ≡ net.nodes
    → LevelTo net alg grain n top l v before xs → Kept (slot n top (l + 1) v 0) xs ys
    → ((target : ℕ) → Row net alg grain target top l (best_of n top xs l) → (d : ℕ) → d ≤ top → Cell net alg grain target (l + 1) d v (best_of n top ys (l + 1) d v))
    → LevelTo net alg grain n top l (v + 1) before ys
level_step net alg grain n top l v before xs ys nodes inv kept cells = record {
  kept = λ i h.
      kept i (omega (arith, h, level_first n top (l + 1) v)) ∙ inv.kept i h;
  cells = λ target good d u small h. ⊎_elim
      (λ (e : u ≡ v).
      let good' : Row net alg grain target top l (best_of n top xs l) = λ b w hb on.
      subst (Cell net alg grain target l b w) (sym (inv.kept (slot n top l w b) (slot_before n top l (l + 1) w 0 b (omega arith) (omega arith) hb))) (good b w hb on) in
      subst (λ w. Cell net alg grain target (l + 1) d w (best_of n top ys (l + 1) d w)) (sym e) (cells target good' d small))
      (λ (k : u < v). subst (Cell net alg grain target (l + 1) d u) (sym (kept (slot n top (l + 1) u d) (slot_left n top (l + 1) u v d k small))) (inv.cells target good d u small k))
      (last_or u v h);
}

-- a row filled from the rows below it, as one of the table
pub level_more : {V : Type 0} (net : Net) (alg : Algebra V) (grain n top l v s : ℕ) (before xs below new rest : List (Option V)) → n ≡ net.nodes → s ≡ slot n top (l + 1) v 0
    → below ≡ take s xs → length below ≡ s → length new ≡ top + 1 → LevelTo net alg grain n top l v before xs
    → ((target : ℕ) → Row net alg grain target top l (best_of n top below l) → (d : ℕ) → d ≤ top → Cell net alg grain target (l + 1) d v (get_or new d None))
    → LevelTo net alg grain n top l (v + 1) before (below ++ (new ++ rest))
level_more {V} net alg grain n top l v s before xs below new rest nodes s-is below-is cut long inv cells =
    level_step net alg grain n top l v before xs (below ++ (new ++ rest)) nodes inv (λ i h. low i (omega arith)) rows
  where
    same : (i : ℕ) → i < s → get_or below i None ≡ get_or xs i None
    same i h = ap (λ ys. get_or ys i None) below-is ∙ get_or-take s xs i None h

    low : (i : ℕ) → i < s → get_or (below ++ (new ++ rest)) i None ≡ get_or xs i None
    low i h = get_or_append_left below (new ++ rest) None i (omega arith) ∙ same i h

    read : (d : ℕ) → d ≤ top → get_or (below ++ (new ++ rest)) (slot n top (l + 1) v d) None ≡ get_or new d None
    read d small =
        let there : slot n top (l + 1) v d ≡ length below + d = omega (arith, s-is, cut) in
        ap (λ i. get_or (below ++ (new ++ rest)) i None) there ∙ get_or-append-add below (new ++ rest) d None ∙ get_or_append_left new rest None d (omega arith)

    rows : (target : ℕ) → Row net alg grain target top l (best_of n top xs l) → (d : ℕ) → d ≤ top → Cell net alg grain target (l + 1) d v (best_of n top (below ++ (new ++ rest)) (l + 1) d v)
    rows target good d small =
        let good' : Row net alg grain target top l (best_of n top below l) = λ e u he on.
        let lies : slot n top l u e < s = omega (arith, s-is, slot_before n top l (l + 1) u v e (omega arith) (omega arith) he) in
        subst (Cell net alg grain target l e u) (sym (same (slot n top l u e) lies)) (good e u he on) in
        subst (Cell net alg grain target (l + 1) d v) (sym (read d small)) (cells target good' d small)

pub fill_step : {V : Type 0} (net : Net) (alg : Algebra V) (grain target n top l : ℕ) (xs ys : List (Option V)) → n ≡ net.nodes
    → FilledTo net alg grain target n top l xs → LevelTo net alg grain n top l n xs ys → FilledTo net alg grain target n top (l + 1) ys
fill_step net alg grain target n top l xs ys nodes filled level m h d v small on = ⊎_elim
    (λ (e : m ≡ l + 1). subst (λ j. Cell net alg grain target j d v (best_of n top ys j d v)) (sym e) (level.cells target (filled l (omega arith)) d v small (omega arith)))
    (λ (ne : m ≡ l + 1 → ⊥).
    subst (Cell net alg grain target m d v) (sym (level.kept (slot n top m v d) (slot_before n top m (l + 1) v 0 d (omega arith) (omega arith) small))) (filled m (omega arith) d v small on))
    (cases_eq m (l + 1))

-- no entry, and not at the target or with grains: nothing
cell_empty : {V : Type 0} (net : Net) (alg : Algebra V) (grain target d v : ℕ) → ((d ≡ 0) × (v ≡ target) → ⊥) → Cell net alg grain target 0 d v None
cell_empty {V} net alg grain target d v ne y h = go h.codes h.legs h.legal h.ends h.count h.grains
  where
    go : (cs : List ℕ) (hs : List (Leg V)) → SegmentList net alg v cs hs → list_end v hs ≡ target → length cs ≡ 0 → list_grains grain hs ≡ d → ⊥
    go [] [] p e n g = ne (sym g, e)
    go [] (k ∷ hs) p e n g = p
    go (c ∷ cs) hs p e n g = omega arith

pub first_within : (n top target : ℕ) → target < n → slot n top 0 target 0 < n * (top + 1)
first_within n top target h = row_before (top + 1) (0 * n + target) n 0 (omega (arith, zero-mul n)) (omega arith)

pub first_row : {V : Type 0} (net : Net) (alg : Algebra V) (lawful : Laws alg) (grain target n top at : ℕ) (x : V) (xs : List (Option V)) → n ≡ net.nodes → target < n → at ≡ slot n top 0 target 0 → x ≡ alg.neutral
    → n * (top + 1) ≤ length xs → ((i : ℕ) → i < n * (top + 1) → get_or xs i None ≡ None) → Row net alg grain target top 0 (best_of n top (set xs at (Some x)) 0)
first_row {V} net alg lawful grain target n top at x xs nodes node at-is x-is long was d v small on = ⊎_elim
    (λ (e : (d ≡ 0) × (v ≡ target)).
    let here : slot n top 0 v d ≡ at = ap (λ j. slot n top 0 v j) e.0 ∙ ap (λ j. slot n top 0 j 0) e.1 ∙ sym at-is in
    let cell : Cell net alg grain target 0 0 target (Some alg.neutral) = cell_none net alg grain target lawful in
    let within : at < length xs = omega (arith, at-is, first_within n top target node, long) in
    let is : get_or (set xs at (Some x)) at None ≡ Some alg.neutral = get_or-set_same xs at (Some x) None within ∙ ap Some x-is in
    subst (λ o. Cell net alg grain target 0 d v o) (sym (ap (λ i. get_or (set xs at (Some x)) i None) here ∙ is))
    (subst (λ j. Cell net alg grain target 0 j v (Some alg.neutral)) (sym e.0) (subst (λ j. Cell net alg grain target 0 0 j (Some alg.neutral)) (sym e.1) cell)))
    (λ (ne : (d ≡ 0) × (v ≡ target) → ⊥).
    let inside : slot n top 0 v d < n * (top + 1) = row_before (top + 1) (0 * n + v) n d (omega (arith, zero-mul n)) (omega arith) in
    let apart : slot n top 0 v d ≡ at → ⊥ = λ h. ne (same_slot (h ∙ at-is)) in
    subst (Cell net alg grain target 0 d v) (sym (get_or-set_other xs at (slot n top 0 v d) (Some x) None apart ∙ was (slot n top 0 v d) inside))
    (cell_empty net alg grain target d v ne))
    (both d v)
  where
    both : (d v : ℕ) → ((d ≡ 0) × (v ≡ target)) ⊎ ((d ≡ 0) × (v ≡ target) → ⊥)
    both d v = ⊎_elim (λ (a : d ≡ 0). ⊎_elim (λ (b : v ≡ target). inl (a, b)) (λ (b : v ≡ target → ⊥). inr (λ t. b t.1)) (cases_eq v target)) (λ (a : d ≡ 0 → ⊥). inr (λ t. a t.0)) (cases_eq d 0)

    same_slot : slot n top 0 v d ≡ slot n top 0 target 0 → (d ≡ 0) × (v ≡ target)
    same_slot h = ⊎_elim
        (λ (e : v ≡ target). (omega (arith, h, ap (λ j. slot n top 0 j 0) e), e))
        (⊎_elim
        (λ (k : v < target). absurd (omega (arith, h, slot_left n top 0 v target d k small)))
        (λ (k : target < v). absurd (omega (arith, h, slot_left n top 0 target v 0 k (omega arith)))))
        (Rattle.std.proofs.lemmas.Bool.cases_order v target)
