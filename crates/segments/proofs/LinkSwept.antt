-- A link is tried in the row of its tail, slot by slot.
use Rattle.std.proofs.Common.{◌≡◌, ℕ, ◌+◌, ◌*◌, ◌/◌, ◌<◌, ◌≤◌, List, length, set, None, Option, sym, ap, ◌∙◌, subst, arith, get_or-set_other, get_or-set_same, below_more}
use lib.Arith.{digits_div}
use Rattle.netmap.specs.declared.link.Link.{Link}
use Rattle.segments.specs.declared.figures.Spread.{Spread}
use Rattle.segments.specs.Distances.{cell, delay_in, delays}
use Rattle.segments.specs.Relaxations.{nearer}
use Rattle.segments.proofs.TableSlots.{delays_length, delays_set}

module _ (n : ℕ) (l : Link) (old new : List (Option ℕ)) where
  -- the row of the link's tail is tried below v
  pub record SweptTo (xs : List (Option ℕ)) (v : ℕ) : Type 0 where
    pub below : (k : ℕ) → k < v → cell xs (l.tail * n + k) ≡ nearer (cell new (l.tail * n + k)) l.weight (cell old (l.head * n + k))
    pub above : (k : ℕ) → v ≤ k → k < n → cell xs (l.tail * n + k) ≡ cell new (l.tail * n + k)
    pub others : (u k : ℕ) → k < n → (u ≡ l.tail → ⊥) → cell xs (u * n + k) ≡ cell new (u * n + k)

  -- the slot keeps what it holds
  swept_keep : (v : ℕ) (xs : List (Option ℕ)) → v < n → SweptTo xs v → cell xs (l.tail * n + v) ≡ nearer (cell xs (l.tail * n + v)) l.weight (cell old (l.head * n + v)) → SweptTo xs (v + 1)
  swept_keep v xs nv s e = record {
    below = below_more (λ k. cell xs (l.tail * n + k) ≡ nearer (cell new (l.tail * n + k)) l.weight (cell old (l.head * n + k))) v s.below (e ∙ ap (λ m. nearer m l.weight (cell old (l.head * n + v))) (s.above v (omega arith) nv));
    above = λ k h g. s.above k (omega arith) g;
    others = s.others;
  }

  swept_take : (v : ℕ) (xs : List (Option ℕ)) → v < n → SweptTo xs v → (x : Option ℕ) → l.tail * n + v < length xs → x ≡ nearer (cell xs (l.tail * n + v)) l.weight (cell old (l.head * n + v)) → SweptTo (set xs (l.tail * n + v) x) (v + 1)
  swept_take v xs nv s x within e =
      let i = l.tail * n + v in
      let other : (k : ℕ) → (k ≡ v → ⊥) → cell (set xs i x) (l.tail * n + k) ≡ cell xs (l.tail * n + k) = λ k ne. get_or-set_other xs i (l.tail * n + k) x None (λ z. ne (cancel (l.tail * n) k v z)) in
      record {
        below = below_more (λ k. cell (set xs i x) (l.tail * n + k) ≡ nearer (cell new (l.tail * n + k)) l.weight (cell old (l.head * n + k))) v
            (λ k h. other k (λ z. omega (arith, z, h)) ∙ s.below k h)
            (get_or-set_same xs i x None within ∙ e ∙ ap (λ m. nearer m l.weight (cell old (l.head * n + v))) (s.above v (omega arith) nv));
        above = λ k h g. other k (λ z. omega (arith, z, h)) ∙ s.above k (omega arith) g;
        others = λ u k h ne. get_or-set_other xs i (u * n + k) x None (λ z. ne (sym (digits_div u h) ∙ ap (λ m. m / n) z ∙ digits_div l.tail nv)) ∙ s.others u k h ne;
      }
    where
      cancel : (a k v : ℕ) → a + k ≡ a + v → k ≡ v
      cancel a k v z = omega arith

  -- the same of the slots of the second working slice, which hold `best` there
  module _ {V : Type 0} (v : ℕ) (xs : List (Option (Spread V))) (nv : v < n) (s : SweptTo (delays xs) v) (best : Option ℕ) (was : best ≡ cell (delays xs) (l.tail * n + v)) where
    come : nearer best l.weight (cell old (l.head * n + v)) ≡ nearer (cell (delays xs) (l.tail * n + v)) l.weight (cell old (l.head * n + v))
    come = ap (λ m. nearer m l.weight (cell old (l.head * n + v))) was

    pub swept_same : nearer best l.weight (cell old (l.head * n + v)) ≡ best → SweptTo (delays xs) (v + 1)
    swept_same e = swept_keep v (delays xs) nv s (sym was ∙ sym e ∙ come)

    pub swept_more : (x : Option (Spread V)) → l.tail * n + v < length xs → delay_in x ≡ nearer best l.weight (cell old (l.head * n + v)) → SweptTo (delays (set xs (l.tail * n + v) x)) (v + 1)
    swept_more x within e =
        subst (λ ws. SweptTo ws (v + 1)) (sym (delays_set xs (l.tail * n + v) x))
        (swept_take v (delays xs) nv s (delay_in x) (subst (λ m. l.tail * n + v < m) (sym (delays_length xs)) within) (e ∙ come))
