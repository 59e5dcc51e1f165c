-- Slots of a slice that are written one by one, and slots by row and column.
use Rattle.std.proofs.Common.{◌≡◌, ℕ, ◌+◌, ◌*◌, ◌/◌, ◌%◌, ◌<◌, ◌≤◌, List, length, get_or, set, take, Some, None, Option, sym, refl, ap, ◌∙◌, subst, ⊎_elim, lt_of_lt_of_le, arith, get_or-set_other, get_or-set_same, below_more}
use lib.Arith.{digits_lt}
use Rattle.std.proofs.lemmas.List.{length-map, get_or-map, map-set, get_or-take, length-take-le, take-map}
use Rattle.std.proofs.lemmas.Nat.{div-add-mod', div_below, mod_below}
use Rattle.std.proofs.lemmas.Bool.{cases_lt}
use Rattle.segments.specs.declared.figures.Spread.{Spread}
use Rattle.segments.specs.Distances.{cell, delay_in, delays, Same}
use Rattle.segments.specs.Spreads.{AllEmpty}
use Rattle.segments.proofs.OptionValues.{none_some}

-- one slot more is written
pub set_more : {X : Type 0} (P : ℕ → X → Type 0) (d x : X) (xs : List X) (i : ℕ) → i < length xs → ((k : ℕ) → k < i → P k (get_or xs k d)) → P i x → (k : ℕ) → k < i + 1 → P k (get_or (set xs i x) k d)
set_more P d x xs i within low here = below_more (λ k. P k (get_or (set xs i x) k d)) i
    (λ k h. subst (P k) (sym (get_or-set_other xs i k x d (λ e. omega (arith, e, h)))) (low k h))
    (subst (P i) (sym (get_or-set_same xs i x d within)) here)

-- the delays of slots
module _ {V : Type 0} where
  pub delays_length : (xs : List (Option (Spread V))) → length (delays xs) ≡ length xs
  delays_length xs = length-map xs delay_in

  pub delays_read : (xs : List (Option (Spread V))) (i : ℕ) → i < length xs → cell (delays xs) i ≡ delay_in (get_or xs i None)
  delays_read xs i h = get_or-map delay_in xs i None None h

  pub delays_set : (xs : List (Option (Spread V))) (i : ℕ) (s : Option (Spread V)) → delays (set xs i s) ≡ set (delays xs) i (delay_in s)
  delays_set xs i s = map-set delay_in xs i s

  pub delays_more : (P : ℕ → Option ℕ → Type 0) (s : Option (Spread V)) (xs : List (Option (Spread V))) (i : ℕ) → i < length xs → ((k : ℕ) → k < i → P k (cell (delays xs) k)) → P i (delay_in s) → (k : ℕ) → k < i + 1 → P k (cell (delays (set xs i s)) k)
  delays_more P s xs i h low here k b =
      subst (λ zs. P k (cell zs k)) (sym (delays_set xs i s))
      (set_more P None (delay_in s) (delays xs) i (omega (arith, delays_length xs, h)) low here k b)

-- what holds of the first slots of both slices, holds of the slices below their number
module _ {V : Type 0} (m : ℕ) (xs : List (Option ℕ)) (ys : List (Option (Spread V))) where
  first_cell : (k : ℕ) → k < m → cell (take m xs) k ≡ cell xs k
  first_cell k h = get_or-take m xs k None h

  first_delay : (k : ℕ) → k < m → cell (delays (take m ys)) k ≡ cell (delays ys) k
  first_delay k h = ap (λ zs. cell zs k) (sym (take-map delay_in m ys)) ∙ get_or-take m (delays ys) k None h

  pub same_all : m ≤ length xs → Same (length (take m xs)) (take m xs) (delays (take m ys)) → Same m xs (delays ys)
  same_all long same k h = sym (first_cell k h) ∙ same k (omega (arith, length-take-le m xs long, h)) ∙ first_delay k h

  pub same_first : m ≤ length xs → Same m xs (delays ys) → Same (length (take m xs)) (take m xs) (delays (take m ys))
  same_first long same k h = let b : k < m = omega (arith, length-take-le m xs long, h) in first_cell k b ∙ same k b ∙ sym (first_delay k b)

-- where no distance is kept, the slot is empty
pub empty_kept : {V : Type 0} (n : ℕ) (xs : List (Option ℕ)) (ys : List (Option (Spread V))) → n * n ≤ length ys → Same (n * n) xs (delays ys) → AllEmpty n xs ys
empty_kept {V} n xs ys long same v nv u nu e =
    let i = u * n + v in
    let low = digits_lt nu nv in
    no_delay (get_or ys i None) (sym (delays_read ys i (lt_of_lt_of_le low long)) ∙ sym (same i low) ∙ e)
  where
    no_delay : (s : Option (Spread V)) → delay_in s ≡ None → s ≡ None
    no_delay None z = refl
    no_delay (Some s) z = absurd (none_some (Some s.delay.0) s.delay.0 z refl)

-- a slot of n rows and n columns
pub row_below : (n i : ℕ) → i < n * n → i / n < n
row_below n i h = div_below i n n (some_node n i h) h
  where
    some_node : (n i : ℕ) → i < n * n → 0 < n
    some_node n i h = ⊎_elim (λ (p : 0 < n). p) (λ (z : n ≤ 0). absurd (omega (arith, h, zero_square n (omega arith)))) (cases_lt 0 n)
      where
        zero_square : (n : ℕ) → n ≡ 0 → n * n ≡ 0
        zero_square n e = ap (λ m. m * m) e

pub column_below : (n i : ℕ) → i < n * n → i % n < n
column_below n i h = mod_below i n (omega (arith, row_below n i h))

-- what holds of each row and column holds of each slot
pub by_slot : (n : ℕ) (P : ℕ → ℕ → ℕ → Type 0) → ((u v : ℕ) → u < n → v < n → P u v (u * n + v)) → (i : ℕ) → i < n * n → P (i / n) (i % n) i
by_slot n P f i h = subst (P (i / n) (i % n)) (div-add-mod' i n) (f (i / n) (i % n) (row_below n i h) (column_below n i h))
