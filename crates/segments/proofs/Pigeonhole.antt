-- Numbers below n that all differ are at most n.
use Rattle.std.proofs.Common.{◌≡◌, ℕ, zero, suc, ◌<◌, ◌≤◌, List, [], ◌∷◌, length, sym, subst, ⊎_elim, arith}
use Rattle.std.proofs.lemmas.Bool.{cases_eq}

abbrev pub NotIn : ℕ → List ℕ → Type 0
NotIn x [] = Unit {0}
NotIn x (y ∷ ys) = (x ≡ y → ⊥) × NotIn x ys

abbrev pub NoDup : List ℕ → Type 0
NoDup [] = Unit {0}
NoDup (x ∷ xs) = NotIn x xs × NoDup xs

abbrev pub AllBelow : ℕ → List ℕ → Type 0
AllBelow n [] = Unit {0}
AllBelow n (x ∷ xs) = (x < n) × AllBelow n xs

-- xs without x
record Without (x n : ℕ) (xs : List ℕ) : Type 0 where
  left : List ℕ
  apart : NoDup left
  most : length xs ≤ suc (length left)
  below : AllBelow n left
  gone : NotIn x left
  fewer : (z : ℕ) → NotIn z xs → NotIn z left

without : (x n : ℕ) (xs : List ℕ) → NoDup xs → AllBelow n xs → Without x n xs
without x n [] a b = record { left = []; apart = tt; most = omega arith; below = tt; gone = tt; fewer = λ z h. tt }
without x n (y ∷ ys) a b =
    ⊎_elim
    (λ (e : x ≡ y). record { left = ys; apart = a.1; most = omega arith; below = b.1; gone = subst (λ z. NotIn z ys) (sym e) a.0; fewer = λ z h. h.1 })
    (λ (ne : x ≡ y → ⊥).
    let w = without x n ys a.1 b.1 in
    record { left = y ∷ w.left; apart = (w.fewer y a.0, w.apart); most = omega (arith, w.most); below = (b.0, w.below); gone = (ne, w.gone); fewer = λ z h. (h.0, w.fewer z h.1) })
    (cases_eq x y)

lower : (n : ℕ) (xs : List ℕ) → NotIn n xs → AllBelow (suc n) xs → AllBelow n xs
lower n [] a b = tt
lower n (x ∷ xs) a b = (let ne = a.0 in ⊎_elim (λ (e : n ≡ x). absurd (ne e)) (λ (d : n ≡ x → ⊥). omega (arith, b.0, d)) (cases_eq n x), lower n xs a.1 b.1)

-- numbers below n that differ are at most n
pub pigeonhole : (n : ℕ) (xs : List ℕ) → NoDup xs → AllBelow n xs → length xs ≤ n
pigeonhole zero [] a b = omega arith
pigeonhole zero (x ∷ xs) a b = absurd (omega (arith, b.0))
pigeonhole (suc n) xs a b =
    let w = without n (suc n) xs a b in
    omega (arith, w.most, pigeonhole n w.left w.apart (lower n w.left w.gone w.below))
