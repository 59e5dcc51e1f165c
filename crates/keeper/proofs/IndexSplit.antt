-- An index below the next one is the last or below it.
use Rattle.std.proofs.Common.{◌≡◌, ℕ, ◌+◌, ◌<◌, ◌⊎◌, inl, inr, ⊎_elim, arith}
use Rattle.std.proofs.lemmas.Bool.{cases_eq}

pub last_or : (k i : ℕ) → k < i + 1 → (k ≡ i) ⊎ (k < i)
last_or k i h = ⊎_elim inl (λ (n : k ≡ i → ⊥). inr (omega arith)) (cases_eq k i)
