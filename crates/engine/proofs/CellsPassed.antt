-- The cells that a scan has passed, when it goes on by a cell, by a column and to the end.
use Rattle.std.proofs.Common.{◌≡◌, ℕ, ◌+◌, ◌<◌, ◌⊎◌, inl, inr, ⊎_elim, arith}
use Rattle.std.proofs.lemmas.Bool.{cases_eq}
use Rattle.engine.specs.Chosen.{Passed, Whole}

module _ (limit d l m e : ℕ) where
  pub passed_split : Passed limit d (l + 1) m e → Passed limit d l m e ⊎ ((m ≡ l) × (e ≡ d))
  passed_split p =
      ⊎_elim (λ (h : e < d). inl (p.0, inl h))
      (λ (h : (e ≡ d) × (m < l + 1)). ⊎_elim (λ (k : m ≡ l). inr (k, h.0)) (λ (k : m ≡ l → ⊥). inl (p.0, inr (h.0, omega (arith, h.1, k)))) (cases_eq m l)) p.1

  pub passed_more : Passed limit d l m e → Passed limit d (l + 1) m e
  passed_more p = (p.0, ⊎_elim (λ h. inl h) (λ h. inr (h.0, omega (arith, h.1))) p.1)

  pub column_passed : Passed limit d l m e → Passed limit (d + 1) 0 m e
  column_passed p = (p.0, inl (⊎_elim (λ (h : e < d). omega arith) (λ (h : (e ≡ d) × (m < l)). omega (arith, h.0)) p.1))

  pub column_covered : limit < l → Passed limit (d + 1) 0 m e → Passed limit d l m e
  column_covered past p =
      (p.0, ⊎_elim (λ (h : e < d + 1). ⊎_elim (λ (k : e ≡ d). inr (k, omega (arith, p.0, past))) (λ (k : e ≡ d → ⊥). inl (omega (arith, h, k))) (cases_eq e d)) (λ (h : (e ≡ d + 1) × (m < 0)). absurd (omega (arith, h.1))) p.1)

module _ (limit top d m e : ℕ) (past : d ≡ top + 1) where
  pub all_passed : Passed limit d 0 m e → Whole limit top m e
  all_passed p = (p.0, ⊎_elim (λ (h : e < d). omega (arith, h, past)) (λ (h : (e ≡ d) × (m < 0)). absurd (omega (arith, h.1))) p.1)

  pub all_covered : Whole limit top m e → Passed limit d 0 m e
  all_covered p = (p.0, inl (omega (arith, p.1, past)))
