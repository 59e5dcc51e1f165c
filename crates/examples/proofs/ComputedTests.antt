-- Tests that are computed: each gives the proof of what it tests where it passes.
use Rattle.std.proofs.Common.{◌≡◌, ℕ, zero, suc, ◌<◌, ◌≤◌, Bool, true, false, T, eqb, leb, List, [], ◌∷◌, get_or, is_some, Some, None, Option, sym, refl, subst, ⊎_elim, arith, le→leb, eqb→eq, leb→le}
use lib.Dec.{eqb_refl}
use Rattle.std.proofs.lemmas.Bool.{cases_eq}
use Rattle.segments.proofs.OptionValues.{some_same, none_some}

infixl 10 ◌>>=◌
abbrev pub ◌>>=◌ : {A B : Type 0} → Option A → (A → Option B) → Option B
None >>= f = None
Some a >>= f = f a

-- the second is computed only where the first fails
abbrev pub or_else : {A : Type 0} → Option A → (Unit {0} → Option A) → Option A
or_else None f = f tt
or_else (Some a) f = Some a

module _ {A : Type 0} where
  pub the : (o : Option A) → T (is_some o) → A
  the None t = absurd t
  the (Some a) t = a

  -- what is there, with that it is
  abbrev pub there : (o : Option A) → Option ((a : A) × (o ≡ Some a))
  there None = None
  there (Some a) = Some (a, refl)

  -- of what is there, if anything is
  abbrev pub if_there : (P : A → Type 0) → ((a : A) → Option (P a)) → (o : Option A) → Option ((a : A) → o ≡ Some a → P a)
  if_there P f None = Some (λ a e. absurd (none_some None a refl e))
  if_there P f (Some b) = f b >>= λ p. Some (λ a e. subst P (some_same (Some b) b a refl e) p)

  pub each_cons : (P : ℕ → A → Type 0) (o : Option A) (os : List (Option A)) → ((a : A) → o ≡ Some a → P 0 a) → ((p : ℕ) (a : A) → get_or os p None ≡ Some a → P (suc p) a) → (p : ℕ) (a : A) → get_or (o ∷ os) p None ≡ Some a → P p a
  each_cons P o os h t zero = h
  each_cons P o os h t (suc p) = t p

  -- of each place that is filled
  abbrev pub each : (P : ℕ → A → Type 0) → ((p : ℕ) (a : A) → Option (P p a)) → (os : List (Option A)) → Option ((p : ℕ) (a : A) → get_or os p None ≡ Some a → P p a)
  each P f [] = Some (λ p a e. absurd (none_some None a refl e))
  each P f (o ∷ os) = if_there (P 0) (f 0) o >>= λ h. each (λ p. P (suc p)) (λ p. f (suc p)) os >>= λ t. Some (each_cons P o os h t)

  -- of some place that is filled
  abbrev pub some : (P : ℕ → A → Type 0) → ((p : ℕ) (a : A) → Option (P p a)) → (os : List (Option A)) → Option ((p : ℕ) × (a : A) × (get_or os p None ≡ Some a) × P p a)
  some P f [] = None
  some P f (o ∷ os) =
      or_else (there o >>= λ s. f 0 s.0 >>= λ p. Some (0, s.0, s.1, p))
      (λ _. some (λ p. P (suc p)) (λ p. f (suc p)) os >>= λ s. Some (suc s.0, s.1, s.2, s.3))

-- of each number below n
abbrev pub below : (n : ℕ) (P : ℕ → Type 0) → ((k : ℕ) → Option (P k)) → Option ((k : ℕ) → k < n → P k)
below zero P f = Some (λ k h. absurd (omega arith))
below (suc n) P f = f n >>= λ p. below n P f >>= λ t. Some (λ k h. ⊎_elim (λ (e : k ≡ n). subst P (sym e) p) (λ (ne : k ≡ n → ⊥). t k (omega (arith, h, ne))) (cases_eq k n))

abbrev pub ask : (b : Bool) → Option (T b)
ask true = Some tt
ask false = None

abbrev pub deny : (b : Bool) → Option (T b → ⊥)
deny true = None
deny false = Some (λ t. t)

abbrev pub equal : (m n : ℕ) → Option (m ≡ n)
equal m n = ask (eqb m n) >>= λ t. Some (eqb→eq m n t)

abbrev pub differ : (m n : ℕ) → Option (m ≡ n → ⊥)
differ m n = deny (eqb m n) >>= λ f. Some (λ e. f (subst (λ k. T (eqb m k)) e (eqb_refl m)))

abbrev pub at_most : (m n : ℕ) → Option (m ≤ n)
at_most m n = ask (leb m n) >>= λ t. Some (leb→le m n t)

abbrev pub less : (m n : ℕ) → Option (m < n)
less m n = at_most (suc m) n

abbrev pub above : (m n : ℕ) → Option (m ≤ n → ⊥)
above m n = deny (leb m n) >>= λ f. Some (λ h. f (le→leb m n h))
