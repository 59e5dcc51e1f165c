-- Precedence is a strict order, total on lists that differ.
use Rattle.std.proofs.Common.{◌≡◌, ℕ, ◌<◌, Bool, true, false, T, ◌⊎◌, List, [], ◌∷◌, length, sym, refl, ◌∙◌, subst, inl, inr, ⊎_elim, arith}
use Rattle.std.proofs.lemmas.Bool.{cases_order}
use Rattle.segments.specs.Algebra.{Algebra, AsGood, Better, Laws}
use Rattle.segments.specs.Orders.{Smaller}
use Rattle.segments.specs.Segments.{list_value, list_grains}
use Rattle.segments.specs.Theorems.{PrecedenceStrict}

smaller_not : (cs : List ℕ) → Smaller cs cs → ⊥
smaller_not [] s = s
smaller_not (c ∷ cs) (inl h) = omega arith
smaller_not (c ∷ cs) (inr h) = smaller_not cs h.1

smaller_trans : (bs cs ds : List ℕ) → Smaller bs cs → Smaller cs ds → Smaller bs ds
smaller_trans [] cs ds p q = absurd p
smaller_trans (b ∷ bs) [] ds p q = absurd p
smaller_trans (b ∷ bs) (c ∷ cs) [] p q = absurd q
smaller_trans (b ∷ bs) (c ∷ cs) (d ∷ ds) (inl p) (inl q) = inl (omega arith)
smaller_trans (b ∷ bs) (c ∷ cs) (d ∷ ds) (inl p) (inr q) = inl (omega (arith, q.0))
smaller_trans (b ∷ bs) (c ∷ cs) (d ∷ ds) (inr p) (inl q) = inl (omega (arith, p.0))
smaller_trans (b ∷ bs) (c ∷ cs) (d ∷ ds) (inr p) (inr q) = inr (p.0 ∙ q.0, smaller_trans bs cs ds p.1 q.1)

smaller_total : (cs ds : List ℕ) → length cs ≡ length ds → (cs ≡ ds → ⊥) → Smaller cs ds ⊎ Smaller ds cs
smaller_total [] [] e ne = absurd (ne refl)
smaller_total [] (d ∷ ds) e ne = absurd (omega arith)
smaller_total (c ∷ cs) [] e ne = absurd (omega arith)
smaller_total (c ∷ cs) (d ∷ ds) e ne =
    ⊎_elim
    (λ same. ⊎_elim (λ h. inl (inr (same, h))) (λ h. inr (inr (sym same, h))) (smaller_total cs ds (omega arith) (λ t. ne (λ i. same i ∷ t i))))
    (⊎_elim (λ h. inl (inl h)) (λ h. inr (inl h)))
    (cases_order c d)

-- by L first, and among equals by what is left
lex_trans : {A : Type 0} (L : A → A → Type 0) → ((x y z : A) → L x y → L y z → L x z) → (x y z : A) {P Q R : Type 0} → (P → Q → R) → L x y ⊎ ((x ≡ y) × P) → L y z ⊎ ((y ≡ z) × Q) → L x z ⊎ ((x ≡ z) × R)
lex_trans L t x y z f (inl p) (inl q) = inl (t x y z p q)
lex_trans L t x y z f (inl p) (inr q) = inl (subst (λ w. L x w) q.0 p)
lex_trans L t x y z f (inr p) (inl q) = inl (subst (λ w. L w z) (sym p.0) q)
lex_trans L t x y z f (inr p) (inr q) = inr (p.0 ∙ q.0, f p.1 q.1)

lex_not : {A : Type 0} (L : A → A → Type 0) (x : A) {P : Type 0} → (L x x → ⊥) → (P → ⊥) → L x x ⊎ ((x ≡ x) × P) → ⊥
lex_not L x n f (inl p) = n p
lex_not L x n f (inr p) = f p.1

lex_total : {A : Type 0} (L : A → A → Type 0) (x y : A) {P Q : Type 0} → (x ≡ y) ⊎ (L x y ⊎ L y x) → (x ≡ y → P ⊎ Q) → (L x y ⊎ ((x ≡ y) × P)) ⊎ (L y x ⊎ ((y ≡ x) × Q))
lex_total L x y (inl e) f = ⊎_elim (λ p. inl (inr (e, p))) (λ q. inr (inr (sym e, q))) (f e)
lex_total L x y (inr (inl p)) f = inl (inl p)
lex_total L x y (inr (inr q)) f = inr (inl q)

lt_trans : (x y z : ℕ) → x < y → y < z → x < z
lt_trans x y z p q = omega arith

lt_not : (x : ℕ) → x < x → ⊥
lt_not x h = omega arith

decided : (b : Bool) → T b ⊎ (T b → ⊥)
decided true = inl tt
decided false = inr (λ t. t)

module _ {V : Type 0} (alg : Algebra V) (lawful : Laws alg) where
  pub compared : (x y : V) → (x ≡ y) ⊎ (Better alg x y ⊎ Better alg y x)
  compared x y =
      ⊎_elim
      (λ p. ⊎_elim (λ q. inl (lawful.antisymmetric x y p q)) (λ n. inr (inl (p, λ e. n (subst (λ z. AsGood alg z x) e (subst (λ z. AsGood alg x z) (sym e) p))))) (decided (alg.as_good y x)))
      (λ n. ⊎_elim (λ p. absurd (n p)) (λ q. inr (inr (q, λ e. n (subst (λ z. AsGood alg z y) e (subst (λ z. AsGood alg y z) (sym e) q))))) (lawful.total x y))
      (decided (alg.as_good x y))

  better_trans : (x y z : V) → Better alg x y → Better alg y z → Better alg x z
  better_trans x y z p q = (lawful.transitive x y z p.0 q.0, λ e. p.1 (lawful.antisymmetric x y p.0 (subst (λ w. AsGood alg y w) (sym e) q.0)))

  pub precedence_strict : PrecedenceStrict alg
  precedence_strict grain = record {
    irreflexive = λ cs hs. lex_not (Better alg) (list_value alg hs) (λ b. b.1 refl) (lex_not ◌<◌ (list_grains grain hs) (lt_not _) (lex_not ◌<◌ (length cs) (lt_not _) (smaller_not cs)));
    transitive = λ bs cs ds hs ks ls.
        lex_trans (Better alg) better_trans (list_value alg hs) (list_value alg ks) (list_value alg ls)
        (lex_trans ◌<◌ lt_trans (list_grains grain hs) (list_grains grain ks) (list_grains grain ls)
        (lex_trans ◌<◌ lt_trans (length bs) (length cs) (length ds) (smaller_trans bs cs ds)));
    total = λ cs ds hs ks ne.
        lex_total (Better alg) (list_value alg hs) (list_value alg ks) (compared _ _)
        (λ _. lex_total ◌<◌ (list_grains grain hs) (list_grains grain ks) (cases_order _ _)
        (λ _. lex_total ◌<◌ (length cs) (length ds) (cases_order _ _) (λ e. smaller_total cs ds e ne)));
  }
