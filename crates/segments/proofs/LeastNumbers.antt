-- Least numbers: where there is one, that there is one at most, and what one number more does.
use Rattle.std.proofs.Common.{◌≡◌, ℕ, ◌<◌, ◌≤◌, min, ◌⊎◌, Some, None, Option, refl, ap, subst, ⊎_elim, arith}
use Rattle.std.proofs.lemmas.Bool.{cases_lt}
use Rattle.segments.specs.Distances.{LeastOf, lesser_of, Known}
use Rattle.segments.proofs.OptionValues.{some_same, none_some}

pub least_some : (P : ℕ → Type 0) (o : Option ℕ) (y : ℕ) → LeastOf P o → P y → (w : ℕ) × (o ≡ Some w) × (w ≤ y)
least_some P (Some w) y c p = (w, refl, c.1 y p)
least_some P None y c p = absurd (c y p)

pub least_same : (P Q : ℕ → Type 0) (o : Option ℕ) → ((w : ℕ) → P w → Q w) → ((w : ℕ) → Q w → P w) → LeastOf P o → LeastOf Q o
least_same P Q (Some w) f g l = (f w l.0, λ y q. l.1 y (g y q))
least_same P Q None f g l = λ y q. l y (g y q)

pub least_once : (P Q : ℕ → Type 0) (o q : Option ℕ) → LeastOf P o → LeastOf Q q → ((w : ℕ) → P w → (y : ℕ) × Q y × (y ≤ w)) → ((w : ℕ) → Q w → (y : ℕ) × P y × (y ≤ w)) → o ≡ q
least_once P Q (Some w) (Some y) a b f g =
    let s = f w a.0 in
    let t = g y b.0 in
    ap Some (omega (arith, b.1 s.0 s.1, s.2, a.1 t.0 t.1, t.2))
least_once P Q (Some w) None a b f g = let s = f w a.0 in absurd (b s.0 s.1)
least_once P Q None (Some y) a b f g = let t = g y b.0 in absurd (a t.0 t.1)
least_once P Q None None a b f g = refl

pub least_lesser : (P Q : ℕ → Type 0) (o : Option ℕ) (s : ℕ) → LeastOf P o → ((w : ℕ) → P w → Q w) → ((w : ℕ) → Q w → P w ⊎ (w ≡ s)) → Q s → LeastOf Q (Some (lesser_of o s))
least_lesser P Q None s l up down own = (own, λ y q. ⊎_elim (λ p. absurd (l y p)) (λ (e : y ≡ s). omega arith) (down y q))
least_lesser P Q (Some a) s l up down own = (
  ⊎_elim (λ (h : a < s). subst Q (lower a s h) (up a l.0)) (λ (h : s ≤ a). subst Q (upper a s h) own) (cases_lt a s),
  λ y q. ⊎_elim (λ p. omega (arith, l.1 y p)) (λ (e : y ≡ s). omega arith) (down y q),
)
  where
    lower : (a s : ℕ) → a < s → a ≡ min a s
    lower a s h = omega arith

    upper : (a s : ℕ) → s ≤ a → s ≡ min a s
    upper a s h = omega arith

pub least_known : (P : ℕ → Type 0) (o : Option ℕ) → LeastOf P o → ((y : ℕ) → P y → y ≤ 4128705) → Known o
least_known P (Some w) l f = f w l.0
least_known P None l f = tt

pub known_is : (o : Option ℕ) (w : ℕ) → Known o → o ≡ Some w → w ≤ 4128705
known_is (Some x) w h e = omega (arith, some_same (Some x) x w refl e, h)
known_is None w h e = absurd (none_some None w refl e)
