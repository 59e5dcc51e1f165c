-- The first code at which a closure answers something, as `find_map` over a range of codes finds it.
use Rattle.std.proofs.Common.{◌≡◌, ℕ, ◌<◌, true, Some, None, Option, ap, ◌∙◌, subst, zero-add, arith}
use Rattle.std.specs.Fn.{Called}
use Rattle.std.specs.Option.{IfSome, IsSomeAnd, option_map}
use Rattle.std.specs.Iterator.Runs.{Run, ItemsCountUp, CallKeepsClosure, AllItemsGive, IsFirstToGive}
use denote.Param.Members.{Mut}
use Rattle.segments.proofs.OptionValues.{some_same, none_some}

read_some : (o : Option ℕ) (x : ℕ) (P : ℕ → Type 0) → option_map (λ y. y) o ≡ Some x → IfSome o P → P x
read_some (Some y) x P e h = subst P (some_same (Some y) y x (λ i. Some y) e) h
read_some None x P e h = absurd (none_some None x (λ i. None) e)

read_and : (o : Option ℕ) (x : ℕ) (P : ℕ → Type 0) → option_map (λ y. y) o ≡ Some x → IsSomeAnd o P → P x
read_and (Some y) x P e h = subst P (some_same (Some y) y x (λ i. Some y) e) h
read_and None x P e h = absurd (none_some None x (λ i. None) e)

module _ {S F B : Type 0} {steps : S → Option ℕ → S → Type 0} (g : Mut F (ℕ × Unit {0}) (Option B)) (f : F) (Told : ℕ → Option B → Type 0) (keeps : CallKeepsClosure g f) (tell : (k : ℕ) (r : Option B) → Called g f (k, tt) r f → Told k r)
    (p : Run steps) (n : ℕ) (up : ItemsCountUp p 0 n) where
  at : (k : ℕ) → k < p.len → option_map (λ y. y) (p.at k) ≡ Some k
  at k h = up.3 k h ∙ ap Some (zero-add k)

  pub none_given : p.whole ≡ true → AllItemsGive p g f None → (k : ℕ) → k < n → Told k None
  none_given whole all k h = tell k None (read_some (p.at k) k (λ x. Called g f (x, tt) None f) (at k (omega (arith, up.1 whole, h))) (all keeps k))

  pub first_given : (y : B) (i : ℕ) → i < p.len → IsFirstToGive p g f (Some y) None i → Told i (Some y) × ((b : ℕ) → b < i → Told b None)
  first_given y i within first = (
    tell i (Some y) (read_and (p.at i) i (λ x. Called g f (x, tt) (Some y) f) (at i within) (first keeps).0),
    λ b h. tell b None (read_and (p.at b) b (λ x. Called g f (x, tt) None f) (at b (omega arith)) ((first keeps).1 b h)),
  )
