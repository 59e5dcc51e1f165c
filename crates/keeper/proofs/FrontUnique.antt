-- Slots of one number hold one front at most.
use Rattle.std.proofs.Common.{◌≡◌, ℕ, ◌<◌, Bool, List, length, get_or, Some, None, Option, sym, refl, ◌∙◌, arith}
use Rattle.std.proofs.lemmas.List.{same_lists, get_or_default}
use Rattle.segments.proofs.OptionValues.{none_some}
use Rattle.keeper.specs.Fronts.{Front}

pub front_unique : {V : Type 0} (good : V → V → Bool) (P : ℕ → V → Type 0) (s t : List (Option V)) → length s ≡ length t → Front good P s → Front good P t → s ≡ t
front_unique {V} good P s t long f g = same_lists s t long (λ k d h. get_or_default s k d None h ∙ slots k (get_or s k None) refl (get_or t k None) refl ∙ sym (get_or_default t k d None (within k h)))
  where
    within : (k : ℕ) → k < length s → k < length t
    within k h = omega arith

    slots : (k : ℕ) (x : Option V) → get_or s k None ≡ x → (y : Option V) → get_or t k None ≡ y → get_or s k None ≡ get_or t k None
    slots k (Some x) e y q = e ∙ sym (g.complete k x (f.sound k x e))
    slots k None e (Some y) q = absurd (none_some (get_or s k None) y e (f.complete k y (g.sound k y q)))
    slots k None e None q = e ∙ sym q
