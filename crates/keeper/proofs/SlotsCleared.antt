-- A new value beside the slots: whether one beats it, and what it leaves of those above it.
use Rattle.std.proofs.Common.{◌≡◌, ℕ, ◌+◌, ◌-◌, ◌<◌, ◌≤◌, Bool, true, false, cond, T, List, length, take, drop, get_or, set, Some, None, Option, sym, refl, ap, ◌∙◌, subst, ⊎_elim, arith, get_or-set_other, get_or-set_same, length-set}
use Rattle.std.proofs.lemmas.Bool.{cases_lt}
use Rattle.std.proofs.lemmas.List.{get_or-take, get_or-drop, length-take, get_or_past}
use Rattle.std.specs.Bool.{MatchBool}
use Rattle.std.specs.List.{HoldsAt, AllWithin}
use borrow.Rule.Slice.PartMut.{put_mid}
use Rattle.segments.proofs.OptionValues.{some_same, none_some}
use Rattle.keeper.specs.Fronts.{InSlot}
use Rattle.keeper.specs.Keepers.{left_beside, Beaten, Cleared, Placed}
use Rattle.keeper.proofs.PartsWritten.{before_part, within_part, after_part}

-- whether a slot holds a value as good as x
abbrev pub beats : {V : Type 0} → (V → V → Bool) → V → Option V → Bool
beats good x None = false
beats good x (Some y) = good y x

module _ {V : Type 0} (good : V → V → Bool) (x : V) where
  beats_is : (o : Option V) → beats good x o ≡ true → (y : V) × (o ≡ Some y) × T (good y x)
  beats_is None e = absurd (subst T (sym e) tt)
  beats_is (Some y) e = (y, refl, subst T (sym e) tt)

  beaten_yes : (xs : List (Option V)) (d k : ℕ) → k < length (take (d + 1) xs) → HoldsAt (λ s. beats good x s ≡ true) (take (d + 1) xs) k → Beaten good (InSlot xs) d x
  beaten_yes xs d k within holds =
      let low : k < d + 1 = omega (arith, length-take (d + 1) xs) in
      let is = beats_is (get_or (take (d + 1) xs) k None) (holds None) in
      record { grains = k; value = is.0; member = sym (get_or-take (d + 1) xs k None low) ∙ is.1; less = omega arith; as_good = is.2 }

  beaten_none : (xs : List (Option V)) (d : ℕ) → d < length xs → AllWithin (λ s. beats good x s ≡ false) (take (d + 1) xs) 0 (length (take (d + 1) xs)) → Beaten good (InSlot xs) d x → ⊥
  beaten_none xs d within none b =
      let high : b.grains < length (take (d + 1) xs) = omega (arith, length-take (d + 1) xs, b.less) in
      let at : get_or (take (d + 1) xs) b.grains None ≡ Some b.value = get_or-take (d + 1) xs b.grains None (omega (arith, b.less)) ∙ b.member in
      subst T (sym (ap (beats good x) at) ∙ none b.grains None (omega arith) high) b.as_good

  -- a slot of at most d grains beats x, or none does
  pub beaten_answer : (xs : List (Option V)) (d : ℕ) (b : Bool) → d < length xs
      → MatchBool b ((k : ℕ) × (k < length (take (d + 1) xs)) × HoldsAt (λ s. beats good x s ≡ true) (take (d + 1) xs) k) (AllWithin (λ s. beats good x s ≡ false) (take (d + 1) xs) 0 (length (take (d + 1) xs)))
      → (b ≡ true → Beaten good (InSlot xs) d x) × (b ≡ false → Beaten good (InSlot xs) d x → ⊥)
  beaten_answer xs d true within found = (λ e. beaten_yes xs d found.0 found.1 found.2, λ e. absurd (subst T e tt))
  beaten_answer xs d false within found = (λ e. absurd (subst T (sym e) tt), λ e. beaten_none xs d within found)

  stays : (y : V) → (T (good x y) → ⊥) → left_beside good x (Some y) ≡ Some y
  stays y = go (good x y)
    where
      go : (b : Bool) → (T b → ⊥) → cond b None (Some y) ≡ Some y
      go true n = absurd (n tt)
      go false n = refl

  left_is : (o : Option V) (y : V) → left_beside good x o ≡ Some y → (o ≡ Some y) × (T (good x y) → ⊥)
  left_is None y e = absurd (none_some None y refl e)
  left_is (Some z) y e = go (good x z) refl e
    where
      go : (b : Bool) → good x z ≡ b → cond b None (Some z) ≡ Some y → (Some z ≡ Some y) × (T (good x y) → ⊥)
      go true is h = absurd (none_some None y refl h)
      go false is h = (h, λ t. subst T (ap (good x) (some_same (Some z) y z h refl) ∙ is) t)

  module _ (d : ℕ) (before part : List (Option V)) (within : d < length before) (long : length part ≡ length (set before d (Some x)) - (d + 1))
      (cleared : Cleared good x (take (length (set before d (Some x)) - (d + 1)) (drop (d + 1) (set before d (Some x)))) part) where
    abbrev mid : List (Option V)
    mid = set before d (Some x)

    abbrev after : List (Option V)
    after = put_mid (d + 1) (length mid - (d + 1)) mid part

    same : length mid ≡ length before
    same = length-set before d (Some x)

    other : (e : ℕ) → (e ≡ d → ⊥) → get_or mid e None ≡ get_or before e None
    other e ne = get_or-set_other before d e (Some x) None ne

    inside : d + 1 + (length mid - (d + 1)) ≤ length mid
    inside = omega (arith, same)

    here : get_or after d None ≡ Some x
    here = before_part (d + 1) (length mid - (d + 1)) mid part None inside long d (omega arith) ∙ get_or-set_same before d (Some x) None within

    low : (e : ℕ) → e < d + 1 → (e ≡ d → ⊥) → get_or after e None ≡ get_or before e None
    low e h ne = before_part (d + 1) (length mid - (d + 1)) mid part None inside long e h ∙ other e ne

    high : (e : ℕ) → d + 1 ≤ e → get_or after e None ≡ left_beside good x (get_or before e None)
    high e h = ⊎_elim
        (λ (k : e < length mid).
        let j = e - (d + 1) in
        let e-is : d + 1 + j ≡ e = omega arith in
        let few : j < length mid - (d + 1) = omega arith in
        let read : get_or (take (length mid - (d + 1)) (drop (d + 1) mid)) j None ≡ get_or before e None = get_or-take (length mid - (d + 1)) (drop (d + 1) mid) j None few ∙ get_or-drop (d + 1) mid j None ∙ ap (λ i. get_or mid i None) e-is ∙ other e (omega arith) in
        ap (λ i. get_or after i None) (sym e-is) ∙ within_part (d + 1) (length mid - (d + 1)) mid part None inside long j few ∙ cleared j ∙ ap (left_beside good x) read)
        (λ (k : length mid ≤ e).
        let none : get_or before e None ≡ None = get_or_past before e None (omega (arith, same)) in
        after_part (d + 1) (length mid - (d + 1)) mid part None inside long e (omega (arith, same)) ∙ other e (omega arith) ∙ none ∙ sym (ap (left_beside good x) none))
        (cases_lt e (length mid))

    -- put into its slot, and those above cleared
    pub placed : (Beaten good (InSlot before) d x → ⊥) → Placed good d x before after
    placed n = record {
      new = n;
      here = λ y. (λ s. some_same (get_or after d None) y x s here, λ k. here ∙ ap Some (sym k));
      kept = λ e y ne s t. ⊎_elim (λ (h : e < d + 1). low e h ne ∙ s) (λ (h : d + 1 ≤ e). high e h ∙ ap (left_beside good x) s ∙ stays y (t (omega arith))) (cases_lt e (d + 1));
      only = λ e y ne s. ⊎_elim
          (λ (h : e < d + 1). (sym (low e h ne) ∙ s, λ le g. absurd (ne (omega arith))))
          (λ (h : d + 1 ≤ e). let was = left_is (get_or before e None) y (sym (high e h) ∙ s) in (was.0, λ le g. was.1 g))
          (cases_lt e (d + 1));
    }
