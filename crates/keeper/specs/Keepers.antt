-- The front keeper: pairs offered one by one.
use Rattle.std.specs.Prelude.{◌≡◌, ℕ, ◌≤◌, Bool, true, false, cond, T, ◌⊎◌, List, [], ◌∷◌, length, Some, None, Ok, Err, Option, Result, ◌≢◌, nat_lt, slice_index_or}
use Rattle.questions.specs.declared.denial.Denial.{Denial}
use Rattle.questions.specs.declared.denial.Question.TheVariants.{KeeperSlot}
use Rattle.questions.specs.Denials.{of_order}
use Rattle.keeper.specs.Fronts.{InSlot, Front}

pub record Pair (V : Type 0) : Type 0 where
  pub grains : ℕ
  pub value : V

-- the pairs accepted so far, the newest first
abbrev pub Accepted : {V : Type 0} → List (Pair V) → ℕ → V → Type 0
Accepted [] d x = ⊥
Accepted (p ∷ ps) d x = ((p.grains ≡ d) × (p.value ≡ x)) ⊎ Accepted ps d x

-- a pair of P is as good in both
pub record Beaten {V : Type 0} (good : V → V → Bool) (P : ℕ → V → Type 0) (d : ℕ) (x : V) : Type 0 where
  pub grains : ℕ
  pub value : V
  pub member : P grains value
  pub less : grains ≤ d
  pub as_good : T (good value x)

-- a pair that no slot beats goes in, and those that it beats go
pub record Placed {V : Type 0} (good : V → V → Bool) (d : ℕ) (x : V) (before after : List (Option V)) : Type 0 where
  pub new : Beaten good (InSlot before) d x → ⊥
  pub here : (y : V) → (InSlot after d y → y ≡ x) × (y ≡ x → InSlot after d y)
  pub kept : (e : ℕ) (y : V) → (e ≢ d) → InSlot before e y → (d ≤ e → T (good x y) → ⊥) → InSlot after e y
  pub only : (e : ℕ) (y : V) → (e ≢ d) → InSlot after e y → InSlot before e y × (d ≤ e → T (good x y) → ⊥)

-- what is left of a slot where x is put beside it: nothing of a value that x is as good as
abbrev pub left_beside : {V : Type 0} → (V → V → Bool) → V → Option V → Option V
left_beside good x None = None
left_beside good x (Some y) = cond (good x y) None (Some y)

-- no slot holds what x is as good as, and the others stay
abbrev pub Cleared : {V : Type 0} → (V → V → Bool) → V → List (Option V) → List (Option V) → Type 0
Cleared good x before after = (e : ℕ) → slice_index_or after e None ≡ left_beside good x (slice_index_or before e None)

module _ {V : Type 0} (as_good : V → V → Bool) (d : ℕ) (x : V) where
  abbrev pub OfferBy : Bool → List (Option V) → List (Option V) → Result (Unit {0}) Denial → Type 0
  OfferBy false before after r = (r ≡ Err (of_order KeeperSlot 0)) × (after ≡ before)
  OfferBy true before after r = (r ≡ Ok tt) × ((ps : List (Pair V)) → Front as_good (Accepted ps) before → Front as_good (Accepted (record { grains = d; value = x } ∷ ps)) after)

  -- whatever was accepted before: the slots that hold its front then hold the front with the new pair
  abbrev pub OfferCall : List (Option V) → List (Option V) → Result (Unit {0}) Denial → Type 0
  OfferCall before after r = OfferBy (nat_lt d (length before)) before after r
