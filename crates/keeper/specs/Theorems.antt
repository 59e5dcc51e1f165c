-- What the contracts of the keeper leave: after any offers, one content of the slots.
use Rattle.std.specs.Prelude.{◌≡◌, ℕ, Bool, cond, List, [], ◌∷◌, length, None, Option, Result, nat_lt, slice_index_or}
use Rattle.questions.specs.declared.denial.Denial.{Denial}
use Rattle.keeper.specs.Fronts.{Front}
use Rattle.keeper.specs.Keepers.{Pair, Accepted, OfferCall}

module _ {V : Type 0} (good : V → V → Bool) where
  -- pairs offered one after another, to as many slots each time
  abbrev pub OfferedInTurn : List (Pair V) → List (Option V) → List (Option V) → Type 0
  OfferedInTurn [] s t = t ≡ s
  OfferedInTurn (p ∷ ps) s t = (m : List (Option V)) × (r : Result (Unit {0}) Denial) × (length m ≡ length s) × OfferCall good p.grains p.value s m r × OfferedInTurn ps m t

  -- the pairs offered that have a slot among n, the newest first, before those accepted already
  abbrev pub granted : ℕ → List (Pair V) → List (Pair V) → List (Pair V)
  granted n [] qs = qs
  granted n (p ∷ ps) qs = granted n ps (cond (nat_lt p.grains n) (p ∷ qs) qs)

  -- empty slots hold the front of all granted pairs after any offers
  abbrev pub KeeperHoldsFront : Type 0
  KeeperHoldsFront = (ps : List (Pair V)) (s t : List (Option V)) → ((d : ℕ) → slice_index_or s d None ≡ None) → OfferedInTurn ps s t → Front good (Accepted (granted (length s) ps [])) t

  -- and as many slots hold one front at most
  abbrev pub FrontUnique : Type 0
  FrontUnique = (ps : List (Pair V)) (s t : List (Option V)) → length s ≡ length t → Front good (Accepted ps) s → Front good (Accepted ps) t → s ≡ t
