-- The keeper holds the front of all granted pairs, after offers in any sequence.
use Rattle.std.proofs.Common.{◌≡◌, ℕ, Bool, true, false, cond, ltb, List, [], ◌∷◌, length, get_or, None, Option, Result, sym, subst}
use Rattle.questions.specs.declared.denial.Denial.{Denial}
use Rattle.segments.proofs.OptionValues.{none_some}
use Rattle.keeper.specs.Fronts.{Front}
use Rattle.keeper.specs.Keepers.{Pair, Accepted, OfferBy}
use Rattle.keeper.specs.Theorems.{OfferedInTurn, granted, KeeperHoldsFront}

module _ {V : Type 0} (good : V → V → Bool) where
  one_more : (b : Bool) (p : Pair V) (qs : List (Pair V)) (s m : List (Option V)) (r : Result (Unit {0}) Denial) → OfferBy good p.grains p.value b s m r → Front good (Accepted qs) s → Front good (Accepted (cond b (p ∷ qs) qs)) m
  one_more true p qs s m r o f = o.1 qs f
  one_more false p qs s m r o f = subst (Front good (Accepted qs)) (sym o.1) f

  offers_kept : (ps qs : List (Pair V)) (s t : List (Option V)) → Front good (Accepted qs) s → OfferedInTurn good ps s t → Front good (Accepted (granted good (length s) ps qs)) t
  offers_kept [] qs s t f o = subst (Front good (Accepted qs)) (sym o) f
  offers_kept (p ∷ ps) qs s t f o =
      let next = one_more (ltb p.grains (length s)) p qs s o.0 o.1 o.3 f in
      subst (λ n. Front good (Accepted (granted good n ps (cond (ltb p.grains (length s)) (p ∷ qs) qs))) t) o.2 (offers_kept ps (cond (ltb p.grains (length s)) (p ∷ qs) qs) o.0 t next o.4)

  -- empty slots hold the front of no pairs
  pub empty_front : (s : List (Option V)) → ((d : ℕ) → get_or s d None ≡ None) → Front good (Accepted []) s
  empty_front s empty = record { sound = λ d x h. absurd (none_some (get_or s d None) x (empty d) h); complete = λ d x k. absurd k.member }

  pub keeper_holds_front : KeeperHoldsFront good
  keeper_holds_front ps s t empty o = offers_kept ps [] s t (empty_front s empty) o
