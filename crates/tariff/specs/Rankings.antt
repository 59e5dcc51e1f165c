-- A ranking of values.
use Rattle.std.specs.Prelude.{◌≡◌, Bool, T, ◌⊎◌, ◌≢◌}

module _ {V : Type 0} (good : V → V → Bool) where
  abbrev pub AsGood : V → V → Type 0
  AsGood a b = T (good a b)

  abbrev pub Better : V → V → Type 0
  Better a b = AsGood a b × (a ≢ b)

  -- the laws of a ranking
  pub record Ranks : Type 0 where
    pub total : (a b : V) → AsGood a b ⊎ AsGood b a
    pub antisymmetric : (a b : V) → AsGood a b → AsGood b a → a ≡ b
    pub transitive : (a b c : V) → AsGood a b → AsGood b c → AsGood a c
