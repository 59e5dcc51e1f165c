-- A tariff as one record, for the definitions that are built on it.
use Rattle.std.specs.Prelude.{◌≡◌, Bool, T, ◌⊎◌, List, [], ◌∷◌, ◌≢◌}
use Rattle.netmap.specs.declared.link.Link.{Link}
use Rattle.tariff.specs.Joinings.{Joining, Joins}
use Rattle.tariff.specs.Rankings.{Ranks}

pub record Algebra (V : Type 0) : Type 0 where
  pub neutral : V
  pub of_link : Link → V
  pub join : V → V → V
  -- is the first value as good as the second?
  pub as_good : V → V → Bool

-- the algebra of a ranking and a joining
abbrev pub algebra : {V : Type 0} → (V → V → Bool) → Joining V → Algebra V
algebra good j = record { neutral = j.neutral; of_link = j.of_link; join = j.join; as_good = good }

module _ {V : Type 0} (alg : Algebra V) where
  abbrev pub AsGood : V → V → Type 0
  AsGood a b = T (alg.as_good a b)

  abbrev pub Better : V → V → Type 0
  Better a b = AsGood a b × (a ≢ b)

  -- the values in order, joined to what is before them
  abbrev pub joined_from : V → List V → V
  joined_from a [] = a
  joined_from a (x ∷ xs) = joined_from (alg.join a x) xs

  abbrev pub joined : List V → V
  joined xs = joined_from alg.neutral xs

  pub record Laws : Type 0 where
    pub total : (a b : V) → AsGood a b ⊎ AsGood b a
    pub antisymmetric : (a b : V) → AsGood a b → AsGood b a → a ≡ b
    pub transitive : (a b c : V) → AsGood a b → AsGood b c → AsGood a c
    pub associative : (a b c : V) → alg.join (alg.join a b) c ≡ alg.join a (alg.join b c)
    pub neutral_left : (a : V) → alg.join alg.neutral a ≡ a
    pub neutral_right : (a : V) → alg.join a alg.neutral ≡ a
    pub monotone_left : (a b c : V) → AsGood a b → AsGood (alg.join a c) (alg.join b c)
    pub monotone_right : (a b c : V) → AsGood a b → AsGood (alg.join c a) (alg.join c b)

pub laws : {V : Type 0} (good : V → V → Bool) (j : Joining V) → Ranks good → Joins good j → Laws (algebra good j)
laws good j r s = record {
  total = r.total;
  antisymmetric = r.antisymmetric;
  transitive = r.transitive;
  associative = s.associative;
  neutral_left = s.neutral_left;
  neutral_right = s.neutral_right;
  monotone_left = s.monotone_left;
  monotone_right = s.monotone_right;
}
