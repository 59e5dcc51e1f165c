-- Scarcities are ranked and join lawfully.
use Rattle.std.specs.Prelude.{◌≡◌, ◌<◌, ◌≤◌}
use Rattle.std.proofs.Common.{inl, inr, ⊎_elim, arith, leb→le, le→leb}
use Rattle.std.proofs.lemmas.Bool.{cases_lt}
use Rattle.tariff.specs.declared.scarcity.Scarcity.{Scarcity}
use Rattle.tariff.specs.Joinings.{Joins}
use Rattle.tariff.specs.Rankings.{Ranks}
use Rattle.tariff.specs.Scarcities.{less_scarce, scarcities}

path : (a b : Scarcity) → a.figure ≡ b.figure → a ≡ b
path a b e = λ i. record { figure = e i }

pub scarcity_ranks : Ranks less_scarce
scarcity_ranks = record {
  total = λ a b. ⊎_elim (λ (h : a.figure < b.figure). inl (omega (arith, le→leb))) (λ (h : b.figure ≤ a.figure). inr (omega (arith, le→leb))) (cases_lt a.figure b.figure);
  antisymmetric = λ a b h k. path a b (omega (arith, leb→le));
  transitive = λ a b c h k. omega (arith, leb→le, le→leb);
}

pub scarcity_joins : Joins less_scarce scarcities
scarcity_joins = record {
  associative = λ a b c. path _ _ (omega arith);
  neutral_left = λ a. path _ _ (omega arith);
  neutral_right = λ a. path _ _ (omega arith);
  monotone_left = λ a b c h. omega (arith, leb→le, le→leb);
  monotone_right = λ a b c h. omega (arith, leb→le, le→leb);
}
