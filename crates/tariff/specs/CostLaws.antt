-- Costs are ranked and join lawfully.
use Rattle.std.specs.Prelude.{◌≡◌, ◌<◌, ◌≤◌, T}
use Rattle.std.proofs.Common.{sym, subst, inl, inr, ⊎_elim, arith, leb→le, le-leb}
use mathlib.Core.HLevel.{is_prop→PathP}
use Rattle.std.proofs.Math.Bridge.{le_prop}
use Rattle.std.proofs.lemmas.Bool.{cases_lt}
use Rattle.tariff.specs.declared.cost.Cost.{Cost}
use Rattle.tariff.specs.Costs.{cheaper, costs}
use Rattle.tariff.specs.Joinings.{Joins}
use Rattle.tariff.specs.Rankings.{AsGood, Ranks}

-- two costs of one weight are equal
pub cost_path : (a b : Cost) → a.weight ≡ b.weight → a ≡ b
cost_path a b e = λ i. record {
  weight = e i;
  fits = is_prop→PathP (λ k. e k ≤ 4294967295) (λ k. le_prop) a.fits b.fits i;
}

good : (a b : Cost) → a.weight ≤ b.weight → AsGood cheaper a b
good a b h = subst T (sym (le-leb a.weight b.weight h)) tt

less : (a b : Cost) → AsGood cheaper a b → a.weight ≤ b.weight
less a b = leb→le a.weight b.weight

pub cost_ranks : Ranks cheaper
cost_ranks = record {
  total = λ a b. ⊎_elim (λ (h : a.weight < b.weight). inl (good a b (omega arith))) (λ h. inr (good b a h)) (cases_lt a.weight b.weight);
  antisymmetric = λ a b h k. cost_path a b (omega (arith, less a b h, less b a k));
  transitive = λ a b c h k. good a c (omega (arith, less a b h, less b c k));
}

pub cost_joins : Joins cheaper costs
cost_joins = record {
  associative = λ a b c. cost_path _ _ (omega arith);
  neutral_left = λ a. cost_path _ _ (omega (arith, a.fits));
  neutral_right = λ a. cost_path _ _ (omega (arith, a.fits));
  monotone_left = λ a b c h. good (costs.join a c) (costs.join b c) (omega (arith, less a b h));
  monotone_right = λ a b c h. good (costs.join c a) (costs.join c b) (omega (arith, less a b h));
}
