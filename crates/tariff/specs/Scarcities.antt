-- The scarcity tariff.
use Rattle.std.specs.Prelude.{ℕ, max, Bool, nat_le}
use Rattle.tariff.specs.declared.scarcity.Scarcity.{Scarcity}
use Rattle.tariff.specs.Joinings.{Joining}

abbrev pub scarcity_of : ℕ → Scarcity
scarcity_of n = record { figure = n }

abbrev pub less_scarce : Scarcity → Scarcity → Bool
less_scarce a b = nat_le a.figure b.figure

abbrev pub scarcities : Joining Scarcity
scarcities = record {
  neutral = scarcity_of 0;
  of_link = λ l. scarcity_of l.figure;
  join = λ a b. scarcity_of (max a.figure b.figure);
}
