-- Values of links that join along a path.
use Rattle.std.specs.Prelude.{◌≡◌, Bool}
use Rattle.netmap.specs.declared.link.Link.{Link}
use Rattle.tariff.specs.Rankings.{AsGood}

pub record Joining (V : Type 0) : Type 0 where
  pub neutral : V
  pub of_link : Link → V
  pub join : V → V → V

-- the laws of joining, under a ranking
pub record Joins {V : Type 0} (good : V → V → Bool) (j : Joining V) : Type 0 where
  pub associative : (a b c : V) → j.join (j.join a b) c ≡ j.join a (j.join b c)
  pub neutral_left : (a : V) → j.join j.neutral a ≡ a
  pub neutral_right : (a : V) → j.join a j.neutral ≡ a
  pub monotone_left : (a b c : V) → AsGood good a b → AsGood good (j.join a c) (j.join b c)
  pub monotone_right : (a b c : V) → AsGood good a b → AsGood good (j.join c a) (j.join c b)
