-- What keeps a network within the limits.
use Rattle.std.proofs.lemmas.Grind.{common_steps}
use Rattle.std.proofs.Common.{◌≡◌, ℕ, ◌<◌, length, Some, None, Option, arith}
use Rattle.netmap.specs.declared.link.Link.{Link}
use Rattle.netmap.specs.Net.{Net, SoundLink, Fit, Sound}
use Rattle.netmap.specs.Changes.{with_place}

pub none_some : (o : Option Link) (l : Link) → o ≡ None → o ≡ Some l → ⊥
none_some o l p q = cc

pub fit_none : (n : ℕ) → Fit n None
fit_none n l e = cc

pub fit_some : (n : ℕ) (l : Link) → SoundLink n l → Fit n (Some l)
fit_some n l s k e = grind (arith, common_steps)

pub sound_with : (net : Net) (p : ℕ) (o : Option Link) → p < length net.links → Fit net.nodes o → Sound net → Sound (with_place net p o)
sound_with net p o within fit s = grind (arith, common_steps)
