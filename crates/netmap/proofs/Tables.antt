-- The records of a table, as the places of a network.
use Rattle.std.proofs.Common.{◌≡◌, ℕ, ◌<◌, List, set, Some, None, Option, sym, refl, subst}
use Rattle.netmap.specs.declared.link.Link.{Link}
use Rattle.netmap.specs.Changes.{with_place}
use Rattle.netmap.specs.Net.{Fit, Sound, places}
use Rattle.netmap.specs.Opening.{net_over}
use Rattle.netmap.proofs.Soundness.{sound_with}

pub over_set : (o : Option ℕ) (xs : List (Option Link)) (p : ℕ) (h : Option Link) → net_over o (set xs p h) ≡ with_place (net_over o xs) p h
over_set None xs p h = refl
over_set (Some n) xs p h = refl

pub over_sound : (o : Option ℕ) (xs : List (Option Link)) (p : ℕ) (h : Option Link) → p < places (net_over o xs) → Fit (net_over o xs).nodes h → Sound (net_over o xs) → Sound (net_over o (set xs p h))
over_sound o xs p h within fit s = subst Sound (sym (over_set o xs p h)) (sound_with (net_over o xs) p h within fit s)
