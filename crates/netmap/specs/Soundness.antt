-- Soundness is a fact with one proof at most, so that it may stand in an invariant.
use mathlib.Core.HLevel.{⊥_prop}
use Rattle.std.specs.Prelude.{ℕ}
use Rattle.std.proofs.Math.Bridge.{le_prop}
use Rattle.netmap.specs.declared.link.Link.{Link}
use Rattle.netmap.specs.Net.{Net, SoundLink, Sound}

link_prop : (n : ℕ) (l : Link) → IsProp (SoundLink n l)
link_prop n l a b = λ i. record {
  tail = le_prop a.tail b.tail i;
  head = le_prop a.head b.head i;
  apart = λ e. ⊥_prop (a.apart e) (b.apart e) i;
  weight_low = le_prop a.weight_low b.weight_low i;
  weight_high = le_prop a.weight_high b.weight_high i;
  delay = le_prop a.delay b.delay i;
  figure = le_prop a.figure b.figure i;
}

pub sound_prop : (net : Net) → IsProp (Sound net)
sound_prop net a b = λ i. record {
  nodes_low = le_prop a.nodes_low b.nodes_low i;
  nodes_high = le_prop a.nodes_high b.nodes_high i;
  few = le_prop a.few b.few i;
  each = λ p l e. link_prop net.nodes l (a.each p l e) (b.each p l e) i;
}
