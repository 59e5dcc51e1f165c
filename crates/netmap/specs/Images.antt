-- What an image means.
use Rattle.std.proofs.Math.Logic.{∥∥₁_elim}
use Rattle.std.specs.Prelude.{ℕ, List}
use Rattle.netmap.specs.declared.image.Image.{Image}
use Rattle.netmap.specs.Net.{Net, Sound}
use Rattle.netmap.specs.Reading.{net_in}
use Rattle.netmap.specs.Soundness.{sound_prop}

-- the caller's bytes
abbrev pub bytes_of : Image → List ℕ
bytes_of t = t.bytes.now

abbrev pub image_net : Image → Net
image_net t = net_in t.sizes t.bytes.now

pub image_sound : (t : Image) → Sound (image_net t)
image_sound t = ∥∥₁_elim t.ok (sound_prop (image_net t)) (λ s. s)
