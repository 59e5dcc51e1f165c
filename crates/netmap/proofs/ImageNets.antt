-- The network of an image, open or not.
use Rattle.std.proofs.Common.{◌≡◌, ℕ, ◌<◌, ◌≤◌, List, length, Some, None, Option, sym, refl, subst, arith}
use Rattle.std.specs.Option.{unwrap_or}
use Rattle.netmap.specs.declared.image.Image.{Image}
use Rattle.netmap.specs.declared.link.Link.{Link}
use Rattle.netmap.specs.declared.sizes.Sizes.{Sizes}
use Rattle.netmap.specs.Images.{image_net, image_sound}
use Rattle.netmap.specs.Layout.{encode, image_size}
use Rattle.netmap.specs.Net.{Fit, Sound, places}
use Rattle.netmap.specs.Reading.{decode, net_in}
use Rattle.netmap.specs.Spans.{PlaceWritten}
use Rattle.netmap.proofs.Decoding.{decode_places}
use Rattle.netmap.proofs.Layouts.{image_lays_out}
use Rattle.netmap.proofs.Writing.{Changed, changed}

-- the count of the places, also where the image is shut
pub count_in : (o : Option Sizes) (bs : List ℕ) → (unwrap_or o (record { nodes = 1; places = 0 })).places ≡ places (net_in o bs)
count_in None bs = refl
count_in (Some s) bs = sym (decode_places s.nodes s.places bs)

-- an image with a place holds the bytes of its network
pub image_room : (t : Image) (p : ℕ) → p < places (image_net t) → image_size (places (image_net t)) ≤ length t.bytes.now
image_room t p h = omega (arith, (image_lays_out t.bytes.now (image_net t) (t.whole (omega arith))).long)

-- an image whose place was written, by the sizes of its network
pub image_changed : (t : Image) (s : Sizes) (new : List ℕ) (p : ℕ) (o : Option Link) → image_net t ≡ decode s.nodes s.places t.bytes.now → s.places ≡ places (image_net t) → p < places (image_net t) → Fit (image_net t).nodes o → PlaceWritten t.bytes.now new s.places p o → Changed s.nodes s.places t.bytes.now new p o
image_changed t s new p o e m within fit w =
    let old = t.bytes.now in
    let whole : encode (image_net t) ≡ old = t.whole (omega arith) in
    changed s.nodes s.places old new p o (omega arith) (subst Sound e (image_sound t)) (subst (λ n. encode n ≡ old) e whole) (subst (λ n. Fit n.nodes o) e fit) w
