-- The image of a sound network opens, and as no other network.
use Rattle.std.proofs.Common.{◌≡◌, ℕ, ◌<◌, List, None, sym, refl, ap, ◌∙◌, subst, arith}
use Rattle.netmap.specs.Layout.{image_size, Images}
use Rattle.netmap.specs.Net.{Net, Sound, places, link_at}
use Rattle.netmap.specs.Reading.{two_at, decode, image_denial}
use Rattle.netmap.specs.Storing.{OpensAs}
use Rattle.netmap.proofs.Changes.{InLimits}
use Rattle.netmap.proofs.Decoding.{decode_laid_out}
use Rattle.netmap.proofs.Examining.{Header, header_granted, image_granted, as_asked}
use Rattle.netmap.proofs.Layouts.{LaysOut, image_lays_out}
use Rattle.netmap.proofs.PlaceBytes.{two_is, place_granted}

nodes_read : (bs : List ℕ) (net : Net) → LaysOut bs net → Sound net → net.nodes ≡ two_at bs 0
nodes_read bs net s g = sym (two_is _ _ net.nodes (s.sizes 0 (omega arith)) (s.sizes 1 (omega arith)) (omega (arith, g.nodes_high)))

places_read : (bs : List ℕ) (net : Net) → LaysOut bs net → Sound net → places net ≡ two_at bs 2
places_read bs net s g = sym (two_is _ _ (places net) (s.sizes 2 (omega arith)) (s.sizes 3 (omega arith)) (omega (arith, g.few)))

image_opens : (bs : List ℕ) (net : Net) → LaysOut bs net → Sound net → image_denial bs ≡ None
image_opens bs net s g =
    let n = nodes_read bs net s g in
    let m = places_read bs net s g in
    let limits : InLimits net.nodes (places net) = record { low = g.nodes_low; high = g.nodes_high; few = g.few } in
    let head : Header bs = record {
      limits = subst (λ x. InLimits x (two_at bs 2)) n (subst (InLimits net.nodes) m limits);
      long = s.long ∙ ap image_size m;
    } in
    image_granted bs (header_granted bs head)
    (λ k lt.
    let h : k < places net = omega (arith, m) in
    sym (as_asked bs net.nodes (places net) k _ n m refl) ∙ place_granted bs net.nodes (places net) k (link_at net k) g.nodes_high (g.each k) (s.place k h))

-- two sound networks of one image are one
one_network : (bs : List ℕ) (a b : Net) → Images bs a → Images bs b → a ≡ b
one_network bs a b ia ib =
    let sa = image_lays_out bs a ia.whole in
    let sb = image_lays_out bs b ib.whole in
    let n : a.nodes ≡ b.nodes = nodes_read bs a sa ia.sound ∙ sym (nodes_read bs b sb ib.sound) in
    let m : places a ≡ places b = places_read bs a sa ia.sound ∙ sym (places_read bs b sb ib.sound) in
    sym (decode_laid_out bs a sa ia.sound) ∙ ap (λ x. decode x (places a) bs) n ∙ ap (λ x. decode b.nodes x bs) m ∙ decode_laid_out bs b sb ib.sound

pub opens_as : (bs : List ℕ) (net : Net) → Images bs net → OpensAs bs net
opens_as bs net i = record {
  granted = image_opens bs net (image_lays_out bs net i.whole) i.sound;
  same = λ other j. one_network bs other net j i;
}
