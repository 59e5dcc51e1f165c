use Rattle.std.proofs.Common.{◌≡◌, ◌≤◌, ◌++◌, length, take, sym, subst, arith}
use Rattle.netmap.specs.Layout.{two_bytes, image_size}
use Rattle.netmap.specs.Net.{places}
use Rattle.netmap.specs.Spans.{Written}
use Rattle.netmap.specs.Storing.{stored, OpensAs}
use Rattle.netmap.proofs.Layouts.{header}
use Rattle.netmap.proofs.Storing.{Filled, all_stored, stored_opens}
use Rattle.netmap.proofs.storage.lay_out.Goals as goal

pub returns : goal.returns
returns g c =
    let net = g.M.Map.meaning c.args.map.now in
    let old = c.args.space.now in
    let s = c.of-sizes.result in
    let is = c.of-sizes.ensures in
    let mid = c.write_sizes.new.bytes in
    let last = c.loop-place.space in
    let room : image_size (places net) ≤ length old = c.requires in
    let sized : Written old mid 0 (header net) 4 =
    subst (λ m. Written old mid 0 (two_bytes net.nodes ++ two_bytes m) 4) is.places
    (subst (λ n. Written old mid 0 (two_bytes n ++ two_bytes s.places) 4) is.nodes c.write_sizes.ensures) in
    let end : c.loop-place.place ≡ places net = omega (arith, c.loop-place-test.false, c.loop-place.auto.place-end, is.places) in
    let filled : Filled mid last net (places net) = subst (λ k. Filled mid last net k) end c.loop-place.invariant in
    let all : last ≡ stored net old = all_stored old mid last net sized filled room in
    let opens : OpensAs (take (image_size (places net)) last) net = subst (λ x. OpensAs (take (image_size (places net)) x) net) (sym all) (stored_opens net old (g.M.Map.sound c.args.map.now)) in
    record {
      after = all;
      reopens = opens;
    }
