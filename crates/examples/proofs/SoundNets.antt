-- A network within the limits, by a test.
use Rattle.std.proofs.Common.{ℕ, Some, Option}
use Rattle.netmap.specs.declared.link.Link.{Link}
use Rattle.netmap.specs.Net.{Net, SoundLink, Sound, places}
use Rattle.examples.proofs.ComputedTests.{◌>>=◌, each, differ, at_most, less}

abbrev pub sound_link : (n : ℕ) (l : Link) → Option (SoundLink n l)
sound_link n l = do
  tail ← less l.tail n
  head ← less l.head n
  apart ← differ l.tail l.head
  low ← at_most 1 l.weight
  high ← at_most l.weight 65535
  delay ← at_most l.delay.0 100000
  figure ← at_most l.figure 1000000
  Some (record { tail = tail; head = head; apart = apart; weight_low = low; weight_high = high; delay = delay; figure = figure })

abbrev pub sound : (net : Net) → Option (Sound net)
sound net = do
  low ← at_most 1 net.nodes
  high ← at_most net.nodes 64
  few ← at_most (places net) 256
  all ← each (λ p l. SoundLink net.nodes l) (λ p l. sound_link net.nodes l) net.links
  Some (record { nodes_low = low; nodes_high = high; few = few; each = all })
