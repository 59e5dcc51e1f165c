-- From round to round the table holds the least over one link more, until no round changes it.
use Rattle.std.proofs.Common.{◌≡◌, ℕ, ◌+◌, ◌-◌, ◌*◌, ◌<◌, ◌≤◌, List, length, Some, None, Option, sym, refl, subst, inl, arith}
use lib.Arith.{digits_lt}
use Rattle.netmap.specs.declared.link.Link.{Link}
use Rattle.netmap.specs.Net.{Net, Sound}
use Rattle.segments.specs.Distances.{LeastOf, Far, cell, table_of, Exact, Known, AllKnown, Same}
use Rattle.segments.specs.Paths.{IsPath, total_weight, IsBest}
use Rattle.segments.specs.Relaxations.{Near, Tried, Found, Round, Enough}
use Rattle.segments.proofs.BestPathsShort.{best_short, path_small}
use Rattle.segments.proofs.FirstBestPath.{first_best}
use Rattle.segments.proofs.LeastNumbers.{least_once, least_known}
use Rattle.segments.proofs.NodesReached.{path_node}
use Rattle.segments.proofs.RoundExtends.{round_more, settled}
use Rattle.segments.proofs.TableSlots.{by_slot}

pub found_same : (net : Net) (k n : ℕ) (xs ys : List (Option ℕ)) → Same (n * n) xs ys → Found net k n xs → Found net k n ys
found_same net k n xs ys same f u v nu nv = subst (LeastOf (Near net k u v)) (same (u * n + v) (digits_lt nu nv)) (f u v nu nv)

module _ (net : Net) (sound : Sound net) where
  module _ (n : ℕ) (same : n ≡ net.nodes) where
    node : (u : ℕ) → u < net.nodes → u < n
    node u h = omega (arith, same)

    of_net : (u : ℕ) → u < n → u < net.nodes
    of_net u h = omega (arith, same)

    module _ (k : ℕ) (old : List (Option ℕ)) (found : Found net k n old) where
      found_net : (u v : ℕ) → u < net.nodes → v < net.nodes → LeastOf (Near net k u v) (table_of n old u v)
      found_net u v nu nv = found u v (node u nu) (node v nv)

      pub found_known : k < n → AllKnown n old
      found_known few = by_slot n (λ u v i. Known (cell old i)) (λ u v nu nv. least_known (Near net k u v) (table_of n old u v) (found u v nu nv) (λ y r. omega (arith, (path_small net sound u v r.links r.path).0, r.short, r.weight, sound.nodes_high, same)))

      module _ (new : List (Option ℕ)) (round : Round net n old new) where
        pub round_found : Found net (k + 1) n new
        round_found u v nu nv = subst (λ j. LeastOf (Near net j u v) (table_of n new u v)) (omega arith) (round_more net sound k (table_of n old) found_net u v (table_of n new u v) (of_net u nu) (of_net v nv) (round u v nu nv))

        -- a round that changes nothing has the distances
        pub round_exact : Same (n * n) old new → Exact net n old
        round_exact still u v nu nv = settled net sound k (table_of n old) found_net
            (λ a b na nb. subst (LeastOf (Tried net (table_of n old) a b)) (sym (still (a * n + b) (digits_lt (node a na) (node b nb)))) (round a b (node a na) (node b nb)))
            u v (of_net u nu) (of_net v nv)

        -- where k links are enough, a round changes nothing
        pub enough_still : (j : ℕ) → Enough net j → j ≤ k → Same (n * n) old new
        enough_still j en le = by_slot n (λ u v i. cell old i ≡ cell new i) (λ u v nu nv. least_once (Near net k u v) (Near net (k + 1) u v) (table_of n old u v) (table_of n new u v) (found u v nu nv) (round_found u v nu nv)
            (λ w r. (w, record { links = r.links; path = r.path; short = omega (arith, r.short); weight = r.weight }, omega arith))
            (λ w r. let b = en u v (of_net u nu) (r.links, r.path) in
            (total_weight b.0, record { links = b.0; path = b.1.path; short = omega (arith, b.2); weight = refl }, omega (arith, b.1.least r.links r.path, r.weight))))

      -- distances that paths of at most k links have
      pub found_enough : Exact net n old → Enough net k
      found_enough exact u v nu r =
          let nv = path_node net sound u v r.0 nu r.1 in
          pick (table_of n old u v) u v r.0 r.1 (found_net u v nu nv) (exact u v (node u nu) (node v nv))
        where
          pick : (o : Option ℕ) (u v : ℕ) (ls : List Link) → IsPath net u ls v → LeastOf (Near net k u v) o → LeastOf (Far net u v) o → (ms : List Link) × IsBest net u ms v × (length ms ≤ k)
          pick (Some x) u v ls p near far =
              let r = near.0 in
              (r.links, record { path = r.path; least = λ ms q. omega (arith, r.weight, far.1 (total_weight ms) (record { links = ms; path = q; weight = refl })) }, r.short)
          pick None u v ls p near far = absurd (far (total_weight ls) (record { links = ls; path = p; weight = refl }))

  -- fewer links than nodes are enough
  pub enough_all : (n : ℕ) → n ≡ net.nodes → Enough net (n - 1)
  enough_all n same u v nu r =
      let b = first_best net sound (λ x y. Unit {0}) (record { total = λ x y. inl tt; trans = λ x y z a b. tt }) u v r.0 nu r.1 in
      (b.0, b.1, omega (arith, best_short net sound u v b.0 nu b.1, same))
