use Rattle.std.proofs.Common.{◌≡◌, ◌+◌, ◌*◌, ◌<◌, ◌≤◌, sym, refl, ◌∙◌, subst, ⊎_elim, arith}
use Rattle.std.proofs.lemmas.Bool.{cases_lt}
use Rattle.segments.specs.Distances.{Exact, delays}
use Rattle.segments.proofs.RoundsEnd.{found_same, found_known, round_found, round_exact, enough_still, found_enough, enough_all}
use Rattle.segments.proofs.TableSlots.{same_all, same_first}
use Rattle.segments.proofs.distances.find_distances.Goals as goal

pub round-requires : goal.round-requires
round-requires g c =
    let net = g.M.Map.meaning c.args.map.now in
    let sound = g.M.Map.sound c.args.map.now in
    let n = c.args.n in
    let same = c.requires.nodes in
    record {
      nodes = same;
      sized = subst (λ m. n * n ≤ m) (sym (c.loop-k.auto.dist ∙ c.start_distances.auto.dist)) c.requires.sized;
      space = subst (λ m. n * n ≤ m) (sym (c.loop-k.auto.spread ∙ c.carry_over.auto.spread)) c.requires.space;
      known = found_known net sound n same c.loop-k.k c.loop-k.dist c.loop-k.invariant.found c.loop-k-test.true;
      carried = c.loop-k.invariant.carried;
    }

pub returns-then-is_settled : goal.returns-then-is_settled
returns-then-is_settled g c =
    let net = g.M.Map.meaning c.args.map.now in
    let sound = g.M.Map.sound c.args.map.now in
    let n = c.args.n in
    let same = c.requires.nodes in
    let k = c.loop-k.k in
    let old = c.loop-k.dist in
    let spread = c.round.new.spread in
    let long = subst (λ m. n * n ≤ m) (sym (c.loop-k.auto.dist ∙ c.start_distances.auto.dist)) c.requires.sized in
    let still = same_all (n * n) old spread long (c.is_settled.ensures.yes c.if-is_settled.true) in
    let exact : Exact net n old = round_exact net sound n same k old c.loop-k.invariant.found (delays spread) c.round.ensures still in
    record {
      measured = record { nodes = same; sized = long; exact = exact };
      kept = still;
      rounds = record { links = k; made = refl; enough = found_enough net sound n same k old c.loop-k.invariant.found exact; least = c.loop-k.invariant.fewest };
    }

pub loop-k-preserved : goal.loop-k-preserved
loop-k-preserved g c =
    let net = g.M.Map.meaning c.args.map.now in
    let sound = g.M.Map.sound c.args.map.now in
    let n = c.args.n in
    let same = c.requires.nodes in
    let k = c.loop-k.k in
    let old = c.loop-k.dist in
    let spread = c.round.new.spread in
    let new = delays spread in
    let long = subst (λ m. n * n ≤ m) (sym (c.loop-k.auto.dist ∙ c.start_distances.auto.dist)) c.requires.sized in
    record {
      found = found_same net (k + 1) n new c.take_over.new.dist (λ i h. sym (c.take_over.ensures i h)) (round_found net sound n same k old c.loop-k.invariant.found new c.round.ensures);
      fewest = λ j e. ⊎_elim
          (λ (h : k < j). omega arith)
          (λ (h : j ≤ k). absurd (c.is_settled.ensures.no c.if-is_settled.false (same_first (n * n) old spread long (enough_still net sound n same k old c.loop-k.invariant.found new c.round.ensures j e h))))
          (cases_lt k j);
      carried = c.take_over.ensures;
    }

pub unreachable-requires : goal.unreachable-requires
unreachable-requires g c =
    let net = g.M.Map.meaning c.args.map.now in
    let sound = g.M.Map.sound c.args.map.now in
    let n = c.args.n in
    let end : c.loop-k.k ≡ n = omega arith in
    omega (arith, c.loop-k.invariant.fewest _ (enough_all net sound n c.requires.nodes), end, sound.nodes_low, c.requires.nodes)
