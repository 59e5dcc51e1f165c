-- A list is walked entry by entry, up to the first that is illegal.
use Rattle.std.proofs.Common.{◌≡◌, ℕ, ◌+◌, ◌*◌, ◌<◌, ◌≤◌, List, [], ◌∷◌, ◌++◌, length, get_or, take, Some, None, sym, ap, ◌∙◌, subst, arith}
use Rattle.std.proofs.lemmas.List.{take_more, length_push}
use Rattle.netmap.specs.Net.{Net, Sound}
use Rattle.segments.specs.declared.figures.Leg.{Leg}
use Rattle.segments.specs.declared.figures.Walk.{Walk}
use Rattle.segments.specs.Algebra.{Algebra}
use Rattle.segments.specs.Entries.{Entry, Extended}
use Rattle.segments.specs.Segments.{Segment, grains_of}
use Rattle.segments.specs.Walks.{Walked, Stuck}
use Rattle.segments.proofs.FiguresSmall.{segment_small}
use Rattle.segments.proofs.GrainsRounded.{grains_small}
use Rattle.segments.proofs.ListExtended.{legal_push, end_push, value_push, delay_push, grains_push}
use Rattle.segments.proofs.NodesReached.{segment_node}

module _ {V : Type 0} (net : Net) (alg : Algebra V) (source grain : ℕ) (cs : List ℕ) where
  -- the entries below i are walked
  pub record WalkedTo (i : ℕ) (w : Walk V) : Type 0 where
    pub walked : Walked net alg source grain (take i cs) w
    pub end : w.end < net.nodes
    pub grains : w.figures.grains.0 ≤ 6300000 * i
    pub delay : w.figures.delay.0 ≤ 6300000 * i
    pub labels : w.figures.labels.0 ≡ i

  module _ (sound : Sound net) (coarse : 1 ≤ grain) (i : ℕ) (within : i < length cs) (w : Walk V) (so : WalkedTo i w) where
    pub walked_more : (h : Leg V) (r : Walk V) → Entry net alg w.end (get_or cs i 0) (Some h) → Extended alg grain w h r → WalkedTo (i + 1) r
    walked_more h r s x =
        let k = so.walked in
        let small = segment_small net alg sound w.end (get_or cs i 0) h so.end s in
        record {
          walked = subst (λ ds. Walked net alg source grain ds r) (sym (take_more cs i 0 within)) (record {
            legs = k.legs ++ h ∷ [];
            legal = legal_push net alg source (get_or cs i 0) (take i cs) h k.legs k.legal (subst (λ m. Segment net alg m (get_or cs i 0) h) k.end s);
            end = x.end ∙ sym (end_push source h k.legs);
            value = x.value ∙ ap (λ y. alg.join y h.value) k.value ∙ sym (value_push alg h k.legs);
            grains = x.grains ∙ ap (λ m. m + grains_of grain h.delay.0) k.grains ∙ sym (grains_push grain h k.legs);
            delay = x.delay ∙ ap (λ m. m + h.delay.0) k.delay ∙ sym (delay_push h k.legs);
            labels = x.labels ∙ ap (λ m. m + 1) k.labels ∙ sym (length_push (take i cs) (get_or cs i 0));
          });
          end = subst (λ m. m < net.nodes) (sym x.end) (segment_node net alg sound w.end (get_or cs i 0) h so.end s);
          grains = omega (arith, x.grains, so.grains, grains_small grain h.delay.0 coarse, small);
          delay = omega (arith, x.delay, so.delay, small);
          labels = x.labels ∙ ap (λ m. m + 1) so.labels;
        }

    pub walked_stuck : Entry net alg w.end (get_or cs i 0) None → Stuck net alg source grain cs i
    walked_stuck none = record {
      inside = within;
      legs = so.walked.legs;
      legal = so.walked.legal;
      illegal = λ h s. none h (subst (λ m. Segment net alg m (get_or cs i 0) h) (sym so.walked.end) s);
    }
