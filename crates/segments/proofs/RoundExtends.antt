-- A round reaches one link further, and one that changes nothing has found the distances.
use Rattle.std.proofs.Common.{◌≡◌, ℕ, suc, ◌+◌, ◌<◌, ◌≤◌, List, [], ◌∷◌, length, Some, None, Option, refl, ap, ◌∙◌, subst, inl, inr, arith}
use Rattle.netmap.specs.declared.link.Link.{Link}
use Rattle.netmap.specs.Net.{Net, Sound}
use Rattle.segments.specs.Distances.{LeastOf, Far}
use Rattle.segments.specs.Paths.{IsPath, total_weight}
use Rattle.segments.specs.Relaxations.{Near, Tried}
use Rattle.segments.proofs.LeastNumbers.{least_some}
use Rattle.segments.proofs.OptionValues.{some_same, none_some}

module _ (net : Net) (sound : Sound net) (k : ℕ) (old : ℕ → ℕ → Option ℕ) (good : (u v : ℕ) → u < net.nodes → v < net.nodes → LeastOf (Near net k u v) (old u v)) where
  tried_near : (u v w : ℕ) → u < net.nodes → v < net.nodes → Tried net old u v w → Near net (suc k) u v w
  tried_near u v w nu nv (inl e) =
      let n = (subst (LeastOf (Near net k u v)) e (good u v nu nv)).0 in
      record { links = n.links; path = n.path; short = omega (arith, n.short); weight = n.weight }
  tried_near u v w nu nv (inr r) =
      let n = (subst (LeastOf (Near net k r.link.head v)) r.below (good r.link.head v (sound.each r.holds.0 r.link r.holds.1).head nv)).0 in
      record { links = r.link ∷ n.links; path = (r.holds, r.tail, n.path); short = omega (arith, n.short); weight = ap (λ m. r.link.weight + m) n.weight ∙ r.weight }

  near_tried : (u v y : ℕ) → u < net.nodes → v < net.nodes → Near net (suc k) u v y → (w : ℕ) × Tried net old u v w × (w ≤ y)
  near_tried u v y nu nv n = go n.links n.path n.short n.weight
    where
      go : (ls : List Link) → IsPath net u ls v → length ls ≤ suc k → total_weight ls ≡ y → (w : ℕ) × Tried net old u v w × (w ≤ y)
      go [] p s e =
          let f = least_some (Near net k u v) (old u v) y (good u v nu nv) (record { links = []; path = p; short = omega arith; weight = e }) in
          (f.0, inl f.1, f.2)
      go (l ∷ ls) p s e =
          let f = least_some (Near net k l.head v) (old l.head v) (total_weight ls) (good l.head v (sound.each p.0.0 l p.0.1).head nv) (record { links = ls; path = p.2; short = omega arith; weight = refl }) in
          (l.weight + f.0, inr (record { link = l; holds = p.0; tail = p.1; rest = f.0; below = f.1; weight = refl }), omega (arith, f.2, e))

  -- a round's least is the least over one link more
  pub round_more : (u v : ℕ) (o : Option ℕ) → u < net.nodes → v < net.nodes → LeastOf (Tried net old u v) o → LeastOf (Near net (suc k) u v) o
  round_more u v (Some w) nu nv b = (tried_near u v w nu nv b.0, λ y n. let t = near_tried u v y nu nv n in omega (arith, b.1 t.0 t.1, t.2))
  round_more u v None nu nv b = λ y n. let t = near_tried u v y nu nv n in b t.0 t.1

  -- a round that improves nothing has found the distances
  pub settled : ((u v : ℕ) → u < net.nodes → v < net.nodes → LeastOf (Tried net old u v) (old u v)) → (u v : ℕ) → u < net.nodes → v < net.nodes → LeastOf (Far net u v) (old u v)
  settled still u v nu nv = both (old u v) refl
    where
      low : (ls : List Link) (u : ℕ) → u < net.nodes → IsPath net u ls v → (w : ℕ) × (old u v ≡ Some w) × (w ≤ total_weight ls)
      low [] u nu p = least_some (Near net k u v) (old u v) 0 (good u v nu nv) (record { links = []; path = p; short = omega arith; weight = refl })
      low (l ∷ ls) u nu p =
          let t = low ls l.head (sound.each p.0.0 l p.0.1).head p.2 in
          let f = least_some (Tried net old u v) (old u v) (l.weight + t.0) (still u v nu nv) (inr (record { link = l; holds = p.0; tail = p.1; rest = t.0; below = t.1; weight = refl })) in
          (f.0, f.1, omega (arith, f.2, t.2))

      both : (o : Option ℕ) → old u v ≡ o → LeastOf (Far net u v) o
      both (Some w) e =
          let n = (subst (LeastOf (Near net k u v)) e (good u v nu nv)).0 in
          (record { links = n.links; path = n.path; weight = n.weight }, λ y f. let t = low f.links u nu f.path in omega (arith, some_same (old u v) w t.0 e t.1, t.2, f.weight))
      both None e = λ y f. let t = low f.links u nu f.path in none_some (old u v) t.0 e t.1
