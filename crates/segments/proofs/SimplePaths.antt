-- Every path has one that is no heavier and visits no node twice, and so is short.
use Rattle.std.proofs.Common.{◌≡◌, ℕ, suc, ◌<◌, ◌≤◌, ◌⊎◌, List, [], ◌∷◌, length, sym, refl, ap, ◌∙◌, subst, inl, inr, ⊎_elim, arith}
use Rattle.std.proofs.lemmas.Bool.{cases_eq}
use Rattle.netmap.specs.declared.link.Link.{Link}
use Rattle.netmap.specs.Net.{Net, Sound}
use Rattle.segments.specs.Paths.{IsPath, total_weight}
use Rattle.segments.proofs.Pigeonhole.{NotIn, NoDup, AllBelow, pigeonhole}

abbrev pub heads : List Link → List ℕ
heads [] = []
heads (l ∷ ls) = l.head ∷ heads ls

module _ (net : Net) (sound : Sound net) where
  pub heads_below : (u v : ℕ) (ls : List Link) → IsPath net u ls v → AllBelow net.nodes (heads ls)
  heads_below u v [] p = tt
  heads_below u v (l ∷ ls) p = ((sound.each p.0.0 l p.0.1).head, heads_below l.head v ls p.2)

  pub heads_length : (ls : List Link) → length (heads ls) ≡ length ls
  heads_length [] = refl
  heads_length (l ∷ ls) = ap suc (heads_length ls)

  -- a path that visits no node twice, and is no heavier
  pub record Simple (u v w : ℕ) : Type 0 where
    pub links : List Link
    pub path : IsPath net u links v
    pub lighter : total_weight links ≤ w
    pub apart : NoDup (u ∷ heads links)

  -- u is not on the path, or a simple path leads on from u
  pub hit_simple : (u w v : ℕ) (ls : List Link) → IsPath net w ls v → NoDup (w ∷ heads ls) → NotIn u (w ∷ heads ls) ⊎ Simple u v (total_weight ls)
  hit_simple u w v [] p d = ⊎_elim (λ (e : u ≡ w). inr (record { links = []; path = e ∙ p; lighter = omega arith; apart = (tt, tt) })) (λ (ne : u ≡ w → ⊥). inl (ne, tt)) (cases_eq u w)
  hit_simple u w v (l ∷ ls) p d =
      let next = hit_simple u l.head v ls p.2 d.1 in
      ⊎_elim
      (λ (e : u ≡ w). inr (record { links = l ∷ ls; path = (p.0, p.1 ∙ sym e, p.2); lighter = omega arith; apart = subst (λ x. NoDup (x ∷ heads (l ∷ ls))) (sym e) d }))
      (λ (ne : u ≡ w → ⊥). ⊎_elim (λ a. inl (ne, a)) (λ m. inr (record { links = m.links; path = m.path; lighter = omega (arith, m.lighter); apart = m.apart })) next)
      (cases_eq u w)

  pub simple : (u v : ℕ) (ls : List Link) → IsPath net u ls v → Simple u v (total_weight ls)
  simple u v [] p = record { links = []; path = p; lighter = omega arith; apart = (tt, tt) }
  simple u v (l ∷ ls) p =
      let s = simple l.head v ls p.2 in
      ⊎_elim
      (λ (n : NotIn u (l.head ∷ heads s.links)). record { links = l ∷ s.links; path = (p.0, p.1, s.path); lighter = omega (arith, s.lighter); apart = (n, s.apart) })
      (λ (m : Simple u v (total_weight s.links)). record { links = m.links; path = m.path; lighter = omega (arith, m.lighter, s.lighter); apart = m.apart })
      (hit_simple u l.head v s.links s.path s.apart)

  pub simple_short : (u v w : ℕ) (s : Simple u v w) → u < net.nodes → length s.links < net.nodes
  simple_short u v w s nu = omega (arith, pigeonhole net.nodes (u ∷ heads s.links) s.apart (nu, heads_below u v s.links s.path), heads_length s.links)
