-- A round tries one place more.
use Rattle.std.proofs.Common.{◌≡◌, ℕ, ◌+◌, ◌<◌, ◌≤◌, ◌⊎◌, Some, None, Option, sym, refl, ap, ◌∙◌, subst, inl, inr, ⊎_elim, arith}
use Rattle.std.proofs.lemmas.List.{get_or_past}
use Rattle.std.proofs.lemmas.Bool.{cases_eq, cases_lt}
use Rattle.netmap.specs.declared.link.Link.{Link}
use Rattle.netmap.specs.Net.{Net, link_at, places}
use Rattle.segments.specs.Distances.{LeastOf, lesser_of}
use Rattle.segments.specs.Relaxations.{Relaxed, Tried, TriedTo}
use Rattle.segments.proofs.LeastNumbers.{least_same, least_lesser}
use Rattle.segments.proofs.OptionValues.{some_same, none_some}

module _ (net : Net) (old : ℕ → ℕ → Option ℕ) (p u v : ℕ) where
  grows : (w : ℕ) → TriedTo net old p u v w → TriedTo net old (p + 1) u v w
  grows w (inl e) = inl e
  grows w (inr r) = inr (r.0, omega (arith, r.1))

  -- the place adds nothing
  pub try_none : (o : Option ℕ) → ((w : ℕ) (r : Relaxed net old u v w) → r.holds.0 ≡ p → ⊥) → LeastOf (TriedTo net old p u v) o → LeastOf (TriedTo net old (p + 1) u v) o
  try_none o n l = least_same _ _ o grows shrinks l
    where
      shrinks : (w : ℕ) → TriedTo net old (p + 1) u v w → TriedTo net old p u v w
      shrinks w (inl e) = inl e
      shrinks w (inr r) = ⊎_elim (λ (e : r.0.holds.0 ≡ p). absurd (n w r.0 e)) (λ (ne : r.0.holds.0 ≡ p → ⊥). inr (r.0, omega (arith, r.1, ne))) (cases_eq r.0.holds.0 p)

  module _ (l : Link) (at_p : link_at net p ≡ Some l) where
    same_link : (k : Link) (q : ℕ) → q ≡ p → link_at net q ≡ Some k → k ≡ l
    same_link k q e h = let f : link_at net p ≡ Some k = subst (λ n. link_at net n ≡ Some k) e h in (cc)

    -- the link does not begin at u, or leads to where no distance is known
    pub try_other : (o : Option ℕ) → (l.tail ≡ u → ⊥) → LeastOf (TriedTo net old p u v) o → LeastOf (TriedTo net old (p + 1) u v) o
    try_other o ne = try_none o (λ w r e. ne (ap (λ k. k.tail) (sym (same_link r.link r.holds.0 e r.holds.1)) ∙ r.tail))

    pub try_far : (o : Option ℕ) → old l.head v ≡ None → LeastOf (TriedTo net old p u v) o → LeastOf (TriedTo net old (p + 1) u v) o
    try_far o none = try_none o (λ w r e. none_some (old l.head v) r.rest none (ap (λ k. old k.head v) (sym (same_link r.link r.holds.0 e r.holds.1)) ∙ r.below))

    module _ (rest : ℕ) (tail : l.tail ≡ u) (below : old l.head v ≡ Some rest) where
      own : TriedTo net old (p + 1) u v (l.weight + rest)
      own = inr (record { link = l; holds = (p, at_p); tail = tail; rest = rest; below = below; weight = refl }, omega arith)

      down : (w : ℕ) → TriedTo net old (p + 1) u v w → TriedTo net old p u v w ⊎ (w ≡ l.weight + rest)
      down w (inl e) = inl (inl e)
      down w (inr r) = ⊎_elim
          (λ (e : r.0.holds.0 ≡ p).
          let k = same_link r.0.link r.0.holds.0 e r.0.holds.1 in
          let y : r.0.rest ≡ rest = some_same (old l.head v) r.0.rest rest (ap (λ j. old j.head v) (sym k) ∙ r.0.below) below in
          inr (sym r.0.weight ∙ ap (λ j. j.weight + r.0.rest) k ∙ ap (λ n. l.weight + n) y))
          (λ (ne : r.0.holds.0 ≡ p → ⊥). inl (inr (r.0, omega (arith, r.1, ne))))
          (cases_eq r.0.holds.0 p)

      pub try_near : (o : Option ℕ) → LeastOf (TriedTo net old p u v) o → LeastOf (TriedTo net old (p + 1) u v) (Some (lesser_of o (l.weight + rest)))
      try_near o least = least_lesser _ _ o (l.weight + rest) least grows down own

  -- behind the last place
  pub tried_all : (o : Option ℕ) → places net ≤ p → LeastOf (TriedTo net old p u v) o → LeastOf (Tried net old u v) o
  tried_all o past = least_same _ _ o (λ w. forth w) (λ w. back w)
    where
      forth : (w : ℕ) → TriedTo net old p u v w → Tried net old u v w
      forth w (inl e) = inl e
      forth w (inr r) = inr r.0

      back : (w : ℕ) → Tried net old u v w → TriedTo net old p u v w
      back w (inl e) = inl e
      back w (inr r) = ⊎_elim
          (λ (h : r.holds.0 < p). inr (r, h))
          (λ (h : p ≤ r.holds.0). absurd (none_some _ r.link (get_or_past net.links r.holds.0 None (omega arith)) r.holds.1))
          (cases_lt r.holds.0 p)

-- before the first place
pub tried_first : (net : Net) (old : ℕ → ℕ → Option ℕ) (u v : ℕ) → LeastOf (TriedTo net old 0 u v) (old u v)
tried_first net old u v = go (old u v) refl
  where
    go : (o : Option ℕ) → old u v ≡ o → LeastOf (TriedTo net old 0 u v) o
    go (Some w) e = (inl e, λ y t. ⊎_elim (λ k. omega (arith, some_same (old u v) w y e k)) (λ r. absurd (omega (arith, r.1))) t)
    go None e = λ y t. ⊎_elim (λ k. none_some (old u v) y e k) (λ r. omega (arith, r.1)) t
