-- A round has tried every place.
use Rattle.std.proofs.Common.{◌≡◌, ℕ, ◌+◌, ◌*◌, ◌<◌, ◌≤◌, List, Some, None, Option, sym, refl, subst, ⊎_elim}
use lib.Arith.{digits_lt}
use Rattle.std.proofs.lemmas.Bool.{cases_eq}
use Rattle.netmap.specs.declared.link.Link.{Link}
use Rattle.netmap.specs.Net.{Net, link_at, places}
use Rattle.segments.specs.declared.figures.Spread.{Spread}
use Rattle.segments.specs.Distances.{LeastOf, table_of, Same, delays}
use Rattle.segments.specs.Relaxations.{TriedTo, Round, nearer, Swept}
use Rattle.segments.proofs.OptionValues.{none_some}
use Rattle.segments.proofs.PlaceTried.{try_none, try_other, try_far, try_near, tried_all, tried_first}

module _ (net : Net) (n : ℕ) (old : List (Option ℕ)) where
  -- each pair's least over the places below p
  abbrev pub RoundTo : List (Option ℕ) → ℕ → Type 0
  RoundTo new p = (u v : ℕ) → u < n → v < n → LeastOf (TriedTo net (table_of n old) p u v) (table_of n new u v)

  pub round_first : (new : List (Option ℕ)) → Same (n * n) old new → RoundTo new 0
  round_first new same u v nu nv = subst (LeastOf (TriedTo net (table_of n old) 0 u v)) (same (u * n + v) (digits_lt nu nv)) (tried_first net (table_of n old) u v)

  pub round_all : (new : List (Option ℕ)) (p : ℕ) → places net ≤ p → RoundTo new p → Round net n old new
  round_all new p past r u v nu nv = tried_all net (table_of n old) p u v (table_of n new u v) past (r u v nu nv)

  module _ (new : List (Option ℕ)) (p : ℕ) (r : RoundTo new p) where
    round_none : None ≡ link_at net p → RoundTo new (p + 1)
    round_none e u v nu nv = try_none net (table_of n old) p u v (table_of n new u v) (λ w x k. none_some (link_at net p) x.link (sym e) (subst (λ q. link_at net q ≡ Some x.link) k x.holds.1)) (r u v nu nv)

    round_one : (l : Link) (after : List (Option ℕ)) → link_at net p ≡ Some l → Swept n l old new after → RoundTo after (p + 1)
    round_one l after at s u v nu nv = ⊎_elim
        (λ (e : u ≡ l.tail).
        let row : table_of n after u v ≡ nearer (table_of n new u v) l.weight (table_of n old l.head v) = subst (λ m. table_of n after m v ≡ nearer (table_of n new m v) l.weight (table_of n old l.head v)) (sym e) (s.row v nv) in
        subst (LeastOf (TriedTo net (table_of n old) (p + 1) u v)) (sym row) (tried (table_of n old l.head v) (sym e) refl (r u v nu nv)))
        (λ (ne : u ≡ l.tail → ⊥).
        subst (LeastOf (TriedTo net (table_of n old) (p + 1) u v)) (sym (s.others u v nv ne))
        (try_other net (table_of n old) p u v l at (table_of n new u v) (λ z. ne (sym z)) (r u v nu nv)))
        (cases_eq u l.tail)
      where
        tried : (rest : Option ℕ) → l.tail ≡ u → table_of n old l.head v ≡ rest → LeastOf (TriedTo net (table_of n old) p u v) (table_of n new u v) → LeastOf (TriedTo net (table_of n old) (p + 1) u v) (nearer (table_of n new u v) l.weight rest)
        tried None tail below = try_far net (table_of n old) p u v l at (table_of n new u v) below
        tried (Some rest) tail below = try_near net (table_of n old) p u v l at rest tail below (table_of n new u v)

  -- the same of the slots of the second working slice
  module _ {V : Type 0} (xs ys : List (Option (Spread V))) (p : ℕ) (r : RoundTo (delays xs) p) where
    pub place_empty : ys ≡ xs → None ≡ link_at net p → RoundTo (delays ys) (p + 1)
    place_empty e none = subst (λ zs. RoundTo (delays zs) (p + 1)) (sym e) (round_none (delays xs) p r none)

    pub place_filled : (l : Link) (zs : List (Option (Spread V))) → ys ≡ zs → Some l ≡ link_at net p → Swept n l old (delays xs) (delays zs) → RoundTo (delays ys) (p + 1)
    place_filled l zs e at s = subst (λ ws. RoundTo (delays ws) (p + 1)) (sym e) (round_one (delays xs) p r l (delays zs) (sym at) s)
