-- Where there is a path there is a best one, and one that is first among the best in any order.
use Rattle.std.proofs.Common.{◌≡◌, ℕ, ◌<◌, ◌≤◌, ◌⊎◌, List, sym, ◌∙◌, inl, inr, ⊎_elim, arith}
use Rattle.std.proofs.lemmas.Bool.{cases_order}
use Rattle.netmap.specs.declared.link.Link.{Link}
use Rattle.netmap.specs.Net.{Net, Sound}
use Rattle.segments.specs.Paths.{IsPath, total_weight, IsBest}
use Rattle.segments.proofs.BestPathsShort.{best_short}
use Rattle.segments.proofs.FirstShortPath.{Preorder, HasFirst, ShortPath, short_first}
use Rattle.segments.proofs.SimplePaths.{simple, simple_short}

-- the lighter path, and of paths of one weight the first by Q
abbrev Lighter : (List Link → List Link → Type 0) → List Link → List Link → Type 0
Lighter Q x y = (total_weight x < total_weight y) ⊎ ((total_weight x ≡ total_weight y) × Q x y)

lighter_order : (Q : List Link → List Link → Type 0) → Preorder Q → Preorder (Lighter Q)
lighter_order Q order = record { total = total; trans = trans }
  where
    total : (x y : List Link) → Lighter Q x y ⊎ Lighter Q y x
    total x y = ⊎_elim
        (λ (e : total_weight x ≡ total_weight y). ⊎_elim (λ q. inl (inr (e, q))) (λ q. inr (inr (sym e, q))) (order.total x y))
        (⊎_elim (λ h. inl (inl h)) (λ h. inr (inl h)))
        (cases_order (total_weight x) (total_weight y))

    trans : (x y z : List Link) → Lighter Q x y → Lighter Q y z → Lighter Q x z
    trans x y z (inl p) (inl q) = inl (omega arith)
    trans x y z (inl p) (inr q) = inl (omega (arith, q.0))
    trans x y z (inr p) (inl q) = inl (omega (arith, p.0))
    trans x y z (inr p) (inr q) = inr (p.0 ∙ q.0, order.trans x y z p.1 q.1)

module _ (net : Net) (sound : Sound net) (Q : List Link → List Link → Type 0) (order : Preorder Q) where
  no_heavier : (x y : List Link) → Lighter Q x y → total_weight x ≤ total_weight y
  no_heavier x y (inl h) = omega arith
  no_heavier x y (inr h) = omega (arith, h.0)

  among_equals : (x y : List Link) → Lighter Q x y → total_weight y ≤ total_weight x → Q x y
  among_equals x y (inl h) le = absurd (omega arith)
  among_equals x y (inr h) le = h.1

  -- a best path that is first by Q among the best
  pub first_best : (u v : ℕ) (ls : List Link) → u < net.nodes → IsPath net u ls v → (b : List Link) × IsBest net u b v × ((c : List Link) → IsBest net u c v → Q b c)
  first_best u v ls nu p = pick (short_first net net.nodes v u (Lighter Q) (lighter_order Q order))
    where
      pick : HasFirst (ShortPath net net.nodes u v) (Lighter Q) → (b : List Link) × IsBest net u b v × ((c : List Link) → IsBest net u c v → Q b c)
      pick (inl none) =
          let s = simple net sound u v ls p in
          absurd (none s.links (record { path = s.path; short = omega (arith, simple_short net sound u v (total_weight ls) s nu) }))
      pick (inr f) = (
        f.0,
        record {
          path = f.1.path;
          least = λ ms q.
              let t = simple net sound u v ms q in
              omega (arith, no_heavier f.0 t.links (f.2 t.links (record { path = t.path; short = omega (arith, simple_short net sound u v (total_weight ms) t nu) })), t.lighter);
        },
        λ c b. among_equals f.0 c (f.2 c (record { path = b.path; short = omega (arith, best_short net sound u v c nu b) })) (b.least f.0 f.1.path),
      )
