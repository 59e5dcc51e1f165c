-- What the laws give of values joined along a path or a list.
use Rattle.std.proofs.Common.{◌≡◌, ◌⊎◌, List, [], ◌∷◌, map, sym, ap, ◌∙◌, inl, inr}
use Rattle.netmap.specs.declared.link.Link.{Link}
use Rattle.segments.specs.declared.figures.Leg.{Leg}
use Rattle.segments.specs.Algebra.{Algebra, AsGood, joined_from, joined, Laws}
use Rattle.segments.specs.Paths.{path_value}
use Rattle.segments.specs.Segments.{list_value}

module _ {V : Type 0} (alg : Algebra V) (lawful : Laws alg) where
  pub joined_split : (a : V) (xs : List V) → joined_from alg a xs ≡ alg.join a (joined alg xs)
  joined_split a [] = sym (lawful.neutral_right a)
  joined_split a (x ∷ xs) =
      joined_split (alg.join a x) xs ∙ lawful.associative a x (joined alg xs) ∙ ap (alg.join a) (sym (joined_split x xs) ∙ ap (λ y. joined_from alg y xs) (sym (lawful.neutral_left x)))

  pub joined_cons : (x : V) (xs : List V) → joined alg (x ∷ xs) ≡ alg.join x (joined alg xs)
  joined_cons x xs = ap (λ y. joined_from alg y xs) (lawful.neutral_left x) ∙ joined_split x xs

  pub path_value_cons : (l : Link) (ls : List Link) → path_value alg (l ∷ ls) ≡ alg.join (alg.of_link l) (path_value alg ls)
  path_value_cons l ls = joined_cons (alg.of_link l) (map alg.of_link ls)

  pub list_value_cons : (h : Leg V) (hs : List (Leg V)) → list_value alg (h ∷ hs) ≡ alg.join h.value (list_value alg hs)
  list_value_cons h hs = joined_cons h.value (map (λ k. k.value) hs)

  pub as_good_refl : (x : V) → AsGood alg x x
  as_good_refl x = pick (lawful.total x x)
    where
      pick : AsGood alg x x ⊎ AsGood alg x x → AsGood alg x x
      pick (inl p) = p
      pick (inr p) = p
