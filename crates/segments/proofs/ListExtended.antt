-- A segment list one entry longer.
use Rattle.std.proofs.Common.{◌≡◌, ℕ, ◌+◌, List, [], ◌∷◌, ◌++◌, map, refl, ap, ◌∙◌, arith}
use Rattle.std.proofs.lemmas.List.{map_push}
use Rattle.netmap.specs.Net.{Net}
use Rattle.segments.specs.declared.figures.Leg.{Leg}
use Rattle.segments.specs.Algebra.{Algebra, joined_from, joined}
use Rattle.segments.specs.Segments.{Segment, SegmentList, list_end, list_value, list_delay, grains_of, list_grains}

module _ {V : Type 0} (net : Net) (alg : Algebra V) where
  pub legal_push : (u c : ℕ) (cs : List ℕ) (h : Leg V) (hs : List (Leg V)) → SegmentList net alg u cs hs → Segment net alg (list_end u hs) c h → SegmentList net alg u (cs ++ c ∷ []) (hs ++ h ∷ [])
  legal_push u c [] h [] l s = (s, tt)
  legal_push u c [] h (k ∷ ks) l s = absurd l
  legal_push u c (d ∷ ds) h [] l s = absurd l
  legal_push u c (d ∷ ds) h (k ∷ ks) l s = (l.0, legal_push k.to c ds h ks l.1 s)

pub end_push : {V : Type 0} (u : ℕ) (h : Leg V) (hs : List (Leg V)) → list_end u (hs ++ h ∷ []) ≡ h.to
end_push u h [] = refl
end_push u h (k ∷ ks) = end_push k.to h ks

joined_push : {V : Type 0} (alg : Algebra V) (a x : V) (xs : List V) → joined_from alg a (xs ++ x ∷ []) ≡ alg.join (joined_from alg a xs) x
joined_push alg a x [] = refl
joined_push alg a x (y ∷ ys) = joined_push alg (alg.join a y) x ys

pub value_push : {V : Type 0} (alg : Algebra V) (h : Leg V) (hs : List (Leg V)) → list_value alg (hs ++ h ∷ []) ≡ alg.join (list_value alg hs) h.value
value_push alg h hs = ap (joined alg) (map_push (λ k. k.value) hs h) ∙ joined_push alg alg.neutral h.value (map (λ k. k.value) hs)

pub delay_push : {V : Type 0} (h : Leg V) (hs : List (Leg V)) → list_delay (hs ++ h ∷ []) ≡ list_delay hs + h.delay.0
delay_push h [] = omega arith
delay_push h (k ∷ ks) = omega (arith, delay_push h ks)

pub grains_push : {V : Type 0} (g : ℕ) (h : Leg V) (hs : List (Leg V)) → list_grains g (hs ++ h ∷ []) ≡ list_grains g hs + grains_of g h.delay.0
grains_push g h [] = omega arith
grains_push g h (k ∷ ks) = omega (arith, grains_push g h ks)
