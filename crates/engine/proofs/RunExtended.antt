-- A run with one call more.
use Rattle.std.proofs.Common.{◌≡◌, ℕ, ◌+◌, ◌<◌, List, [], ◌∷◌, ◌++◌, length, get_or, take, drop, set, sym, ap, ◌∙◌, subst, add-zero, add-one, arith, get_or-drop, drop-cons, drop-set-lt}
use Rattle.std.proofs.lemmas.List.{take_more, take_more_set}
use Rattle.netmap.specs.Net.{Net}
use Rattle.segments.specs.Algebra.{Algebra}
use Rattle.engine.specs.declared.checks.Room.{Room}
use Rattle.engine.specs.declared.running.Step.{Step}
use Rattle.engine.specs.Runs.{Answers, Runs, after}

tail_same : {A : Type 0} (x y : A) (xs ys : List A) → x ∷ xs ≡ y ∷ ys → xs ≡ ys
tail_same x y xs ys e = cc

module _ {V : Type 0} (alg : Algebra V) (room : Room) where
  runs_push : (net mid end : Net) (ss ts : List (Step V)) (s t : Step V) → Runs alg room net ss ts mid → t.call ≡ s.call → Answers alg room mid s.call s t → end ≡ after mid s.call → Runs alg room net (ss ++ s ∷ []) (ts ++ t ∷ []) end
  runs_push net mid end [] [] s t r k a e = (k, subst (λ n. Answers alg room n s.call s t) r a, e ∙ ap (λ n. after n s.call) r)
  runs_push net mid end [] (u ∷ ts) s t r k a e = absurd r
  runs_push net mid end (v ∷ ss) [] s t r k a e = absurd r
  runs_push net mid end (v ∷ ss) (u ∷ ts) s t r k a e = (r.0, r.1, runs_push (after net v.call) mid end ss ts s t r.2 k a e)

  pub runs_more : (net mid end : Net) (ss ts : List (Step V)) (i : ℕ) (d s t : Step V)
      → i < length ss → length ts ≡ length ss → s ≡ get_or ts i d
      → Runs alg room net (take i ss) (take i ts) mid → drop i ts ≡ drop i ss
      → t.call ≡ s.call → Answers alg room mid s.call s t → end ≡ after mid s.call
      → Runs alg room net (take (i + 1) ss) (take (i + 1) (set ts i t)) end × (drop (i + 1) (set ts i t) ≡ drop (i + 1) ss)
  runs_more net mid end ss ts i d s t within long item runs rest k a e =
      let within' : i < length ts = omega arith in
      let at-ts : get_or (drop i ts) 0 d ≡ get_or ts i d = get_or-drop i ts 0 d ∙ ap (λ j. get_or ts j d) (add-zero i) in
      let at-ss : get_or (drop i ss) 0 d ≡ get_or ss i d = get_or-drop i ss 0 d ∙ ap (λ j. get_or ss j d) (add-zero i) in
      let same : get_or ss i d ≡ s = sym at-ss ∙ ap (λ l. get_or l 0 d) (sym rest) ∙ at-ts ∙ sym item in
      let front : take (i + 1) ss ≡ take i ss ++ s ∷ [] = take_more ss i d within ∙ ap (λ x. take i ss ++ x ∷ []) same in
      let back : take (i + 1) (set ts i t) ≡ take i ts ++ t ∷ [] = take_more_set ts i t within' in
      let pushed = runs_push net mid end (take i ss) (take i ts) s t runs k a e in
      let moved = subst (λ l. Runs alg room net l (take i ts ++ t ∷ []) end) (sym front) pushed in
      let done = subst (λ l. Runs alg room net (take (i + 1) ss) l end) (sym back) moved in
      let tails : drop (i + 1) ts ≡ drop (i + 1) ss = ap (λ j. drop j ts) (add-one i) ∙ tail_same _ _ _ _ (sym (drop-cons ts i d within') ∙ rest ∙ drop-cons ss i d within) ∙ sym (ap (λ j. drop j ss) (add-one i)) in
      (done, drop-set-lt (i + 1) ts i t (omega arith) ∙ tails)
