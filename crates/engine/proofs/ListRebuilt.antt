-- The list rebuilt from the table, entry by entry.
use Rattle.std.proofs.Common.{◌≡◌, ℕ, suc, ◌+◌, ◌-◌, ◌*◌, ◌<◌, ◌≤◌, List, [], ◌∷◌, ◌++◌, length, take, drop, set, Some, None, Option, sym, refl, ap, ◌∙◌, subst, append_assoc, add-one, arith, take-append-drop, drop-set-lt}
use Rattle.std.proofs.lemmas.List.{take_more_set, append-nil, drop-drop}
use Rattle.netmap.specs.Net.{Net, Sound}
use Rattle.segments.specs.Algebra.{Algebra, Laws, AsGood}
use Rattle.engine.specs.declared.rebuilding.Found.{Found}
use Rattle.engine.specs.declared.hops.Hop.{Hop}
use Rattle.engine.specs.Hops.{Hops, HopOf}
use Rattle.segments.specs.declared.figures.Leg.{Leg}
use Rattle.segments.specs.Segments.{list_delay, grains_of}
use Rattle.engine.specs.Cells.{Row}
use Rattle.engine.specs.Rebuilds.{Attains, Rebuilt, FoundAt, TriedCode, Written}
use Rattle.segments.proofs.SegmentsFunctional.{segments_functional}
use Rattle.engine.proofs.RebuiltMade.{attains_some}
use Rattle.segments.proofs.OptionValues.{some_same, none_some}
use Rattle.segments.proofs.ListExtended.{delay_push}
use Rattle.engine.proofs.RowFilled.{segment_below}
use Rattle.segments.proofs.JoinedValues.{as_good_refl}

module _ {V : Type 0} (net : Net) (alg : Algebra V) (lawful : Laws alg) (grain : ℕ) (total : V) (row : ℕ → ℕ → Option V) (p : V) (d v code : ℕ) where
  pub code_none : HopOf net alg grain v code None → TriedCode net alg grain total row p d v code None
  code_none none a = none a.leg a.segment

  module _ (h : Hop V) (does : Hops net alg grain v code h) where
    same_leg : (a : Attains net alg grain total row p d v code) → a.leg ≡ h.leg
    same_leg a = segments_functional alg lawful net v code a.leg h.leg a.segment does.segment

    spent : (a : Attains net alg grain total row p d v code) → h.grains + a.rest ≡ d
    spent a = omega (arith, does.grains, a.grains, ap (λ (k : Leg V). grains_of grain k.delay.0) (same_leg a))

    pub code_far : d < h.grains → TriedCode net alg grain total row p d v code None
    code_far far a = omega (arith, far, spent a)

    module _ (rest : ℕ) (is : h.grains + rest ≡ d) where
      below_is : (a : Attains net alg grain total row p d v code) → row rest h.leg.to ≡ Some a.suffix
      below_is a =
          let rest-is : a.rest ≡ rest = omega (arith, is, spent a) in
          ap (λ j. row j h.leg.to) (sym rest-is) ∙ ap (λ (k : Leg V). row a.rest k.to) (sym (same_leg a)) ∙ a.below

      pub code_empty : row rest h.leg.to ≡ None → TriedCode net alg grain total row p d v code None
      code_empty none a = none_some (row rest h.leg.to) a.suffix none (below_is a)

      module _ (x whole : V) (below : row rest h.leg.to ≡ Some x) (whole_is : whole ≡ alg.join (alg.join p h.leg.value) x) where
        whole_total : (a : Attains net alg grain total row p d v code) → whole ≡ total
        whole_total a =
            whole_is ∙ ap (alg.join (alg.join p h.leg.value)) (some_same (row rest h.leg.to) x a.suffix below (below_is a))
            ∙ ap (λ (k : Leg V). alg.join (alg.join p k.value) a.suffix) (sym (same_leg a)) ∙ a.attained

        pub code_worse : (AsGood alg whole total → ⊥) → TriedCode net alg grain total row p d v code None
        code_worse bad a = bad (subst (AsGood alg whole) (whole_total a) (as_good_refl alg lawful whole))

        pub code_better : (AsGood alg total whole → ⊥) → TriedCode net alg grain total row p d v code None
        code_better bad a = bad (subst (AsGood alg total) (sym (whole_total a)) (as_good_refl alg lawful total))

        pub code_found : AsGood alg whole total → AsGood alg total whole → TriedCode net alg grain total row p d v code (Some (record { code = code; leg = h.leg; rest = rest }))
        code_found one two =
            let a : Attains net alg grain total row p d v code = record {
              leg = h.leg;
              rest = rest;
              suffix = x;
              segment = does.segment;
              grains = omega (arith, is, does.grains);
              below = below;
              attained = sym whole_is ∙ lawful.antisymmetric whole total one two;
            } in
            (refl, a, refl, refl, does.on, does.small)

  pub found_at : (f : Found V) → TriedCode net alg grain total row p d v code (Some f) → ((b : ℕ) → b < code → Attains net alg grain total row p d v b → ⊥) → FoundAt net alg grain total row p d v f
  found_at f t least =
      let moved : (k : ℕ) (e : k ≡ code) → (a : Attains net alg grain total row p d v k) × (a.leg ≡ f.leg) × (a.rest ≡ f.rest) =
      λ k e. subst (λ j. (a : Attains net alg grain total row p d v j) × (a.leg ≡ f.leg) × (a.rest ≡ f.rest)) (sym e) (t.1, t.2, t.3) in
      let m = moved f.code t.0 in
      record { attains = m.0; leg = m.1; rest = m.2; least = λ b h. least b (omega (arith, h, t.0)); on = t.4; delay = t.5 }

  pub tried_all : ((b : ℕ) → b < code → Attains net alg grain total row p d v b → ⊥) → 512 ≤ code → (c : ℕ) × Attains net alg grain total row p d v c → ⊥
  tried_all below past c = below c.0 (omega (arith, past, segment_below net alg v c.0 c.1.leg c.1.segment)) c.1

-- i entries are written, and what is left goes on from the node v with d grains after the prefix p
pub record RebuiltTo {V : Type 0} (net : Net) (alg : Algebra V) (grain top : ℕ) (total : V) (best : ℕ → ℕ → ℕ → Option V) (start_d start_v entries : ℕ) (p : V) (d v i delay : ℕ) (before after : List ℕ) : Type 0 where
  pub left : ℕ
  pub count : left + i ≡ entries
  pub node : v < net.nodes
  pub small : d ≤ top
  pub suffix : V
  pub cell : best left d v ≡ Some suffix
  pub whole : alg.join p suffix ≡ total
  pub legs : List (Leg V)
  pub grows : (cs : List ℕ) (hs : List (Leg V)) → Rebuilt net alg grain total best p d v left cs hs → Rebuilt net alg grain total best alg.neutral start_d start_v entries (take i after ++ cs) (legs ++ hs)
  pub delays : delay ≡ list_delay legs
  pub bound : delay ≤ 6300000 * i
  pub rest : drop i after ≡ drop i before

module _ {V : Type 0} (net : Net) (alg : Algebra V) (lawful : Laws alg) (sound : Sound net) (grain top : ℕ) (total : V) (best : ℕ → ℕ → ℕ → Option V) (sd sv entries : ℕ) where
  pub list_start : (p : V) (before : List ℕ) → p ≡ alg.neutral → sv < net.nodes → sd ≤ top → best entries sd sv ≡ Some total → RebuiltTo net alg grain top total best sd sv entries p sd sv 0 0 before before
  list_start p before p-is node small cell = record {
    left = entries;
    count = omega arith;
    node = node;
    small = small;
    suffix = total;
    cell = cell;
    whole = ap (λ q. alg.join q total) p-is ∙ lawful.neutral_left total;
    legs = [];
    grows = λ cs hs r. subst (λ q. Rebuilt net alg grain total best q sd sv entries cs hs) p-is r;
    delays = refl;
    bound = omega arith;
    rest = refl;
  }

  module _ (p : V) (d v i delay : ℕ) (before xs : List ℕ) (inv : RebuiltTo net alg grain top total best sd sv entries p d v i delay before xs) (more : i < entries) where
    left_is : inv.left ≡ suc (entries - 1 - i)
    left_is = omega (arith, inv.count, more, add-one (entries - 1 - i))

    pub list_some : (target : ℕ) → ((l : ℕ) → l ≤ entries → Row net alg grain target top l (best l)) → (c : ℕ) × Attains net alg grain total (best (entries - 1 - i)) p d v c
    list_some target good =
        attains_some net alg grain lawful sound target top entries best good total p (entries - 1 - i) d v inv.suffix (omega (arith, left_is, inv.count)) inv.small inv.node (subst (λ m. best m d v ≡ Some inv.suffix) left_is inv.cell) inv.whole

    pub list_step : (f : Found V) (q : V) → i < length xs → FoundAt net alg grain total (best (entries - 1 - i)) p d v f → q ≡ alg.join p f.leg.value
        → RebuiltTo net alg grain top total best sd sv entries q f.rest f.leg.to (i + 1) (delay + f.leg.delay.0) before (set xs i f.code)
    list_step f q within at q-is =
        let m = entries - 1 - i in
        let a = at.attains in
        let h = f.leg in
        record {
          left = m;
          count = omega (arith, more);
          node = at.on;
          small = omega (arith, a.grains, at.rest, inv.small);
          suffix = a.suffix;
          cell = ap (λ j. best m j f.leg.to) (sym at.rest) ∙ ap (λ (k : Leg V). best m a.rest k.to) (sym at.leg) ∙ a.below;
          whole = ap (λ w. alg.join w a.suffix) q-is ∙ ap (λ (k : Leg V). alg.join (alg.join p k.value) a.suffix) (sym at.leg) ∙ a.attained;
          legs = inv.legs ++ h ∷ [];
          grows = λ cs hs r.
              let r1 : Rebuilt net alg grain total best (alg.join p f.leg.value) a.rest f.leg.to m cs hs =
              subst (λ j. Rebuilt net alg grain total best (alg.join p f.leg.value) j f.leg.to m cs hs) (sym at.rest) (subst (λ w. Rebuilt net alg grain total best w f.rest f.leg.to m cs hs) q-is r) in
              let r2 : Rebuilt net alg grain total best p d v inv.left (f.code ∷ cs) (h ∷ hs) = (m, left_is, a, at.leg, at.least, r1) in
              let r3 = inv.grows (f.code ∷ cs) (h ∷ hs) r2 in
              let list : take (i + 1) (set xs i f.code) ++ cs ≡ take i xs ++ f.code ∷ cs = ap (λ l. l ++ cs) (take_more_set xs i f.code within) ∙ append_assoc (take i xs) (f.code ∷ []) cs in
              let legs : (inv.legs ++ h ∷ []) ++ hs ≡ inv.legs ++ h ∷ hs = append_assoc inv.legs (h ∷ []) hs in
              subst (λ l. Rebuilt net alg grain total best alg.neutral sd sv entries l ((inv.legs ++ h ∷ []) ++ hs)) (sym list)
              (subst (λ l. Rebuilt net alg grain total best alg.neutral sd sv entries (take i xs ++ f.code ∷ cs) l) (sym legs) r3);
          delays = ap (λ k. k + f.leg.delay.0) inv.delays ∙ sym (delay_push h inv.legs);
          bound = omega (arith, inv.bound, at.delay);
          rest = drop-set-lt (i + 1) xs i f.code (omega arith) ∙ dropped i xs before inv.rest;
        }
      where
        dropped : (i : ℕ) (xs ys : List ℕ) → drop i xs ≡ drop i ys → drop (i + 1) xs ≡ drop (i + 1) ys
        dropped i xs ys e = sym (drop-drop 1 i xs) ∙ ap (λ l. drop 1 l) e ∙ drop-drop 1 i ys

  pub list_end_of : (p : V) (d v i delay : ℕ) (before xs : List ℕ) → RebuiltTo net alg grain top total best sd sv entries p d v i delay before xs → entries ≤ i → Written net alg grain total best sd sv entries delay before xs
  list_end_of p d v i delay before xs inv past =
      let none : inv.left ≡ 0 = omega (arith, inv.count, past) in
      let all : i ≡ entries = omega (arith, inv.count, past) in
      record {
        codes = take i xs ++ [];
        legs = inv.legs ++ [];
        rebuilt = inv.grows [] [] none;
        list = sym (take-append-drop i xs) ∙ ap (λ l. take i xs ++ l) inv.rest ∙ ap (λ l. l ++ drop i before) (sym (append-nil (take i xs))) ∙ ap (λ j. (take i xs ++ []) ++ drop j before) all;
        total_delay = inv.delays ∙ ap list_delay (sym (append-nil inv.legs));
      }
