-- The quote and the front of an order, by trying every list.
use Rattle.std.proofs.Common.{◌≡◌, ℕ, ◌*◌, ◌≤◌, T, ◌⊎◌, List, [], ◌∷◌, length, get_or, is_some, Some, None, Option, sym, refl, subst, inl, inr}
use Rattle.netmap.specs.Net.{Net}
use Rattle.segments.specs.Algebra.{Algebra, Laws, AsGood, Better}
use Rattle.segments.specs.declared.figures.Figures.{Figures}
use Rattle.segments.specs.declared.order.Order.{Order}
use Rattle.segments.specs.declared.figures.Leg.{Leg}
use Rattle.segments.specs.Segments.{SegmentList, list_end, list_value, list_delay, list_grains}
use Rattle.segments.specs.Orders.{Within, Smaller, Precedes}
use Rattle.engine.specs.Quotes.{Quoted, Unserved}
use Rattle.engine.specs.Fronts.{Had}
use Rattle.keeper.specs.Fronts.{InSlot, Front}
use Rattle.segments.proofs.JoinedValues.{as_good_refl}
use Rattle.segments.proofs.OptionValues.{some_same}
use Rattle.engine.proofs.FrontCovered.{Covers, optimal_up, optimal_down}
use Rattle.examples.proofs.ComputedTests.{◌>>=◌, the, or_else, each, some, ask, deny, equal, differ, at_most, less, above}
use Rattle.examples.proofs.PathPlans.{Plan, Planned, every, legs_of}

-- by the first, or by the second and what is left; N: that the two differ
abbrev pub lex : {A B C N : Type 0} → Option A → Option B → (B → Option (N → C)) → Option (N → A ⊎ (B × C))
lex (Some a) b f = Some (λ _. inl a)
lex None None f = None
lex None (Some b) f = f b >>= λ c. Some (λ n. inr (b, c n))

abbrev pub smaller : (cs ds : List ℕ) → Option ((ds ≡ cs → ⊥) → Smaller cs ds)
smaller [] [] = Some (λ n. absurd (n refl))
smaller [] (d ∷ ds) = None
smaller (c ∷ cs) [] = None
smaller (c ∷ cs) (d ∷ ds) = lex (less c d) (equal c d) (λ e. smaller cs ds >>= λ s. Some (λ n. s (λ q. n (λ i. sym e i ∷ q i))))

module _ {V : Type 0} (alg : Algebra V) (lawful : Laws alg) where
  abbrev pub same : (x y : V) → Option (x ≡ y)
  same x y = ask (alg.as_good x y) >>= λ s. ask (alg.as_good y x) >>= λ t. Some (lawful.antisymmetric x y s t)

  abbrev pub better : (x y : V) → Option (Better alg x y)
  better x y = ask (alg.as_good x y) >>= λ s. deny (alg.as_good y x) >>= λ n. Some (s, λ e. n (subst (λ z. AsGood alg z x) e (as_good_refl alg lawful x)))

  abbrev pub precedes : (g : ℕ) (cs : List ℕ) (hs : List (Leg V)) (ds : List ℕ) (ks : List (Leg V)) → Option ((ds ≡ cs → ⊥) → Precedes alg g cs hs ds ks)
  precedes g cs hs ds ks =
      lex (better (list_value alg hs) (list_value alg ks)) (same (list_value alg hs) (list_value alg ks)) (λ _.
      lex (less (list_grains g hs) (list_grains g ks)) (equal (list_grains g hs) (list_grains g ks)) (λ _.
      lex (less (length cs) (length ds)) (equal (length cs) (length ds)) (λ _. smaller cs ds)))

  -- a slot holds a pair as good in both
  abbrev pub Over : List (Option V) → ℕ → V → Type 0
  Over slots d x = (e : ℕ) × (y : V) × InSlot slots e y × (e ≤ d) × AsGood alg y x

  abbrev pub over : (slots : List (Option V)) (d : ℕ) (x : V) → Option (Over slots d x)
  over slots d x = do
    s ← some (λ e y. (e ≤ d) × AsGood alg y x) (λ e y. at_most e d >>= λ h. ask (alg.as_good y x) >>= λ g. Some (h, g)) slots
    Some (s.0, s.1, s.2, s.3.0, s.3.1)

  -- no slot beats another
  abbrev pub Apart : List (Option V) → Type 0
  Apart slots = (d : ℕ) (x : V) → InSlot slots d x → (e : ℕ) (y : V) → InSlot slots e y → e ≤ d → AsGood alg y x → e ≡ d

  abbrev pub apart : (slots : List (Option V)) → Option (Apart slots)
  apart slots =
      each (λ d x. (e : ℕ) (y : V) → InSlot slots e y → e ≤ d → AsGood alg y x → e ≡ d) (λ d x.
      each (λ e y. e ≤ d → AsGood alg y x → e ≡ d) (λ e y.
      or_else (equal e d >>= λ q. Some (λ h g. q)) (λ _.
      or_else (above e d >>= λ n. Some (λ h g. absurd (n h))) (λ _.
      deny (alg.as_good y x) >>= λ n. Some (λ h g. absurd (n g))))) slots) slots

module _ {V : Type 0} (net : Net) (alg : Algebra V) (lawful : Laws alg) (plan : Plan) (ok : Planned net alg plan) (o : Order) where
  abbrev pub within : (cs : List ℕ) (hs : List (Leg V)) → SegmentList net alg o.source cs hs → Option (Within net alg o cs hs)
  within cs hs legal = do
    ends ← equal (list_end o.source hs) o.target
    labels ← at_most (length cs) o.limit.0
    bound ← at_most (list_grains o.grain.0 hs * o.grain.0) o.bound.0
    Some (record { serves = record { legal = legal; ends = ends; labels = labels }; bound = bound })

  abbrev pub outside : (cs : List ℕ) (hs : List (Leg V)) → Option (Within net alg o cs hs → ⊥)
  outside cs hs = or_else
      (differ (list_end o.source hs) o.target >>= λ n. Some (λ w. n w.serves.ends))
      (λ _. above (list_grains o.grain.0 hs * o.grain.0) o.bound.0 >>= λ n. Some (λ w. n w.bound))

  -- of each list within the order
  abbrev pub rivals : (P : List ℕ → List (Leg V) → Type 0) → ((ds : List ℕ) (ks : List (Leg V)) → Option (P ds ks)) → Option ((ds : List ℕ) (ks : List (Leg V)) → Within net alg o ds ks → P ds ks)
  rivals P f = do
    e ← every net alg plan lawful ok o.limit.0 o.source (λ ds ks. Within net alg o ds ks → P ds ks)
        (λ ds ks. or_else (outside ds ks >>= λ n. Some (λ w. absurd (n w))) (λ _. f ds ks >>= λ p. Some (λ _. p)))
    Some (λ ds ks w. e ds ks w.serves.legal w.serves.labels w)

  abbrev pub quoted : (cs : List ℕ) (q : Figures V) → Option (Quoted net alg o cs q)
  quoted cs q = do
    r ← legs_of net alg plan lawful ok o.source cs
    w ← within cs r.0 r.1
    value ← same alg lawful q.value (list_value alg r.0)
    grains ← equal q.grains.0 (list_grains o.grain.0 r.0)
    delay ← equal q.delay.0 (list_delay r.0)
    labels ← equal q.labels.0 (length cs)
    first ← rivals (λ ds ks. (ds ≡ cs → ⊥) → Precedes alg o.grain.0 cs r.0 ds ks) (precedes alg lawful o.grain.0 cs r.0)
    Some (record { legs = r.0; first = record { within = w; first = first }; value = value; grains = grains; delay = delay; labels = labels })

  abbrev pub unserved : Option (Unserved net alg o)
  unserved = rivals (λ ds ks. ⊥) (λ ds ks. None)

  -- the codes name a list for each slot that is filled
  abbrev pub led : (codes : List (List ℕ)) (d : ℕ) (x : V) → Option (Had net alg o d x)
  led codes d x = do
    r ← legs_of net alg plan lawful ok o.source (get_or codes d [])
    w ← within (get_or codes d []) r.0 r.1
    grains ← equal (list_grains o.grain.0 r.0) d
    value ← same alg lawful (list_value alg r.0) x
    Some (record { codes = get_or codes d []; legs = r.0; within = w; grains = grains; value = value })

  pub front_of : (slots : List (Option V)) → ((d : ℕ) (x : V) → InSlot slots d x → Had net alg o d x)
      → ((ds : List ℕ) (ks : List (Leg V)) → Within net alg o ds ks → Over alg lawful slots (list_grains o.grain.0 ks) (list_value alg ks))
      → Apart alg lawful slots
      → Front alg.as_good (Had net alg o) slots
  front_of slots inside all alone =
      let covers : Covers alg (Had net alg o) (InSlot slots) = record {
        inside = inside;
        covered = λ d x h. subst (λ z. Over alg lawful slots d z) h.value (subst (λ n. Over alg lawful slots n (list_value alg h.legs)) h.grains (all h.codes h.legs h.within));
      } in
      record {
        sound = λ d x s. optimal_up alg lawful (Had net alg o) (InSlot slots) covers d x (record {
          member = s;
          best = λ e y p h g. let q = alone d x s e y p h g in (q, some_same (get_or slots d None) y x (subst (λ n. InSlot slots n y) q p) s);
        });
        complete = λ d x p. (optimal_down alg lawful (Had net alg o) (InSlot slots) covers d x p).member;
      }

  abbrev pub front : (codes : List (List ℕ)) (slots : List (Option V)) → Option (Front alg.as_good (Had net alg o) slots)
  front codes slots = do
    inside ← each (Had net alg o) (led codes) slots
    all ← rivals (λ ds ks. Over alg lawful slots (list_grains o.grain.0 ks) (list_value alg ks)) (λ ds ks. over alg lawful slots (list_grains o.grain.0 ks) (list_value alg ks))
    alone ← apart alg lawful slots
    Some (front_of slots inside all alone)

  pub quoted_by : (cs : List ℕ) (q : Figures V) → T (is_some (quoted cs q)) → Quoted net alg o cs q
  quoted_by cs q = the (quoted cs q)

  pub unserved_by : T (is_some unserved) → Unserved net alg o
  unserved_by = the unserved

  pub front_by : (codes : List (List ℕ)) (slots : List (Option V)) → T (is_some (front codes slots)) → Front alg.as_good (Had net alg o) slots
  front_by codes slots = the (front codes slots)
