-- A plan names a best path between each two nodes. A plan that passes the test gives every segment, and so every list.
use Rattle.std.proofs.Common.{◌≡◌, ℕ, zero, suc, ◌+◌, ◌-◌, ◌<◌, ◌≤◌, List, [], ◌∷◌, length, get_or, Some, Option, sym, refl, subst, inl, inr, arith}
use Rattle.netmap.specs.declared.link.Link.{Link}
use Rattle.netmap.specs.Net.{Net, link_at}
use Rattle.segments.specs.Algebra.{Algebra, Laws, AsGood}
use Rattle.segments.specs.Paths.{IsPath, Ecmp, total_weight, total_delay, path_value}
use Rattle.segments.specs.declared.figures.Leg.{Leg}
use Rattle.segments.specs.Segments.{Segment, SegmentList}
use Rattle.segments.proofs.JoinedValues.{path_value_cons}
use Rattle.segments.proofs.OptionValues.{some_same}
use Rattle.segments.proofs.SegmentsFunctional.{segments_functional}
use Rattle.examples.proofs.ComputedTests.{◌>>=◌, or_else, there, if_there, each, below, ask, equal, differ, at_most, less}

-- a row for each node, and in it for each node that can be reached the places of a slow and of a poor path
abbrev pub Plan : Type 0
Plan = List (List (List ℕ × List ℕ))

abbrev pub PathTo : Net → ℕ → ℕ → Type 0
PathTo net u v = (ls : List Link) × IsPath net u ls v

abbrev pub path_over : (net : Net) (u : ℕ) (ps : List ℕ) (v : ℕ) → Option (PathTo net u v)
path_over net u [] v = equal u v >>= λ e. Some ([], e)
path_over net u (p ∷ ps) v = do
  l ← there (link_at net p)
  e ← equal l.0.tail u
  r ← path_over net l.0.head ps v
  Some (l.0 ∷ r.0, ((p, l.1), e, r.1))

-- two paths of one weight
abbrev pub TwoPaths : Net → ℕ → ℕ → Type 0
TwoPaths net u v = (slow : List Link) × (poor : List Link) × IsPath net u slow v × IsPath net u poor v × (total_weight poor ≡ total_weight slow)

abbrev pub given_paths : (net : Net) → Plan → (u v : ℕ) → Option (TwoPaths net u v)
given_paths net plan u v = do
  a ← path_over net u (get_or (get_or plan u []) v ([], [])).0 v
  b ← path_over net u (get_or (get_or plan u []) v ([], [])).1 v
  e ← equal (total_weight b.0) (total_weight a.0)
  Some (a.0, b.0, a.1, b.1, e)

module _ {V : Type 0} (alg : Algebra V) where
  abbrev pub node_leg : ℕ → List Link → List Link → Leg V
  node_leg c slow poor = record { to = c; delay = record { 0 = total_delay slow }; value = path_value alg poor }

  abbrev pub link_leg : Link → Leg V
  link_leg l = record { to = l.head; delay = l.delay; value = alg.of_link l }

  -- the two are no heavier than w, and where as heavy, the one no faster than d and the other no better than x
  abbrev pub Bounds : List Link → List Link → ℕ → ℕ → V → Type 0
  Bounds slow poor w d x = (total_weight slow ≤ w) × (w ≤ total_weight slow → (d ≤ total_delay slow) × AsGood alg x (path_value alg poor))

  abbrev pub bounds : (slow poor : List Link) (w d : ℕ) (x : V) → Option (Bounds slow poor w d x)
  bounds slow poor w d x = do
    h ← at_most (total_weight slow) w
    k ← or_else (less (total_weight slow) w >>= λ k. Some (λ j. absurd (omega (arith, k, j)))) (λ _. do
      d ← at_most d (total_delay slow)
      g ← ask (alg.as_good x (path_value alg poor))
      Some (λ _. (d, g)))
    Some (h, k)

module _ {V : Type 0} (net : Net) (alg : Algebra V) (plan : Plan) where
  pub record Bounded (u v w d : ℕ) (x : V) : Type 0 where
    pub paths : TwoPaths net u v
    pub given : given_paths net plan u v ≡ Some paths
    pub bound : Bounds alg paths.0 paths.1 w d x

  abbrev pub bounded : (u v w d : ℕ) (x : V) → Option (Bounded u v w d x)
  bounded u v w d x = do
    r ← there (given_paths net plan u v)
    b ← bounds alg r.0.0 r.0.1 w d x
    Some (record { paths = r.0; given = r.1; bound = b })

  -- the link and then the paths given
  abbrev pub Longer : (v : ℕ) (l : Link) → TwoPaths net l.head v → Type 0
  Longer v l r = Bounded l.tail v (l.weight + total_weight r.0) (l.delay.0 + total_delay r.0) (alg.join (alg.of_link l) (path_value alg r.1))

  -- each path to v is bounded by the paths given
  abbrev pub PathsBounded : ℕ → Type 0
  PathsBounded v = (ls : List Link) (u : ℕ) → IsPath net u ls v → Bounded u v (total_weight ls) (total_delay ls) (path_value alg ls)

  abbrev pub Planned : Type 0
  Planned = (v : ℕ) → v < 64 → PathsBounded v

  module _ (lawful : Laws alg) where
    longer : (l : Link) (ls slow poor slow' poor' : List Link) → Bounds alg slow poor (total_weight ls) (total_delay ls) (path_value alg ls)
        → Bounds alg slow' poor' (l.weight + total_weight slow) (l.delay.0 + total_delay slow) (alg.join (alg.of_link l) (path_value alg poor))
        → Bounds alg slow' poor' (l.weight + total_weight ls) (l.delay.0 + total_delay ls) (path_value alg (l ∷ ls))
    longer l ls slow poor slow' poor' b c = (
      omega (arith, b.0, c.0),
      λ h.
          let bt = b.1 (omega (arith, c.0, h)) in
          let ct = c.1 (omega (arith, b.0, h)) in (
            omega (arith, bt.0, ct.0),
            subst (λ z. AsGood alg z (path_value alg poor')) (sym (path_value_cons alg lawful l ls))
                (lawful.transitive _ _ _ (lawful.monotone_right (path_value alg ls) (path_value alg poor) (alg.of_link l) bt.1) ct.1),
          ),
    )

    pub paths_bounded : (v : ℕ) → Bounded v v 0 0 alg.neutral → ((p : ℕ) (l : Link) → link_at net p ≡ Some l → (r : TwoPaths net l.head v) → given_paths net plan l.head v ≡ Some r → Longer v l r) → PathsBounded v
    paths_bounded v s k [] u p = subst (λ w. Bounded w v 0 0 alg.neutral) (sym p) s
    paths_bounded v s k (l ∷ ls) u p =
        let b = paths_bounded v s k ls l.head p.2 in
        let c = k p.0.0 l p.0.1 b.paths b.given in
        subst (λ w. Bounded w v (total_weight (l ∷ ls)) (total_delay (l ∷ ls)) (path_value alg (l ∷ ls))) p.1 (record { paths = c.paths; given = c.given; bound = longer l ls b.paths.0 b.paths.1 c.paths.0 c.paths.1 b.bound c.bound })

    abbrev pub plan_to : (v : ℕ) → Option (PathsBounded v)
    plan_to v = do
      s ← bounded v v 0 0 alg.neutral
      k ← each (λ p l. (r : TwoPaths net l.head v) → given_paths net plan l.head v ≡ Some r → Longer v l r) (λ p l. if_there (Longer v l) (λ r. bounded _ _ _ _ _) (given_paths net plan l.head v)) net.links
      Some (paths_bounded v s k)

    abbrev pub planned : Option Planned
    planned = below 64 PathsBounded plan_to

  module _ (lawful : Laws alg) (ok : Planned) where
    ecmp : (u v : ℕ) → v < 64 → (r : TwoPaths net u v) → given_paths net plan u v ≡ Some r → Ecmp net alg u v (total_delay r.0) (path_value alg r.1)
    ecmp u v small r e =
        let b : (ms : List Link) → IsPath net u ms v → Bounds alg r.0 r.1 (total_weight ms) (total_delay ms) (path_value alg ms) = λ ms p.
        let k = ok v small ms u p in
        subst (λ s. Bounds alg s.0 s.1 (total_weight ms) (total_delay ms) (path_value alg ms)) (some_same (given_paths net plan u v) k.paths r k.given e) k.bound in
        record {
          delay_met = (r.0, record { path = r.2; least = λ ms p. (b ms p).0 }, refl);
          delay_largest = λ ms m. ((b ms m.path).1 (m.least r.0 r.2)).0;
          value_met = (r.1, record { path = r.3; least = λ ms p. omega (arith, (b ms p).0, r.4) }, refl);
          value_worst = λ ms m. ((b ms m.path).1 (m.least r.0 r.2)).1;
        }

    pub node_segment : (u c : ℕ) → c < 64 → (u ≡ c → ⊥) → (r : TwoPaths net u c) → given_paths net plan u c ≡ Some r → Segment net alg u c (node_leg alg c r.0 r.1)
    node_segment u c small other r e = inl (record { range = small; other = other; to = refl; spread = ecmp u c small r e })

    -- what a code does at u
    abbrev pub move : (u c : ℕ) → Option ((h : Leg V) × Segment net alg u c h)
    move u c = or_else (do
      small ← less c 64
      other ← differ u c
      r ← there (given_paths net plan u c)
      Some (node_leg alg c r.0.0 r.0.1, node_segment u c small other r.0 r.1)) (λ _. do
        low ← at_most 256 c
        high ← less c 512
        l ← there (link_at net (c - 256))
        tail ← equal l.0.tail u
        Some (link_leg alg l.0, inr (record { low = low; high = high; link = l.0; filled = l.1; tail = tail; to = refl; delay = refl; value = refl })))

    -- what the codes do from u on
    abbrev pub legs_of : (u : ℕ) (cs : List ℕ) → Option ((hs : List (Leg V)) × SegmentList net alg u cs hs)
    legs_of u [] = Some ([], tt)
    legs_of u (c ∷ cs) = do
      m ← move u c
      r ← legs_of m.0.to cs
      Some (m.0 ∷ r.0, (m.1, r.1))

    pub moved : (u : ℕ) (P : ℕ → Leg V → Type 0)
        → ((c : ℕ) → c < 64 → (u ≡ c → ⊥) → (r : TwoPaths net u c) → given_paths net plan u c ≡ Some r → P c (node_leg alg c r.0 r.1))
        → ((p : ℕ) (l : Link) → link_at net p ≡ Some l → l.tail ≡ u → P (256 + p) (link_leg alg l))
        → (c : ℕ) (h : Leg V) → Segment net alg u c h → P c h
    moved u P n k c h (inl s) =
        let b = ok c s.range s.spread.delay_met.0 u s.spread.delay_met.1.path in
        subst (P c) (segments_functional alg lawful net u c _ h (node_segment u c s.range s.other b.paths b.given) (inl s)) (n c s.range s.other b.paths b.given)
    moved u P n k c h (inr s) =
        let e : 256 + (c - 256) ≡ c = omega (arith, s.low) in
        subst (P c) (λ i. record { to = sym s.to i; delay = sym s.delay i; value = sym s.value i }) (subst (λ d. P d (link_leg alg s.link)) e (k (c - 256) s.link s.filled s.tail))

    -- of each segment that is legal at u
    abbrev pub moves : (u : ℕ) (P : ℕ → Leg V → Type 0) → ((c : ℕ) (h : Leg V) → Option (P c h)) → Option ((c : ℕ) (h : Leg V) → Segment net alg u c h → P c h)
    moves u P f = do
      n ← below 64 (λ c. (u ≡ c → ⊥) → (r : TwoPaths net u c) → given_paths net plan u c ≡ Some r → P c (node_leg alg c r.0 r.1))
          (λ c. or_else (equal u c >>= λ e. Some (λ n. absurd (n e))) (λ _. if_there (λ r. P c (node_leg alg c r.0 r.1)) (λ r. f c (node_leg alg c r.0 r.1)) (given_paths net plan u c) >>= λ k. Some (λ _. k)))
      k ← each (λ p l. l.tail ≡ u → P (256 + p) (link_leg alg l))
          (λ p l. or_else (differ l.tail u >>= λ d. Some (λ e. absurd (d e))) (λ _. f (256 + p) (link_leg alg l) >>= λ q. Some (λ _. q))) net.links
      Some (moved u P n k)

    pub longest : (n u : ℕ) (P : List ℕ → List (Leg V) → Type 0) → P [] []
        → ((c : ℕ) (h : Leg V) → Segment net alg u c h → (cs : List ℕ) (hs : List (Leg V)) → SegmentList net alg h.to cs hs → suc (length cs) ≤ n → P (c ∷ cs) (h ∷ hs))
        → (cs : List ℕ) (hs : List (Leg V)) → SegmentList net alg u cs hs → length cs ≤ n → P cs hs
    longest n u P p m [] [] l b = p
    longest n u P p m [] (h ∷ hs) l b = absurd l
    longest n u P p m (c ∷ cs) [] l b = absurd l
    longest n u P p m (c ∷ cs) (h ∷ hs) l b = m c h l.0 cs hs l.1 b

    -- of each legal list of at most n entries from u
    abbrev pub every : (n u : ℕ) (P : List ℕ → List (Leg V) → Type 0) → ((cs : List ℕ) (hs : List (Leg V)) → Option (P cs hs)) → Option ((cs : List ℕ) (hs : List (Leg V)) → SegmentList net alg u cs hs → length cs ≤ n → P cs hs)
    every zero u P f = f [] [] >>= λ p. Some (longest 0 u P p (λ c h s cs hs l b. absurd (omega (arith, b))))
    every (suc n) u P f = do
      p ← f [] []
      m ← moves u (λ c h. (cs : List ℕ) (hs : List (Leg V)) → SegmentList net alg h.to cs hs → length cs ≤ n → P (c ∷ cs) (h ∷ hs))
          (λ c h. every n h.to (λ cs hs. P (c ∷ cs) (h ∷ hs)) (λ cs hs. f (c ∷ cs) (h ∷ hs)))
      Some (longest (suc n) u P p (λ c h s cs hs l b. m c h s cs hs l (omega (arith, b))))
