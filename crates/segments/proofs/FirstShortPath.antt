-- Among the paths of at most k links from one node to another there is a first one in any order.
use Rattle.std.proofs.Common.{◌≡◌, ℕ, zero, suc, ◌<◌, ◌≤◌, ◌⊎◌, List, [], ◌∷◌, length, Some, None, Option, sym, refl, ap, ◌∙◌, subst, inl, inr, ⊎_elim, arith}
use Rattle.std.proofs.lemmas.List.{get_or_past}
use Rattle.std.proofs.lemmas.Bool.{cases_eq, cases_lt}
use Rattle.netmap.specs.declared.link.Link.{Link}
use Rattle.netmap.specs.Net.{Net, link_at, places}
use Rattle.segments.specs.Paths.{IsPath}
use Rattle.segments.proofs.OptionValues.{some_same, none_some}

pub record Preorder {A : Type 0} (R : A → A → Type 0) : Type 0 where
  pub total : (x y : A) → R x y ⊎ R y x
  pub trans : (x y z : A) → R x y → R y z → R x z

-- a set is empty, or has a first element
abbrev pub HasFirst : {A : Type 0} → (A → Type 0) → (A → A → Type 0) → Type 0
HasFirst {A} S R = ((x : A) → S x → ⊥) ⊎ ((x : A) × S x × ((y : A) → S y → R x y))

module _ {A : Type 0} (S T U : A → Type 0) (R : A → A → Type 0) (order : Preorder R) (split : (x : A) → U x → S x ⊎ T x) (left : (x : A) → S x → U x) (right : (x : A) → T x → U x) where
  first_union : HasFirst S R → HasFirst T R → HasFirst U R
  first_union (inl a) (inl b) = inl (λ x u. ⊎_elim (a x) (b x) (split x u))
  first_union (inl a) (inr b) = inr (b.0, right b.0 b.1, λ y u. ⊎_elim (λ s. absurd (a y s)) (b.2 y) (split y u))
  first_union (inr a) (inl b) = inr (a.0, left a.0 a.1, λ y u. ⊎_elim (a.2 y) (λ t. absurd (b y t)) (split y u))
  first_union (inr a) (inr b) = ⊎_elim
      (λ (r : R a.0 b.0). inr (a.0, left a.0 a.1, λ y u. ⊎_elim (a.2 y) (λ t. order.trans a.0 b.0 y r (b.2 y t)) (split y u)))
      (λ (r : R b.0 a.0). inr (b.0, right b.0 b.1, λ y u. ⊎_elim (λ s. order.trans b.0 a.0 y r (a.2 y s)) (b.2 y) (split y u)))
      (order.total a.0 b.0)

module _ (net : Net) where
  pub record ShortPath (k u v : ℕ) (ls : List Link) : Type 0 where
    pub path : IsPath net u ls v
    pub short : length ls ≤ k

  -- a path that begins with the link at some place below p
  record LedBelow (k u v p : ℕ) (ls : List Link) : Type 0 where
    place : ℕ
    below : place < p
    link : Link
    at : link_at net place ≡ Some link
    tail : link.tail ≡ u
    rest : List Link
    is : ls ≡ link ∷ rest
    onward : ShortPath k link.head v rest

  -- a path that begins with the link
  record LedBy (k v : ℕ) (l : Link) (ls : List Link) : Type 0 where
    rest : List Link
    is : ls ≡ l ∷ rest
    onward : ShortPath k l.head v rest

  abbrev AllFirst : ℕ → ℕ → Type 1
  AllFirst k v = (u : ℕ) (R : List Link → List Link → Type 0) → Preorder R → HasFirst (ShortPath k u v) R

  module _ (k u v : ℕ) (R : List Link → List Link → Type 0) (order : Preorder R) (heads : AllFirst k v) where
    grow : (p : ℕ) (ls : List Link) → LedBelow k u v p ls → LedBelow k u v (suc p) ls
    grow p ls s = record { place = s.place; below = omega (arith, s.below); link = s.link; at = s.at; tail = s.tail; rest = s.rest; is = s.is; onward = s.onward }

    -- at the last place, or below it
    last : (p : ℕ) (ls : List Link) (s : LedBelow k u v (suc p) ls) → (s.place ≡ p) ⊎ LedBelow k u v p ls
    last p ls s = ⊎_elim inl
        (λ (ne : s.place ≡ p → ⊥). inr (record { place = s.place; below = omega (arith, s.below, ne); link = s.link; at = s.at; tail = s.tail; rest = s.rest; is = s.is; onward = s.onward }))
        (cases_eq s.place p)

    -- no path begins with the link at the last place
    skip : (p : ℕ) → ((l : Link) → link_at net p ≡ Some l → l.tail ≡ u → ⊥) → HasFirst (LedBelow k u v p) R → HasFirst (LedBelow k u v (suc p)) R
    skip p none first = first_union (λ _. ⊥) (LedBelow k u v p) (LedBelow k u v (suc p)) R order
        (λ ls s. ⊎_elim (λ (e : s.place ≡ p). absurd (none s.link (subst (λ q. link_at net q ≡ Some s.link) e s.at) s.tail)) inr (last p ls s))
        (λ ls s. absurd s) (grow p) (inl (λ ls s. s)) first

    take_link : (p : ℕ) (l : Link) → link_at net p ≡ Some l → l.tail ≡ u → HasFirst (LedBelow k u v p) R → HasFirst (LedBelow k u v (suc p)) R
    take_link p l at tail first = first_union (LedBy k v l) (LedBelow k u v p) (LedBelow k u v (suc p)) R order
        (λ ls s. ⊎_elim
        (λ (e : s.place ≡ p).
        let same = some_same (link_at net p) s.link l (subst (λ q. link_at net q ≡ Some s.link) e s.at) at in
        inl (record { rest = s.rest; is = s.is ∙ ap (λ j. j ∷ s.rest) same; onward = subst (λ j. ShortPath k j.head v s.rest) same s.onward }))
        inr (last p ls s))
        (λ ls s. record { place = p; below = omega arith; link = l; at = at; tail = tail; rest = s.rest; is = s.is; onward = s.onward })
        (grow p)
        (led (heads l.head (λ x y. R (l ∷ x) (l ∷ y)) (record { total = λ x y. order.total (l ∷ x) (l ∷ y); trans = λ x y z. order.trans (l ∷ x) (l ∷ y) (l ∷ z) })))
        first
      where
        led : HasFirst (ShortPath k l.head v) (λ x y. R (l ∷ x) (l ∷ y)) → HasFirst (LedBy k v l) R
        led (inl none) = inl (λ ls s. none s.rest s.onward)
        led (inr b) = inr (l ∷ b.0, record { rest = b.0; is = refl; onward = b.1 }, λ ls s. subst (R (l ∷ b.0)) (sym s.is) (b.2 s.rest s.onward))

    by_link : (p : ℕ) (o : Option Link) → link_at net p ≡ o → HasFirst (LedBelow k u v p) R → HasFirst (LedBelow k u v (suc p)) R
    by_link p None e = skip p (λ l at tail. none_some (link_at net p) l e at)
    by_link p (Some l) e = ⊎_elim
        (λ (tail : l.tail ≡ u). take_link p l e tail)
        (λ (ne : l.tail ≡ u → ⊥). skip p (λ j at tail. ne (ap (λ i. i.tail) (some_same (link_at net p) l j e at) ∙ tail)))
        (cases_eq l.tail u)

    led_first : (p : ℕ) → HasFirst (LedBelow k u v p) R
    led_first zero = inl (λ ls s. omega (arith, s.below))
    led_first (suc p) = by_link p (link_at net p) refl (led_first p)

  -- the empty path alone
  none_first : (v : ℕ) → AllFirst 0 v
  none_first v u R order = ⊎_elim
      (λ (e : u ≡ v). inr ([], record { path = e; short = omega arith }, λ ls s. only ls s))
      (λ (ne : u ≡ v → ⊥). inl (λ ls s. empty ls s ne))
      (cases_eq u v)
    where
      only : (ls : List Link) → ShortPath 0 u v ls → R [] ls
      only [] s = ⊎_elim (λ r. r) (λ r. r) (order.total [] [])
      only (l ∷ ls) s = absurd (omega (arith, s.short))

      empty : (ls : List Link) → ShortPath 0 u v ls → (u ≡ v → ⊥) → ⊥
      empty [] s ne = ne s.path
      empty (l ∷ ls) s ne = omega (arith, s.short)

  pub short_first : (k v : ℕ) → AllFirst k v
  short_first zero v u R order = none_first v u R order
  short_first (suc k) v u R order =
      first_union (ShortPath 0 u v) (LedBelow k u v (places net)) (ShortPath (suc k) u v) R order
      (λ ls s. split ls s)
      (λ ls s. record { path = s.path; short = omega (arith, s.short) })
      (λ ls s. subst (ShortPath (suc k) u v) (sym s.is) (record { path = ((s.place, s.at), s.tail, s.onward.path); short = omega (arith, s.onward.short) }))
      (none_first v u R order) (led_first k u v R order (short_first k v) (places net))
    where
      split : (ls : List Link) → ShortPath (suc k) u v ls → ShortPath 0 u v ls ⊎ LedBelow k u v (places net) ls
      split [] s = inl (record { path = s.path; short = omega arith })
      split (l ∷ ls) s =
          let q = s.path.0.0 in
          let inside : q < places net = ⊎_elim (λ (h : q < places net). h) (λ (h : places net ≤ q). absurd (none_some (link_at net q) l (get_or_past net.links q None h) s.path.0.1)) (cases_lt q (places net)) in
          inr (record { place = q; below = inside; link = l; at = s.path.0.1; tail = s.path.1; rest = ls; is = refl; onward = record { path = s.path.2; short = omega (arith, s.short) } })
