-- The front of the accepted pairs, with one pair more.
use Rattle.std.proofs.Common.{◌≡◌, ℕ, ◌<◌, ◌≤◌, Bool, true, false, T, ◌⊎◌, List, [], ◌∷◌, Option, sym, refl, ◌∙◌, subst, inl, inr, ⊎_elim, arith}
use Rattle.std.proofs.lemmas.Bool.{cases_lt, cases_eq}
use Rattle.tariff.specs.Rankings.{Ranks}
use Rattle.keeper.specs.Fronts.{InSlot, Optimal, Front}
use Rattle.keeper.specs.Keepers.{Pair, Accepted, Beaten, Placed}

decided : (b : Bool) → T b ⊎ (T b → ⊥)
decided true = inl tt
decided false = inr (λ t. t)

module _ {V : Type 0} (good : V → V → Bool) (ranks : Ranks good) where
  reflexive : (a : V) → T (good a a)
  reflexive a = ⊎_elim (λ h. h) (λ h. h) (ranks.total a a)

  -- an accepted pair beats it, or none does
  beaten : (ps : List (Pair V)) (d : ℕ) (x : V) → Beaten good (Accepted ps) d x ⊎ (Beaten good (Accepted ps) d x → ⊥)
  beaten [] d x = inr (λ b. b.member)
  beaten (p ∷ ps) d x =
      ⊎_elim
      (λ (b : Beaten good (Accepted ps) d x). inl (record { grains = b.grains; value = b.value; member = inr b.member; less = b.less; as_good = b.as_good }))
      (λ (n : Beaten good (Accepted ps) d x → ⊥).
      ⊎_elim
      (λ (h : d < p.grains). inr (λ b. none b n (λ e f. omega (arith, e, h, b.less))))
      (λ (h : p.grains ≤ d). ⊎_elim
      (λ (t : T (good p.value x)). inl (record { grains = p.grains; value = p.value; member = inl (refl, refl); less = h; as_good = t }))
      (λ (f : T (good p.value x) → ⊥). inr (λ b. none b n (λ e k. f (subst (λ z. T (good z x)) (sym k) b.as_good))))
      (decided (good p.value x)))
      (cases_lt d p.grains))
      (beaten ps d x)
    where
      none : (b : Beaten good (Accepted (p ∷ ps)) d x) → (Beaten good (Accepted ps) d x → ⊥) → (p.grains ≡ b.grains → p.value ≡ b.value → ⊥) → ⊥
      none b n f = ⊎_elim (λ e. f e.0 e.1) (λ m. n (record { grains = b.grains; value = b.value; member = m; less = b.less; as_good = b.as_good })) b.member

  -- an optimal pair stays so beside a pair that is beaten
  stays : (ps : List (Pair V)) (p : Pair V) → Beaten good (Accepted ps) p.grains p.value → (e : ℕ) (y : V) → Optimal good (Accepted ps) e y → Optimal good (Accepted (p ∷ ps)) e y
  stays ps p b e y o = record {
    member = inr o.member;
    best = λ f z m le g. ⊎_elim
        (λ (k : (p.grains ≡ f) × (p.value ≡ z)).
        let pz : T (good p.value y) = subst (λ w. T (good w y)) (sym k.1) g in
        let same = o.best b.grains b.value b.member (omega (arith, b.less, k.0, le)) (ranks.transitive b.value p.value y b.as_good pz) in
        (omega (arith, same.0, b.less, k.0, le), sym k.1 ∙ ranks.antisymmetric p.value y pz (subst (λ w. T (good w p.value)) same.1 b.as_good)))
        (λ k. o.best f z k le g) m;
  }

  -- each accepted pair is an optimal one, or one beats it
  pub dominator : (ps : List (Pair V)) (d : ℕ) (x : V) → Accepted ps d x → Beaten good (Optimal good (Accepted ps)) d x
  dominator [] d x a = absurd a
  dominator (p ∷ ps) d x a =
      ⊎_elim
      (λ (b : Beaten good (Accepted ps) p.grains p.value).
      let up : (f : ℕ) (z : V) → f ≤ d → T (good z x) → Accepted ps f z → Beaten good (Optimal good (Accepted (p ∷ ps))) d x =
      λ f z le g m. let k = dominator ps f z m in record { grains = k.grains; value = k.value; member = stays ps p b k.grains k.value k.member; less = omega (arith, k.less, le); as_good = ranks.transitive k.value z x k.as_good g } in
      ⊎_elim
      (λ (e : (p.grains ≡ d) × (p.value ≡ x)). up b.grains b.value (omega (arith, b.less, e.0)) (subst (λ w. T (good b.value w)) e.1 b.as_good) b.member)
      (λ m. up d x (omega arith) (reflexive x) m) a)
      (λ (n : Beaten good (Accepted ps) p.grains p.value → ⊥).
      let own : Optimal good (Accepted (p ∷ ps)) p.grains p.value = record {
        member = inl (refl, refl);
        best = λ f z m le g. ⊎_elim (λ k. (sym k.0, sym k.1)) (λ k. absurd (n (record { grains = f; value = z; member = k; less = le; as_good = g }))) m;
      } in
      ⊎_elim
      (λ (e : (p.grains ≡ d) × (p.value ≡ x)). record { grains = p.grains; value = p.value; member = own; less = omega (arith, e.0); as_good = subst (λ w. T (good p.value w)) e.1 (reflexive p.value) })
      (λ m.
      let k = dominator ps d x m in
      ⊎_elim
      (λ (b : (p.grains ≤ k.grains) × T (good p.value k.value)). record { grains = p.grains; value = p.value; member = own; less = omega (arith, b.0, k.less); as_good = ranks.transitive p.value k.value x b.1 k.as_good })
      (λ (c : (p.grains ≤ k.grains) × T (good p.value k.value) → ⊥). record {
        grains = k.grains;
        value = k.value;
        member = record {
          member = inr k.member.member;
          best = λ f z t le g. ⊎_elim (λ q. absurd (c (omega (arith, q.0, le), subst (λ w. T (good w k.value)) (sym q.1) g))) (λ q. k.member.best f z q le g) t;
        };
        less = k.less;
        as_good = k.as_good;
      })
      (beats p k.grains k.value))
      a)
      (beaten ps p.grains p.value)
    where
      beats : (p : Pair V) (e : ℕ) (y : V) → ((p.grains ≤ e) × T (good p.value y)) ⊎ ((p.grains ≤ e) × T (good p.value y) → ⊥)
      beats p e y =
          ⊎_elim (λ (h : e < p.grains). inr (λ t. omega (arith, t.0, h)))
          (λ (h : p.grains ≤ e). ⊎_elim (λ t. inl (h, t)) (λ f. inr (λ t. f t.1)) (decided (good p.value y)))
          (cases_lt e p.grains)

  module _ (ps : List (Pair V)) (d : ℕ) (x : V) (before : List (Option V)) (front : Front good (Accepted ps) before) where
    abbrev more : List (Pair V)
    more = record { grains = d; value = x } ∷ ps

    -- a pair that a slot beats changes nothing
    pub front_same : Beaten good (InSlot before) d x → Front good (Accepted more) before
    front_same b =
        let opt = front.sound b.grains b.value b.member in
        let acc : Beaten good (Accepted ps) d x = record { grains = b.grains; value = b.value; member = opt.member; less = b.less; as_good = b.as_good } in
        record {
          sound = λ e y s. stays ps (record { grains = d; value = x }) acc e y (front.sound e y s);
          complete = λ e y o. ⊎_elim
              (λ (k : (d ≡ e) × (x ≡ y)).
              let same = o.best b.grains b.value (inr opt.member) (omega (arith, b.less, k.0)) (subst (λ w. T (good b.value w)) k.1 b.as_good) in
              subst (λ w. InSlot before e w) same.1 (subst (λ n. InSlot before n b.value) same.0 b.member))
              (λ k. front.complete e y (record { member = k; best = λ f z m le g. o.best f z (inr m) le g }))
              o.member;
        }

    unbeaten : {after : List (Option V)} → Placed good d x before after → Beaten good (Accepted ps) d x → ⊥
    unbeaten s b =
        let k = dominator ps b.grains b.value b.member in
        s.new (record { grains = k.grains; value = k.value; member = front.complete k.grains k.value k.member; less = omega (arith, k.less, b.less); as_good = ranks.transitive k.value b.value x k.as_good b.as_good })

    own_optimal : (Beaten good (Accepted ps) d x → ⊥) → Optimal good (Accepted more) d x
    own_optimal n = record {
      member = inl (refl, refl);
      best = λ f z m le g. ⊎_elim (λ k. (sym k.0, sym k.1)) (λ k. absurd (n (record { grains = f; value = z; member = k; less = le; as_good = g }))) m;
    }

    -- a pair that no slot beats goes in, and those that it beats go
    pub front_more : (after : List (Option V)) → Placed good d x before after → Front good (Accepted more) after
    front_more after s =
        let n = unbeaten s in
        record {
          sound = λ e y i. ⊎_elim
              (λ (k : e ≡ d).
              let is : y ≡ x = (s.here y).0 (subst (λ m. InSlot after m y) k i) in
              subst (λ w. Optimal good (Accepted more) e w) (sym is) (subst (λ m. Optimal good (Accepted more) m x) (sym k) (own_optimal n)))
              (λ (k : e ≡ d → ⊥).
              let o = front.sound e y (s.only e y k i).0 in
              record {
                member = inr o.member;
                best = λ f z m le g. ⊎_elim (λ (q : (d ≡ f) × (x ≡ z)). absurd ((s.only e y k i).1 (omega (arith, q.0, le)) (subst (λ w. T (good w y)) (sym q.1) g))) (λ q. o.best f z q le g) m;
              })
              (cases_eq e d);
          complete = λ e y o. ⊎_elim
              (λ (k : e ≡ d).
              let is : y ≡ x = ⊎_elim (λ (q : (d ≡ e) × (x ≡ y)). sym q.1) (λ q. here_is e y o k q) o.member in
              subst (λ m. InSlot after m y) (sym k) ((s.here y).1 is))
              (λ (k : e ≡ d → ⊥).
              let old : Accepted ps e y = ⊎_elim (λ (q : (d ≡ e) × (x ≡ y)). absurd (k (sym q.0))) (λ q. q) o.member in
              s.kept e y k (front.complete e y (record { member = old; best = λ f z m le g. o.best f z (inr m) le g })) (λ le g. k (sym (o.best d x (inl (refl, refl)) le g).0)))
              (cases_eq e d);
        }
      where
        here_is : (e : ℕ) (y : V) → Optimal good (Accepted more) e y → e ≡ d → Accepted ps e y → y ≡ x
        here_is e y o k q = ⊎_elim
            (λ (g : T (good x y)). sym (o.best d x (inl (refl, refl)) (omega (arith, k)) g).1)
            (λ (g : T (good y x)). absurd (unbeaten s (record { grains = e; value = y; member = q; less = omega (arith, k); as_good = g })))
            (ranks.total x y)
