-- The scan of the cells at the source for the best, cell by cell.
use Rattle.std.proofs.Common.{◌≡◌, ℕ, ◌+◌, ◌<◌, ◌≤◌, Bool, true, false, cond, T, Some, None, Option, sym, refl, ap, ◌∙◌, subst, inl, inr, ⊎_elim, arith}
use Rattle.netmap.specs.Net.{Net}
use Rattle.segments.specs.Algebra.{Algebra, Laws, AsGood}
use Rattle.segments.specs.declared.order.Order.{Order}
use Rattle.engine.specs.declared.choosing.Choice.{Choice}
use Rattle.engine.specs.Fronts.{most_grains_of}
use Rattle.engine.specs.Chosen.{Chosen, LeadOf, Passed, Whole, Before, lead_of}
use Rattle.segments.proofs.JoinedValues.{as_good_refl}
use Rattle.segments.proofs.OptionValues.{some_same, none_some}
use Rattle.engine.proofs.CellsPassed.{passed_split, passed_more, column_passed, column_covered, all_passed, all_covered}

module _ {V : Type 0} (alg : Algebra V) (best : ℕ → ℕ → Option V) where
  -- the same cells under another name
  pub lead_same : (S R : ℕ → ℕ → Type 0) (o : Option (Choice V)) → ((m e : ℕ) → S m e → R m e) → ((m e : ℕ) → R m e → S m e) → LeadOf alg best S o → LeadOf alg best R o
  lead_same S R None f g b = λ m e r. b m e (g m e r)
  lead_same S R (Some c) f g b = (f c.entries c.grains b.0, b.1, λ m e y r. b.2 m e y (g m e r))

  module _ (limit d l : ℕ) where
    -- what was passed has fewer grains or entries
    earlier : (m e : ℕ) → Passed limit d l m e → Before e m d l
    earlier m e p = ⊎_elim (λ h. inl h) (λ h. inr (h.0, omega (arith, h.1))) p.1

    pub lead_none : (o : Option (Choice V)) → best l d ≡ None → LeadOf alg best (Passed limit d l) o → LeadOf alg best (Passed limit d (l + 1)) o
    lead_none None empty b = λ m e p. ⊎_elim (λ k. b m e k) (λ (k : (m ≡ l) × (e ≡ d)). ap (λ j. best j e) k.0 ∙ ap (λ j. best l j) k.1 ∙ empty) (passed_split limit d l m e p)
    lead_none (Some c) empty b = (
      passed_more limit d l c.entries c.grains b.0,
      b.1,
      λ m e y p is. ⊎_elim (λ k. b.2 m e y k is) (λ (k : (m ≡ l) × (e ≡ d)). absurd (none_some (best m e) y (ap (λ j. best j e) k.0 ∙ ap (λ j. best l j) k.1 ∙ empty) is)) (passed_split limit d l m e p),
    )

    module _ (lawful : Laws alg) (x : V) (within : l ≤ limit) (cell : best l d ≡ Some x) where
      abbrev next : Choice V
      next = record { value = x; grains = d; entries = l }

      here : (m e : ℕ) (y : V) → (m ≡ l) × (e ≡ d) → best m e ≡ Some y → y ≡ x
      here m e y k is = some_same (best m e) y x is (ap (λ j. best j e) k.0 ∙ ap (λ j. best l j) k.1 ∙ cell)

      own : Passed limit d (l + 1) l d
      own = (within, inr (refl, omega arith))

      pub lead_some : (o : Option (Choice V)) → LeadOf alg best (Passed limit d l) o → LeadOf alg best (Passed limit d (l + 1)) (Some (lead_of alg o next))
      lead_some None b = (
        own,
        cell,
        λ m e y p is. ⊎_elim (λ k. absurd (none_some (best m e) y (b m e k) is))
            (λ (k : (m ≡ l) × (e ≡ d)).
            (subst (AsGood alg x) (sym (here m e y k is)) (as_good_refl alg lawful x), λ t. inr (sym k.1, omega (arith, k.0))))
            (passed_split limit d l m e p),
      )
      lead_some (Some c) b = go (alg.as_good c.value x) refl
        where
          go : (t : Bool) → alg.as_good c.value x ≡ t → LeadOf alg best (Passed limit d (l + 1)) (Some (cond t c next))
          go true g = (
            passed_more limit d l c.entries c.grains b.0,
            b.1,
            λ m e y p is. ⊎_elim (λ k. b.2 m e y k is)
                (λ (k : (m ≡ l) × (e ≡ d)). (
                  subst (AsGood alg c.value) (sym (here m e y k is)) (subst T (sym g) tt),
                  λ t. subst (λ j. Before c.grains c.entries j m) (sym k.1) (subst (λ j. Before c.grains c.entries d j) (sym k.0) (earlier c.entries c.grains b.0)),
                ))
                (passed_split limit d l m e p),
          )
          go false g =
              let up : AsGood alg x c.value = ⊎_elim (λ h. absurd (subst T g h)) (λ h. h) (lawful.total c.value x) in (
                own,
                cell,
                λ m e y p is. ⊎_elim
                    (λ k.
                    let o = b.2 m e y k is in
                    (lawful.transitive x c.value y up o.0, λ t. absurd (subst T g (subst (AsGood alg c.value) t o.0))))
                    (λ (k : (m ≡ l) × (e ≡ d)).
                    (subst (AsGood alg x) (sym (here m e y k is)) (as_good_refl alg lawful x), λ t. inr (sym k.1, omega (arith, k.0))))
                    (passed_split limit d l m e p),
              )

  -- a column is passed
  pub lead_next : (limit d l : ℕ) (o : Option (Choice V)) → limit < l → LeadOf alg best (Passed limit d l) o → LeadOf alg best (Passed limit (d + 1) 0) o
  lead_next limit d l o past = lead_same (Passed limit d l) (Passed limit (d + 1) 0) o (λ m e. column_passed limit d l m e) (λ m e. column_covered limit d l m e past)

  pub lead_all : (limit top d : ℕ) (o : Option (Choice V)) → d ≡ top + 1 → LeadOf alg best (Passed limit d 0) o → LeadOf alg best (Whole limit top) o
  lead_all limit top d o past = lead_same (Passed limit d 0) (Whole limit top) o (λ m e. all_passed limit top d m e past) (λ m e. all_covered limit top d m e past)

-- what the scan gives is the chosen cell
pub lead_chosen : {V : Type 0} (net : Net) (alg : Algebra V) (o : Order) (best : ℕ → ℕ → ℕ → Option V) (c : Choice V)
    → LeadOf alg (λ m e. best m e o.source) (Whole o.limit.0 (most_grains_of o)) (Some c) → Chosen net alg o best c.value c.grains c.entries
lead_chosen net alg o best c b = record {
  labels = b.0.0;
  small = b.0.1;
  cell = b.1;
  value = λ m e y hm he is. (b.2 m e y (hm, he) is).0;
  grains = λ m e hm he is. ⊎_elim (λ (h : c.grains < e). omega arith) (λ h. omega (arith, h.0)) ((b.2 m e c.value (hm, he) is).1 refl);
  entries = λ m hm is. ⊎_elim (λ (h : c.grains < c.grains). absurd (omega arith)) (λ h. h.1) ((b.2 m c.grains c.value (hm, b.0.1) is).1 refl);
}
