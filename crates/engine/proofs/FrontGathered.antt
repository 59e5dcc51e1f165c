-- The front of the cells at the source, cell by cell.
use Rattle.std.proofs.Common.{◌≡◌, ℕ, ◌+◌, ◌<◌, ◌≤◌, Bool, true, List, ◌∷◌, length, Some, None, Option, Result, sym, ap, ◌∙◌, subst, inl, inr, ⊎_elim, arith}
use Rattle.std.proofs.lemmas.Bool.{lt-ltb}
use Rattle.questions.specs.declared.denial.Denial.{Denial}
use Rattle.engine.specs.Chosen.{Passed}
use Rattle.keeper.specs.Keepers.{OfferBy, OfferCall}
use Rattle.segments.proofs.OptionValues.{some_same, none_some}
use Rattle.engine.specs.Offers.{Gathered}
use Rattle.engine.proofs.CellsPassed.{passed_split, passed_more, column_passed, column_covered}

module _ {V : Type 0} (good : V → V → Bool) (best : ℕ → ℕ → Option V) where
  pub gather_same : (S R : ℕ → ℕ → Type 0) (slots : List (Option V)) → ((m e : ℕ) → S m e → R m e) → ((m e : ℕ) → R m e → S m e) → Gathered good best S slots → Gathered good best R slots
  gather_same S R slots f g k = record {
    pairs = k.pairs;
    front = k.front;
    only = λ e y a. let o = k.only e y a in (o.0, f o.0 e o.1, o.2);
    all = λ m e y r. k.all m e y (g m e r);
  }

  module _ (limit d l : ℕ) where
    pub gather_none : (slots : List (Option V)) → best l d ≡ None → Gathered good best (Passed limit d l) slots → Gathered good best (Passed limit d (l + 1)) slots
    gather_none slots empty k = record {
      pairs = k.pairs;
      front = k.front;
      only = λ e y a. let o = k.only e y a in (o.0, passed_more limit d l o.0 e o.1, o.2);
      all = λ m e y p is. ⊎_elim (λ q. k.all m e y q is) (λ (q : (m ≡ l) × (e ≡ d)). absurd (none_some (best m e) y (ap (λ j. best j e) q.0 ∙ ap (λ j. best l j) q.1 ∙ empty) is)) (passed_split limit d l m e p);
    }

    pub gather_some : (x : V) (before after : List (Option V)) (r : Result (Unit {0}) Denial) → l ≤ limit → best l d ≡ Some x → d < length before → OfferCall good d x before after r
        → Gathered good best (Passed limit d l) before → Gathered good best (Passed limit d (l + 1)) after
    gather_some x before after r within cell inside call k =
        let by : OfferBy good d x true before after r = subst (λ (b : Bool). OfferBy good d x b before after r) (lt-ltb d (length before) inside) call in
        record {
          pairs = record { grains = d; value = x } ∷ k.pairs;
          front = by.1 k.pairs k.front;
          only = λ e y a. ⊎_elim
              (λ (q : (d ≡ e) × (x ≡ y)). (l, (within, inr (sym q.0, omega arith)), ap (λ j. best l j) (sym q.0) ∙ cell ∙ ap Some q.1))
              (λ q. let o = k.only e y q in (o.0, passed_more limit d l o.0 e o.1, o.2)) a;
          all = λ m e y p is. ⊎_elim
              (λ q. inr (k.all m e y q is))
              (λ (q : (m ≡ l) × (e ≡ d)). inl (sym q.1, sym (some_same (best m e) y x is (ap (λ j. best j e) q.0 ∙ ap (λ j. best l j) q.1 ∙ cell))))
              (passed_split limit d l m e p);
        }

  pub gather_next : (limit d l : ℕ) (slots : List (Option V)) → limit < l → Gathered good best (Passed limit d l) slots → Gathered good best (Passed limit (d + 1) 0) slots
  gather_next limit d l slots past = gather_same (Passed limit d l) (Passed limit (d + 1) 0) slots (λ m e. column_passed limit d l m e) (λ m e. column_covered limit d l m e past)
