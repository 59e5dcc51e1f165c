-- The first question answered no: what a reply says of it, and where it stands in joined lists.
use Rattle.std.proofs.Common.{◌≡◌, ℕ, zero, suc, ◌+◌, ◌<◌, ◌≤◌, Bool, true, false, List, [], ◌∷◌, ◌++◌, Some, None, Ok, Err, Option, Result, refl, ap, ◌∙◌, ⊎_elim, arith}
use Rattle.std.specs.List.{range_with_len, flat_map}
use Rattle.std.proofs.lemmas.Bool.{cases_eq}
use Rattle.questions.specs.declared.denial.Denial.{Denial}
use Rattle.questions.specs.Asking.{Asked, asks, first_no, reply}

-- what a reply tells of the denial
pub granted : {A : Type 0} (d : Option Denial) (x a : A) → ◌≡◌ {A = Result A Denial} (Ok x) (reply d a) → d ≡ None
granted None x a e = refl
granted (Some d) x a e = cc

pub denied : {A : Type 0} (d : Option Denial) (x : Denial) (a : A) → ◌≡◌ {A = Result A Denial} (Err x) (reply d a) → d ≡ Some x
denied None x a e = cc
denied (Some d) x a e = cc

-- none answered no: each answered yes
abbrev EachYes : List Asked → Type 0
EachYes [] = Unit {0}
EachYes (q ∷ qs) = (q.answer ≡ true) × EachYes qs

yes_by : (b : Bool) (d : Denial) (qs : List Asked) → (first_no qs ≡ None → EachYes qs) → first_no (asks d b ∷ qs) ≡ None → (b ≡ true) × EachYes qs
yes_by true d qs h e = (refl, h e)
yes_by false d qs h e = cc

pub all_yes : (qs : List Asked) → first_no qs ≡ None → EachYes qs
all_yes [] e = tt
all_yes (q ∷ qs) e = yes_by q.answer q.denial qs (all_yes qs) e

abbrev asked : Bool → Denial → List Asked → Option Denial
asked b d qs = elim b [ true ↦ first_no qs | false ↦ Some d ]

after_by : (b : Bool) (d : Denial) (qs rs : List Asked) → (first_no qs ≡ None → first_no (qs ++ rs) ≡ first_no rs) → asked b d qs ≡ None → asked b d (qs ++ rs) ≡ first_no rs
after_by true d qs rs h e = h e
after_by false d qs rs h e = cc

-- the first list is answered yes throughout: the second decides
pub first_after : (qs rs : List Asked) → first_no qs ≡ None → first_no (qs ++ rs) ≡ first_no rs
first_after [] rs e = refl
first_after (q ∷ qs) rs e = after_by q.answer q.denial qs rs (first_after qs rs) e

before_by : (b : Bool) (d c : Denial) (qs rs : List Asked) → (first_no qs ≡ Some c → first_no (qs ++ rs) ≡ Some c) → asked b d qs ≡ Some c → asked b d (qs ++ rs) ≡ Some c
before_by true d c qs rs h e = h e
before_by false d c qs rs h e = e

-- the first list denies: the second is not asked
pub first_before : (qs rs : List Asked) (c : Denial) → first_no qs ≡ Some c → first_no (qs ++ rs) ≡ Some c
first_before [] rs c e = cc
first_before (q ∷ qs) rs c e = before_by q.answer q.denial c qs rs (first_before qs rs c) e

-- the questions of each place in turn
pub none_all : (Q : ℕ → List Asked) (a n : ℕ) → ((k : ℕ) → a ≤ k → k < a + n → first_no (Q k) ≡ None) → first_no (flat_map Q (range_with_len a n)) ≡ None
none_all Q a zero h = refl
none_all Q a (suc n) h = first_after (Q a) (flat_map Q (range_with_len (a + 1) n)) (h a (omega arith) (omega arith)) ∙ none_all Q (a + 1) n (λ k l u. h k (omega arith) (omega arith))

pub some_at : (Q : ℕ → List Asked) (a n p : ℕ) (c : Denial) → a ≤ p → p < a + n → ((k : ℕ) → a ≤ k → k < p → first_no (Q k) ≡ None) → first_no (Q p) ≡ Some c → first_no (flat_map Q (range_with_len a n)) ≡ Some c
some_at Q a zero p c l u h e = absurd (omega arith)
some_at Q a (suc n) p c l u h e =
    ⊎_elim
    (λ (same : a ≡ p). first_before (Q a) (flat_map Q (range_with_len (a + 1) n)) c (ap (λ k. first_no (Q k)) same ∙ e))
    (λ (ne : a ≡ p → ⊥). first_after (Q a) (flat_map Q (range_with_len (a + 1) n)) (h a (omega arith) (omega arith)) ∙ some_at Q (a + 1) n p c (omega arith) (omega arith) (λ k g i. h k (omega arith) i) e)
    (cases_eq a p)
