-- Questions that a call asks in turn: the first answered no denies it, and if none is, it is granted.
use Rattle.std.specs.Prelude.{◌≡◌, Bool, true, false, List, [], ◌∷◌, Some, None, Ok, Err, Option, Result}
use Rattle.questions.specs.declared.denial.Denial.{Denial}

-- a question's answer, and the denial told where that is no
pub record Asked : Type 0 where
  pub answer : Bool
  pub denial : Denial

abbrev pub asks : Denial → Bool → Asked
asks d b = record { answer = b; denial = d }

-- the denial of the first question answered no
abbrev pub first_no : List Asked → Option Denial
first_no [] = None
first_no (q ∷ qs) = elim q.answer [ true ↦ first_no qs | false ↦ Some q.denial ]

-- the denial, or what is granted
abbrev pub reply : {A : Type 0} → Option Denial → A → Result A Denial
reply None a = Ok a
reply (Some d) a = Err d

-- a check that says whether a call is denied, and what holds where it is not
abbrev pub Checks : Option Denial → Type 0 → Result (Unit {0}) Denial → Type 0
Checks d P (Ok u) = (d ≡ None) × P
Checks d P (Err x) = d ≡ Some x

-- a denial leaves all as it was
abbrev pub unless : {A : Type 0} → Option Denial → A → A → A
unless None changed was = changed
unless (Some d) changed was = was
