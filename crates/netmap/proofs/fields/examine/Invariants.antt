use Rattle.std.proofs.Common.{◌≡◌, ℕ, ◌<◌, None}
use Rattle.questions.specs.Asking.{first_no}
use Rattle.netmap.specs.Reading.{two_at, field_questions, link_in}
use Rattle.netmap.proofs.fields.examine.Given as goal

abbrev pub invariant-loop-place : goal.invariant-loop-place
invariant-loop-place l = (k : ℕ) → k < l.place → first_no (field_questions (two_at l.bytes 0) (link_in (two_at l.bytes 2) l.bytes k) k) ≡ None
