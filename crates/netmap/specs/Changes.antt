-- Read, put and remove: the questions that they ask of the network, what they reply, and the network that they leave.
use Rattle.std.specs.Prelude.{ℕ, not, ◌&&◌, List, [], ◌∷◌, ◌++◌, is_some, Some, None, Option, Result, ◌==◌, nat_le, nat_lt, slice_set}
use Rattle.questions.specs.declared.denial.Denial.{Denial}
use Rattle.questions.specs.declared.denial.Question.TheVariants.{EndsExist, EndsDiffer, WeightPositive, DelayLimit, FigureLimit, PlaceExists, PlaceFilled}
use Rattle.netmap.specs.declared.link.Link.{Link}
use Rattle.questions.specs.Asking.{Asked, asks, first_no, reply, unless}
use Rattle.questions.specs.Denials.{of_map}
use Rattle.netmap.specs.Net.{Net, places, link_at}

-- of a place, among so many
abbrev pub place_questions : ℕ → ℕ → List Asked
place_questions count p = asks (of_map PlaceExists p) (nat_lt p count) ∷ []

-- of a link for a place, among so many nodes
abbrev pub link_questions : ℕ → Link → ℕ → List Asked
link_questions n l p =
    asks (of_map EndsExist p) (nat_lt l.tail n && nat_lt l.head n)
    ∷ asks (of_map EndsDiffer p) (not (l.tail == l.head))
    ∷ asks (of_map WeightPositive p) (nat_lt 0 l.weight)
    ∷ asks (of_map DelayLimit p) (nat_le l.delay.0 100000)
    ∷ asks (of_map FigureLimit p) (nat_le l.figure 1000000)
    ∷ []

abbrev pub put_questions : ℕ → ℕ → ℕ → Link → List Asked
put_questions n count p l = place_questions count p ++ link_questions n l p

-- of what a place holds
abbrev pub held_questions : Option Link → ℕ → List Asked
held_questions o p = asks (of_map PlaceFilled p) (is_some o) ∷ []

abbrev pub filled_question : Net → ℕ → List Asked
filled_question net p = held_questions (link_at net p) p

abbrev pub remove_questions : Net → ℕ → List Asked
remove_questions net p = place_questions (places net) p ++ filled_question net p

abbrev pub read_denial : Net → ℕ → Option Denial
read_denial net p = first_no (place_questions (places net) p)

abbrev pub put_denial : Net → ℕ → Link → Option Denial
put_denial net p l = first_no (put_questions net.nodes (places net) p l)

abbrev pub remove_denial : Net → ℕ → Option Denial
remove_denial net p = first_no (remove_questions net p)

-- one place changed, all others as they were
abbrev pub with_place : Net → ℕ → Option Link → Net
with_place net p o = record { nodes = net.nodes; links = slice_set net.links p o }

abbrev pub after_put : Net → ℕ → Link → Net
after_put net p l = unless (put_denial net p l) (with_place net p (Some l)) net

abbrev pub after_remove : Net → ℕ → Net
after_remove net p = unless (remove_denial net p) (with_place net p None) net

abbrev pub read_reply : Net → ℕ → Result (Option Link) Denial
read_reply net p = reply (read_denial net p) (link_at net p)

abbrev pub put_reply : Net → ℕ → Link → Result (Unit {0}) Denial
put_reply net p l = reply (put_denial net p l) tt

abbrev pub remove_reply : Net → ℕ → Result (Unit {0}) Denial
remove_reply net p = reply (remove_denial net p) tt
