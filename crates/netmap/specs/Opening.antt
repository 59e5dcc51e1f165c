-- What opening a map asks of its sizes, and the network that it leaves.
use Rattle.std.specs.Prelude.{ℕ, ◌&&◌, List, [], ◌∷◌, replicate, Some, None, Option, nat_le}
use Rattle.questions.specs.declared.denial.Denial.{Denial}
use Rattle.questions.specs.declared.denial.Question.TheVariants.{NodeCount, PlaceCount}
use Rattle.netmap.specs.declared.link.Link.{Link}
use Rattle.questions.specs.Asking.{Asked, asks, first_no}
use Rattle.questions.specs.Denials.{of_map}
use Rattle.netmap.specs.Net.{Net}

-- what a map means before it is opened
abbrev pub no_places : Net
no_places = record { nodes = 1; links = [] }

abbrev pub all_empty : ℕ → ℕ → Net
all_empty nodes count = record { nodes = nodes; links = replicate count None }

-- the network of the records, with no places until the node count is settled
abbrev pub net_over : Option ℕ → List (Option Link) → Net
net_over None records = no_places
net_over (Some n) records = record { nodes = n; links = records }

abbrev pub size_questions : ℕ → ℕ → List Asked
size_questions nodes count =
    asks (of_map NodeCount 0) (nat_le 1 nodes && nat_le nodes 64)
    ∷ asks (of_map PlaceCount 0) (nat_le count 256)
    ∷ []

abbrev pub size_denial : ℕ → ℕ → Option Denial
size_denial nodes count = first_no (size_questions nodes count)
