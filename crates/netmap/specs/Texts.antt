-- The text of a map, line by line, for the person who enrols a carrier.
use Rattle.std.specs.Prelude.{◌≡◌, ℕ, ◌+◌, List, [], ◌∷◌, ◌++◌, Some, None, codes, decimal, Option}
use Rattle.questions.specs.declared.denial.Denial.{Denial}
use Rattle.netmap.specs.declared.link.Link.{Link}
use Rattle.questions.specs.Denials.{refusal}
use Rattle.questions.specs.Lines.{spaced, line}
use Rattle.netmap.specs.Layout.{Images}
use Rattle.netmap.specs.Net.{Net, places}
use Rattle.netmap.specs.Reading.{image_denial}

abbrev pub counts_text : ℕ → ℕ → List ℕ
counts_text nodes count = codes "map " ++ spaced (decimal nodes) (decimal count)

-- place, tail, head, weight, delay and figure
abbrev pub link_text : ℕ → Link → List ℕ
link_text p l = spaced (decimal p) (spaced (decimal l.tail) (spaced (decimal l.head) (spaced (decimal l.weight) (spaced (decimal l.delay.0) (decimal l.figure)))))

-- an empty place has no line
abbrev pub place_text : ℕ → Option Link → List ℕ
place_text p None = []
place_text p (Some l) = line (link_text p l)

-- the lines of places that count from p
abbrev pub places_text : ℕ → List (Option Link) → List ℕ
places_text p [] = []
places_text p (o ∷ os) = place_text p o ++ places_text (p + 1) os

-- the counts, then each filled place
abbrev pub listed : Net → List ℕ
listed net = line (counts_text net.nodes (places net)) ++ places_text 0 net.links

abbrev pub ReportsBy : Option Denial → List ℕ → List ℕ → Type 0
ReportsBy (Some d) bs text = text ≡ line (refusal d)
ReportsBy None bs text = (net : Net) × Images bs net × (text ≡ listed net)

-- the refusal of the bytes, or the listing of the network whose image they are
abbrev pub Reports : List ℕ → List ℕ → Type 0
Reports bs text = ReportsBy (image_denial bs) bs text
