-- The lines of places: what is written and what is still to come make the whole.
use Rattle.std.proofs.Common.{◌≡◌, ℕ, List, ◌++◌, drop}
use Rattle.netmap.specs.Net.{Net}
use Rattle.netmap.specs.Texts.{places_text}

-- from the text at the start, that before the line of place k
abbrev pub LinesTo : Net → List ℕ → ℕ → List ℕ → Type 0
LinesTo net start k text = text ++ places_text k (drop k net.links) ≡ start ++ places_text 0 net.links
