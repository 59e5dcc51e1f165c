-- The image of a network: its bytes, numbers with the high byte first.
use Rattle.std.specs.Prelude.{◌≡◌, ℕ, ◌+◌, ◌*◌, ◌/◌, ◌%◌, List, [], ◌∷◌, ◌++◌, replicate, Some, None, Option}
use Rattle.std.specs.List.{flat_map}
use Rattle.netmap.specs.declared.link.Link.{Link}
use Rattle.netmap.specs.Net.{Net, Sound, places}

abbrev pub two_bytes : ℕ → List ℕ
two_bytes n = (n / 256 % 256) ∷ (n % 256) ∷ []

abbrev pub four_bytes : ℕ → List ℕ
four_bytes n = (n / 16777216 % 256) ∷ (n / 65536 % 256) ∷ (n / 256 % 256) ∷ (n % 256) ∷ []

-- an empty place is FF FF in the ends array, and ten 00 in the figures array
abbrev pub ends : Option Link → List ℕ
ends None = 255 ∷ 255 ∷ []
ends (Some l) = l.tail ∷ l.head ∷ []

abbrev pub figures : Option Link → List ℕ
figures None = replicate 10 0
figures (Some l) = two_bytes l.weight ++ (four_bytes l.delay.0 ++ four_bytes l.figure)

-- the sizes, the ends array, the figures array
abbrev pub encode : Net → List ℕ
encode net = two_bytes net.nodes ++ (two_bytes (places net) ++ (flat_map ends net.links ++ flat_map figures net.links))

-- the length of an image of so many places
abbrev pub image_size : ℕ → ℕ
image_size count = 4 + 12 * count

-- the bytes are the image of the network, which is within the limits
pub record Images (bs : List ℕ) (net : Net) : Type 0 where
  pub sound : Sound net
  pub whole : encode net ≡ bs
