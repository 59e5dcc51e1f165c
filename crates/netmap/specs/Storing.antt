-- Storing a map: what it asks, what it leaves, and that what it wrote opens as the same network.
use Rattle.std.specs.Prelude.{◌≡◌, ℕ, List, [], ◌∷◌, ◌++◌, length, drop, None, Option, nat_le}
use Rattle.questions.specs.declared.denial.Denial.{Denial}
use Rattle.questions.specs.declared.denial.Question.TheVariants.{StoreSpace}
use Rattle.questions.specs.Asking.{asks, first_no}
use Rattle.questions.specs.Denials.{of_file}
use Rattle.netmap.specs.Layout.{encode, image_size, Images}
use Rattle.netmap.specs.Net.{Net, places}
use Rattle.netmap.specs.Reading.{image_denial}

-- of the network and the length of the space
abbrev pub store_denial : Net → ℕ → Option Denial
store_denial net room = first_no (asks (of_file StoreSpace room) (nat_le (image_size (places net)) room) ∷ [])

-- the image at the front, the rest as it was
abbrev pub stored : Net → List ℕ → List ℕ
stored net space = encode net ++ drop (length (encode net)) space

-- the bytes open, and as no other network
pub record OpensAs (bs : List ℕ) (net : Net) : Type 0 where
  pub granted : image_denial bs ≡ None
  pub same : (other : Net) → Images bs other → other ≡ net
