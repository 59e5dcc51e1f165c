-- Fields and lines of text.
use Rattle.std.specs.Prelude.{ℕ, List, ◌++◌, codes}

-- two fields, parted by one space
abbrev pub spaced : List ℕ → List ℕ → List ℕ
spaced a b = a ++ (codes " " ++ b)

abbrev pub line : List ℕ → List ℕ
line text = text ++ codes "\n"
