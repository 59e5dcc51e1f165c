-- Bytes that are written among others.
use Rattle.std.specs.Prelude.{◌≡◌, ℕ, ◌+◌, ◌<◌, ◌≤◌, ◌⊎◌, List, length, Option, slice_index}
use Rattle.netmap.specs.declared.link.Link.{Link}
use Rattle.netmap.specs.Layout.{ends, figures}
use Rattle.netmap.specs.Reading.{ends_at, figures_at}

-- the first w bytes of s stand from `at` on, and all others are as they were
pub record Written (old new : List ℕ) (at : ℕ) (s : List ℕ) (w : ℕ) : Type 0 where
  pub long : length new ≡ length old
  pub inside : (k : ℕ) → k < w → slice_index new (at + k) ≡ slice_index s k
  pub below : (k : ℕ) → k < at → slice_index new k ≡ slice_index old k
  pub past : (k : ℕ) → at + w ≤ k → slice_index new k ≡ slice_index old k

-- in an image of so many places, the bytes of a place are those of a link, or of none
pub record AtPlace (bs : List ℕ) (count p : ℕ) (o : Option Link) : Type 0 where
  pub ends : (j : ℕ) → j < 2 → slice_index bs (ends_at p + j) ≡ slice_index (ends o) j
  pub figures : (j : ℕ) → j < 10 → slice_index bs (figures_at count p + j) ≡ slice_index (figures o) j

-- no byte of the place
pub record Outside (count p i : ℕ) : Type 0 where
  pub ends : (i < ends_at p) ⊎ (ends_at p + 2 ≤ i)
  pub figures : (i < figures_at count p) ⊎ (figures_at count p + 10 ≤ i)

-- one place is written, and all other bytes are as they were
pub record PlaceWritten (old new : List ℕ) (count p : ℕ) (o : Option Link) : Type 0 where
  pub long : length new ≡ length old
  pub here : AtPlace new count p o
  pub elsewhere : (i : ℕ) → Outside count p i → slice_index new i ≡ slice_index old i
