-- The elements of a list of which a part was written.
use Rattle.std.proofs.Common.{◌≡◌, ℕ, ◌+◌, ◌<◌, ◌≤◌, List, length, get_or, rules}
use Rattle.std.proofs.lemmas.List.{places}
use borrow.Rule.Slice.PartMut.{put_mid}

module _ {A : Type 0} (a k : ℕ) (xs ys : List A) (d : A) (inside : a + k ≤ length xs) (long : length ys ≡ k) where
  pub before_part : (i : ℕ) → i < a → get_or (put_mid a k xs ys) i d ≡ get_or xs i d
  before_part i h = search (rules, places)

  pub within_part : (i : ℕ) → i < k → get_or (put_mid a k xs ys) (a + i) d ≡ get_or ys i d
  within_part i h = search (rules, places)

  pub after_part : (i : ℕ) → a + k ≤ i → get_or (put_mid a k xs ys) i d ≡ get_or xs i d
  after_part i h = search (rules, places)
