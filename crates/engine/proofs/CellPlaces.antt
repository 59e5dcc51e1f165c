-- Where the cells of the table lie.
use Rattle.std.proofs.Common.{◌≡◌, ℕ, ◌+◌, ◌-◌, ◌*◌, ◌<◌, ◌≤◌, List, length, take, drop, get_or, None, Option, ap, ◌∙◌, mul-le-mul_right, arith}
use Rattle.std.proofs.lemmas.List.{get_or-take, get_or-drop}
use lib.Arith.{digits_lt}
use Rattle.engine.specs.Cells.{slot, best_of}

-- a cell of an earlier row lies before a later row
pub row_before : (w q p d : ℕ) → q < p → d < w → q * w + d < p * w
row_before w q p d h k = digits_lt h k

pub level_before : (n l m v : ℕ) → l < m → v < n → l * n + v < m * n
level_before n l m v h k = digits_lt h k

-- a cell of a lower level lies before each row of a higher one
pub slot_before : (n top l m u v d : ℕ) → l < m → u < n → d ≤ top → slot n top l u d < slot n top m v 0
slot_before n top l m u v d h k small =
    let a : l * n + u < m * n + v = omega (arith, level_before n l m u h k) in
    omega (arith, row_before (top + 1) (l * n + u) (m * n + v) d a (omega arith))

-- a cell of an earlier node lies before a later node's row
pub slot_left : (n top l u v d : ℕ) → u < v → d ≤ top → slot n top l u d < slot n top l v 0
slot_left n top l u v d h small = omega (arith, row_before (top + 1) (l * n + u) (l * n + v) d (omega arith) (omega arith))

-- the rows up to l end before the next level begins
pub slot_end : (n top l v d m : ℕ) → l < m → v < n → d ≤ top → slot n top l v d < m * n * (top + 1)
slot_end n top l v d m h k small = row_before (top + 1) (l * n + v) (m * n) d (level_before n l m v h k) (omega arith)

pub room_slot : (n top l v d limit long : ℕ) → l ≤ limit → v < n → d ≤ top → (limit + 1) * n * (top + 1) ≤ long → slot n top l v d < long
room_slot n top l v d limit long h k small room = omega (arith, slot_end n top l v d (limit + 1) (omega arith) k small)

-- a level begins with the row of its first node
pub level_first : (n top l v : ℕ) → slot n top l 0 0 ≤ slot n top l v 0
level_first n top l v = omega (arith, mul-le-mul_right {m = l * n + 0} {n = l * n + v} (top + 1) (omega arith))

-- the row of a node of one level lies before the next level
pub rests_below : (n top l v from long : ℕ) → v < n → from ≡ slot n top l v 0 → slot n top (l + 1) 0 0 ≤ long → from + top < long
rests_below n top l v from long node is room = omega (arith, is, slot_before n top l (l + 1) v 0 top (omega arith) node (omega arith), room)

-- and is read there
pub rests_read : {V : Type 0} (n top l v from : ℕ) (below : List (Option V)) → from ≡ slot n top l v 0 → from + top < length below → (j : ℕ) → j ≤ top → get_or (take (length below - from) (drop from below)) j None ≡ best_of n top below l j v
rests_read n top l v from below is inside j small = get_or-take (length below - from) (drop from below) j None (omega arith) ∙ get_or-drop from below j None ∙ ap (λ i. get_or below i None) (omega (arith, is))
