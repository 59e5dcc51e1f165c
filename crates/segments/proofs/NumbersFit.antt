-- The sum of a weight and a distance fits its type.
use Rattle.std.proofs.Common.{ℕ, ◌+◌, ◌≤◌, w32, Fits, rules}

pub fits_sum : (w x : ℕ) → w ≤ 65535 → x ≤ 4128705 → Fits w32 (w + x)
fits_sum w x h k = search rules
