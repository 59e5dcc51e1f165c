-- Rounding up to grains, and that it makes no number larger.
use Rattle.std.proofs.Common.{ℕ, ◌+◌, ◌-◌, ◌*◌, ◌<◌, ◌≤◌, add-mul, arith}
use Rattle.std.proofs.lemmas.Nat.{div_below, mul-le}
use Rattle.segments.specs.Segments.{grains_of}

pub grains_small : (g d : ℕ) → 1 ≤ g → grains_of g d ≤ d
grains_small g d h =
    let m : d * 1 ≤ d * g = mul-le d 1 d g (omega arith) h in
    let s : d + (g - 1) < (d + 1) * g = omega (arith, m, add-mul d 1 g) in
    omega (arith, div_below (d + (g - 1)) g (d + 1) (omega arith) s)
