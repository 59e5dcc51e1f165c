-- What an option holds is one value, and not nothing.
use Rattle.std.proofs.Common.{◌≡◌, ℕ, Some, None, Option, arith}

pub some_same : {A : Type 0} (o : Option A) (x y : A) → o ≡ Some x → o ≡ Some y → x ≡ y
some_same o x y p q = cc

pub none_some : {A : Type 0} (o : Option A) (x : A) → o ≡ None → o ≡ Some x → ⊥
none_some o x p q = let z : ◌≡◌ {A = ℕ} 0 1 = cc in omega arith
