-- A byte in lower case, as the library says it.
use Prim.Native.Nat.{ℕ}
use mathlib.Core.Path.{◌≡◌}
use native.Mathlib.Omega.{arith}
use Rattle.std.specs.Char.{to_ascii_lowercase}
use Rattle.std.proofs.lemmas.Bool.Decides.{nat_tests}
use Rattle.scanners.specs.Suffix.{lowered}

pub lowered_is : (b : ℕ) → to_ascii_lowercase b ≡ lowered b
lowered_is b = grind (arith, nat_tests)
