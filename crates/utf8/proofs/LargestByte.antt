-- The largest byte of a text: no byte is above it, and it is found a byte at a time.
use Prim.Native.Nat.{ℕ, zero, suc, ◌+◌, ◌≤◌, ◌<◌, max}
use mathlib.Core.List.{List, [], ◌∷◌}
use mathlib.Core.Path.{◌≡◌, ap, ◌∙◌}
use native.Mathlib.Omega.{arith}
use lib.ListN.{length, get_or, drop, drop_of_length-le}
use lib.Seq.{drop-cons}
use Rattle.utf8.specs.LargestByte.{largest}

pub largest_bounds : (s : List ℕ) (k : ℕ) → get_or s k 0 ≤ largest s
unfolding largest
largest_bounds [] k = omega arith
largest_bounds (b ∷ s) zero = omega arith
largest_bounds (b ∷ s) (suc k) = omega (arith, largest_bounds s k)

-- from a place on: the byte there, and the rest
pub largest_step : (s : List ℕ) (i : ℕ) → i < length s → largest (drop i s) ≡ max (get_or s i 0) (largest (drop (i + 1) s))
unfolding largest
largest_step s i h = let e : suc i ≡ i + 1 = omega arith in ap largest (drop-cons s i 0 h) ∙ ap (λ n. max (get_or s i 0) (largest (drop n s))) e

pub largest_end : (s : List ℕ) (i : ℕ) → length s ≤ i → largest (drop i s) ≡ 0
unfolding largest
largest_end s i h = rw (drop_of_length-le s h)
