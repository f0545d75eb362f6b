-- A number's digits: those that `io::decimal` spells, and no more than hold it.
use Prim.Native.Nat.{ℕ, zero, suc, ◌+◌, ◌-◌, ◌*◌, ◌/◌, ◌%◌, ◌^◌, ◌<◌, ◌≤◌}
use mathlib.Core.List.{[], ◌∷◌, ◌++◌}
use mathlib.Core.Path.{◌≡◌, sym, ◌∙◌, ap, ap₂, subst}
use native.Mathlib.Omega.{arith}
use native.Mathlib.Nat.{pow-zero, pow-suc}
use lib.ListN.{length, length-append}
use borrow.Author.Tests.{lt-ltb, le-ltb}
use Rattle.io.specs.Digits.{hex_digit_ascii, last_digits, IsDigitCount}
use Rattle.utf8.proofs.Tests.{by_le}
use Rattle.listing.specs.Listing.{decimal_in, decimal}

one_digit : (n : ℕ) → n < 10 → n % 10 ≡ n
one_digit n h = omega arith

glyph_is : (n : ℕ) → hex_digit_ascii (n % 10) ≡ 48 + n % 10
glyph_is n = rw (lt-ltb (n % 10) 10 (omega arith))

power : (k : ℕ) → 10 ^ suc k ≡ 10 * 10 ^ k
power k = pow-suc 10 k ∙ omega arith

some : (k : ℕ) → 1 ≤ 10 ^ k
some zero = omega (arith, pow-zero 10)
some (suc k) = omega (arith, some k, power k)

spelled : (f k n : ℕ) → k ≤ f → n < 10 ^ suc k → (1 < suc k → 10 ^ k ≤ n) → decimal_in (suc f) n ≡ last_digits 10 (suc k) n
spelled f zero n m h l =
    let z : n < 10 = omega (arith, power 0, pow-zero 10) in
    rw (lt-ltb n 10 z) (sym (ap (λ x. x ∷ []) (glyph_is n ∙ ap (λ x. 48 + x) (one_digit n z))))
spelled zero (suc k) n m h l = absurd (omega arith)
spelled (suc f) (suc k) n m h l =
    let p : 10 ^ suc k ≤ n = l (omega arith) in
    let r = spelled f k (n / 10) (omega arith) (omega (arith, power (suc k))) (λ _. omega (arith, power k)) in
    rw (le-ltb n 10 (omega (arith, power k, some k))) (ap₂ (λ ds d. ds ++ (d ∷ [])) r (sym (glyph_is n)))

-- more digits, a greater number
grows : (k : ℕ) → k < 10 ^ k
grows zero = omega (arith, pow-zero 10)
grows (suc k) = omega (arith, grows k, power k)

pub decimal_spelled : (n k : ℕ) → IsDigitCount 10 1 n k → decimal n ≡ last_digits 10 k n
unfolding decimal
decimal_spelled n zero h = absurd (omega (arith, h.0))
decimal_spelled n (suc zero) h = spelled n zero n (omega arith) h.1 (λ l. absurd (omega arith))
decimal_spelled n (suc (suc k)) h =
    let e : suc (suc k) - 1 ≡ suc k = omega arith in
    let l : 10 ^ suc k ≤ n = subst (λ j. 10 ^ j ≤ n) e (h.2 (omega arith)) in
    spelled n (suc k) n (omega (arith, grows (suc k))) h.1 (λ _. l)

few : (f k n : ℕ) → n < 10 ^ suc k → length (decimal_in f n) ≤ suc k
few zero k n h = omega arith
few (suc f) zero n h = rw (lt-ltb n 10 (omega (arith, power 0, pow-zero 10))) (omega arith)
few (suc f) (suc k) n h =
    let r = few f k (n / 10) (omega (arith, power (suc k))) in
    by_le 10 n
    (λ g. rw (le-ltb n 10 g) (omega (arith, r, length-append (decimal_in f (n / 10)) ((48 + n % 10) ∷ []))))
    (λ g. rw (lt-ltb n 10 g) (omega arith))

pub decimal_few : (n k : ℕ) → n < 10 ^ suc k → length (decimal n) ≤ suc k
unfolding decimal
decimal_few n k h = few (suc n) k n h
