-- What a decoded character says of the bytes in front: it is a scalar value, and they are its encoding.
use Prim.Native.Nat.{ℕ, zero, suc, ◌+◌, ◌*◌, ◌/◌, ◌%◌, ◌≤◌, ◌<◌}
use mathlib.Core.Bool.{true}
use mathlib.Core.List.{List, [], ◌∷◌, ◌++◌}
use mathlib.Core.Path.{◌≡◌, refl, sym, ◌∙◌, ap, ap₂}
use native.Mathlib.Omega.{arith}
use borrow.Author.Tests.{le-leb, lt-leb}
use lib.ListN.{length, get_or, drop}
use lib.Seq.{drop-cons}
use Rattle.utf8.specs.Utf8.{lead_of, from2, from3, from4, decode_as, decode1, width, encode1, scalar, Decoded, Char, Bad, End}
use Rattle.std.specs.Prelude.{Option}
use Rattle.utf8.specs.declared.Lead.{Lead}
use Rattle.utf8.proofs.Tests.{by_within}
use Rattle.utf8.proofs.Width.{encode_1, encode_2, encode_3, encode_4, width_1, width_2, width_3, width_4}

-- a byte that is not 0 is there
pub there : (s : List ℕ) (i : ℕ) → 1 ≤ get_or s i 0 → i < length s
there [] i h = absurd (omega arith)
there (b ∷ s) zero h = omega arith
there (b ∷ s) (suc i) h = let k : i < length s = there s i h in omega arith

pub record IsChar (bs : List ℕ) (c w : ℕ) : Type 0 where
  pub wide : w ≡ width c
  pub some : 1 ≤ w
  pub room : w ≤ length bs
  pub real : scalar c ≡ true
  pub same : bs ≡ encode1 c ++ drop w bs

abbrev pub Say : List ℕ → Decoded → Type 0
Say bs (Char c w) = IsChar bs c w
Say bs Bad = 1 ≤ length bs
Say bs End = length bs ≡ 0

scalar_low : (c : ℕ) → c ≤ 0xd7ff → scalar c ≡ true
scalar_low c h = rw (le-leb c 0xd7ff h)

scalar_high : (c : ℕ) → 0xe000 ≤ c → c ≤ 0x10ffff → scalar c ≡ true
scalar_high c g h = rw (lt-leb c 0xd7ff (omega arith), le-leb 0xe000 c g, le-leb c 0x10ffff h)

-- the bytes in front, where they are there
front1 : (s : List ℕ) → 1 ≤ length s → s ≡ get_or s 0 0 ∷ drop 1 s
front1 s h = drop-cons s 0 0 h

front2 : (s : List ℕ) → 2 ≤ length s → s ≡ get_or s 0 0 ∷ get_or s 1 0 ∷ drop 2 s
front2 s h = front1 s (omega arith) ∙ ap (λ l. get_or s 0 0 ∷ l) (drop-cons s 1 0 h)

front3 : (s : List ℕ) → 3 ≤ length s → s ≡ get_or s 0 0 ∷ get_or s 1 0 ∷ get_or s 2 0 ∷ drop 3 s
front3 s h = front2 s (omega arith) ∙ ap (λ l. get_or s 0 0 ∷ get_or s 1 0 ∷ l) (drop-cons s 2 0 h)

-- the low bits keep the order of bytes that continue a character
low_bits : (x y : ℕ) → 0x80 ≤ x → x ≤ y → y ≤ 0xbf → x % 64 ≤ y % 64
low_bits x y g h k = omega arith

-- the bytes that a value's digits to the base 64 came from
split2 : (b b1 : ℕ) → 0xc0 ≤ b → b ≤ 0xdf → 0x80 ≤ b1 → b1 ≤ 0xbf → let v = b % 32 * 64 + b1 % 64 in (b ≡ 0xc0 + v / 64) × (b1 ≡ 0x80 + v % 64)
split2 b b1 g h p q = (omega arith, omega arith)

split3 : (b b1 b2 : ℕ) → 0xe0 ≤ b → b ≤ 0xef → 0x80 ≤ b1 → b1 ≤ 0xbf → 0x80 ≤ b2 → b2 ≤ 0xbf → let v = b % 16 * 4096 + b1 % 64 * 64 + b2 % 64 in (b ≡ 0xe0 + v / 4096) × (b1 ≡ 0x80 + v / 64 % 64) × (b2 ≡ 0x80 + v % 64)
split3 b b1 b2 g h p q r s = (omega arith, omega arith, omega arith)

split4 : (b b1 b2 b3 : ℕ) → 0xf0 ≤ b → b ≤ 0xf7 → 0x80 ≤ b1 → b1 ≤ 0xbf → 0x80 ≤ b2 → b2 ≤ 0xbf → 0x80 ≤ b3 → b3 ≤ 0xbf → let v = b % 8 * 262144 + b1 % 64 * 4096 + b2 % 64 * 64 + b3 % 64 in (b ≡ 0xf0 + v / 262144) × (b1 ≡ 0x80 + v / 4096 % 64) × (b2 ≡ 0x80 + v / 64 % 64) × (b3 ≡ 0x80 + v % 64)
split4 b b1 b2 b3 g h p q r s t u = (omega arith, omega arith, omega arith, omega arith)

module _ (b : ℕ) (bs : List ℕ) where
  one_says : b ≤ 0x7f → Say (b ∷ bs) (Char b 1)
  one_says h = record { wide = sym (width_1 b h); some = omega arith; room = omega arith; real = scalar_low b (omega arith); same = rw (encode_1 b h) }

  two_says : 0xc2 ≤ b → b ≤ 0xdf → Say (b ∷ bs) (from2 b (get_or bs 0 0))
  two_says g h =
      let b1 = get_or bs 0 0 in
      let v = b % 32 * 64 + b1 % 64 in
      by_within (Say (b ∷ bs)) 0x80 b1 0xbf
      (λ p q.
      let k : 1 ≤ length bs = there bs 0 (omega arith) in
      let lo : 0x80 ≤ v = omega arith in
      let hi : v ≤ 0x7ff = omega arith in
      let e = split2 b b1 (omega arith) h p q in
      record {
        wide = sym (width_2 v lo hi);
        some = omega arith;
        room = omega arith;
        real = scalar_low v (omega arith);
        same = rw (encode_2 v lo hi) (ap₂ (λ x l. x ∷ l) e.0 (front1 bs k ∙ ap (λ x. x ∷ drop 1 bs) e.1));
      })
      (omega arith)

  three_says : (a z : ℕ) → 0xe0 ≤ b → b ≤ 0xef → 0x80 ≤ a → z ≤ 0xbf → 0x800 ≤ b % 16 * 4096 + a % 64 * 64
      → ((v : ℕ) → b % 16 * 4096 + a % 64 * 64 ≤ v → v ≤ b % 16 * 4096 + z % 64 * 64 + 63 → scalar v ≡ true)
      → Say (b ∷ bs) (from3 a z b (get_or bs 0 0) (get_or bs 1 0))
  three_says a z g h k l m real =
      let b1 = get_or bs 0 0 in
      let b2 = get_or bs 1 0 in
      let v = b % 16 * 4096 + b1 % 64 * 64 + b2 % 64 in
      by_within (Say (b ∷ bs)) a b1 z
      (λ p q. by_within (Say (b ∷ bs)) 0x80 b2 0xbf
      (λ r s.
      let k2 : 2 ≤ length bs = there bs 1 (omega arith) in
      let lo : 0x800 ≤ v = omega arith in
      let hi : v ≤ 0xffff = omega arith in
      let e = split3 b b1 b2 g h (omega arith) (omega arith) r s in
      record {
        wide = sym (width_3 v lo hi);
        some = omega arith;
        room = omega arith;
        real = real v (omega arith) (omega arith);
        same = rw (encode_3 v lo hi) (ap₂ (λ x t. x ∷ t) e.0 (front2 bs k2 ∙ ap₂ (λ x y. x ∷ y ∷ drop 2 bs) e.1 e.2));
      })
      (omega arith))
      (omega arith)

  four_says : (a z : ℕ) → 0xf0 ≤ b → b ≤ 0xf4 → 0x80 ≤ a → z ≤ 0xbf → 0x10000 ≤ b % 8 * 262144 + a % 64 * 4096 → b % 8 * 262144 + z % 64 * 4096 + 4095 ≤ 0x10ffff
      → Say (b ∷ bs) (from4 a z b (get_or bs 0 0) (get_or bs 1 0) (get_or bs 2 0))
  four_says a z g h k l m n =
      let b1 = get_or bs 0 0 in
      let b2 = get_or bs 1 0 in
      let b3 = get_or bs 2 0 in
      let v = b % 8 * 262144 + b1 % 64 * 4096 + b2 % 64 * 64 + b3 % 64 in
      by_within (Say (b ∷ bs)) a b1 z
      (λ p q. by_within (Say (b ∷ bs)) 0x80 b2 0xbf
      (λ r s. by_within (Say (b ∷ bs)) 0x80 b3 0xbf
      (λ t u.
      let k3 : 3 ≤ length bs = there bs 2 (omega arith) in
      let m1 : a % 64 ≤ b1 % 64 = low_bits a b1 k p (omega arith) in
      let m2 : b1 % 64 ≤ z % 64 = low_bits b1 z (omega arith) q l in
      let lo : 0x10000 ≤ v = omega arith in
      let hi : v ≤ 0x10ffff = omega arith in
      let e = split4 b b1 b2 b3 g (omega arith) (omega arith) (omega arith) r s t u in
      record {
        wide = sym (width_4 v lo);
        some = omega arith;
        room = omega arith;
        real = scalar_high v (omega arith) hi;
        same = rw (encode_4 v lo) (ap₂ (λ x y. x ∷ y) e.0 (front3 bs k3 ∙ ap₂ (λ x y. x ∷ y) e.1 (ap₂ (λ x y. x ∷ y ∷ drop 3 bs) e.2 e.3)));
      })
      (omega arith))
      (omega arith))
      (omega arith)

pub decode_says : (bs : List ℕ) → Say bs (decode1 bs)
unfolding decode1 lead_of
decode_says [] = refl
decode_says (b ∷ bs) =
    by_within P 0x00 b 0x7f (λ _. one_says b bs)
    (by_within P 0xc2 b 0xdf (two_says b bs)
    (by_within P 0xe0 b 0xe0 (λ g h. three_says b bs 0xa0 0xbf g (omega arith) (omega arith) (omega arith) (omega arith) (λ v p q. scalar_low v (omega arith)))
    (by_within P 0xe1 b 0xec (λ g h. three_says b bs 0x80 0xbf (omega arith) (omega arith) (omega arith) (omega arith) (omega arith) (λ v p q. scalar_low v (omega arith)))
    (by_within P 0xed b 0xed (λ g h. three_says b bs 0x80 0x9f (omega arith) (omega arith) (omega arith) (omega arith) (omega arith) (λ v p q. scalar_low v (omega arith)))
    (by_within P 0xee b 0xef (λ g h. three_says b bs 0x80 0xbf (omega arith) (omega arith) (omega arith) (omega arith) (omega arith) (λ v p q. scalar_high v (omega arith) (omega arith)))
    (by_within P 0xf0 b 0xf0 (λ g h. four_says b bs 0x90 0xbf (omega arith) (omega arith) (omega arith) (omega arith) (omega arith) (omega arith))
    (by_within P 0xf1 b 0xf3 (λ g h. four_says b bs 0x80 0xbf (omega arith) (omega arith) (omega arith) (omega arith) (omega arith) (omega arith))
    (by_within P 0xf4 b 0xf4 (λ g h. four_says b bs 0x80 0x8f (omega arith) (omega arith) (omega arith) (omega arith) (omega arith) (omega arith))
    (omega arith)))))))))
  where
    P : Option Lead → Type 0
    P l = Say (b ∷ bs) (decode_as l b (get_or bs 0 0) (get_or bs 1 0) (get_or bs 2 0))
