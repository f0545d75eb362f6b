-- The bytes of a character, and how many they are.
use Prim.Native.Nat.{ℕ, zero, suc, ◌+◌, ◌/◌, ◌%◌, ◌≤◌}
use mathlib.Core.List.{List, [], ◌∷◌, ◌++◌}
use mathlib.Core.Path.{◌≡◌, refl, sym}
use native.Mathlib.Omega.{arith}
use native.Mathlib.Nat.{zero-add, add_assoc}
use lib.ListN.{length, take, drop, length-append}
use borrow.Author.Tests.{le-leb, lt-leb}
use Rattle.utf8.specs.Utf8.{width, widths, encode1, encode}
use Rattle.utf8.proofs.Tests.{by_le}

-- by ranges
module _ (c : ℕ) where
  pub width_1 : c ≤ 0x7f → width c ≡ 1
  unfolding width
  width_1 h = rw (le-leb c 0x7f h)

  pub width_2 : 0x80 ≤ c → c ≤ 0x7ff → width c ≡ 2
  unfolding width
  width_2 g h = rw (lt-leb c 0x7f g, le-leb c 0x7ff h)

  pub width_3 : 0x800 ≤ c → c ≤ 0xffff → width c ≡ 3
  unfolding width
  width_3 g h = rw (lt-leb c 0x7f (omega arith), lt-leb c 0x7ff g, le-leb c 0xffff h)

  pub width_4 : 0x10000 ≤ c → width c ≡ 4
  unfolding width
  width_4 g = rw (lt-leb c 0x7f (omega arith), lt-leb c 0x7ff (omega arith), lt-leb c 0xffff g)

  pub encode_1 : c ≤ 0x7f → encode1 c ≡ c ∷ []
  unfolding encode1
  encode_1 h = rw (le-leb c 0x7f h)

  pub encode_2 : 0x80 ≤ c → c ≤ 0x7ff → encode1 c ≡ (0xc0 + c / 64) ∷ (0x80 + c % 64) ∷ []
  unfolding encode1
  encode_2 g h = rw (lt-leb c 0x7f g, le-leb c 0x7ff h)

  pub encode_3 : 0x800 ≤ c → c ≤ 0xffff → encode1 c ≡ (0xe0 + c / 4096) ∷ (0x80 + c / 64 % 64) ∷ (0x80 + c % 64) ∷ []
  unfolding encode1
  encode_3 g h = rw (lt-leb c 0x7f (omega arith), lt-leb c 0x7ff g, le-leb c 0xffff h)

  pub encode_4 : 0x10000 ≤ c → encode1 c ≡ (0xf0 + c / 262144) ∷ (0x80 + c / 4096 % 64) ∷ (0x80 + c / 64 % 64) ∷ (0x80 + c % 64) ∷ []
  unfolding encode1
  encode_4 g = rw (lt-leb c 0x7f (omega arith), lt-leb c 0x7ff (omega arith), lt-leb c 0xffff g)

-- by how many bytes a character has
pub by_width : {P : Type 0} (c : ℕ) → (c ≤ 0x7f → P) → (0x80 ≤ c → c ≤ 0x7ff → P) → (0x800 ≤ c → c ≤ 0xffff → P) → (0x10000 ≤ c → P) → P
by_width c f g h k = by_le c 0x7f f (λ a. by_le c 0x7ff (g a) (λ b. by_le c 0xffff (h b) k))

pub length_encode1 : (c : ℕ) → length (encode1 c) ≡ width c
length_encode1 c =
    by_width c (λ h. rw (encode_1 c h, width_1 c h)) (λ g h. rw (encode_2 c g h, width_2 c g h))
    (λ g h. rw (encode_3 c g h, width_3 c g h)) (λ g. rw (encode_4 c g, width_4 c g))

pub width_some : (c : ℕ) → 1 ≤ width c
width_some c =
    by_width c (λ h. omega (arith, width_1 c h)) (λ g h. omega (arith, width_2 c g h))
    (λ g h. omega (arith, width_3 c g h)) (λ g. omega (arith, width_4 c g))

-- of some characters
pub widths_encode : (cs : List ℕ) → widths cs ≡ length (encode cs)
unfolding widths encode
widths_encode [] = refl
widths_encode (c ∷ cs) = simp (length-append, length_encode1, widths_encode cs)

pub widths_append : (xs ys : List ℕ) → widths (xs ++ ys) ≡ widths xs + widths ys
unfolding widths
widths_append [] ys = sym (zero-add (widths ys))
widths_append (x ∷ xs) ys = rw (widths_append xs ys, add_assoc)

pub widths_split : (n : ℕ) (cs : List ℕ) → widths (take n cs) + widths (drop n cs) ≡ widths cs
unfolding widths
widths_split zero cs = omega arith
widths_split (suc n) [] = omega arith
widths_split (suc n) (c ∷ cs) = let h = widths_split n cs in omega arith

pub widths_some : (n c : ℕ) (cs : List ℕ) → 1 ≤ n → 1 ≤ widths (take n (c ∷ cs))
unfolding widths
widths_some zero c cs h = absurd (omega arith)
widths_some (suc n) c cs h = omega (arith, width_some c)
