-- The characters of some bytes, one at a time.
use Prim.Native.Nat.{ℕ, zero, suc, ◌+◌, ◌-◌, ◌≤◌}
use mathlib.Core.List.{List, [], ◌∷◌}
use mathlib.Core.Path.{◌≡◌, refl, ap, subst}
use native.Mathlib.Omega.{arith}
use lib.ListN.{take, drop}
use lib.Seq.{drop-drop}
use Rattle.utf8.specs.Utf8.{decode1, chars_from, chars, widths, Decoded, Char, Bad, End}
use Rattle.utf8.proofs.Says.{Say, IsChar, decode_says}

skip : (k : ℕ) (bs : List ℕ) → chars_from k bs ≡ chars (drop k bs)
unfolding chars chars_from
skip zero [] = refl
skip zero (b ∷ bs) = refl
skip (suc k) [] = refl
skip (suc k) (b ∷ bs) = skip k bs

-- what a decoded character says of the bytes
pub char_is : (bs : List ℕ) {c w : ℕ} → decode1 bs ≡ Char c w → IsChar bs c w
char_is bs e = subst (Say bs) e (decode_says bs)

-- the next character, and the characters after it
next : (b : ℕ) (bs : List ℕ) (c w : ℕ) → decode1 (b ∷ bs) ≡ Char c w → 1 ≤ w → chars (b ∷ bs) ≡ c ∷ chars (drop w (b ∷ bs))
unfolding chars chars_from
next b bs c zero e h = absurd (omega arith)
next b bs c (suc v) e h = let q : suc v - 1 ≡ v = omega arith in rw (e, chars_from, q) (ap (λ l. c ∷ l) (skip v bs))

pub chars_char : (bs : List ℕ) {c w : ℕ} → decode1 bs ≡ Char c w → chars bs ≡ c ∷ chars (drop w bs)
chars_char [] e = absurd (omega (arith, (char_is [] e).some, (char_is [] e).room))
chars_char (b ∷ bs) {c} {w} e = next b bs c w e (char_is (b ∷ bs) e).some

pub chars_nil : chars [] ≡ []
unfolding chars chars_from
chars_nil = refl

pub chars_bad : (bs : List ℕ) → decode1 bs ≡ Bad → chars bs ≡ []
unfolding chars chars_from
chars_bad [] e = refl
chars_bad (b ∷ bs) e = rw (e, chars_from)

pub chars_end : (bs : List ℕ) → decode1 bs ≡ End → chars bs ≡ []
unfolding chars chars_from
chars_end [] e = refl
chars_end (b ∷ bs) e = rw (e, chars_from)

-- by the character in front, or none
pub by_front : {P : Type 0} (bs : List ℕ) → ((c w : ℕ) → decode1 bs ≡ Char c w → P) → (chars bs ≡ [] → P) → P
by_front {P} bs f g = go (decode1 bs) refl
  where
    go : (d : Decoded) → decode1 bs ≡ d → P
    go (Char c w) e = f c w e
    go Bad e = g (chars_bad bs e)
    go End e = g (chars_end bs e)

-- the characters past the first n
pub chars_drop : (n : ℕ) (bs : List ℕ) → chars (drop (widths (take n (chars bs))) bs) ≡ drop n (chars bs)
unfolding widths
chars_drop zero bs = refl
chars_drop (suc n) bs =
    by_front bs
    (λ _ w e.
    let r = char_is bs e in
    let k : widths (take (suc n) (chars bs)) ≡ w + widths (take n (chars (drop w bs))) = rw (chars_char bs e, r.wide) in
    rw (k, ← (drop-drop (widths (take n (chars (drop w bs)))) w bs), chars_drop n (drop w bs), chars_char bs e))
    (λ e. simp e)
