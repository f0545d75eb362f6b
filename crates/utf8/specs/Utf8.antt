-- UTF-8 by Table 3-7 of The Unicode Standard: the lead byte gives the length and the second byte's range; every later byte is 80 to BF.
use Rattle.std.specs.Prelude.{Bool, true, false, List, [], ◌∷◌, ◌++◌, ◌≡◌, ℕ, zero, suc, ◌+◌, ◌-◌, ◌*◌, ◌/◌, ◌%◌, length, get_or, drop, leb, ltb, eqb}
use Rattle.std.specs.Prelude.{Option, None, Some, Result, Ok, Err}
use Rattle.utf8.specs.declared.Lead.{Lead}
use Rattle.utf8.specs.declared.Lead.TheVariants.{One, Two, Three, Four}
use Rattle.utf8.specs.declared.Char.{Char as CharOf}
use Rattle.utf8.specs.declared.NoChar.{NoChar}
use Rattle.utf8.specs.declared.NoChar.TheVariants.{Bad as BadChar, End as NoneLeft}
use Rattle.utf8.specs.declared.BadAt.{BadAt as BadPlace}

abbrev pub pick : {A : Type 0} → Bool → A → A → A
pick true x y = x
pick false x y = y

-- a ≤ b ≤ z
abbrev pub within : ℕ → ℕ → ℕ → Bool
within a b z = pick (leb a b) (leb b z) false

-- a scalar value: below D800, or E000 to 10FFFF
abbrev pub scalar : ℕ → Bool
scalar c = pick (leb c 0xd7ff) true (within 0xe000 c 0x10ffff)

-- the nine ranges of lead bytes: how many bytes, and of three and four the second byte's range; of two it is 80 to BF
unfoldable pub lead_of : ℕ → Option Lead
lead_of b =
    pick (within 0x00 b 0x7f) (Some One)
    (pick (within 0xc2 b 0xdf) (Some Two)
    (pick (within 0xe0 b 0xe0) (Some (Three 0xa0 0xbf))
    (pick (within 0xe1 b 0xec) (Some (Three 0x80 0xbf))
    (pick (within 0xed b 0xed) (Some (Three 0x80 0x9f))
    (pick (within 0xee b 0xef) (Some (Three 0x80 0xbf))
    (pick (within 0xf0 b 0xf0) (Some (Four 0x90 0xbf))
    (pick (within 0xf1 b 0xf3) (Some (Four 0x80 0xbf))
    (pick (within 0xf4 b 0xf4) (Some (Four 0x80 0x8f))
    None))))))))

-- what stands at a place of some bytes: a character, by its scalar value and its width; an ill-formed sequence; nothing
pub data Decoded : Type 0 where
  Char : ℕ → ℕ → Decoded
  Bad : Decoded
  End : Decoded

-- a character of two, three and four bytes, from the low bits of each; a and z are the second byte's range
abbrev pub from2 : ℕ → ℕ → Decoded
from2 b b1 = pick (within 0x80 b1 0xbf) (Char (b % 32 * 64 + b1 % 64) 2) Bad

abbrev pub from3 : ℕ → ℕ → ℕ → ℕ → ℕ → Decoded
from3 a z b b1 b2 = pick (within a b1 z) (pick (within 0x80 b2 0xbf) (Char (b % 16 * 4096 + b1 % 64 * 64 + b2 % 64) 3) Bad) Bad

abbrev pub from4 : ℕ → ℕ → ℕ → ℕ → ℕ → ℕ → Decoded
from4 a z b b1 b2 b3 =
    pick (within a b1 z)
    (pick (within 0x80 b2 0xbf)
    (pick (within 0x80 b3 0xbf) (Char (b % 8 * 262144 + b1 % 64 * 4096 + b2 % 64 * 64 + b3 % 64) 4) Bad) Bad) Bad

-- the character of a lead byte b and the bytes after it
abbrev pub decode_as : Option Lead → ℕ → ℕ → ℕ → ℕ → Decoded
decode_as None b b1 b2 b3 = Bad
decode_as (Some One) b b1 b2 b3 = Char b 1
decode_as (Some Two) b b1 b2 b3 = from2 b b1
decode_as (Some (Three a z)) b b1 b2 b3 = from3 a z b b1 b2
decode_as (Some (Four a z)) b b1 b2 b3 = from4 a z b b1 b2 b3

-- what stands at the front of some bytes; a byte past the end counts as 0, which continues no character
unfoldable pub decode1 : List ℕ → Decoded
unfolding lead_of
decode1 [] = End
decode1 (b ∷ bs) = decode_as (lead_of b) b (get_or bs 0 0) (get_or bs 1 0) (get_or bs 2 0)

-- the characters of some bytes, up to the first ill-formed sequence; k bytes are passed over first
unfoldable pub chars_from : ℕ → List ℕ → List ℕ
unfolding decode1
chars_from k [] = []
chars_from zero (b ∷ bs) = elim (decode1 (b ∷ bs)) [ Char c w ↦ c ∷ chars_from (w - 1) bs | Bad ↦ [] | End ↦ [] ]
chars_from (suc k) (b ∷ bs) = chars_from k bs

unfoldable pub chars : List ℕ → List ℕ
unfolding chars_from
chars bs = chars_from 0 bs

-- the same from a place of a text on
unfoldable pub decode_at : List ℕ → ℕ → Decoded
unfolding decode1
decode_at s at = decode1 (drop at s)

unfoldable pub chars_at : List ℕ → ℕ → List ℕ
unfolding chars
chars_at s at = chars (drop at s)

-- how many bytes a character takes, and how many some characters take
unfoldable pub width : ℕ → ℕ
width c = pick (leb c 0x7f) 1 (pick (leb c 0x7ff) 2 (pick (leb c 0xffff) 3 4))

unfoldable pub widths : List ℕ → ℕ
widths [] = 0
widths (c ∷ cs) = width c + widths cs

-- the place of the first ill-formed sequence, or the length; a text is valid where it is the length
abbrev pub valid_length : List ℕ → ℕ
valid_length bs = widths (chars bs)

abbrev pub Valid : List ℕ → Type 0
Valid bs = valid_length bs ≡ length bs

-- what the check of a text says: that it is valid, or the place of its first ill-formed sequence
pub data Checked : Type 0 where
  Sound : Checked
  BadAt : ℕ → Checked

unfoldable pub checked : List ℕ → Checked
checked bs = pick (eqb (valid_length bs) (length bs)) Sound (BadAt (valid_length bs))

-- what the answers of the decoder and of the check stand for
abbrev pub decoded : Result CharOf NoChar → Decoded
decoded (Ok c) = Char c.value c.width
decoded (Err BadChar) = Bad
decoded (Err NoneLeft) = End

abbrev pub checked_as : Result Unit BadPlace → Checked
checked_as (Ok _) = Sound
checked_as (Err e) = BadAt e.0

-- of a text with these characters, the place of the first byte of the character that a place is in
unfoldable pub char_start : List ℕ → ℕ → ℕ
char_start [] at = 0
char_start (c ∷ cs) at = pick (ltb at (width c)) 0 (width c + char_start cs (at - width c))

-- the other way: the bytes of a character, and of some characters
unfoldable pub encode1 : ℕ → List ℕ
encode1 c =
    pick (leb c 0x7f) (c ∷ [])
    (pick (leb c 0x7ff) ((0xc0 + c / 64) ∷ (0x80 + c % 64) ∷ [])
    (pick (leb c 0xffff) ((0xe0 + c / 4096) ∷ (0x80 + c / 64 % 64) ∷ (0x80 + c % 64) ∷ [])
    ((0xf0 + c / 262144) ∷ (0x80 + c / 4096 % 64) ∷ (0x80 + c / 64 % 64) ∷ (0x80 + c % 64) ∷ [])))

unfoldable pub encode : List ℕ → List ℕ
encode [] = []
encode (c ∷ cs) = encode1 c ++ encode cs
