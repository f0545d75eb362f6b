-- A character outside ASCII, by two tests of its lead byte.
use Prim.Native.Nat.{ℕ, ◌+◌, ◌*◌, ◌%◌, ◌≤◌, ◌<◌}
use mathlib.Core.Bool.{Bool, true, false}
use mathlib.Core.List.{List}
use mathlib.Core.Path.{◌≡◌, sym, ◌∙◌}
use native.Mathlib.Omega.{arith}
use lib.ListN.{length, get_or}
use Rattle.utf8.specs.Utf8.{lead_of, pick, within, from2, from3, from4, decode_as, decode_at, Decoded, Char, Bad}
use Rattle.std.specs.Prelude.{Option}
use Rattle.utf8.specs.declared.Lead.{Lead}
use Rattle.utf8.proofs.Tests.{by_within}
use Rattle.utf8.proofs.At.{decode_some}

-- what the lead byte b of a character of value c and width w says, by where it lies
pub record Wide (b b1 b2 b3 c w : ℕ) : Type 0 where
  pub two : b < 0xe0 → Char c w ≡ Char (b % 32 * 64 + b1 % 64) 2
  pub three : 0xe0 ≤ b → b < 0xf0 → Char c w ≡ Char (b % 16 * 4096 + b1 % 64 * 64 + b2 % 64) 3
  pub four : 0xf0 ≤ b → Char c w ≡ Char (b % 8 * 262144 + b1 % 64 * 4096 + b2 % 64 * 64 + b3 % 64) 4

-- a sequence that passes its tests is the character that they guard
guarded : (t : Bool) {d : Decoded} {c w : ℕ} → pick t d Bad ≡ Char c w → d ≡ Char c w
guarded true e = e
guarded false e = absurd (let z : ◌≡◌ {A = ℕ} 0 1 = cc in omega arith)

module _ (b b1 b2 b3 c w : ℕ) where
  abbrev W : Option Lead → Type 0
  W l = decode_as l b b1 b2 b3 ≡ Char c w → Wide b b1 b2 b3 c w

  wide2 : b < 0xe0 → from2 b b1 ≡ Char c w → Wide b b1 b2 b3 c w
  wide2 h e = record { two = λ _. sym (guarded (within 0x80 b1 0xbf) e); three = λ g _. absurd (omega arith); four = λ g. absurd (omega arith) }

  wide3 : (a z : ℕ) → 0xe0 ≤ b → b < 0xf0 → from3 a z b b1 b2 ≡ Char c w → Wide b b1 b2 b3 c w
  wide3 a z g h e = record { two = λ k. absurd (omega arith); three = λ _ _. sym (guarded (within 0x80 b2 0xbf) (guarded (within a b1 z) e)); four = λ k. absurd (omega arith) }

  wide4 : (a z : ℕ) → 0xf0 ≤ b → from4 a z b b1 b2 b3 ≡ Char c w → Wide b b1 b2 b3 c w
  wide4 a z g e = record { two = λ k. absurd (omega arith); three = λ _ k. absurd (omega arith); four = λ _. sym (guarded (within 0x80 b3 0xbf) (guarded (within 0x80 b2 0xbf) (guarded (within a b1 z) e))) }

  wide : 0x80 ≤ b → W (lead_of b)
  unfolding lead_of
  wide h =
      by_within W 0x00 b 0x7f (λ _ k. absurd (omega arith))
      (by_within W 0xc2 b 0xdf (λ _ k. wide2 (omega arith))
      (by_within W 0xe0 b 0xe0 (λ g k. wide3 0xa0 0xbf g (omega arith))
      (by_within W 0xe1 b 0xec (λ g k. wide3 0x80 0xbf (omega arith) (omega arith))
      (by_within W 0xed b 0xed (λ g k. wide3 0x80 0x9f (omega arith) (omega arith))
      (by_within W 0xee b 0xef (λ g k. wide3 0x80 0xbf (omega arith) (omega arith))
      (by_within W 0xf0 b 0xf0 (λ g _. wide4 0x90 0xbf g)
      (by_within W 0xf1 b 0xf3 (λ g k. wide4 0x80 0xbf (omega arith))
      (by_within W 0xf4 b 0xf4 (λ g k. wide4 0x80 0x8f (omega arith))
      (λ e. absurd (let z : ◌≡◌ {A = ℕ} 0 1 = cc in omega arith))))))))))

pub wide_char : (s : List ℕ) (at : ℕ) {c w : ℕ} → at < length s → 0x80 ≤ get_or s at 0 → decode_at s at ≡ Char c w
    → Wide (get_or s at 0) (get_or s (at + 1) 0) (get_or s (at + 2) 0) (get_or s (at + 3) 0) c w
wide_char s at {c} {w} h g e = wide _ _ _ _ c w g (sym (decode_some s at h) ∙ e)
