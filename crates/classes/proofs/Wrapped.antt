-- What a byte test says that goes by the wrapped difference r from the first value of its range.
use Rattle.std.proofs.Common.{◌≡◌, ◌≢◌, ℕ, ltb, ◌^◌, ◌%◌, ◌+◌, ◌<◌, Bool, true, ◌||◌, eqb, sym, refl, ◌∙◌, arith, eq-eqb, ne_eqb}
use lib.Bits.{bit_or, or_lt}
use Rattle.std.specs.Char.{is_ascii_digit, is_ascii_alphabetic}
use Rattle.std.proofs.lemmas.Bool.{agree_below_at}
use Rattle.utf8.specs.Utf8.{pick, within}
use Rattle.classes.specs.Classes.{ascii_is, ascii_letter}
use Rattle.classes.specs.declared.Class.TheVariants.{Upper, Number, Whitespace}
use Rattle.classes.proofs.Bytes.{wrapped, upper_range, any_white, digit_test as digits, letter_test as letters}

pub digit_range : (b : ℕ) → b < 256 → within 48 b 57 ≡ ascii_is Number b
digit_range b h = agree_below_at (λ b. within 48 b 57) is_ascii_digit 256 b refl h ∙ digits b h

pub letter_range : (b : ℕ) → b < 256 → within 97 (bit_or b 32) 122 ≡ ascii_letter b
letter_range b h = agree_below_at (λ b. within 97 (bit_or b 32) 122) is_ascii_alphabetic 256 b refl h ∙ letters b h

abbrev is_blank : ℕ → Bool
is_blank b = pick (eqb b 32) true (within 9 b 13)

pub white_range : (b : ℕ) → b < 256 → is_blank b ≡ ascii_is Whitespace b
white_range b h = agree_below_at is_blank (λ b. eqb b 32 || within 9 b 13) 256 b refl h ∙ any_white b h

module _ (b r : ℕ) (hr : r < 256) (hb : b < 256) where
  pub upper_test : (r + 65) % 2 ^ 8 ≡ b → ltb r 26 ≡ ascii_is Upper b
  upper_test e = wrapped 65 26 b r hr hb (omega arith) (omega arith) e ∙ upper_range b hb

  pub digit_test : (r + 48) % 2 ^ 8 ≡ b → ltb r 10 ≡ ascii_is Number b
  digit_test e = wrapped 48 10 b r hr hb (omega arith) (omega arith) e ∙ digit_range b hb

  pub letter_test : (r + 97) % 2 ^ 8 ≡ bit_or b 32 → ltb r 26 ≡ ascii_letter b
  letter_test e = wrapped 97 26 (bit_or b 32) r hr (or_lt 8 b 32 hb (omega arith)) (omega arith) (omega arith) e ∙ letter_range b hb

  pub white_test : b ≢ 32 → (r + 9) % 2 ^ 8 ≡ b → ltb r 5 ≡ ascii_is Whitespace b
  white_test n e = wrapped 9 5 b r hr hb (omega arith) (omega arith) e ∙ rw (ne_eqb b 32 n) at (white_range b hb)

-- a byte that is white space, tested alone
pub blank_test : (k b : ℕ) → k < 256 → is_blank k ≡ true → b ≡ k → eqb b k ≡ ascii_is Whitespace b
blank_test k b hk t e = rw e (eq-eqb k k refl ∙ sym t ∙ white_range k hk)
