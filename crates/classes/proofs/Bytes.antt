-- What the classes say of a byte: tests of ranges, compared with the definition at each of the 256 bytes by computation. Only the
-- ranges that begin in ASCII are gone through, since the others are clear of it.
use Rattle.std.proofs.Common.{◌≡◌, ◌≢◌, ℕ, ltb, ◌^◌, ◌%◌, ◌+◌, zero, suc, ◌<◌, ◌≤◌, Bool, true, false, ◌||◌, eqb, leb, List, [], ◌∷◌, take, drop, sym, refl, ap, ◌∙◌, arith, leb-true, eq-eqb, ne_eqb, ◌-◌, le-ltb, lt-ltb}
use Rattle.std.specs.Char.{is_ascii_digit, is_ascii_alphabetic}
use Rattle.std.proofs.lemmas.Bool.{agree_below, agree_below_at}
use Rattle.utf8.specs.Utf8.{pick, within}
use Rattle.utf8.proofs.Tests.{by_bool, by_le, in_range, below, above}
use Rattle.classes.specs.Range.{Range, range}
use Rattle.classes.specs.Ranges.{ranges}
use Rattle.classes.specs.Classes.{class_in, class_of, white_space, same, is_letter, ascii_is, ascii_letter}
use Rattle.classes.specs.declared.Class.{Class}
use Rattle.classes.specs.declared.Class.TheVariants.{Upper, Caseless, Mark, Number, Whitespace, Other}
use Rattle.classes.proofs.Disjoint.{clear, class_past}

-- the first ranges, then the rest
class_split : (n : ℕ) (rs : List Range) (c : ℕ) (k : Class) → class_in rs c k ≡ class_in (take n rs) c (class_in (drop n rs) c k)
unfolding class_in
class_split zero rs c k = refl
class_split (suc n) [] c k = refl
class_split (suc n) (r ∷ rs) c k = by_bool (within r.from c r.to) (λ t. rw (t, class_in)) (λ f. rw (f, class_in) (class_split n rs c k))

-- the class of an ASCII character, by the three ranges that begin in ASCII
abbrev ascii_class : ℕ → Class
ascii_class b = class_in (take 3 ranges) b (class_in white_space b Other)

rest_clear : clear (range 0 0x7f Other) (drop 3 ranges) ≡ true
unfolding ranges
rest_clear = refl

ascii_class_lem : (b : ℕ) → b ≤ 0x7f → class_of b ≡ ascii_class b
unfolding class_of
ascii_class_lem b h =
    class_split 3 ranges b (class_in white_space b Other)
    ∙ ap (class_in (take 3 ranges) b) (class_past b (class_in white_space b Other) (range 0 0x7f Other) (drop 3 ranges) rest_clear (in_range 0 b 0x7f (omega arith) h))

ascii_by : (p : Class → Bool) (b : ℕ) → pick (leb b 0x7f) (p (class_of b)) false ≡ pick (leb b 0x7f) (p (ascii_class b)) false
ascii_by p b = by_bool (leb b 0x7f) (λ t. ap (λ k. pick (leb b 0x7f) (p k) false) (ascii_class_lem b (leb-true b 0x7f t))) (λ f. rw f)

-- a test of bytes that agrees with a test of their classes where they are ASCII, and fails elsewhere
tests : (f : ℕ → Bool) (p : Class → Bool) → agree_below f (λ b. pick (leb b 0x7f) (p (ascii_class b)) false) 256 ≡ true → (b : ℕ) → b < 256 → f b ≡ pick (leb b 0x7f) (p (class_of b)) false
tests f p e b h = agree_below_at f (λ b. pick (leb b 0x7f) (p (ascii_class b)) false) 256 b e h ∙ sym (ascii_by p b)

pub upper_range : (b : ℕ) → b < 256 → within 65 b 90 ≡ ascii_is Upper b
unfolding ranges white_space class_in
upper_range = tests (λ b. within 65 b 90) (same Upper) refl

pub digit_test : (b : ℕ) → b < 256 → is_ascii_digit b ≡ ascii_is Number b
unfolding ranges white_space class_in
digit_test = tests is_ascii_digit (same Number) refl

pub letter_test : (b : ℕ) → b < 256 → is_ascii_alphabetic b ≡ ascii_letter b
unfolding ranges white_space class_in
letter_test = tests is_ascii_alphabetic is_letter refl

-- white space is a blank, and 9 to 13
pub any_white : (b : ℕ) → b < 256 → (eqb b 32 || within 9 b 13) ≡ ascii_is Whitespace b
unfolding ranges white_space class_in
any_white = tests (λ b. eqb b 32 || within 9 b 13) (same Whitespace) refl

pub blank_test : (b : ℕ) → b < 256 → b ≡ 32 → true ≡ ascii_is Whitespace b
blank_test b h e = rw (eq-eqb b 32 e) at (any_white b h)

pub white_test : (b : ℕ) → b < 256 → b ≢ 32 → within 9 b 13 ≡ ascii_is Whitespace b
white_test b h n = rw (ne_eqb b 32 n) at (any_white b h)

-- ASCII has no caseless letter and no mark
pub ascii_plain : (b : ℕ) → b < 0x80 → (same Caseless (class_of b) || same Mark (class_of b)) ≡ false
unfolding ranges white_space class_in
ascii_plain b h =
    ap (λ k. same Caseless k || same Mark k) (ascii_class_lem b (omega arith))
    ∙ agree_below_at (λ b. same Caseless (ascii_class b) || same Mark (ascii_class b)) (λ _. false) 128 b refl h

-- a range of n bytes that begins at a, tested by the wrapped difference
pub wrapped : (a n b r : ℕ) → r < 256 → b < 256 → 1 ≤ n → a + n ≤ 256 → (r + a) % 2 ^ 8 ≡ b → ltb r n ≡ within a b (a + n - 1)
wrapped a n b r hr hb hn ha e =
    by_le n r
    (λ h. le-ltb r n h ∙ sym (by_le 256 (r + a) (λ k. below a b (a + n - 1) (omega arith)) (λ k. above a b (a + n - 1) (omega arith))))
    (λ h. lt-ltb r n h ∙ sym (in_range a b (a + n - 1) (omega arith) (omega arith)))

-- the difference from A, which is 65, is wrapped as the sum with 191
pub upper_test : (b : ℕ) → b < 256 → ltb ((b + 191) % 2 ^ 8) 26 ≡ ascii_is Upper b
upper_test b h = wrapped 65 26 b ((b + 191) % 2 ^ 8) (omega arith) h (omega arith) (omega arith) (omega arith) ∙ upper_range b h
