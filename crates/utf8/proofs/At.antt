-- What stands at a place of a text, and the check's two answers. These are what the proof of a scanner cites.
use Prim.Native.Nat.{ℕ, suc, ◌+◌, ◌-◌, ◌<◌, ◌≤◌}
use native.Mathlib.Nat.{add-zero}
use mathlib.Core.List.{List, [], ◌∷◌}
use mathlib.Core.Path.{◌≡◌, ◌∙◌, ap, subst}
use native.Mathlib.Omega.{arith}
use borrow.Author.Tests.{eq-eqb, ne_eqb}
use lib.ListN.{length, get_or, take, drop, length-drop, drop_of_length-le}
use lib.Seq.{drop-cons, drop-drop, take_all, get_or-drop}
use Rattle.utf8.specs.Utf8.{lead_of, decode_as, decode1, chars, decode_at, chars_at, width, valid_length, checked, Char, Bad, End, Sound, BadAt}
use Rattle.utf8.proofs.Table.{lead_00}
use Rattle.utf8.proofs.Width.{encode_1}
use Rattle.utf8.proofs.Says.{Say, decode_says}
use Rattle.utf8.proofs.Chars.{char_is, by_front, chars_char, chars_bad, chars_end}

-- by whether a byte is there
pub decode_none : (s : List ℕ) (at : ℕ) → length s ≤ at → decode_at s at ≡ End
unfolding decode_at decode1
decode_none s at h = rw (drop_of_length-le s h)

pub decode_some : (s : List ℕ) (at : ℕ) → at < length s → decode_at s at ≡ decode_as (lead_of (get_or s at 0)) (get_or s at 0) (get_or s (at + 1) 0) (get_or s (at + 2) 0) (get_or s (at + 3) 0)
unfolding decode_at decode1
decode_some s at h =
    let e1 : suc at + 0 ≡ at + 1 = omega arith in
    let e2 : suc at + 1 ≡ at + 2 = omega arith in
    let e3 : suc at + 2 ≡ at + 3 = omega arith in
    rw (drop-cons s at 0) (simp (get_or-drop, e1, e2, e3))

-- a character at a place of a text: how wide it is, and that it is there
pub record At (s : List ℕ) (at c w : ℕ) : Type 0 where
  pub wide : w ≡ width c
  pub some : 1 ≤ w
  pub room : at + w ≤ length s
  pub then : chars_at s at ≡ c ∷ chars_at s (at + w)

pub at_char : (s : List ℕ) (at : ℕ) {c w : ℕ} → decode_at s at ≡ Char c w → At s at c w
unfolding decode_at chars_at
at_char s at e =
    let r = char_is (drop at s) e in
    record { wide = r.wide; some = r.some; room = omega (arith, r.room, r.some, length-drop at s); then = chars_char (drop at s) e ∙ rw drop-drop }

pub at_ascii : (s : List ℕ) (at : ℕ) {b : ℕ} → b ≡ get_or s at 0 → at < length s → b < 0x80 → At s at b 1
unfolding decode_at decode1
at_ascii s at {b} e g h = at_char s at (rw (drop-cons s at 0, ← e, lead_00 b (omega arith)))

pub record Stop (s : List ℕ) (at : ℕ) : Type 0 where
  pub there : at < length s
  pub none : chars_at s at ≡ []

pub at_bad : (s : List ℕ) (at : ℕ) → decode_at s at ≡ Bad → Stop s at
unfolding decode_at chars_at
at_bad s at e =
    let r : 1 ≤ length (drop at s) = subst (Say (drop at s)) e (decode_says (drop at s)) in
    record { there = omega (arith, length-drop at s); none = chars_bad (drop at s) e }

pub record Past (s : List ℕ) (at : ℕ) : Type 0 where
  pub there : length s ≤ at
  pub none : chars_at s at ≡ []

pub at_end : (s : List ℕ) (at : ℕ) → decode_at s at ≡ End → Past s at
unfolding decode_at chars_at
at_end s at e =
    let r : length (drop at s) ≡ 0 = subst (Say (drop at s)) e (decode_says (drop at s)) in
    record { there = omega (arith, length-drop at s); none = chars_end (drop at s) e }

pub at_past : (s : List ℕ) (at : ℕ) → length s ≤ at → Past s at
at_past s at h = at_end s at (decode_none s at h)

-- by the character at a place, or none
pub by_place : {P : Type 0} (s : List ℕ) (at : ℕ) → ((c w : ℕ) → decode_at s at ≡ Char c w → P) → (chars_at s at ≡ [] → P) → P
unfolding decode_at chars_at
by_place s at f g = by_front (drop at s) f g

-- an ASCII character is its byte
pub ascii_back : (s : List ℕ) (at : ℕ) {c w : ℕ} → decode_at s at ≡ Char c w → c ≤ 0x7f → get_or s at 0 ≡ c
unfolding decode_at
ascii_back s at {c} {w} e h =
    let q : drop at s ≡ c ∷ drop w (drop at s) = (char_is (drop at s) e).same ∙ rw (encode_1 c h) in
    rw (← (add-zero at), ← (get_or-drop at s 0 0), q)

-- what the code's `&s[at..]` is, and its characters
pub to_end : (s : List ℕ) (at : ℕ) → take (length s - at) (drop at s) ≡ drop at s
to_end s at = take_all (length s - at) (drop at s) (omega (arith, length-drop at s))

pub chars_to_end : (s : List ℕ) (at : ℕ) → chars (take (length s - at) (drop at s)) ≡ chars_at s at
unfolding chars_at
chars_to_end s at = ap chars (to_end s at)

-- the two answers of a check
pub checked_bad : (s : List ℕ) (at : ℕ) → valid_length s ≡ at → at < length s → BadAt at ≡ checked s
unfolding checked
checked_bad s at g h = rw (g, ne_eqb at (length s) (λ q. omega arith))

pub checked_valid : (s : List ℕ) → valid_length s ≡ length s → Sound ≡ checked s
unfolding checked
checked_valid s g = rw (eq-eqb (valid_length s) (length s) g)
