-- No two answers satisfy the contract of a public function: the contracts are those that the functions are proved against.
use mathlib.Core.Bool.{Bool}
use mathlib.Core.Path.{◌≡◌, refl, sym, ap, ◌∙◌}
use Prim.Native.Nat.{ℕ}
use Rattle.std.specs.Prelude.{Result, Ok, Err}
use Rattle.utf8.specs.Utf8.{Decoded, Char, Bad, End, Checked, Sound, BadAt, decoded, checked_as}
use Rattle.utf8.specs.declared.Char.{Char as CharOf}
use Rattle.utf8.specs.declared.NoChar.{NoChar}
use Rattle.utf8.specs.declared.NoChar.TheVariants.{Bad as BadChar, End as NoneLeft}
use Rattle.utf8.specs.declared.BadAt.{BadAt as BadPlace}
use Rattle.utf8.proofs.byte_at.Reads as byte_at
use Rattle.utf8.proofs.decode.Reads as decode
use Rattle.utf8.proofs.check.Reads as check
use Rattle.utf8.proofs.largest.Reads as largest
use Rattle.utf8.proofs.within.Reads as within

-- an answer that can be read back from what it stands for is fixed by it
pub one : {A B : Type 0} (say : A → B) (back : B → A) → ((x : A) → back (say x) ≡ x) → {x y : A} {b : B} → say x ≡ b → say y ≡ b → x ≡ y
one say back same {x} {y} p q = sym (same x) ∙ ap back (p ∙ sym q) ∙ same y

char_back : Decoded → Result CharOf NoChar
char_back (Char c w) = Ok (record { value = c; width = w })
char_back Bad = Err BadChar
char_back End = Err NoneLeft

char_same : (x : Result CharOf NoChar) → char_back (decoded x) ≡ x
unfolding char_back
char_same (Ok c) = refl
char_same (Err BadChar) = refl
char_same (Err NoneLeft) = refl

check_back : Checked → Result Unit BadPlace
check_back Sound = Ok tt
check_back (BadAt at) = Err (record { 0 = at })

check_same : (x : Result Unit BadPlace) → check_back (checked_as x) ≡ x
unfolding check_back
check_same (Ok _) = refl
check_same (Err e) = refl

pub decode_one : (κs : _) (a : _) (e e' : _) {x y : Result CharOf NoChar} → decode.Post κs a x e → decode.Post κs a y e' → x ≡ y
decode_one κs a e e' p q = one decoded char_back char_same p q

pub check_one : (κs : _) (a : _) (e e' : _) {x y : Result Unit BadPlace} → check.Post κs a x e → check.Post κs a y e' → x ≡ y
check_one κs a e e' p q = one checked_as check_back check_same p q

pub largest_one : (κs : _) (a : _) (e e' : _) {x y : ℕ} → largest.Post κs a x e → largest.Post κs a y e' → x ≡ y
largest_one κs a e e' p q = p ∙ sym q

pub within_one : (κs : _) (a : _) (e e' : _) {x y : Bool} → within.Post κs a x e → within.Post κs a y e' → x ≡ y
within_one κs a e e' p q = p ∙ sym q

pub byte_at_one : (κs : _) (a : _) (e e' : _) {x y : ℕ} → byte_at.Post κs a x e → byte_at.Post κs a y e' → x ≡ y
byte_at_one κs a e e' p q = p ∙ sym q
