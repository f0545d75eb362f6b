-- No two answers satisfy the contract of a public function: the contracts are those that the functions are proved against.
use Rattle.std.proofs.Common.{◌≡◌, ℕ, Bool, sym, refl, ◌∙◌}
use Rattle.utf8.proofs.Unique.{one}
use Rattle.classes.specs.Classes.{Said, gives, says, answer}
use Rattle.classes.specs.declared.Class.{Class}
use Rattle.std.specs.Prelude.{Result, Ok, Err}
use Rattle.classes.specs.declared.NoScalar.{NoScalar}
use Rattle.classes.proofs.table.Reads as table
use Rattle.classes.proofs.rank_of.Reads as rank_of
use Rattle.classes.proofs.class_at.Reads as class_at
use Rattle.classes.proofs.class_of.Reads as class_of
use Rattle.classes.proofs.class_of_scalar.Reads as class_of_scalar
use Rattle.classes.proofs.is_upper_ascii.Reads as is_upper_ascii
use Rattle.classes.proofs.is_letter.Reads as is_letter
use Rattle.classes.proofs.is_digit.Reads as is_digit
use Rattle.classes.proofs.is_ascii_ws.Reads as is_ascii_ws

back : Said Class → Result Class NoScalar
back (gives k) = Ok k
back (says n place) = Err (record {})

back_answer : (x : Result Class NoScalar) → back (answer x) ≡ x
unfolding back
back_answer (Ok k) = refl
back_answer (Err _) = refl

pub class_of_one : (κs : _) (a : _) (e e' : _) {x y : Result Class NoScalar} → class_of.Post κs a x e → class_of.Post κs a y e' → x ≡ y
class_of_one κs a e e' p q = one answer back back_answer p q

pub class_at_one : (κs : _) (a : _) (e e' : _) {x y : Class} → class_at.Post κs a x e → class_at.Post κs a y e' → x ≡ y
class_at_one κs a e e' p q = p ∙ sym q

pub table_one : (κs : _) (a : _) (e e' : _) (x y : _) → table.Post κs a x e → table.Post κs a y e' → x.now ≡ y.now
table_one κs a e e' x y p q = p ∙ sym q

pub class_of_scalar_one : (κs : _) (a : _) (e e' : _) {x y : Class} → class_of_scalar.Post κs a x e → class_of_scalar.Post κs a y e' → x ≡ y
class_of_scalar_one κs a e e' p q = p ∙ sym q

pub rank_one : (κs : _) (a : _) (e e' : _) {x y : ℕ} → rank_of.Post κs a x e → rank_of.Post κs a y e' → x ≡ y
rank_one κs a e e' p q = p ∙ sym q

pub upper_one : (κs : _) (a : _) (e e' : _) {x y : Bool} → is_upper_ascii.Post κs a x e → is_upper_ascii.Post κs a y e' → x ≡ y
upper_one κs a e e' p q = p ∙ sym q

pub letter_one : (κs : _) (a : _) (e e' : _) {x y : Bool} → is_letter.Post κs a x e → is_letter.Post κs a y e' → x ≡ y
letter_one κs a e e' p q = p ∙ sym q

pub digit_one : (κs : _) (a : _) (e e' : _) {x y : Bool} → is_digit.Post κs a x e → is_digit.Post κs a y e' → x ≡ y
digit_one κs a e e' p q = p ∙ sym q

pub white_one : (κs : _) (a : _) (e e' : _) {x y : Bool} → is_ascii_ws.Post κs a x e → is_ascii_ws.Post κs a y e' → x ≡ y
white_one κs a e e' p q = p ∙ sym q
