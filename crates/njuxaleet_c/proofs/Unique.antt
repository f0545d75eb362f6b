-- No two answers satisfy the contract of a function that C links: its number, and what it leaves behind each reference.
use mathlib.Core.Path.{◌≡◌}
use Rattle.njuxaleet.proofs.Unique as library
use Rattle.njuxaleet_c.proofs.njuxaleet_next_end.Reads as next_end
use Rattle.njuxaleet_c.proofs.njuxaleet_fill.Reads as fill
use Rattle.njuxaleet_c.proofs.njuxaleet_class_of.Reads as class_of

pub c_next_end_one : (κs : _) (a : _) (e e' : _) (x y : _) → next_end.Post κs a x e → next_end.Post κs a y e' → (x ≡ y) × (e.1.1.1.1.1.0.now ≡ e'.1.1.1.1.1.0.now)
c_next_end_one κs a e e' x y p q = library.next_end_one κs a e e' x y p q

pub c_fill_one : (κs : _) (a : _) (e e' : _) (x y : _) → fill.Post κs a x e → fill.Post κs a y e'
    → (x ≡ y) × (e.1.1.1.1.1.0.now ≡ e'.1.1.1.1.1.0.now) × (e.1.1.1.1.1.1.0.now ≡ e'.1.1.1.1.1.1.0.now) × (e.1.1.1.1.1.1.1.0.now ≡ e'.1.1.1.1.1.1.1.0.now)
c_fill_one κs a e e' x y p q = library.fill_one κs a e e' x y p q

pub c_class_of_one : (κs : _) (a : _) (e e' : _) (x y : _) → class_of.Post κs a x e → class_of.Post κs a y e' → (x ≡ y) × (e.1.0.now ≡ e'.1.0.now)
c_class_of_one κs a e e' x y p q = library.class_of_one κs a e e' x y p q
