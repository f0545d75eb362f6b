-- No two answers satisfy the contract of an exported function: its number, and what it leaves behind each reference.
use mathlib.Core.Path.{◌≡◌, sym, ◌∙◌}
use Rattle.njuxaleet.proofs.njuxaleet_next_end.Reads as next-end
use Rattle.njuxaleet.proofs.njuxaleet_fill.Reads as fill
use Rattle.njuxaleet.proofs.njuxaleet_class_of.Reads as class_of

pub next_end_one : (κs : _) (a : _) (e e' : _) (x y : _) → next-end.Post κs a x e → next-end.Post κs a y e' → (x ≡ y) × (e.1.1.1.1.1.0.now ≡ e'.1.1.1.1.1.0.now)
next_end_one κs a e e' x y p q = (p.0 ∙ sym q.0, p.1 ∙ sym q.1)

pub fill_one : (κs : _) (a : _) (e e' : _) (x y : _) → fill.Post κs a x e → fill.Post κs a y e'
    → (x ≡ y) × (e.1.1.1.1.1.0.now ≡ e'.1.1.1.1.1.0.now) × (e.1.1.1.1.1.1.0.now ≡ e'.1.1.1.1.1.1.0.now) × (e.1.1.1.1.1.1.1.0.now ≡ e'.1.1.1.1.1.1.1.0.now)
fill_one κs a e e' x y p q = (p.0 ∙ sym q.0, p.1.1.1 ∙ sym q.1.1.1, p.1.0 ∙ sym q.1.0, p.1.1.0 ∙ sym q.1.1.0)

pub class_of_one : (κs : _) (a : _) (e e' : _) (x y : _) → class_of.Post κs a x e → class_of.Post κs a y e' → (x ≡ y) × (e.1.0.now ≡ e'.1.0.now)
class_of_one κs a e e' x y p q = (p.0 ∙ sym q.0, p.1 ∙ sym q.1)
