-- No two answers satisfy the contract of `listing`: its length, and every byte of what was lent.
use mathlib.Core.Path.{◌≡◌, sym, ◌∙◌}
use Rattle.listing.proofs.listing.Reads as listing

pub listing_one : (κs : _) (a : _) (e e' : _) (x y : _) → listing.Post κs a x e → listing.Post κs a y e' → (x ≡ y) × (e.1.0.now ≡ e'.1.0.now)
listing_one κs a e e' x y p q = (p.1.0 ∙ sym q.1.0, p.1.1 ∙ sym q.1.1)
