-- No two answers satisfy the contract of `Options::o200k`: the contract is the one that the function is proved against.
use mathlib.Core.Path.{◌≡◌, sym, ◌∙◌}
use Rattle.pattern.specs.declared.Options.{Options}
use Rattle.pattern.proofs.Options.o200k.Reads as o200k

pub o200k_one : (κs : _) (a : _) (e e' : _) {x y : Options} → o200k.Post κs a x e → o200k.Post κs a y e' → x ≡ y
o200k_one κs a e e' p q = p ∙ sym q
