-- The largest byte of a text, 0 if it has none.
use Rattle.std.specs.Prelude.{List, [], ◌∷◌, ℕ, max}

unfoldable pub largest : List ℕ → ℕ
largest [] = 0
largest (b ∷ bs) = max b (largest bs)
