-- Ranges as the rows of numbers that the code looks up, and what the rows say.
use Rattle.std.specs.Prelude.{ℕ, zero, suc, List, [], ◌∷◌}
use Rattle.classes.specs.Range.{Range, range}
use Rattle.classes.specs.Ranges.{ranges}
use Rattle.classes.specs.Classes.{class_in, white_space, rank}
use Rattle.classes.specs.declared.Class.{Class}
use Rattle.classes.specs.declared.Class.TheVariants.{Upper, Lower, Caseless, Mark, Number, Whitespace, Other}

-- the class of a rank
abbrev pub named : ℕ → Class
named zero = Upper
named (suc zero) = Lower
named (suc (suc zero)) = Caseless
named (suc (suc (suc zero))) = Mark
named (suc (suc (suc (suc zero)))) = Number
named (suc (suc (suc (suc (suc zero))))) = Whitespace
named (suc (suc (suc (suc (suc (suc n)))))) = Other

-- of each range its first value, its last, and the rank of its class
unfoldable pub rows_of : List Range → List ℕ
rows_of [] = []
rows_of (r ∷ rs) = r.from ∷ r.to ∷ rank r.is ∷ rows_of rs

unfoldable pub ranges_of : List ℕ → List Range
ranges_of [] = []
ranges_of (a ∷ []) = []
ranges_of (a ∷ z ∷ []) = []
ranges_of (a ∷ z ∷ k ∷ t) = range a z (named k) ∷ ranges_of t

unfoldable pub table : List ℕ
unfolding ranges rows_of
table = rows_of ranges

-- the class that a table says
unfoldable pub class_at : List ℕ → ℕ → Class
unfolding ranges_of class_in white_space
class_at t c = class_in (ranges_of t) c (class_in white_space c Other)
