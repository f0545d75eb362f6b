-- The class of a scalar value: by General_Category, then by White_Space, else Other.
use Rattle.std.specs.Prelude.{ℕ, Bool, true, false, ◌||◌, List, [], ◌∷◌, ◌==◌, nat_le, Result, Ok, Err}
use Rattle.utf8.specs.Utf8.{pick, within, scalar}
use Rattle.classes.specs.Range.{Range, range}
use Rattle.classes.specs.Ranges.{ranges}
use Rattle.classes.specs.declared.NoScalar.{NoScalar}
use Rattle.classes.specs.declared.Class.{Class}
use Rattle.classes.specs.declared.Class.TheVariants.{Upper, Lower, Caseless, Mark, Number, Whitespace, Other}

-- the eleven ranges of White_Space
unfoldable pub white_space : List Range
white_space =
    range 0x9 0xd Whitespace ∷
    range 0x20 0x20 Whitespace ∷
    range 0x85 0x85 Whitespace ∷
    range 0xa0 0xa0 Whitespace ∷
    range 0x1680 0x1680 Whitespace ∷
    range 0x2000 0x200a Whitespace ∷
    range 0x2028 0x2028 Whitespace ∷
    range 0x2029 0x2029 Whitespace ∷
    range 0x202f 0x202f Whitespace ∷
    range 0x205f 0x205f Whitespace ∷
    range 0x3000 0x3000 Whitespace ∷
    []

-- the class of the range that holds c; where none does, the one that is given
unfoldable pub class_in : List Range → ℕ → Class → Class
class_in [] c k = k
class_in (r ∷ rs) c k = elim (within r.from c r.to) [ true ↦ r.is | false ↦ class_in rs c k ]

unfoldable pub class_of : ℕ → Class
unfolding ranges white_space class_in
class_of c = class_in ranges c (class_in white_space c Other)

-- which class it is, by its place in document 01's order
abbrev pub rank : Class → ℕ
rank Upper = 0
rank Lower = 1
rank Caseless = 2
rank Mark = 3
rank Number = 4
rank Whitespace = 5
rank Other = 6

abbrev pub same : Class → Class → Bool
same j k = rank j == rank k

abbrev pub is_letter : Class → Bool
is_letter k = same Upper k || same Lower k || same Caseless k

-- an answer, or a number of document 01's table with the place that it gives
pub data Said (A : Type 0) : Type 0 where
  gives : A → Said A
  says : ℕ → ℕ → Said A

-- what is said of a number whose class is asked, and what the answers of `class_of` stand for
unfoldable pub class_said : ℕ → Said Class
class_said c = pick (scalar c) (gives (class_of c)) (says 6 0)

abbrev pub answer : Result Class NoScalar → Said Class
answer (Ok k) = gives k
answer (Err _) = says 6 0

-- a byte that is an ASCII character of a class, and one that is an ASCII letter
abbrev pub ascii_is : Class → ℕ → Bool
ascii_is k b = pick (nat_le b 0x7f) (same k (class_of b)) false

abbrev pub ascii_letter : ℕ → Bool
ascii_letter b = pick (nat_le b 0x7f) (is_letter (class_of b)) false
