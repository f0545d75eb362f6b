-- Patterns over characters, and their backtracking meaning. Each constructor stands beside its usual notation.
use Rattle.std.specs.Prelude.{Bool, true, false, not, ◌&&◌, ◌||◌, List, [], ◌∷◌, ◌++◌, map, ℕ, zero, suc, ◌+◌, ◌%◌, min, drop, eqb}
use Prim.Native.Char.{Char, code}
use Prim.Native.String.{String, [] as []ˢ, ◌∷◌ as ◌∷ˢ◌, count}
use Rattle.utf8.specs.Utf8.{within}
use Rattle.classes.specs.Classes.{class_of, same, is_letter}
use Rattle.classes.specs.declared.Class.{Class}
use Rattle.classes.specs.declared.Class.TheVariants.{Whitespace}

pub data Item : Type 0 where
  char : Char → Item  -- a
  kind : Class → Item  -- \p{Lu}\p{Lt}, \p{Ll}, \p{Lm}\p{Lo}, \p{M}, \p{N}, \s
  letter : Item  -- \p{L}
  non_white : Item  -- \S

pub data Set : Type 0 where
  just : Item → Set  -- i
  among except : List Item → Set  -- [ij], [^ij]

pub data Piece : Type 0 where
  one opt many some up_to_three : Set → Piece  -- s, s?, s*, s+, s{1,3}
  not_ahead : Set → Piece  -- (?!s)
  any_case? : List String → List String → Piece  -- (?i:v|w)?, and the words outside ASCII that case folding takes to one of these
  thirds : Set → Piece  -- ((n - 1) mod 3) + 1 of the n that stand unbroken

abbrev pub is_item : Item → ℕ → Bool
is_item (char a) c = eqb c (code a)
is_item (kind k) c = same k (class_of c)
is_item letter c = is_letter (class_of c)
is_item non_white c = not (same Whitespace (class_of c))

abbrev pub any_item : List Item → ℕ → Bool
any_item [] c = false
any_item (i ∷ is) c = is_item i c || any_item is c

unfoldable pub holds : Set → ℕ → Bool
holds (just i) c = is_item i c
holds (among is) c = any_item is c
holds (except is) c = not (any_item is c)

-- how many characters from the front pass the test
unfoldable pub run : (ℕ → Bool) → List ℕ → ℕ
run p [] = 0
run p (c ∷ cs) = elim (p c) [ true ↦ suc (run p cs) | false ↦ 0 ]

-- n, then each smaller number, down to 1
unfoldable pub down : ℕ → List ℕ
down zero = []
down (suc n) = suc n ∷ down n

-- c is a, or the capital of the small letter a
abbrev pub either_case : ℕ → ℕ → Bool
either_case a c = eqb c a || within 0x61 a 0x7a && eqb (c + 32) a

abbrev pub spells : String → List ℕ → Bool
spells []ˢ cs = true
spells (a ∷ˢ w) [] = false
spells (a ∷ˢ w) (c ∷ cs) = either_case (code a) c && spells w cs

-- the lengths of the words that stand at the front
unfoldable pub words_here : List String → List ℕ → List ℕ
words_here [] cs = []
words_here (w ∷ ws) cs = elim (spells w cs) [ true ↦ count w ∷ words_here ws cs | false ↦ words_here ws cs ]

-- the lengths that a piece can take, in the order in which they are tried
unfoldable pub lengths : Piece → List ℕ → List ℕ
lengths (one s) cs = down (min (run (holds s) cs) 1)
lengths (opt s) cs = down (min (run (holds s) cs) 1) ++ (0 ∷ [])
lengths (many s) cs = down (run (holds s) cs) ++ (0 ∷ [])
lengths (some s) cs = down (run (holds s) cs)
lengths (up_to_three s) cs = down (min (run (holds s) cs) 3)
lengths (not_ahead s) cs = elim (run (holds s) cs) [ zero ↦ 0 ∷ [] | suc n ↦ [] ]
lengths (any_case? ws vs) cs = words_here (ws ++ vs) cs ++ (0 ∷ [])
lengths (thirds s) cs = elim (run (holds s) cs) [ zero ↦ [] | suc n ↦ (n % 3 + 1) ∷ [] ]

-- each length, in order, with each that f finds after it
unfoldable pub onward : (ℕ → List ℕ) → List ℕ → List ℕ
onward f [] = []
onward f (k ∷ ks) = map (λ n. k + n) (f k) ++ onward f ks

-- the lengths that one piece after another can take: where those after it have none, the next length of a piece is tried
unfoldable pub matches : List Piece → List ℕ → List ℕ
matches [] cs = 0 ∷ []
matches (p ∷ ps) cs = onward (λ k. matches ps (drop k cs)) (lengths p cs)

-- the first match of the first alternative that has one; 0 where none has
unfoldable pub first : List (List Piece) → List ℕ → ℕ
first [] cs = 0
first (r ∷ rs) cs = elim (matches r cs) [ [] ↦ first rs cs | n ∷ ns ↦ n ]
