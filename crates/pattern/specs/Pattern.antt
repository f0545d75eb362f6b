-- The pattern of document 01: the seven alternatives, in its order, adapted to the options.
use Rattle.std.specs.Prelude.{Bool, true, false, List, [], ◌∷◌, ◌++◌, ℕ, zero, suc}
use Prim.Native.String.{String, [] as []ˢ, ◌∷◌ as ◌∷ˢ◌}
use Rattle.classes.specs.declared.Class.TheVariants.{Upper, Lower, Caseless, Mark, Number, Whitespace}
use Rattle.pattern.specs.declared.Options.{Options}
use Rattle.pattern.specs.Regex.{Item, char, kind, letter, non_white, Set, just, among, except, Piece, one, opt, many, some, up_to_three, not_ahead, any_case?, thirds, first}

-- the named setting: contractions yes, digit mode 1, slash yes
abbrev pub o200k : Options
o200k = record { contractions = true; digits = 1; slash = true }

-- the characters of a string, as items of a set
abbrev pub items : String → List Item
items []ˢ = []
items (a ∷ˢ s) = char a ∷ items s

-- not CR, LF, letter or Number
abbrev pub prefix : Set
prefix = except (items "\r\n" ++ (letter ∷ kind Number ∷ []))

-- Upper, Caseless, Mark; Lower, Caseless, Mark
abbrev pub upperish : Set
upperish = among (kind Upper ∷ kind Caseless ∷ kind Mark ∷ [])

abbrev pub lowerish : Set
lowerish = among (kind Lower ∷ kind Caseless ∷ kind Mark ∷ [])

-- the suffixes, each letter in either case
abbrev pub suffixes : List String
suffixes = "'s" ∷ "'t" ∷ "'re" ∷ "'ve" ∷ "'m" ∷ "'ll" ∷ "'d" ∷ []

-- U+017F is an s in another case
abbrev pub long_s : List String
long_s = "'ſ" ∷ []

abbrev pub suffix : Bool → List Piece
suffix true = any_case? suffixes long_s ∷ []
suffix false = []

abbrev pub number : Set
number = just (kind Number)

-- digit modes 0, 1 and 2; a mode above 2 is refused before it comes here
abbrev pub digits : ℕ → Piece
digits zero = one number
digits (suc zero) = up_to_three number
digits (suc (suc d)) = thirds number

abbrev pub space : Set
space = just (char " ")

-- Mark and Other
abbrev pub punct : Set
punct = except (kind Whitespace ∷ letter ∷ kind Number ∷ [])

abbrev pub newline : Set
newline = among (items "\r\n")

abbrev pub tail : Bool → Set
tail true = among (items "\r\n/")
tail false = newline

abbrev pub white : Set
white = just (kind Whitespace)

-- document 01's alternatives, by their numbers
abbrev pub alternatives : Options → List (List Piece)
alternatives o =
    (opt prefix ∷ many upperish ∷ some lowerish ∷ suffix o.contractions) ∷  -- 1
    (opt prefix ∷ some upperish ∷ many lowerish ∷ suffix o.contractions) ∷  -- 2
    (digits o.digits ∷ []) ∷  -- 3
    (opt space ∷ some punct ∷ many (tail o.slash) ∷ []) ∷  -- 4
    (many white ∷ some newline ∷ []) ∷  -- 5
    (some white ∷ not_ahead (just non_white) ∷ []) ∷  -- 6
    (some white ∷ []) ∷  -- 7
    []

-- how many characters the first token has
unfoldable pub token : Options → List ℕ → ℕ
token o cs = first (alternatives o) cs
