-- What the program writes for its input: the sheet's ends, or why it is refused, in lines of ASCII.
use Rattle.std.specs.Prelude.{List, [], ◌∷◌, ◌++◌, ℕ, zero, suc, ◌+◌, ◌/◌, ◌%◌, length, drop, ltb}
use Prim.Native.Char.{code}
use Prim.Native.String.{String, [] as []ˢ, ◌∷◌ as ◌∷ˢ◌}
use Rattle.utf8.specs.Utf8.{pick}
use Rattle.pattern.specs.Pattern.{o200k}
use Rattle.pattern.specs.Answers.{checks, if_passes, ends_at}

-- the longest sheet that the program takes, in bytes
abbrev pub sheet_limit : ℕ
sheet_limit = 65536

abbrev pub ascii : String → List ℕ
ascii []ˢ = []
ascii (c ∷ˢ cs) = code c ∷ ascii cs

-- the digits of n in base ten, no zero in front, at most k of them; n + 1 are enough
abbrev pub decimal_in : ℕ → ℕ → List ℕ
decimal_in zero n = []
decimal_in (suc k) n = pick (ltb n 10) ((48 + n) ∷ []) (decimal_in k (n / 10) ++ ((48 + n % 10) ∷ []))

unfoldable pub decimal : ℕ → List ℕ
decimal n = decimal_in (suc n) n

-- a line ends in LF
abbrev pub line : List ℕ → List ℕ
line w = w ++ (10 ∷ [])

unfoldable pub lines : List ℕ → List ℕ
lines [] = []
lines (n ∷ ns) = line (decimal n) ++ lines ns

unfoldable pub ends_lines : List ℕ → List ℕ
ends_lines es = line (ascii "ends " ++ decimal (length es)) ++ lines es

unfoldable pub refused_line : ℕ → ℕ → List ℕ
refused_line n place = line (ascii "refused " ++ (decimal n ++ (ascii " at " ++ decimal place)))

-- a sheet over the program's limit is refused by its length alone
unfoldable pub listing : List ℕ → List ℕ
listing s = pick (ltb sheet_limit (length s)) (refused_line 2 sheet_limit) (if_passes (checks o200k s 0) (ends_lines (ends_at o200k s 0)) refused_line)

-- a lent list with some bytes written over its front
abbrev pub on_front : List ℕ → List ℕ → List ℕ
on_front w old = w ++ drop (length w) old
