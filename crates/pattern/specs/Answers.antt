-- Every answer of the entry points, as a function of the text, the options and the start, in document 01's numbers and places.
use Rattle.std.specs.Prelude.{Bool, List, [], ◌∷◌, ◌++◌, ℕ, zero, suc, ◌+◌, ◌-◌, length, take, drop, ltb, eqb}
use Rattle.utf8.specs.Utf8.{pick, chars, chars_at, width, widths, valid_length, char_start}
use Rattle.classes.specs.Classes.{Said, gives, says}
use Rattle.pattern.specs.declared.Options.{Options}
use Rattle.pattern.specs.Pattern.{token}

-- the longest text that is taken, in bytes
abbrev pub limit : ℕ
limit = 1048576

-- what the checks say of a call: that it passes, or a number of the table and the place given
pub data Found : Type 0 where
  passes : Found
  fails : ℕ → ℕ → Found

-- a row of the table: if the test holds, the number and the place; else what the later rows say
abbrev pub row : ℕ → Bool → ℕ → Found → Found
row n t place later = pick t (fails n place) later

-- the rows in the order in which they are checked
unfoldable pub checks : Options → List ℕ → ℕ → Found
checks o s at =
    row 1 (ltb 2 o.digits) 0
    (row 2 (ltb limit (length s)) limit
    (row 3 (ltb (valid_length s) (length s)) (valid_length s)
    (row 4 (ltb (length s) at) (length s)
    (row 5 (ltb (char_start (chars s) at) at) (char_start (chars s) at)
    passes))))

-- an answer where the call passes, and one made of the number and the place where not
abbrev pub if_passes : {A : Type 0} → Found → A → (ℕ → ℕ → A) → A
if_passes passes x y = x
if_passes (fails n place) x y = y n place

-- where the token at a place of a text ends
unfoldable pub token_end : Options → List ℕ → ℕ → ℕ
token_end o s at = at + widths (take (token o (chars_at s at)) (chars_at s at))

-- next end: the token's end; at the end of the text number 0
unfoldable pub next_end : Options → List ℕ → ℕ → Said ℕ
next_end o s at = if_passes (checks o s at) (pick (eqb at (length s)) (says 0 (length s)) (gives (token_end o s at))) says

-- the token itself: the bytes from the start to that end; none at the end of the text or on a refusal
abbrev pub bytes_to : List ℕ → ℕ → Said ℕ → List ℕ
bytes_to s at (gives e) = take (e - at) (drop at s)
bytes_to s at (says n place) = []

unfoldable pub token_bytes : Options → List ℕ → ℕ → List ℕ
token_bytes o s at = bytes_to s at (next_end o s at)

-- the ends of the tokens of some characters, the first of which stands at a place; k characters are passed over first
unfoldable pub ends_from : Options → ℕ → ℕ → List ℕ → List ℕ
ends_from o k at [] = []
ends_from o zero at (c ∷ cs) = (at + widths (take (token o (c ∷ cs)) (c ∷ cs))) ∷ ends_from o (token o (c ∷ cs) - 1) (at + width c) cs
ends_from o (suc k) at (c ∷ cs) = ends_from o k (at + width c) cs

-- the ends of a walk of a text from a place on
unfoldable pub ends_at : Options → List ℕ → ℕ → List ℕ
ends_at o s at = ends_from o 0 at (chars_at s at)

-- the ends that a fill writes into a list with so much room
unfoldable pub written : Options → List ℕ → ℕ → ℕ → List ℕ
written o s at room = if_passes (checks o s at) (take room (ends_at o s at)) (λ n place. [])

-- the last of some numbers, or one that is given
abbrev pub last_or : ℕ → List ℕ → ℕ
last_or x [] = x
last_or x (y ∷ ys) = last_or y ys

-- what a fill says: the checks' word, the count and the next start
pub record Fill : Type 0 where
  pub found : Found
  pub count : ℕ
  pub next : ℕ

unfoldable pub fill : Options → List ℕ → ℕ → ℕ → Fill
fill o s at room = let es = written o s at room in record { found = checks o s at; count = length es; next = last_or at es }

-- the list that was lent, at the end: the ends, then what stood there
unfoldable pub fill_list : Options → List ℕ → ℕ → List ℕ → List ℕ
fill_list o s at old = let es = written o s at (length old) in es ++ drop (length es) old
