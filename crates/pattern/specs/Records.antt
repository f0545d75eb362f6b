-- Records: what a text that is made of them is, and how it is to be cut.
use Rattle.std.specs.Prelude.{Bool, true, false, not, ◌&&◌, ◌||◌, List, [], ◌∷◌, ◌++◌, map, ◌≡◌, ℕ, ◌+◌, ◌-◌, length, take, ltb, leb}
use Rattle.utf8.specs.Utf8.{pick, chars}
use Rattle.pattern.specs.declared.Options.{Options}
use Rattle.pattern.specs.Regex.{Set, just, char, holds, run}
use Rattle.pattern.specs.Pattern.{newline, white}
use Rattle.pattern.specs.Answers.{ends_at}

-- the last byte is CR or LF
unfoldable pub ends_line : List ℕ → Bool
ends_line [] = false
ends_line (b ∷ []) = holds newline b
ends_line (b ∷ c ∷ bs) = ends_line (c ∷ bs)

unfoldable pub none_of : Set → List ℕ → Bool
none_of s [] = true
none_of s (c ∷ cs) = not (holds s c) && none_of s cs

-- no CR or LF in the leading run of white space, and no slash in front where the tail takes slashes
unfoldable pub fresh : Options → List ℕ → Bool
fresh o cs = none_of newline (take (run (holds white) cs) cs) && (not o.slash || none_of (just (char "/")) (take 1 cs))

-- each but the last ends in CR or LF, and each but the first is fresh
pub data Records (o : Options) : List (List ℕ) → Type 0 where
  last : {r : List ℕ} → Records o (r ∷ [])
  more : {r s : List ℕ} {rs : List (List ℕ)} → ends_line r ≡ true → fresh o (chars s) ≡ true → Records o (s ∷ rs) → Records o (r ∷ s ∷ rs)

unfoldable pub join : List (List ℕ) → List ℕ
join [] = []
join (r ∷ rs) = r ++ join rs

-- the ends of each record alone, in order, moved by its offset
unfoldable pub ends_of_each : Options → ℕ → List (List ℕ) → List ℕ
ends_of_each o at [] = []
ends_of_each o at (r ∷ rs) = map (λ e. at + e) (ends_at o r 0) ++ ends_of_each o (at + length r) rs

-- of some ends, those of a stretch of n bytes that begins at a place, counted from there
unfoldable pub ends_inside : ℕ → ℕ → List ℕ → List ℕ
ends_inside at n [] = []
ends_inside at n (e ∷ es) = pick (ltb at e && leb e (at + n)) ((e - at) ∷ ends_inside at n es) (ends_inside at n es)
