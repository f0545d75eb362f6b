-- The examples that document 01 marks: rows of one table, each the options, the text's bytes and the ends of its walk from zero.
use mathlib.Core.Bool.{true}
use mathlib.Core.Path.{◌≡◌, refl}
use mathlib.Core.List.{List, [], ◌∷◌, map}
use Prim.Native.Nat.{ℕ}
use Rattle.utf8.specs.Utf8.{chars, chars_from, chars_at, decode1, width, widths}
use Rattle.classes.specs.Classes.{class_of}
use Rattle.pattern.specs.declared.Options.{Options}
use Rattle.pattern.specs.Regex.{holds, lengths, matches, run, down, words_here, onward, first}
use Rattle.pattern.specs.Pattern.{o200k, token}
use Rattle.pattern.specs.Answers.{ends_from, ends_at}

pub record Row : Type 0 where
  pub under : Options
  pub text : List ℕ
  pub cuts : List ℕ

abbrev row : Options → List ℕ → List ℕ → Row
row o t e = record { under = o; text = t; cuts = e }

abbrev mode2 : Options
mode2 = record { contractions = true; digits = 2; slash = true }

abbrev rows : List Row
rows =
    row o200k [] [] ∷
    row o200k (0x54 ∷ 0x48 ∷ 0x44 ∷ 0x20 ∷ 0x31 ∷ 0x32 ∷ 0x35 ∷ 0x30 ∷ []) (3 ∷ 4 ∷ 7 ∷ 8 ∷ []) ∷
    row mode2 (0x54 ∷ 0x48 ∷ 0x44 ∷ 0x20 ∷ 0x31 ∷ 0x32 ∷ 0x35 ∷ 0x30 ∷ []) (3 ∷ 4 ∷ 5 ∷ 8 ∷ []) ∷
    row o200k (0x30 ∷ 0x2c ∷ 0x35 ∷ []) (1 ∷ 2 ∷ 3 ∷ []) ∷
    row o200k (0x27 ∷ 0x73 ∷ 0x6f ∷ 0x75 ∷ 0x6e ∷ 0x64 ∷ []) (6 ∷ []) ∷
    row o200k (0x78 ∷ 0x27 ∷ 0x6c ∷ 0x6c ∷ 0x27 ∷ 0x64 ∷ []) (4 ∷ 6 ∷ []) ∷
    row o200k (0x61 ∷ 0x27 ∷ 0xc5 ∷ 0xbf ∷ 0x62 ∷ []) (4 ∷ 5 ∷ []) ∷
    row o200k (0xd7 ∷ 0x90 ∷ 0x41 ∷ []) (2 ∷ 3 ∷ []) ∷
    row o200k (0x20 ∷ 0x20 ∷ 0x61 ∷ []) (1 ∷ 3 ∷ []) ∷
    row o200k (0x20 ∷ 0x0a ∷ 0x20 ∷ 0x78 ∷ []) (2 ∷ 4 ∷ []) ∷
    row o200k (0x21 ∷ 0x0a ∷ 0x2f ∷ 0x21 ∷ []) (3 ∷ 4 ∷ []) ∷
    row o200k (0x61 ∷ 0x42 ∷ []) (1 ∷ 2 ∷ []) ∷
    row o200k (0x31 ∷ 0xc2 ∷ 0xb2 ∷ 0x33 ∷ 0x34 ∷ []) (4 ∷ 5 ∷ []) ∷
    []

pub rows_hold : map (λ r. ends_at r.under r.text 0) rows ≡ map (λ r. r.cuts) rows
unfolding ends_at ends_from chars_at chars chars_from decode1 width widths token holds lengths matches run down words_here onward first class_of
rows_hold = refl
