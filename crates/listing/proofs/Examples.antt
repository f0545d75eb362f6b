-- Document 01's examples of what the program writes: rows of one table, each the sheet's bytes and the lines.
use mathlib.Core.Path.{◌≡◌, refl}
use mathlib.Core.List.{List, [], ◌∷◌, map}
use Prim.Native.Nat.{ℕ}
use Prim.Native.String.{String}
use Rattle.utf8.specs.Utf8.{chars, chars_from, chars_at, decode1, width, widths, char_start}
use Rattle.classes.specs.Classes.{class_of}
use Rattle.pattern.specs.Regex.{holds, lengths, matches, run, down, words_here, onward, first}
use Rattle.pattern.specs.Pattern.{token}
use Rattle.pattern.specs.Answers.{checks, ends_from, ends_at}
use Rattle.listing.specs.Listing.{ascii, decimal, lines, ends_lines, refused_line, listing}

pub record Row : Type 0 where
  pub sheet : List ℕ
  pub written : String

abbrev rows : List Row
rows =
    record { sheet = []; written = "ends 0\n" } ∷
    record { sheet = ascii "THD 1250"; written = "ends 4\n3\n4\n7\n8\n" } ∷
    record { sheet = 0xe2 ∷ 0x82 ∷ []; written = "refused 3 at 0\n" } ∷
    []

pub rows_hold : map (λ r. listing r.sheet) rows ≡ map (λ r. ascii r.written) rows
unfolding ends_at ends_from chars_at chars chars_from decode1 width widths char_start token holds lengths matches run down words_here onward first class_of checks decimal lines ends_lines refused_line listing
rows_hold = refl

pub too_long : refused_line 2 65536 ≡ ascii "refused 2 at 65536\n"
unfolding decimal refused_line
too_long = refl
