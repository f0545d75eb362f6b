-- Which scanner a token is for, from where and in which state, by its first characters.
-- Cited by contracts that are private to the crate; nobody has to believe it.
use Rattle.std.specs.Prelude.{Option, None, Some, Bool, true, false, List, [], ◌∷◌, ℕ, ◌+◌}
use Rattle.utf8.specs.Utf8.{pick, width}
use Rattle.classes.specs.Classes.{class_of}
use Rattle.classes.specs.declared.Class.{Class}
use Rattle.classes.specs.declared.Class.TheVariants.{Upper, Lower, Caseless, Mark, Number, Whitespace, Other}
use Rattle.pattern.proofs.Step.{newline, is}
use Rattle.scanners.specs.Scan.{moved, turned}
use Rattle.scanners.specs.declared.o200k_family.CaseState.TheVariants.{U}
use Rattle.scanners.specs.declared.o200k_family.LetterRun.{LetterRun}
use Rattle.scanners.specs.declared.o200k_family.Start.{Start}
use Rattle.scanners.specs.declared.o200k_family.Start.TheVariants as start

abbrev pub or_start : Option LetterRun → Start → Start
or_start (Some run) other = start.Letters run
or_start None other = other

-- past a prefix that ends at a place
unfoldable pub prefixed_start : Bool → ℕ → List ℕ → Start
prefixed_start is_white at cs = or_start (turned (U None) at cs) (pick is_white start.White (start.Punct at))

-- past a space, by the class of the next character, which ends at e
abbrev pub space_before : Class → ℕ → Start
space_before Number e = start.One
space_before Whitespace e = start.White
space_before _ e = start.Punct e

unfoldable pub space_start : Class → ℕ → Start
space_start k e = or_start (moved k (U None) e) (space_before k e)

unfoldable pub after_space : List ℕ → Start
after_space [] = start.One
after_space (c ∷ cs) = space_start (class_of c) (1 + width c)

-- by the class of the first character, which is c
unfoldable pub first_start : Class → ℕ → List ℕ → Start
first_start Upper c cs = or_start (moved Upper (U None) (width c)) start.One
first_start Lower c cs = or_start (moved Lower (U None) (width c)) start.One
first_start Caseless c cs = or_start (moved Caseless (U None) (width c)) start.One
first_start Mark c cs = or_start (moved Mark (U None) (width c)) start.One
first_start Number c cs = start.Number (width c)
first_start Whitespace c cs = pick (newline c) start.White (pick (is 32 c) (after_space cs) (prefixed_start true (width c) cs))
first_start Other c cs = prefixed_start false (width c) cs

unfoldable pub start_of : List ℕ → Start
start_of [] = start.One
start_of (c ∷ cs) = first_start (class_of c) c cs
