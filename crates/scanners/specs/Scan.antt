-- What the scanners answer, in the terms of the closed form. Nobody has to believe this file: what `advance_pos` answers is the definition's token.
use Rattle.std.specs.Prelude.{Option, None, Some, Bool, true, false, List, [], ◌∷◌, ◌≡◌, ℕ, zero, suc, ◌+◌, ◌-◌, ◌/◌, ◌<◌, ◌≤◌, take}
use Rattle.std.specs.Bool.{then_some}
use Rattle.std.proofs.Math.Option.{Option as Last, none, some}
use Rattle.utf8.specs.Utf8.{pick, width, widths}
use Rattle.classes.specs.Classes.{class_of, ascii_is}
use Rattle.classes.specs.declared.Class.{Class}
use Rattle.classes.specs.declared.Class.TheVariants.{Upper, Lower, Caseless, Mark, Number, Whitespace, Other}
use Rattle.pattern.specs.declared.Options.{Options}
use Rattle.pattern.specs.Pattern.{token}
use Rattle.pattern.specs.Regex.{run}
use Rattle.pattern.proofs.Runs.{last_in}
use Rattle.pattern.proofs.Step.{upperish, lowerish, number, white, punct, is_number, is_white, is_punct, group_of, first_fit, suffix_table}
use Rattle.scanners.specs.declared.o200k_family.Kind.{Kind}
use Rattle.scanners.specs.declared.o200k_family.Kind.TheVariants.{Number as Numbers, White, Punct}
use Rattle.scanners.specs.declared.o200k_family.CaseState.{CaseState}
use Rattle.scanners.specs.declared.o200k_family.CaseState.TheVariants.{U, L}
use Rattle.scanners.specs.declared.o200k_family.LetterRun.{LetterRun}

-- how many bytes the first n characters take, and the run of a class
unfoldable pub span : ℕ → List ℕ → ℕ
span n cs = widths (take n cs)

unfoldable pub run_width : (ℕ → Bool) → List ℕ → ℕ
run_width p cs = span (run p cs) cs

-- the classes of a kind, and its characters
abbrev pub is_of : Kind → Class → Bool
is_of Numbers = is_number
is_of White = is_white
is_of Punct = is_punct

abbrev pub in_kind : Kind → ℕ → Bool
in_kind Numbers = number
in_kind White = white
in_kind Punct = punct

-- where the first character ends, if it is of the class
unfoldable pub ended : (ℕ → Bool) → ℕ → List ℕ → Option ℕ
ended p at [] = None
ended p at (c ∷ cs) = then_some (p c) (at + width c)

-- the suffix that stands in front, in bytes; none where contractions are off
unfoldable pub suffix_span : List ℕ → ℕ
suffix_span cs = span (first_fit suffix_table cs) cs

unfoldable pub suffix_width : Bool → List ℕ → ℕ
suffix_width on cs = pick on (suffix_span cs) 0

-- the state past an ASCII letter that opens a letter run
abbrev pub ascii_state : ℕ → CaseState
ascii_state b = pick (ascii_is Upper b) (U None) L

-- a letter run that has come to e in a state
abbrev pub come : ℕ → CaseState → Option LetterRun
come e st = Some (record { end = e; state = st })

-- where it is past a character of a class that ends at e, unless that ends it
abbrev pub moved : Class → CaseState → ℕ → Option LetterRun
moved Upper (U last) e = come e (U last)
moved Upper L e = None
moved Lower st e = come e L
moved Caseless (U last) e = come e (U (Some e))
moved Caseless L e = come e L
moved Mark (U last) e = come e (U (Some e))
moved Mark L e = come e L
moved Number st e = None
moved Whitespace st e = None
moved Other st e = None

unfoldable pub turned : CaseState → ℕ → List ℕ → Option LetterRun
turned st at [] = None
turned st at (c ∷ cs) = moved (class_of c) st (at + width c)

-- where the token ends if the letter run ends at a place
abbrev pub finish : CaseState → ℕ → ℕ
finish (U None) at = at
finish (U (Some last)) at = last
finish L at = at

-- where it ends if the run goes on with some characters: past the lower-case part; with none, back to the last caseless letter or mark
abbrev pub upper_stop : Last ℕ → Option ℕ → ℕ → List ℕ → ℕ
upper_stop none last at cs = finish (U last) (at + run_width upperish cs)
upper_stop (some n) last at cs = at + span n cs

unfoldable pub case_stop : CaseState → ℕ → List ℕ → ℕ
case_stop (U last) at cs = upper_stop (last_in upperish lowerish cs) last at cs
case_stop L at cs = at + run_width lowerish cs

-- white space: nl is the end of the last CR or LF, last the start of the last character, 0 where that is the first or there is none
abbrev pub white_stop : Bool → Option ℕ → ℕ → ℕ → ℕ
white_stop end (Some nl) last at = nl
white_stop true None last at = at
white_stop false None zero at = at
white_stop false None (suc last) at = suc last

-- whole groups of three that are left of a run of n digits past its first token, by digit mode
abbrev pub groups : ℕ → ℕ → ℕ
groups zero n = 0
groups (suc zero) n = 0
groups (suc (suc d)) n = (n - 1) / 3

-- of the ends of the first three of a run, that of a token grouped from the right: k is what is left of the numbers past the third, divided by three
abbrev pub aligned_end : ℕ → ℕ → ℕ → ℕ → ℕ
aligned_end first second third zero = third
aligned_end first second third (suc zero) = first
aligned_end first second third (suc (suc k)) = second

-- a token of a run of digits: its length, and the groups that are left
pub record Digits (mode : ℕ) (cs : List ℕ) (length rest : ℕ) : Type 0 where
  pub len : length ≡ span (group_of mode (run number cs)) cs
  pub left : rest ≡ groups mode (run number cs)

-- THE TOKEN in front of some characters: how many bytes it has, and the groups of three that it leaves of a run of digits
pub record Advanced (o : Options) (cs : List ℕ) (length rest : ℕ) : Type 0 where
  pub len : length ≡ span (token o cs) cs
  pub left : rest ≡ groups o.digits (run number cs)

-- some digits that are known to stand in front in whole groups of three: the token is one of them
pub record NextGroup (o : Options) (cs : List ℕ) (rest : ℕ) : Type 0 where
  pub three : token o cs ≡ 3
  pub enough : 3 ≤ run number cs
  pub left : groups o.digits (run number cs) ≡ rest

abbrev pub Known : Options → List ℕ → ℕ → Type 0
Known o cs g = 0 < g → NextGroup o cs (g - 1)
