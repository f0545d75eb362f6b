-- The closed form: one token with no backtracking, by the class of the first character and by runs. It is proved, not believed (ClosedForm).
use mathlib.Core.Bool.{Bool, true, false, cond, ◌&&◌ as and, ◌||◌ as or, not}
use mathlib.Core.List.{List, [], ◌∷◌, ◌++◌}
use mathlib.Core.Option.{get_or}
use Prim.Native.Nat.{ℕ, zero, suc, ◌+◌, ◌-◌, ◌%◌, min}
use Prim.Native.String.{String, count}
use lib.ListN.{drop}
use lib.Dec.{eqb}
use Rattle.classes.specs.Classes.{class_of, same, is_letter}
use Rattle.classes.specs.declared.Class.{Class}
use Rattle.classes.specs.declared.Class.TheVariants.{Upper, Lower, Caseless, Mark, Number, Whitespace, Other}
use Rattle.pattern.specs.Regex.{holds, run, spells}
use Rattle.pattern.specs.declared.Options.{Options}
use Rattle.pattern.specs.Pattern.{suffixes, long_s, upperish as upper_set, lowerish as lower_set, number as number_set, white as white_set, punct as punct_set, newline as newline_set, prefix as prefix_set, tail as tail_set}
use Rattle.pattern.proofs.Trial.{opens}
use Rattle.pattern.proofs.Runs.{last_in, after}

-- the sets as tests, and what they say of a class
abbrev pub upperish : ℕ → Bool
upperish = holds upper_set

abbrev pub lowerish : ℕ → Bool
lowerish = holds lower_set

abbrev pub number : ℕ → Bool
number = holds number_set

abbrev pub white : ℕ → Bool
white = holds white_set

abbrev pub punct : ℕ → Bool
punct = holds punct_set

abbrev pub newline : ℕ → Bool
newline = holds newline_set

abbrev pub prefix : ℕ → Bool
prefix = holds prefix_set

abbrev pub tail : Bool → ℕ → Bool
tail b = holds (tail_set b)

abbrev pub is : ℕ → ℕ → Bool
is a c = eqb c a

abbrev pub is_upperish : Class → Bool
is_upperish k = or (same Upper k) (or (same Caseless k) (or (same Mark k) false))

abbrev pub is_lowerish : Class → Bool
is_lowerish k = or (same Lower k) (or (same Caseless k) (or (same Mark k) false))

abbrev pub is_number : Class → Bool
is_number k = same Number k

abbrev pub is_white : Class → Bool
is_white k = same Whitespace k

abbrev pub is_punct : Class → Bool
is_punct k = not (or (same Whitespace k) (or (is_letter k) (or (same Number k) false)))

abbrev pub is_prefix : Class → Bool
is_prefix k = not (or (is_letter k) (same Number k))

abbrev pub is_wordy : Class → Bool
is_wordy k = or (is_letter k) (same Mark k)

-- a letter or a mark
unfoldable pub wordy : ℕ → Bool
wordy c = is_wordy (class_of c)

-- a run of letters and marks: through the lower-case part; with none, back to the last caseless letter or mark; with none of those, the upper-case run
unfoldable pub case_end : List ℕ → ℕ
case_end cs = get_or (last_in upperish lowerish cs) (run upperish cs)

abbrev pub first_fit : List String → List ℕ → ℕ
first_fit [] cs = 0
first_fit (w ∷ ws) cs = cond (spells w cs) (count w) (first_fit ws cs)

abbrev pub suffix_table : List String
suffix_table = suffixes ++ long_s

unfoldable pub suffix_end : Options → List ℕ → ℕ
suffix_end o cs = cond o.contractions (first_fit suffix_table cs) 0

unfoldable pub word_end : Options → List ℕ → ℕ
word_end o cs = after (suffix_end o) cs (case_end cs)

unfoldable pub punct_end : Options → List ℕ → ℕ
punct_end o cs = after (run (tail o.slash)) cs (run punct cs)

abbrev pub is_end : List ℕ → Bool
is_end [] = true
is_end (c ∷ cs) = false

-- a run of n white-space characters, none of them CR or LF: all of it at the end of the text, else all but its last, if more than one
abbrev pub keep : Bool → ℕ → ℕ
keep true n = n
keep false zero = 0
keep false (suc zero) = 1
keep false (suc (suc n)) = suc n

-- white space: through the last CR or LF of the run
unfoldable pub space_end : List ℕ → ℕ
space_end cs = get_or (last_in white newline cs) (keep (is_end (drop (run white cs) cs)) (run white cs))

-- how many of n numbers in a row, by digit mode
unfoldable pub group_of : ℕ → ℕ → ℕ
group_of zero n = 1
group_of (suc zero) n = min n 3
group_of (suc (suc d)) n = (n - 1) % 3 + 1

unfoldable pub step_by : Options → Class → ℕ → List ℕ → ℕ
step_by o Upper c cs = word_end o (c ∷ cs)
step_by o Lower c cs = word_end o (c ∷ cs)
step_by o Caseless c cs = word_end o (c ∷ cs)
step_by o Mark c cs = word_end o (c ∷ cs)
step_by o Number c cs = group_of o.digits (suc (run number cs))
step_by o Whitespace c cs =
    cond (newline c) (space_end (c ∷ cs))
    (cond (opens wordy cs) (suc (word_end o cs))
    (cond (and (is 32 c) (opens punct cs)) (suc (punct_end o cs))
    (space_end (c ∷ cs))))
step_by o Other c cs = cond (opens wordy cs) (suc (word_end o cs)) (punct_end o (c ∷ cs))

unfoldable pub step : Options → List ℕ → ℕ
step o [] = 0
step o (c ∷ cs) = step_by o (class_of c) c cs
