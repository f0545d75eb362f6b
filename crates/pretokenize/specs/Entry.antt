-- Document 01's number and place of each refusal, and its values of each answer of the entry points.
use Rattle.std.specs.Prelude.{List, ℕ, Result, Ok, Err}
use Rattle.classes.specs.Classes.{Said, gives, says}
use Rattle.pattern.specs.declared.Options.{Options}
use Rattle.pattern.specs.Answers.{limit, Found, passes, fails, next_end, Fill}
use Rattle.pretokenize.specs.declared.entry.Refusal.{Refusal}
use Rattle.pretokenize.specs.declared.entry.Refusal.TheVariants.{Mode, Long, Damaged, Past, Inside}
use Rattle.pretokenize.specs.declared.entry.NextEnd.{NextEnd}
use Rattle.pretokenize.specs.declared.entry.NextEnd.TheVariants.{At, End}
use Rattle.pretokenize.specs.declared.entry.Filled.{Filled}
use Rattle.pretokenize.specs.declared.entry.Walker.{Walker}

abbrev pub number : Refusal → ℕ
number Mode = 1
number Long = 2
number (Damaged p) = 3
number (Past p) = 4
number (Inside p) = 5

abbrev pub place : Refusal → ℕ
place Mode = 0
place Long = limit
place (Damaged p) = p
place (Past p) = p
place (Inside p) = p

abbrev pub verdict : Result Unit Refusal → Found
verdict (Ok _) = passes
verdict (Err r) = fails (number r) (place r)

abbrev pub said : Result NextEnd Refusal → Said ℕ
said (Ok (At e)) = gives e
said (Ok (End p)) = says 0 p
said (Err r) = says (number r) (place r)

-- a refused fill counts 0 and gives the start again
abbrev pub filled : ℕ → Result Filled Refusal → Fill
filled start (Ok f) = record { found = passes; count = f.count; next = f.next }
filled start (Err r) = record { found = fails (number r) (place r); count = 0; next = start }

-- where a token's bytes stand in the caller's text: at the start; of no token, at 0
abbrev pub place_of : ℕ → Said ℕ → ℕ
place_of at (gives e) = at
place_of at (says k p) = 0

unfoldable pub token_place : Options → List ℕ → ℕ → ℕ
token_place o s at = place_of at (next_end o s at)

-- what a step of a walker says, and the walker after it: at the token's end; unmoved at the end of the text or on a refusal
abbrev pub step_end : Walker → List ℕ → Said ℕ
step_end w s = next_end w.options s w.at

abbrev pub moved_by : Walker → Said ℕ → Walker
moved_by w (gives e) = record { options = w.options; at = e }
moved_by w (says k p) = w

abbrev pub moved : Walker → List ℕ → Walker
moved w s = moved_by w (step_end w s)
