-- What the exported functions answer, in numbers alone: a refusal's number, 0 where there is none, and a place.
use Rattle.std.specs.Prelude.{Bool, ℕ}
use Rattle.classes.specs.Classes.{Said, gives, says, rank}
use Rattle.classes.specs.declared.Class.{Class}
use Rattle.pattern.specs.declared.Options.{Options}
use Rattle.pattern.specs.Answers.{Found, passes, fails, Fill}

abbrev pub options : Bool → ℕ → Bool → Options
options contractions digits slash = record { contractions = contractions; digits = digits; slash = slash }

-- of a next end: the token's end has number 0, and so has the end of the text, whose place is the start itself
abbrev pub end_number : Said ℕ → ℕ
end_number (gives e) = 0
end_number (says n place) = n

abbrev pub end_place : Said ℕ → ℕ
end_place (gives e) = e
end_place (says n place) = place

-- of a fill: the place is the next start where it is not refused
abbrev pub found_number : Found → ℕ
found_number passes = 0
found_number (fails n place) = n

abbrev pub found_place : ℕ → Found → ℕ
found_place next passes = next
found_place next (fails n place) = place

abbrev pub fill_place : Fill → ℕ
fill_place f = found_place f.next f.found

-- of a class: its rank, in document 01's order of the classes
abbrev pub class_number : Said Class → ℕ
class_number (gives k) = 0
class_number (says n place) = n

abbrev pub class_rank : Said Class → ℕ
class_rank (gives k) = rank k
class_rank (says n place) = place
