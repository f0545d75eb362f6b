-- `scanners::o200k_family::prefixed_start` meets its contract: a letter run, or what the prefix is.
use mathlib.Core.Path.{sym, ap, ap₂, ◌∙◌}
use Rattle.utf8.specs.Utf8.{pick}
use Rattle.scanners.specs.Start.{or_start, prefixed_start}
use Rattle.scanners.specs.declared.o200k_family.Start.TheVariants.{White, Punct}
use Rattle.scanners.proofs.o200k_family.prefixed_start.Goals as goal

pub returns-in-Some : goal.returns-in-Some
unfolding prefixed_start
returns-in-Some c = ap (λ m. or_start m (pick c.args.blank White (Punct c.args.at.pos))) (sym c.in-Some.is ∙ c.letter_run_first.ensures)

pub returns-in-None : goal.returns-in-None
unfolding prefixed_start
returns-in-None c = ap₂ (λ m b. or_start m (pick b White (Punct c.args.at.pos))) (sym c.in-None.is ∙ c.letter_run_first.ensures) (sym c.if-blank.true)

pub returns-in-None-2 : goal.returns-in-None-2
unfolding prefixed_start
returns-in-None-2 c = ap₂ (λ m b. or_start m (pick b White (Punct c.args.at.pos))) (sym c.in-None.is ∙ c.letter_run_first.ensures) (sym c.if-blank.false)
