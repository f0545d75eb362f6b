-- `scanners::o200k_family::space_wide` meets its contract: a letter run, or what the class says.
use mathlib.Core.Path.{sym, ap, ◌∙◌}
use Rattle.scanners.specs.Start.{or_start, space_before, space_start}
use Rattle.scanners.proofs.o200k_family.space_wide.Goals as goal

pub returns-in-Some : goal.returns-in-Some
unfolding space_start
returns-in-Some c = ap (λ m. or_start m (space_before c.args.k c.args.end)) (sym c.in-Some.is ∙ c.moved.ensures)

pub returns-in-None : goal.returns-in-None
unfolding space_start
returns-in-None c = c.space_before.ensures ∙ ap (λ m. or_start m (space_before c.args.k c.args.end)) (sym c.in-None.is ∙ c.moved.ensures)
