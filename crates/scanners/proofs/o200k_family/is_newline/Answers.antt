-- `scanners::o200k_family::is_newline` meets its contract: its tests are the set's.
use mathlib.Core.Bool.{or-false}
use mathlib.Core.Path.{sym}
use lib.Dec.{eqb}
use borrow.Author.Tests.{eq-eqb, ne_eqb}
use Rattle.pattern.specs.Regex.{holds}
use Rattle.scanners.proofs.o200k_family.is_newline.Goals as goal

pub returns-then-b-eq13 : goal.returns-then-b-eq13
unfolding holds
returns-then-b-eq13 c = rw (eq-eqb c.args.b 13 c.if-b-eq13.true)

pub returns-else-b-eq13 : goal.returns-else-b-eq13
unfolding holds
returns-else-b-eq13 c = rw (ne_eqb c.args.b 13 c.if-b-eq13.false) (sym (or-false (eqb c.args.b 10)))
