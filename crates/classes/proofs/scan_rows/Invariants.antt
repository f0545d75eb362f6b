-- The rows that are left say what all of them say.
use Rattle.std.proofs.Common.{◌≡◌}
use Rattle.classes.specs.declared.Class.{Class}
use Rattle.classes.specs.Classes.{class_in}
use Rattle.classes.specs.Rows.{ranges_of}
use Rattle.classes.proofs.scan_rows.Given as goal

abbrev pub invariant-loop-row : goal.invariant-loop-row
invariant-loop-row l = (l.row-iterator.size ≡ 3) × ((k : Class) → class_in (ranges_of l.rows) l.c k ≡ class_in (ranges_of l.row-iterator.rest.now) l.c k)
