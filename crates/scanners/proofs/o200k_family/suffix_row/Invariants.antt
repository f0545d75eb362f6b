-- The rows that are left say what all of them say.
use Rattle.std.proofs.Common.{◌≡◌, drop}
use Rattle.scanners.specs.Suffix.{first_row}
use Rattle.scanners.proofs.o200k_family.suffix_row.Given as goal

abbrev pub invariant-loop-row : goal.invariant-loop-row
invariant-loop-row l = first_row l.row-items l.b l.d ≡ first_row (drop l.row-index l.row-items) l.b l.d
