-- The number so far is not past the last value.
use Rattle.std.proofs.Common.{◌≤◌}
use Rattle.class_values.proofs.number.Given as goal

abbrev pub invariant-loop-b : goal.invariant-loop-b
invariant-loop-b l = l.n ≤ 0x110000
