-- The counts add up to the values compared and the three numbers before.
use Rattle.std.proofs.Common.{length, sum, ◌+◌, ◌≤◌, ◌≡◌}
use Rattle.class_values.proofs.compare.Given as goal

abbrev pub invariant-loop-line : goal.invariant-loop-line
invariant-loop-line g l = (l.from ≤ 0x110000) × (length l.counts ≡ 8) × (sum l.counts ≡ l.from + 3)
