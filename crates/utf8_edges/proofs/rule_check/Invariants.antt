-- The measure is what is left of the text; a width is at most that.
use Rattle.std.proofs.Common.{length, ◌-◌, ◌≤◌}
use Rattle.utf8_edges.proofs.rule_check.Given as goal

abbrev pub invariant-loop-at : goal.invariant-loop-at
invariant-loop-at l = l.at ≤ length l.text

abbrev pub decreases-loop-at : goal.decreases-loop-at
decreases-loop-at l = length l.text - l.at
