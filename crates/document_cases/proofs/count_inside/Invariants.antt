-- Each character adds at most three.
use Rattle.std.proofs.Common.{◌*◌, ◌≤◌}
use Rattle.document_cases.proofs.count_inside.Given as goal

abbrev pub invariant-loop-value : goal.invariant-loop-value
invariant-loop-value l = l.count ≤ 3 * l.value
