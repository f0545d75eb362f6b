-- The larger of `most` and the largest byte from the turn's place on is the text's.
use Rattle.std.proofs.Common.{◌≡◌, drop, max}
use Rattle.utf8.specs.LargestByte.{largest}
use Rattle.utf8.proofs.largest.Given as goal

abbrev pub invariant-loop-b : goal.invariant-loop-b
invariant-loop-b l = max l.most (largest (drop l.b-index l.text)) ≡ largest l.text
