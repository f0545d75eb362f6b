-- What the text's characters take is the place and what those from there on take.
use Rattle.std.proofs.Common.{◌≡◌, ◌+◌, ◌-◌, ◌≤◌, length}
use Rattle.utf8.specs.Utf8.{valid_length, chars_at, widths}
use Rattle.utf8.proofs.check_chars.Given as goal

abbrev pub invariant-loop-c : goal.invariant-loop-c
invariant-loop-c l = (l.at ≤ length l.text) × (valid_length l.text ≡ l.at + widths (chars_at l.text l.at))

abbrev pub decreases-loop-c : goal.decreases-loop-c
decreases-loop-c l = length l.text - l.at
