use Prim.Native.Nat.{◌+◌, ◌-◌}
use mathlib.Core.Path.{◌≡◌}
use Rattle.utf8.specs.Utf8.{chars_at}
use lib.ListN.{length}
use Rattle.pattern.proofs.Step.{punct}
use Rattle.scanners.specs.Place.{Whole}
use Rattle.scanners.specs.Scan.{run_width}
use Rattle.scanners.proofs.o200k_family.scan_punct_from.Given as goal

abbrev pub invariant-loop-e : goal.invariant-loop-e
invariant-loop-e l =
    let s = l.at.0.now in
    let p = l.at.1.0 in
    Whole s p × (l.fn.at.pos + run_width punct (chars_at l.fn.at.bytes.now l.fn.at.pos) ≡ p + run_width punct (chars_at s p))

abbrev pub decreases-loop-e : goal.decreases-loop-e
decreases-loop-e l = length l.at.0.now - l.at.1.0
