use Prim.Native.Nat.{◌-◌}
use mathlib.Core.Path.{◌≡◌}
use Rattle.utf8.specs.Utf8.{chars_at}
use lib.ListN.{length}
use Rattle.scanners.specs.Place.{Whole}
use Rattle.scanners.specs.Scan.{case_stop}
use Rattle.scanners.proofs.o200k_family.scan_case_run.Given as goal

abbrev pub invariant-loop-run : goal.invariant-loop-run
invariant-loop-run l =
    let s = l.at.0.now in
    let p = l.at.1.0 in
    Whole s p × (case_stop l.fn.st l.fn.at.pos (chars_at l.fn.at.bytes.now l.fn.at.pos) ≡ case_stop l.st p (chars_at s p))

abbrev pub decreases-loop-run : goal.decreases-loop-run
decreases-loop-run l = length l.at.0.now - l.at.1.0
