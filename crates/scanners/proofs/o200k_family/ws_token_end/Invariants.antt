use Prim.Native.Nat.{◌-◌}
use mathlib.Core.Path.{◌≡◌}
use Rattle.std.specs.Prelude.{None}
use Rattle.utf8.specs.Utf8.{chars, chars_at}
use lib.ListN.{length}
use Rattle.scanners.specs.Place.{Whole}
use Rattle.scanners.proofs.White.{white_from}
use Rattle.scanners.proofs.o200k_family.ws_token_end.Given as goal

abbrev pub invariant-loop-e : goal.invariant-loop-e
invariant-loop-e l =
    let s = l.at.0.now in
    let p = l.at.1.0 in
    Whole s p × (white_from None 0 0 (chars l.fn.at.bytes.now) ≡ white_from l.last_nl_end l.last_char_start p (chars_at s p))

abbrev pub decreases-loop-e : goal.decreases-loop-e
decreases-loop-e l = length l.at.0.now - l.at.1.0
