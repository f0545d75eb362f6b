use Prim.Native.Nat.{◌≤◌}
use mathlib.Core.Path.{◌≡◌}
use lib.ListN.{length}
use Rattle.utf8.specs.Utf8.{chars, char_start}
use Rattle.pretokenize.proofs.entry.char_start.Given as goal

-- the place gone back to is in the same character
abbrev pub invariant-loop-i : goal.invariant-loop-i
invariant-loop-i l = (l.i ≤ length l.text) × (char_start (chars l.text) l.i ≡ char_start (chars l.text) l.at)
