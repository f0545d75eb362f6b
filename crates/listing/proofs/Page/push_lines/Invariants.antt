-- The lines of the numbers so far were added.
use Rattle.std.proofs.Common.{take}
use Rattle.listing.specs.Listing.{lines}
use Rattle.listing.specs.Page.{Adds}
use Rattle.listing.proofs.Page.push_lines.Given as goal

abbrev pub invariant-loop-n : goal.invariant-loop-n
invariant-loop-n l = Adds l.fn.self (lines (take l.n-index l.ns)) l.self
