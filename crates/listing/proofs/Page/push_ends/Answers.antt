-- The line of the count, and the lines of the ends behind it.
use Rattle.std.proofs.Common.{arith}
use Rattle.listing.specs.Listing.{ends_lines}
use Rattle.listing.proofs.Adding.{adds_both}
use Rattle.listing.proofs.Page.push_ends.Goals as goal

pub returns : goal.returns
unfolding ends_lines
returns c = adds_both c.push_line.ensures c.push_lines.ensures (omega arith)
