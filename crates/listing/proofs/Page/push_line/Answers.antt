-- The piece, and LF behind it.
use Rattle.std.proofs.Common.{arith}
use Rattle.listing.proofs.Adding.{adds_both}
use Rattle.listing.proofs.Page.push_line.Goals as goal

pub returns : goal.returns
returns c = adds_both c.push_words.ensures c.push.ensures (omega arith)
