-- The words, and the digits behind them.
use Rattle.std.proofs.Common.{arith}
use Rattle.listing.proofs.Adding.{adds_both}
use Rattle.listing.proofs.Page.push_words.Goals as goal

pub returns : goal.returns
returns c = adds_both c.push.ensures c.push_decimal.ensures (omega arith)
