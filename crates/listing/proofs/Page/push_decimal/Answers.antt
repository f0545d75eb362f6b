-- The digits are those of the number.
use Rattle.listing.proofs.Adding.{digits_added}
use Rattle.listing.proofs.Page.push_decimal.Goals as goal

pub returns : goal.returns
returns c = digits_added c.args.n _ _ c.push.ensures c.decimal-k.ensures.len c.decimal-k.ensures.digits
