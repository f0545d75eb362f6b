-- `pretokenize::entry::next_end` meets its contract: a fill with room for one end says what next end says.
use Rattle.pretokenize.proofs.Checks.{handed_on}
use Rattle.pretokenize.proofs.One.{one_ended, one_found, one_refused}
use Rattle.pretokenize.proofs.entry.next_end.Goals as goal

pub returns-in_err-f : goal.returns-in_err-f
returns-in_err-f c = rw (handed_on _ c.from_residual.ensures.1) (one_refused c.args.o c.args.text.now c.args.start c.in_err-f.ensures.0)

pub returns-then-f-start : goal.returns-then-f-start
returns-then-f-start c = one_ended c.args.o c.args.text.now c.args.start c.in_ok-f.ensures.0 c.if-f-start.true

pub returns : goal.returns
returns c = one_found c.args.o c.args.text.now c.args.start c.in_ok-f.ensures.0 c.if-f-start.false
