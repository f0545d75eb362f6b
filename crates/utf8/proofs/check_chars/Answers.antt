-- `utf8::check_chars` meets its contract. The loop's invariant: what the text's characters take is the place and what those from there on take.
use Rattle.std.proofs.Common.{sym, ◌∙◌, ap, Err, arith}
use Rattle.utf8.specs.Utf8.{chars_at, widths, decoded}
use Rattle.utf8.proofs.At.{At, at_char, at_bad, at_end, checked_bad, checked_valid}
use Rattle.utf8.proofs.check_chars.Goals as goal
use Rattle.utf8.proofs.check_chars.Goals.{In-Ok}

-- the character that the turn has found
found : (c : In-Ok) → At c.args.text.now c.loop-c.at c.in-Ok.c.value c.in-Ok.c.width
found c = at_char _ _ (sym c.decode.ensures ∙ ap decoded c.in-Ok.is)

pub loop-c-init : goal.loop-c-init
unfolding chars_at
loop-c-init c = (omega arith, omega arith)

pub overflow_add-at : goal.overflow_add-at
overflow_add-at c = omega (arith, (found (goal.at.overflow_add-at c).In-Ok).room)

pub loop-c-smaller : goal.loop-c-smaller
loop-c-smaller c = let h = found (goal.at.loop-c-smaller c).In-Ok in omega (arith, h.room, h.some)

pub loop-c-preserved : goal.loop-c-preserved
unfolding widths
loop-c-preserved c = let h = found (goal.at.loop-c-preserved c).In-Ok in (omega (arith, h.room, h.some), omega (arith, h.wide, ap widths h.then))

pub returns-in-Err-Bad : goal.returns-in-Err-Bad
unfolding widths
returns-in-Err-Bad c = let h = at_bad _ _ (sym c.decode.ensures ∙ ap decoded (c.in-Err-Bad.is ∙ ap Err c.in-Err-Bad.field-0-is)) in checked_bad _ _ (omega (arith, ap widths h.none)) h.there

pub returns-in-Err-End : goal.returns-in-Err-End
unfolding widths
returns-in-Err-End c = let h = at_end _ _ (sym c.decode.ensures ∙ ap decoded (c.in-Err-End.is ∙ ap Err c.in-Err-End.field-0-is)) in checked_valid _ (omega (arith, ap widths h.none, h.there))
