-- `scanners::o200k_family::case_turn` meets its contract: of an ASCII byte the byte tests tell, of any other character its class.
use mathlib.Core.Path.{refl, ◌∙◌}
use Rattle.scanners.proofs.Case.{turned_none, turned_at}
use Rattle.scanners.proofs.Stands.{peeked}
use Rattle.scanners.proofs.o200k_family.case_turn.Goals as goal

pub returns-in_err-b : goal.returns-in_err-b
returns-in_err-b c = c.from_residual.ensures ∙ turned_none _ _ c.args.st c.in_err-b.ensures

pub returns-in-Ascii : goal.returns-in-Ascii
returns-in-Ascii c =
    let h = peeked _ _ c.in-Ascii.is c.in_ok-b.ensures in
    c.past_ascii.ensures ∙ turned_at _ _ c.args.st h.here refl

pub returns-in-Wide : goal.returns-in-Wide
returns-in-Wide c =
    let h = peeked _ _ c.in-Wide.is c.in_ok-b.ensures in
    c.moved.ensures ∙ turned_at _ _ c.args.st h.0.here h.1
