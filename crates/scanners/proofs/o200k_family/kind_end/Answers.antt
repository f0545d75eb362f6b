-- `scanners::o200k_family::kind_end` meets its contract: of an ASCII byte the byte test tells, of any other character its class.
use mathlib.Core.Path.{ap, ◌∙◌}
use Rattle.scanners.specs.Scan.{is_of, in_kind}
use Rattle.scanners.proofs.Classes.{kind_class}
use Rattle.scanners.proofs.Ended.{ended_none, ended_at}
use Rattle.scanners.proofs.Stands.{peeked}
use Rattle.scanners.proofs.o200k_family.kind_end.Goals as goal

pub returns-in_err-b : goal.returns-in_err-b
returns-in_err-b c = c.from_residual.ensures ∙ ended_none _ _ _ c.in_err-b.ensures

pub returns-in-Ascii : goal.returns-in-Ascii
returns-in-Ascii c =
    let h = peeked _ _ c.in-Ascii.is c.in_ok-b.ensures in
    c.then_some.ensures ∙ ended_at (in_kind c.args.kind) _ _ _ h.here c.has_ascii.ensures

pub returns-in-Wide : goal.returns-in-Wide
returns-in-Wide c =
    let kind = c.args.kind in
    let h = peeked _ _ c.in-Wide.is c.in_ok-b.ensures in
    c.then_some-in-Wide.ensures ∙ ended_at (in_kind kind) _ _ _ h.0.here (c.has.ensures ∙ ap (is_of kind) h.1 ∙ kind_class kind _)
