-- `scanners::o200k_family::after_space` meets its contract: by what stands there.
use mathlib.Core.Path.{ap, ◌∙◌}
use Rattle.scanners.specs.Start.{space_start}
use Rattle.scanners.proofs.Choice.{space_none, space_at}
use Rattle.scanners.proofs.Stands.{peeked}
use Rattle.scanners.proofs.o200k_family.after_space.Goals as goal

pub returns-in-None : goal.returns-in-None
returns-in-None c = space_none c.in-None.ensures

pub returns-in-Some-Ascii : goal.returns-in-Some-Ascii
returns-in-Some-Ascii c =
    let h = peeked _ _ c.in-Some-Ascii.field-0-is c.in-Some-Ascii.ensures in
    c.space_ascii.ensures ∙ space_at _ _ _ _ c.requires h.here

pub returns-in-Some-Wide : goal.returns-in-Some-Wide
returns-in-Some-Wide c =
    let h = peeked _ _ c.in-Some-Wide.field-0-is c.in-Some-Wide.ensures in
    c.space_wide.ensures ∙ ap (λ j. space_start j c.in-Some-Wide.c.end) h.1 ∙ space_at _ _ _ _ c.requires h.0.here
